use Rattle.std.proofs.Common.{◌∙◌, refl, arith}
use Rattle.pg_disk.specs.Account.{account}
use Rattle.pg_disk.proofs.Composing.{started, then_run}
use Rattle.pg_recover.proofs.RemovingLemmas.{all_gone, all_left, none_gone, none_removed, one_gone, others_leave, then_removed}
use Rattle.pg_recover.proofs.removing.remove_others.Goals as goal

pub loop-file-init : goal.loop-file-init
loop-file-init g c = record {
  stays = none_removed c.args.keep (g.D.Disk.tells c.args.disk.now);
  run = started g.D.Disk c.args.disk.now _ (λ d b left. all_left c.args.keep (g.D.Disk.tells c.args.disk.now) d b (g.met.D.Disk.only_now c.args.disk.now d b left));
  faults = refl;
  so_far = λ honest. none_gone c.args.files.now c.args.keep (account (g.D.Disk.tells c.args.disk.now)).files (c.requires honest);
}

pub remove_other-requires : goal.remove_other-requires
remove_other-requires g c = λ honest is. (c.loop-file.invariant.so_far (c.loop-file.invariant.stays.back honest)).there c.loop-file.file-index _ (omega arith) c.loop-file-test.true is

pub returns-in_err-remove_other-clause-stays : goal.returns-in_err-remove_other-clause-stays
returns-in_err-remove_other-clause-stays g c = then_removed c.args.keep (g.D.Disk.tells c.args.disk.now) (g.D.Disk.tells c.loop-file.disk) c.loop-file.invariant.stays (g.D.Disk.tells c.remove_other.new.disk) _ c.remove_other.ensures.stays

pub returns-in_err-remove_other-clause-any_moment : goal.returns-in_err-remove_other-clause-any_moment
returns-in_err-remove_other-clause-any_moment g c =
    then_run g.D.Disk c.args.disk.now c.loop-file.disk c.remove_other.new.disk _ _ c.loop-file.invariant.run c.remove_other.ensures.any_moment
    (others_leave c.args.keep (g.D.Disk.tells c.args.disk.now) (g.D.Disk.tells c.loop-file.disk) c.loop-file.invariant.stays)

pub loop-file-preserved : goal.loop-file-preserved
loop-file-preserved g c = record {
  stays = then_removed c.args.keep (g.D.Disk.tells c.args.disk.now) (g.D.Disk.tells c.loop-file.disk) c.loop-file.invariant.stays (g.D.Disk.tells c.remove_other.new.disk) _ c.remove_other.ensures.stays;
  run = then_run g.D.Disk c.args.disk.now c.loop-file.disk c.remove_other.new.disk _ _ c.loop-file.invariant.run c.remove_other.ensures.any_moment
      (others_leave c.args.keep (g.D.Disk.tells c.args.disk.now) (g.D.Disk.tells c.loop-file.disk) c.loop-file.invariant.stays);
  faults = c.in_ok-remove_other.ensures.cause ∙ c.loop-file.invariant.faults;
  so_far = λ honest. one_gone c.args.files.now c.loop-file.file-index _ c.loop-file-test.true c.args.keep (g.D.Disk.tells c.args.disk.now) (g.D.Disk.tells c.loop-file.disk) (g.D.Disk.tells c.remove_other.new.disk) c.remove_other.ensures.stays
      (c.requires honest).distinct c.in_ok-remove_other.ensures.gone (c.loop-file.invariant.stays.kept honest) (c.loop-file.invariant.so_far honest);
}

pub returns-clause-alone : goal.returns-clause-alone
returns-clause-alone g c = λ honest.
    all_gone c.args.files.now c.loop-file.file-index c.args.keep (g.D.Disk.tells c.args.disk.now) (g.D.Disk.tells c.loop-file.disk) c.loop-file-test.false (c.requires honest).all honest c.loop-file.invariant.stays (c.loop-file.invariant.so_far honest)
