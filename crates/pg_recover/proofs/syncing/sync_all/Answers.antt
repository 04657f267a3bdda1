use Rattle.std.proofs.Common.{◌∙◌, refl, arith}
use Rattle.pg_disk.proofs.Composing.{started, goes_on}
use Rattle.pg_recover.proofs.SyncingLemmas.{none_synced, syncs_leave, still_there, then_synced, one_quiet}
use Rattle.pg_recover.proofs.syncing.sync_all.Goals as goal

pub loop-file-init : goal.loop-file-init
loop-file-init g c = record {
  stays = none_synced (g.D.Disk.tells c.args.disk.now);
  run = started g.D.Disk c.args.disk.now _ (g.met.D.Disk.only_now c.args.disk.now);
  faults = refl;
  quiet = λ honest k d lt. absurd (omega (arith, lt));
}

pub sync-requires : goal.sync-requires
sync-requires g c =
    still_there (g.D.Disk.tells c.args.disk.now) (g.D.Disk.tells c.loop-file.disk) c.loop-file.invariant.stays _ (λ honest. c.requires honest c.loop-file.file-index _ c.loop-file-test.true)

pub returns-in_err-sync-clause-stays : goal.returns-in_err-sync-clause-stays
returns-in_err-sync-clause-stays g c = then_synced (g.D.Disk.tells c.args.disk.now) (g.D.Disk.tells c.loop-file.disk) c.loop-file.invariant.stays (g.D.Disk.tells c.sync.new.self) _ _ c.sync.ensures.step

pub returns-in_err-sync-clause-any_moment : goal.returns-in_err-sync-clause-any_moment
returns-in_err-sync-clause-any_moment g c =
    goes_on g.D.Disk c.args.disk.now c.loop-file.disk c.sync.new.self _ _ c.loop-file.invariant.run c.sync.ensures.time
    (syncs_leave (g.D.Disk.tells c.args.disk.now) (g.D.Disk.tells c.loop-file.disk) c.loop-file.invariant.stays)

pub loop-file-preserved : goal.loop-file-preserved
loop-file-preserved g c = record {
  stays = then_synced (g.D.Disk.tells c.args.disk.now) (g.D.Disk.tells c.loop-file.disk) c.loop-file.invariant.stays (g.D.Disk.tells c.sync.new.self) _ _ c.sync.ensures.step;
  run = goes_on g.D.Disk c.args.disk.now c.loop-file.disk c.sync.new.self _ _ c.loop-file.invariant.run c.sync.ensures.time
      (syncs_leave (g.D.Disk.tells c.args.disk.now) (g.D.Disk.tells c.loop-file.disk) c.loop-file.invariant.stays);
  faults = c.in_ok-sync.ensures.cause ∙ c.loop-file.invariant.faults;
  quiet = λ honest. one_quiet (g.D.Disk.tells c.args.disk.now) (g.D.Disk.tells c.loop-file.disk) c.loop-file.invariant.stays (g.D.Disk.tells c.sync.new.self) c.args.files.now c.loop-file.file-index _ c.loop-file-test.true
      c.in_ok-sync.ensures.step honest (c.loop-file.invariant.quiet honest);
}
