use Rattle.std.proofs.Common.{◌≡◌, ◌∙◌, ◌+◌, refl, subst}
use Rattle.std.proofs.lemmas.Result.{err_from_is_err_and}
use Rattle.std.proofs.lemmas.List.Elements.{All-pop}
use Rattle.std.specs.List.{All}
use Rattle.pg_disk.specs.declared.file_id.FileId.{FileId}
use Rattle.pg_disk.specs.declared.file_id.Kind.TheVariants.{Journal as OfJournal}
use Rattle.pg_disk.specs.Account.{account}
use Rattle.pg_gate.proofs.Reading.{no_reads, reads_then, run_reads, still_there}
use Rattle.pg_disk.proofs.Composing.{started}
use Rattle.pg_journal.proofs.Peeking.{IsPeekedTo, none_peeked, last_there, was_cut, still_peeked, now_found, last_kind}
use Rattle.pg_journal.proofs.Cuts.{cut_generation}
use Rattle.pg_journal.proofs.backwards.peek_back.Goals as goal

pub generations-init : goal.generations-init
generations-init g c = record {
  kinds = c.requires.kinds;
  count = 0;
  same = no_reads (g.D.Disk.tells c.args.disk.now);
  run = started g.D.Disk c.args.disk.now _ (g.met.D.Disk.only_now c.args.disk.now);
  faults = refl;
  so_far = λ honest. none_peeked c.args.generations.items (account (g.D.Disk.tells c.args.disk.now)).files (c.requires.listed honest);
}

pub peek-requires : goal.peek-requires
peek-requires g c = still_there c.in-Some.file (g.D.Disk.tells c.args.disk.now) (g.D.Disk.tells c.generations.disk) c.generations.invariant.count c.generations.invariant.same
    (λ honest. (last_there (account (g.D.Disk.tells c.args.disk.now)).files c.pop.new.self.items c.in-Some.file (subst (λ l. IsPeekedTo l (account (g.D.Disk.tells c.args.disk.now)).files) c.in-Some.ensures.items (c.generations.invariant.so_far honest))).1)

pub returns-in_err-spans-clause-same : goal.returns-in_err-spans-clause-same
returns-in_err-spans-clause-same g c = (
  c.generations.invariant.count + c.peek.ensures.same.0,
  reads_then (g.D.Disk.tells c.args.disk.now) (g.D.Disk.tells c.generations.disk) (g.D.Disk.tells c.peek.new.disk) c.generations.invariant.count c.peek.ensures.same.0 c.generations.invariant.same c.peek.ensures.same.1,
)

pub returns-in_err-spans-clause-damaged : goal.returns-in_err-spans-clause-damaged
returns-in_err-spans-clause-damaged g c =
    let is = err_from_is_err_and c.from_residual.result c.from_residual.ensures.1 in
    rw (is.1, is.2) (cut_generation (g.D.Disk.tells c.args.disk.now) c.in-Some.file _ c.in_err-spans.field-0.0 (last_kind c.pop.new.self.items c.in-Some.file (subst (λ l. All (λ file. file.kind ≡ OfJournal) l) c.in-Some.ensures.items c.generations.invariant.kinds))
    (was_cut (g.D.Disk.tells c.args.disk.now) (g.D.Disk.tells c.generations.disk) c.generations.invariant.count c.generations.invariant.same c.in-Some.file
    (λ honest. (last_there (account (g.D.Disk.tells c.args.disk.now)).files c.pop.new.self.items c.in-Some.file (subst (λ l. IsPeekedTo l (account (g.D.Disk.tells c.args.disk.now)).files) c.in-Some.ensures.items (c.generations.invariant.so_far honest))).1))
    c.in_err-spans.ensures.only c.in_err-spans.ensures.damaged)

pub returns-then-not-is_empty-clause-found : goal.returns-then-not-is_empty-clause-found
returns-then-not-is_empty-clause-found g c =
    now_found (g.D.Disk.tells c.args.disk.now) (g.D.Disk.tells c.generations.disk) c.generations.invariant.count c.generations.invariant.same c.pop.new.self.items c.in-Some.file
    (λ honest. subst (λ l. IsPeekedTo l (account (g.D.Disk.tells c.args.disk.now)).files) c.in-Some.ensures.items (c.generations.invariant.so_far honest))
    c.in_ok-spans.spans.items c.in_ok-spans.spans.len c.in_ok-spans.spans.ok.0 c.in_ok-spans.ensures.places c.if-not-is_empty.ensures

pub returns-then-not-is_empty-clause-same : goal.returns-then-not-is_empty-clause-same
returns-then-not-is_empty-clause-same g c = (
  c.generations.invariant.count + c.peek.ensures.same.0,
  reads_then (g.D.Disk.tells c.args.disk.now) (g.D.Disk.tells c.generations.disk) (g.D.Disk.tells c.peek.new.disk) c.generations.invariant.count c.peek.ensures.same.0 c.generations.invariant.same c.peek.ensures.same.1,
)

pub generations-preserved : goal.generations-preserved
generations-preserved g c = record {
  kinds = (All-pop (λ (file : FileId). file.kind ≡ OfJournal) _ _ _ c.pop.ensures.items c.generations.invariant.kinds).0;
  count = c.generations.invariant.count + c.peek.ensures.same.0;
  same = reads_then (g.D.Disk.tells c.args.disk.now) (g.D.Disk.tells c.generations.disk) (g.D.Disk.tells c.peek.new.disk) c.generations.invariant.count c.peek.ensures.same.0 c.generations.invariant.same c.peek.ensures.same.1;
  run = run_reads g.D.Disk c.args.disk.now c.generations.disk c.peek.new.disk c.generations.invariant.count c.generations.invariant.same c.generations.invariant.run c.peek.ensures.any_moment;
  faults = c.in_ok-spans.ensures.cause ∙ c.generations.invariant.faults;
  so_far = still_peeked (g.D.Disk.tells c.args.disk.now) (g.D.Disk.tells c.generations.disk) c.generations.invariant.count c.generations.invariant.same c.pop.new.self.items c.in-Some.file
      (λ honest. subst (λ l. IsPeekedTo l (account (g.D.Disk.tells c.args.disk.now)).files) c.in-Some.ensures.items (c.generations.invariant.so_far honest))
      c.in_ok-spans.spans.items c.in_ok-spans.spans.len c.in_ok-spans.spans.ok.0 c.in_ok-spans.ensures.places c.if-not-is_empty.ensures;
}
