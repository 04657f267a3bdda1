use Rattle.std.proofs.Common.{◌≡◌, ◌∙◌, refl, sym, subst, arith}
use Rattle.std.proofs.lemmas.Result.{err_from_is_err_and}
use Rattle.std.proofs.lemmas.List.Elements.{All-pop}
use Rattle.std.specs.List.{All}
use Rattle.pg_disk.specs.declared.file_id.FileId.{FileId}
use Rattle.pg_disk.specs.declared.file_id.Kind.TheVariants.{Journal as OfJournal}
use Rattle.pg_disk.specs.Account.{account}
use Rattle.pg_journal.proofs.Cuts.{cut_generation}
use Rattle.pg_journal.proofs.Damaging.{scan_kept}
use Rattle.pg_journal.proofs.Leaving.{no_change}
use Rattle.pg_journal.proofs.Peeking.{last_kind}
use Rattle.pg_journal.proofs.Scanned.{IsScannedTo, none_scanned, none_left, all_scanned}
use Rattle.pg_journal.proofs.ScanStep.{not_scanned, can_scan, in_scan, cut_before, stays_then, still_scanned, now_found}
use Rattle.pg_journal.proofs.Taken.{TakesTo, none_taken, more_taken, found_taken, taken_at_err, all_taken, on_err}
use Rattle.pg_journal.proofs.backwards.scan_back.Goals as goal

pub generations-init : goal.generations-init
generations-init g c = record {
  kinds = c.requires.kinds;
  stays = no_change (g.D.Disk.tells c.args.disk.now);
  taken = λ honest. none_taken c.args.generations.items (account (g.D.Disk.tells c.args.disk.now)) (c.requires.listed honest);
  run = not_scanned g.D.Disk c.args.disk.now (g.met.D.Disk.only_now c.args.disk.now);
  faults = refl;
  so_far = λ honest. none_scanned c.args.generations.items (account (g.D.Disk.tells c.args.disk.now)).files (c.requires.listed honest);
}

pub scan-requires : goal.scan-requires
scan-requires g c =
    can_scan g.D.Disk c.args.disk.now c.generations.disk c.pop.new.self.items c.in-Some.file c.generations.last
    (last_kind c.pop.new.self.items c.in-Some.file (subst (λ l. All (λ (file : FileId). file.kind ≡ OfJournal) l) c.in-Some.ensures.items c.generations.invariant.kinds)) c.generations.invariant.stays
    (λ honest. subst (λ l. IsScannedTo l c.generations.last (account (g.D.Disk.tells c.args.disk.now)).files (account (g.D.Disk.tells c.generations.disk)).files) c.in-Some.ensures.items (c.generations.invariant.so_far honest))

pub returns-in_err-rest-clause-stays : goal.returns-in_err-rest-clause-stays
returns-in_err-rest-clause-stays g c =
    stays_then g.D.Disk c.args.disk.now c.generations.disk c.pop.new.self.items c.in-Some.file c.generations.last
    (last_kind c.pop.new.self.items c.in-Some.file (subst (λ l. All (λ (file : FileId). file.kind ≡ OfJournal) l) c.in-Some.ensures.items c.generations.invariant.kinds)) c.generations.invariant.stays
    (λ honest. subst (λ l. IsScannedTo l c.generations.last (account (g.D.Disk.tells c.args.disk.now)).files (account (g.D.Disk.tells c.generations.disk)).files) c.in-Some.ensures.items (c.generations.invariant.so_far honest))
    c.scan.new.disk c.scan.ensures.stays

pub returns-in_err-rest-clause-any_moment : goal.returns-in_err-rest-clause-any_moment
returns-in_err-rest-clause-any_moment g c =
    in_scan g.D.Disk c.args.disk.now c.generations.disk c.pop.new.self.items c.in-Some.file c.generations.last
    (last_kind c.pop.new.self.items c.in-Some.file (subst (λ l. All (λ (file : FileId). file.kind ≡ OfJournal) l) c.in-Some.ensures.items c.generations.invariant.kinds)) c.generations.invariant.stays
    (λ honest. subst (λ l. IsScannedTo l c.generations.last (account (g.D.Disk.tells c.args.disk.now)).files (account (g.D.Disk.tells c.generations.disk)).files) c.in-Some.ensures.items (c.generations.invariant.so_far honest))
    c.scan.new.disk c.generations.invariant.run c.scan.ensures.any_moment

pub returns-in_err-rest-clause-damaged : goal.returns-in_err-rest-clause-damaged
returns-in_err-rest-clause-damaged g c =
    let is = err_from_is_err_and c.from_residual.result c.from_residual.ensures.1 in
    let kind = last_kind c.pop.new.self.items c.in-Some.file (subst (λ l. All (λ (file : FileId). file.kind ≡ OfJournal) l) c.in-Some.ensures.items c.generations.invariant.kinds) in
    rw (is.1, is.2) (cut_generation (g.D.Disk.tells c.args.disk.now) c.in-Some.file _ c.in_err-rest.field-0.0 kind
    (cut_before g.D.Disk c.args.disk.now c.generations.disk c.pop.new.self.items c.in-Some.file c.generations.last kind c.generations.invariant.stays
    (λ honest. subst (λ l. IsScannedTo l c.generations.last (account (g.D.Disk.tells c.args.disk.now)).files (account (g.D.Disk.tells c.generations.disk)).files) c.in-Some.ensures.items (c.generations.invariant.so_far honest)))
    c.in_err-rest.ensures.only c.in_err-rest.ensures.damaged)

pub returns-in_err-rest-clause-kept : goal.returns-in_err-rest-clause-kept
returns-in_err-rest-clause-kept g c =
    let is = err_from_is_err_and c.from_residual.result c.from_residual.ensures.1 in
    rw (is.1, is.2) (scan_kept (g.D.Disk.tells c.args.disk.now) (g.D.Disk.tells c.generations.disk) (g.D.Disk.tells c.scan.new.disk) c.pop.new.self.items c.in-Some.file c.generations.last c.generations.invariant.stays
    (λ honest. subst (λ l. IsScannedTo l c.generations.last (account (g.D.Disk.tells c.args.disk.now)).files (account (g.D.Disk.tells c.generations.disk)).files) c.in-Some.ensures.items (c.generations.invariant.so_far honest))
    c.scan.ensures.stays c.in_err-rest.field-0.0 c.in_err-rest.ensures.only c.in_err-rest.ensures.damaged)

pub returns-then-not-is_empty-clause-found : goal.returns-then-not-is_empty-clause-found
returns-then-not-is_empty-clause-found g c =
    now_found g.D.Disk c.args.disk.now c.generations.disk c.pop.new.self.items c.in-Some.file c.generations.last
    (last_kind c.pop.new.self.items c.in-Some.file (subst (λ l. All (λ (file : FileId). file.kind ≡ OfJournal) l) c.in-Some.ensures.items c.generations.invariant.kinds)) c.generations.invariant.stays
    (λ honest. subst (λ l. IsScannedTo l c.generations.last (account (g.D.Disk.tells c.args.disk.now)).files (account (g.D.Disk.tells c.generations.disk)).files) c.in-Some.ensures.items (c.generations.invariant.so_far honest))
    c.scan.new.disk c.scan.ensures.stays c.in_ok-rest.rest c.in_ok-rest.spans c.in_ok-rest.ensures.file c.in_ok-rest.ensures.scanned c.if-not-is_empty.ensures

pub returns-then-not-is_empty-clause-stays : goal.returns-then-not-is_empty-clause-stays
returns-then-not-is_empty-clause-stays g c =
    stays_then g.D.Disk c.args.disk.now c.generations.disk c.pop.new.self.items c.in-Some.file c.generations.last
    (last_kind c.pop.new.self.items c.in-Some.file (subst (λ l. All (λ (file : FileId). file.kind ≡ OfJournal) l) c.in-Some.ensures.items c.generations.invariant.kinds)) c.generations.invariant.stays
    (λ honest. subst (λ l. IsScannedTo l c.generations.last (account (g.D.Disk.tells c.args.disk.now)).files (account (g.D.Disk.tells c.generations.disk)).files) c.in-Some.ensures.items (c.generations.invariant.so_far honest))
    c.scan.new.disk c.scan.ensures.stays

pub returns-then-not-is_empty-clause-any_moment : goal.returns-then-not-is_empty-clause-any_moment
returns-then-not-is_empty-clause-any_moment g c =
    in_scan g.D.Disk c.args.disk.now c.generations.disk c.pop.new.self.items c.in-Some.file c.generations.last
    (last_kind c.pop.new.self.items c.in-Some.file (subst (λ l. All (λ (file : FileId). file.kind ≡ OfJournal) l) c.in-Some.ensures.items c.generations.invariant.kinds)) c.generations.invariant.stays
    (λ honest. subst (λ l. IsScannedTo l c.generations.last (account (g.D.Disk.tells c.args.disk.now)).files (account (g.D.Disk.tells c.generations.disk)).files) c.in-Some.ensures.items (c.generations.invariant.so_far honest))
    c.scan.new.disk c.generations.invariant.run c.scan.ensures.any_moment

pub generations-preserved : goal.generations-preserved
generations-preserved g c = record {
  kinds = (All-pop (λ (file : FileId). file.kind ≡ OfJournal) _ _ _ c.pop.ensures.items c.generations.invariant.kinds).0;
  stays = stays_then g.D.Disk c.args.disk.now c.generations.disk c.pop.new.self.items c.in-Some.file c.generations.last
      (last_kind c.pop.new.self.items c.in-Some.file (subst (λ l. All (λ (file : FileId). file.kind ≡ OfJournal) l) c.in-Some.ensures.items c.generations.invariant.kinds)) c.generations.invariant.stays
      (λ honest. subst (λ l. IsScannedTo l c.generations.last (account (g.D.Disk.tells c.args.disk.now)).files (account (g.D.Disk.tells c.generations.disk)).files) c.in-Some.ensures.items (c.generations.invariant.so_far honest))
      c.scan.new.disk c.scan.ensures.stays;
  taken = more_taken (g.D.Disk.tells c.args.disk.now) (g.D.Disk.tells c.generations.disk) (g.D.Disk.tells c.scan.new.disk) c.pop.new.self.items c.in-Some.file c.generations.last c.generations.invariant.stays
      (λ honest. subst (λ l. IsScannedTo l c.generations.last (account (g.D.Disk.tells c.args.disk.now)).files (account (g.D.Disk.tells c.generations.disk)).files) c.in-Some.ensures.items (c.generations.invariant.so_far honest))
      (λ honest. subst (λ l. TakesTo l (account (g.D.Disk.tells c.args.disk.now)) (account (g.D.Disk.tells c.generations.disk))) c.in-Some.ensures.items (c.generations.invariant.taken honest)) c.in_ok-rest.spans.items c.in_ok-rest.ensures.taken;
  run = in_scan g.D.Disk c.args.disk.now c.generations.disk c.pop.new.self.items c.in-Some.file c.generations.last
      (last_kind c.pop.new.self.items c.in-Some.file (subst (λ l. All (λ (file : FileId). file.kind ≡ OfJournal) l) c.in-Some.ensures.items c.generations.invariant.kinds)) c.generations.invariant.stays
      (λ honest. subst (λ l. IsScannedTo l c.generations.last (account (g.D.Disk.tells c.args.disk.now)).files (account (g.D.Disk.tells c.generations.disk)).files) c.in-Some.ensures.items (c.generations.invariant.so_far honest))
      c.scan.new.disk c.generations.invariant.run c.scan.ensures.any_moment;
  faults = c.in_ok-rest.ensures.cause ∙ c.generations.invariant.faults;
  so_far = λ honest. subst (λ found. IsScannedTo c.pop.new.self.items found (account (g.D.Disk.tells c.args.disk.now)).files (account (g.D.Disk.tells c.scan.new.disk)).files) (sym c.or-last.ensures)
      (still_scanned g.D.Disk c.args.disk.now c.generations.disk c.pop.new.self.items c.in-Some.file c.generations.last
      (last_kind c.pop.new.self.items c.in-Some.file (subst (λ l. All (λ (file : FileId). file.kind ≡ OfJournal) l) c.in-Some.ensures.items c.generations.invariant.kinds)) c.generations.invariant.stays
      (λ honest. subst (λ l. IsScannedTo l c.generations.last (account (g.D.Disk.tells c.args.disk.now)).files (account (g.D.Disk.tells c.generations.disk)).files) c.in-Some.ensures.items (c.generations.invariant.so_far honest))
      c.scan.new.disk c.scan.ensures.stays c.in_ok-rest.rest c.in_ok-rest.spans c.in_ok-rest.ensures.file c.in_ok-rest.ensures.scanned c.if-not-is_empty.ensures honest);
}

pub returns-clause-found : goal.returns-clause-found
returns-clause-found g c = λ honest.
    all_scanned (account (g.D.Disk.tells c.args.disk.now)).files (account (g.D.Disk.tells c.generations.disk)).files c.generations.last
    (subst (λ l. IsScannedTo l c.generations.last (account (g.D.Disk.tells c.args.disk.now)).files (account (g.D.Disk.tells c.generations.disk)).files) (none_left c.generations.generations.items (omega (arith, c.in_default.ensures.cases))) (c.generations.invariant.so_far honest))

pub returns-in_err-rest-clause-taken_err : goal.returns-in_err-rest-clause-taken_err
returns-in_err-rest-clause-taken_err g c =
    on_err c.from_residual.result _ (taken_at_err (g.D.Disk.tells c.args.disk.now) (g.D.Disk.tells c.generations.disk) (g.D.Disk.tells c.scan.new.disk) c.pop.new.self.items c.in-Some.file c.generations.last c.generations.invariant.stays
    (λ honest. subst (λ l. IsScannedTo l c.generations.last (account (g.D.Disk.tells c.args.disk.now)).files (account (g.D.Disk.tells c.generations.disk)).files) c.in-Some.ensures.items (c.generations.invariant.so_far honest))
    (λ honest. subst (λ l. TakesTo l (account (g.D.Disk.tells c.args.disk.now)) (account (g.D.Disk.tells c.generations.disk))) c.in-Some.ensures.items (c.generations.invariant.taken honest)) c.in_err-rest.ensures.taken_err)

pub returns-then-not-is_empty-clause-taken : goal.returns-then-not-is_empty-clause-taken
returns-then-not-is_empty-clause-taken g c =
    found_taken (g.D.Disk.tells c.args.disk.now) (g.D.Disk.tells c.generations.disk) (g.D.Disk.tells c.scan.new.disk) c.pop.new.self.items c.in-Some.file c.generations.last c.generations.invariant.stays
    (λ honest. subst (λ l. IsScannedTo l c.generations.last (account (g.D.Disk.tells c.args.disk.now)).files (account (g.D.Disk.tells c.generations.disk)).files) c.in-Some.ensures.items (c.generations.invariant.so_far honest))
    (λ honest. subst (λ l. TakesTo l (account (g.D.Disk.tells c.args.disk.now)) (account (g.D.Disk.tells c.generations.disk))) c.in-Some.ensures.items (c.generations.invariant.taken honest)) c.in_ok-rest.spans.items c.in_ok-rest.ensures.taken

pub returns-clause-taken : goal.returns-clause-taken
returns-clause-taken g c = λ honest.
    all_taken c.generations.last (account (g.D.Disk.tells c.args.disk.now)) (account (g.D.Disk.tells c.generations.disk))
    (subst (λ l. IsScannedTo l c.generations.last (account (g.D.Disk.tells c.args.disk.now)).files (account (g.D.Disk.tells c.generations.disk)).files) (none_left c.generations.generations.items (omega (arith, c.in_default.ensures.cases))) (c.generations.invariant.so_far honest))
    (subst (λ l. TakesTo l (account (g.D.Disk.tells c.args.disk.now)) (account (g.D.Disk.tells c.generations.disk))) (none_left c.generations.generations.items (omega (arith, c.in_default.ensures.cases))) (c.generations.invariant.taken honest))
