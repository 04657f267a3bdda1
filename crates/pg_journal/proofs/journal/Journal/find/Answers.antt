use Rattle.std.proofs.Common.{[], subst}
use Rattle.std.proofs.lemmas.Result.{err_from_is_err_and}
use Rattle.pg_disk.specs.Account.{account, IsHonest}
use Rattle.pg_disk.specs.Counts.{FaultCountsAs}
use Rattle.pg_disk.proofs.Composing.{then_run}
use Rattle.pg_disk.specs.Image.{LeavesAt}
use Rattle.pg_gate.specs.Gated.{Anyhow, HasNone, IsLaid, StandsFor}
use Rattle.pg_journal.specs.Generations.{first_generation}
use Rattle.pg_gate.specs.Spans.{payload_bytes}
use Rattle.pg_journal.specs.Looks.{LeavesJournal, TakesWithin}
use Rattle.pg_journal.proofs.Taken.{on_err, taken_before}
use Rattle.pg_journal.proofs.Finding.{listed_stays, in_listing, in_scans, laying_leaves, listed_then, none_before, none_found, some_found, then_laid, all_laid, listed_found, listing_taken, listing_kept, cut_listed, kept_listed}
use Rattle.pg_journal.proofs.journal.Journal.find.Goals as goal

pub returns-in_err-generations-clause-stays : goal.returns-in_err-generations-clause-stays
returns-in_err-generations-clause-stays g c = listed_stays (g.D.Disk.tells c.args.disk.now) (g.D.Disk.tells c.generations.new.disk) c.generations.ensures.same

pub returns-in_err-generations-clause-any_moment : goal.returns-in_err-generations-clause-any_moment
returns-in_err-generations-clause-any_moment g c = in_listing g.D.Disk c.args.disk.now c.generations.new.disk c.generations.ensures.any_moment

pub returns-in_err-found-clause-any_moment : goal.returns-in_err-found-clause-any_moment
returns-in_err-found-clause-any_moment g c =
    in_scans g.D.Disk c.args.disk.now c.generations.new.disk c.generations.ensures.any_moment c.generations.ensures.same c.scan_back.new.disk c.scan_back.ensures.any_moment

pub returns-in-Some-clause-any_moment : goal.returns-in-Some-clause-any_moment
returns-in-Some-clause-any_moment g c =
    in_scans g.D.Disk c.args.disk.now c.generations.new.disk c.generations.ensures.any_moment c.generations.ensures.same c.scan_back.new.disk c.scan_back.ensures.any_moment

pub returns-in_err-rest-clause-any_moment : goal.returns-in_err-rest-clause-any_moment
returns-in_err-rest-clause-any_moment g c =
    then_run g.D.Disk c.args.disk.now c.scan_back.new.disk c.lay.new.disk LeavesJournal (LeavesAt first_generation (λ _. HasNone))
    (in_scans g.D.Disk c.args.disk.now c.generations.new.disk c.generations.ensures.any_moment c.generations.ensures.same c.scan_back.new.disk c.scan_back.ensures.any_moment)
    c.lay.ensures.any_moment
    (laying_leaves (g.D.Disk.tells c.args.disk.now) (g.D.Disk.tells c.scan_back.new.disk)
    (listed_then (g.D.Disk.tells c.args.disk.now) (g.D.Disk.tells c.generations.new.disk) (g.D.Disk.tells c.scan_back.new.disk) c.generations.ensures.same c.scan_back.ensures.stays)
    (none_before (g.D.Disk.tells c.args.disk.now) (g.D.Disk.tells c.generations.new.disk) c.generations.ensures.same (λ honest. (none_found c.in_ok-found.field-0 _ _ c.in_default.is (c.in_ok-found.ensures.found honest)).0))
    (λ honest. (none_found c.in_ok-found.field-0 _ _ c.in_default.is (c.in_ok-found.ensures.found (c.generations.ensures.same.kept honest))).1))

pub returns-clause-found : goal.returns-clause-found
returns-clause-found g c = λ honest.
    let laid = all_laid (g.D.Disk.tells c.args.disk.now) (g.D.Disk.tells c.scan_back.new.disk)
    (listed_then (g.D.Disk.tells c.args.disk.now) (g.D.Disk.tells c.generations.new.disk) (g.D.Disk.tells c.scan_back.new.disk) c.generations.ensures.same c.scan_back.ensures.stays)
    (none_before (g.D.Disk.tells c.args.disk.now) (g.D.Disk.tells c.generations.new.disk) c.generations.ensures.same (λ honest. (none_found c.in_ok-found.field-0 _ _ c.in_default.is (c.in_ok-found.ensures.found honest)).0))
    (λ honest. (none_found c.in_ok-found.field-0 _ _ c.in_default.is (c.in_ok-found.ensures.found (c.generations.ensures.same.kept honest))).1) (g.D.Disk.tells c.lay.new.disk) c.in_ok-rest.rest c.in_ok-rest.ensures.file c.in_ok-rest.ensures.laid honest in
    ([], laid.0, laid.1, c.new.ensures.items)

pub returns-clause-stays : goal.returns-clause-stays
returns-clause-stays g c = then_laid (g.D.Disk.tells c.args.disk.now) (g.D.Disk.tells c.scan_back.new.disk)
    (listed_then (g.D.Disk.tells c.args.disk.now) (g.D.Disk.tells c.generations.new.disk) (g.D.Disk.tells c.scan_back.new.disk) c.generations.ensures.same c.scan_back.ensures.stays)
    (none_before (g.D.Disk.tells c.args.disk.now) (g.D.Disk.tells c.generations.new.disk) c.generations.ensures.same (λ honest. (none_found c.in_ok-found.field-0 _ _ c.in_default.is (c.in_ok-found.ensures.found honest)).0))
    (λ honest. (none_found c.in_ok-found.field-0 _ _ c.in_default.is (c.in_ok-found.ensures.found (c.generations.ensures.same.kept honest))).1) (g.D.Disk.tells c.lay.new.disk) (λ _ s. IsLaid s × StandsFor c.in_ok-rest.rest [] s) c.in_ok-rest.ensures.laid

pub returns-clause-any_moment : goal.returns-clause-any_moment
returns-clause-any_moment g c =
    then_run g.D.Disk c.args.disk.now c.scan_back.new.disk c.lay.new.disk LeavesJournal (LeavesAt first_generation (λ _. HasNone))
    (in_scans g.D.Disk c.args.disk.now c.generations.new.disk c.generations.ensures.any_moment c.generations.ensures.same c.scan_back.new.disk c.scan_back.ensures.any_moment)
    c.lay.ensures.any_moment
    (laying_leaves (g.D.Disk.tells c.args.disk.now) (g.D.Disk.tells c.scan_back.new.disk)
    (listed_then (g.D.Disk.tells c.args.disk.now) (g.D.Disk.tells c.generations.new.disk) (g.D.Disk.tells c.scan_back.new.disk) c.generations.ensures.same c.scan_back.ensures.stays)
    (none_before (g.D.Disk.tells c.args.disk.now) (g.D.Disk.tells c.generations.new.disk) c.generations.ensures.same (λ honest. (none_found c.in_ok-found.field-0 _ _ c.in_default.is (c.in_ok-found.ensures.found honest)).0))
    (λ honest. (none_found c.in_ok-found.field-0 _ _ c.in_default.is (c.in_ok-found.ensures.found (c.generations.ensures.same.kept honest))).1))

pub returns-in_err-generations-clause-taken_err : goal.returns-in_err-generations-clause-taken_err
returns-in_err-generations-clause-taken_err g c = listing_taken (g.D.Disk.tells c.args.disk.now) (g.D.Disk.tells c.generations.new.disk) c.generations.ensures.same c.from_residual.result

pub returns-in_err-generations-clause-damaged : goal.returns-in_err-generations-clause-damaged
returns-in_err-generations-clause-damaged g c =
    let is = err_from_is_err_and c.from_residual.result c.from_residual.ensures.1 in
    rw (is.1, is.2) c.in_err-generations.ensures.undamaged

pub returns-in_err-generations-clause-kept : goal.returns-in_err-generations-clause-kept
returns-in_err-generations-clause-kept g c =
    let is = err_from_is_err_and c.from_residual.result c.from_residual.ensures.1 in
    rw (is.1, is.2) (listing_kept (g.D.Disk.tells c.args.disk.now) (g.D.Disk.tells c.generations.new.disk) c.generations.ensures.same c.in_err-generations.field-0.0 c.in_err-generations.ensures.undamaged)

pub returns-in_err-generations-clause-cause : goal.returns-in_err-generations-clause-cause
returns-in_err-generations-clause-cause g c =
    let is = err_from_is_err_and c.from_residual.result c.from_residual.ensures.1 in
    rw (is.1, is.2) c.in_err-generations.ensures.cause

pub returns-in_err-found-clause-stays : goal.returns-in_err-found-clause-stays
returns-in_err-found-clause-stays g c = listed_then (g.D.Disk.tells c.args.disk.now) (g.D.Disk.tells c.generations.new.disk) (g.D.Disk.tells c.scan_back.new.disk) c.generations.ensures.same c.scan_back.ensures.stays

pub returns-in_err-found-clause-taken_err : goal.returns-in_err-found-clause-taken_err
returns-in_err-found-clause-taken_err g c = on_err c.from_residual-in_err-found.result (IsHonest (g.D.Disk.tells c.args.disk.now) → TakesWithin 0 (account (g.D.Disk.tells c.args.disk.now)) (account (g.D.Disk.tells c.scan_back.new.disk))) (taken_before 0 (g.D.Disk.tells c.args.disk.now) (g.D.Disk.tells c.generations.new.disk) (account (g.D.Disk.tells c.scan_back.new.disk)) c.generations.ensures.same c.in_err-found.ensures.taken_err)

pub returns-in_err-found-clause-damaged : goal.returns-in_err-found-clause-damaged
returns-in_err-found-clause-damaged g c =
    let is = err_from_is_err_and c.from_residual-in_err-found.result c.from_residual-in_err-found.ensures.1 in
    rw (is.1, is.2) (cut_listed (g.D.Disk.tells c.args.disk.now) (g.D.Disk.tells c.generations.new.disk) c.generations.ensures.same c.in_err-found.field-0.0 c.in_err-found.ensures.damaged)

pub returns-in_err-found-clause-kept : goal.returns-in_err-found-clause-kept
returns-in_err-found-clause-kept g c =
    let is = err_from_is_err_and c.from_residual-in_err-found.result c.from_residual-in_err-found.ensures.1 in
    rw (is.1, is.2) (kept_listed (g.D.Disk.tells c.args.disk.now) (g.D.Disk.tells c.generations.new.disk) c.generations.ensures.same (g.D.Disk.tells c.scan_back.new.disk) c.in_err-found.field-0.0 c.in_err-found.ensures.kept)

pub returns-in_err-found-clause-cause : goal.returns-in_err-found-clause-cause
returns-in_err-found-clause-cause g c =
    let is = err_from_is_err_and c.from_residual-in_err-found.result c.from_residual-in_err-found.ensures.1 in
    rw (is.1, is.2) (subst (λ f. FaultCountsAs c.in_err-found.field-0.0 f (g.D.Disk.faults c.scan_back.new.disk)) c.in_ok-generations.ensures.cause c.in_err-found.ensures.cause)

pub returns-in-Some-clause-found : goal.returns-in-Some-clause-found
returns-in-Some-clause-found g c = λ honest.
    let found = listed_found (g.D.Disk.tells c.args.disk.now) (g.D.Disk.tells c.generations.new.disk) c.generations.ensures.same (g.D.Disk.tells c.scan_back.new.disk) c.in-Some.found.0 c.in-Some.found.1.items (λ honest. some_found c.in_ok-found.field-0 c.in-Some.found _ _ c.in-Some.is (c.in_ok-found.ensures.found honest)) honest in
    (found.batches, found.says, found.stands, found.places)

pub returns-in-Some-clause-goes_on : goal.returns-in-Some-clause-goes_on
returns-in-Some-clause-goes_on g c = λ honest. (listed_found (g.D.Disk.tells c.args.disk.now) (g.D.Disk.tells c.generations.new.disk) c.generations.ensures.same (g.D.Disk.tells c.scan_back.new.disk) c.in-Some.found.0 c.in-Some.found.1.items (λ honest. some_found c.in_ok-found.field-0 c.in-Some.found _ _ c.in-Some.is (c.in_ok-found.ensures.found honest)) honest).goes_on

pub returns-in-Some-clause-others : goal.returns-in-Some-clause-others
returns-in-Some-clause-others g c = λ honest. (listed_found (g.D.Disk.tells c.args.disk.now) (g.D.Disk.tells c.generations.new.disk) c.generations.ensures.same (g.D.Disk.tells c.scan_back.new.disk) c.in-Some.found.0 c.in-Some.found.1.items (λ honest. some_found c.in_ok-found.field-0 c.in-Some.found _ _ c.in-Some.is (c.in_ok-found.ensures.found honest)) honest).others

pub returns-in-Some-clause-stays : goal.returns-in-Some-clause-stays
returns-in-Some-clause-stays g c = listed_then (g.D.Disk.tells c.args.disk.now) (g.D.Disk.tells c.generations.new.disk) (g.D.Disk.tells c.scan_back.new.disk) c.generations.ensures.same c.scan_back.ensures.stays

pub returns-in-Some-clause-taken : goal.returns-in-Some-clause-taken
returns-in-Some-clause-taken g c = taken_before (payload_bytes c.in-Some.found.1.items) (g.D.Disk.tells c.args.disk.now) (g.D.Disk.tells c.generations.new.disk) (account (g.D.Disk.tells c.scan_back.new.disk)) c.generations.ensures.same (λ honest. some_found c.in_ok-found.field-0 c.in-Some.found _ _ c.in-Some.is (c.in_ok-found.ensures.taken honest))

pub returns-in_err-rest-clause-stays : goal.returns-in_err-rest-clause-stays
returns-in_err-rest-clause-stays g c = then_laid (g.D.Disk.tells c.args.disk.now) (g.D.Disk.tells c.scan_back.new.disk) (listed_then (g.D.Disk.tells c.args.disk.now) (g.D.Disk.tells c.generations.new.disk) (g.D.Disk.tells c.scan_back.new.disk) c.generations.ensures.same c.scan_back.ensures.stays) (none_before (g.D.Disk.tells c.args.disk.now) (g.D.Disk.tells c.generations.new.disk) c.generations.ensures.same (λ honest. (none_found c.in_ok-found.field-0 _ _ c.in_default.is (c.in_ok-found.ensures.found honest)).0)) (λ honest. (none_found c.in_ok-found.field-0 _ _ c.in_default.is (c.in_ok-found.ensures.found (c.generations.ensures.same.kept honest))).1) (g.D.Disk.tells c.lay.new.disk) Anyhow c.in_err-rest.ensures.other_files

pub returns-in_err-rest-clause-damaged : goal.returns-in_err-rest-clause-damaged
returns-in_err-rest-clause-damaged g c =
    let is = err_from_is_err_and c.from_residual-in_err-rest.result c.from_residual-in_err-rest.ensures.1 in
    rw (is.1, is.2, c.in_err-rest.ensures.only_failed) tt

pub returns-in_err-rest-clause-kept : goal.returns-in_err-rest-clause-kept
returns-in_err-rest-clause-kept g c =
    let is = err_from_is_err_and c.from_residual-in_err-rest.result c.from_residual-in_err-rest.ensures.1 in
    rw (is.1, is.2, c.in_err-rest.ensures.only_failed) tt
