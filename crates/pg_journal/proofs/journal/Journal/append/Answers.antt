use Rattle.std.proofs.Common.{◌∷◌, [], ◌++◌, ◌<◌, ◌+◌, ◌^◌, ℕ, List, length, sym, subst}
use Rattle.pg_disk.specs.Calls.{Changes, ChangesFile}
use Rattle.pg_disk.specs.Image.{LeavesAt}
use Rattle.pg_disk.specs.Moments.{Within}
use Rattle.pg_gate.specs.Gated.{MayGrow, StandsClosed, StandsFor, counted_length}
use Rattle.pg_journal.proofs.Growing.{in_append, all_grown}
use Rattle.pg_journal.proofs.journal.Journal.append.Goals as goal

pub returns-in_err-rest-clause-any_moment : goal.returns-in_err-rest-clause-any_moment
returns-in_err-rest-clause-any_moment g c =
    in_append c.args.self c.args.batch.now g.D.Disk c.args.disk.now (g.met.D.Disk.only_now c.args.disk.now) c.append.new.disk (counted_length c.args.self.rest)
    (λ long. c.append.ensures.untouched (c.append.ensures.spent.1 (subst (λ (l : List ℕ). 2 ^ 62 < counted_length c.args.self.rest + length l + 9) (sym c.as_slice.ensures.value) long)))
    (subst (λ (l : List ℕ). Within g.D.Disk c.args.disk.now c.append.new.disk (LeavesAt c.args.self.rest.file (MayGrow c.args.self.rest l))) c.as_slice.ensures.value c.append.ensures.any_moment)

pub returns-clause-stands : goal.returns-clause-stands
returns-clause-stands g c =
    all_grown c.args.self c.args.batch.now (g.D.Disk.tells c.args.disk.now) (g.D.Disk.tells c.append.new.disk) c.in_ok-rest.rest c.in_ok-rest.ensures.file
    (subst (λ (l : List ℕ). Changes (g.D.Disk.tells c.args.disk.now) (g.D.Disk.tells c.append.new.disk) (ChangesFile c.args.self.rest.file (λ s t. (batches : List (List ℕ)) → StandsFor c.args.self.rest batches s → StandsClosed c.in_ok-rest.rest (batches ++ l ∷ []) t))) c.as_slice.ensures.value c.in_ok-rest.ensures.appended)

pub returns-clause-any_moment : goal.returns-clause-any_moment
returns-clause-any_moment g c =
    in_append c.args.self c.args.batch.now g.D.Disk c.args.disk.now (g.met.D.Disk.only_now c.args.disk.now) c.append.new.disk (counted_length c.args.self.rest)
    (λ long. c.append.ensures.untouched (c.append.ensures.spent.1 (subst (λ (l : List ℕ). 2 ^ 62 < counted_length c.args.self.rest + length l + 9) (sym c.as_slice.ensures.value) long)))
    (subst (λ (l : List ℕ). Within g.D.Disk c.args.disk.now c.append.new.disk (LeavesAt c.args.self.rest.file (MayGrow c.args.self.rest l))) c.as_slice.ensures.value c.append.ensures.any_moment)
