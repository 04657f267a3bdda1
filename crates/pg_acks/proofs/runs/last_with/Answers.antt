use Rattle.std.proofs.Common.{◌≡◌, ◌+◌, inl, inr, refl, subst, arith}
use Rattle.std.proofs.lemmas.Grind.{common_steps}
use Rattle.std.specs.Prelude.{Some, None}
use Rattle.pg_acks.specs.Runs.{starts}
use Rattle.pg_acks.proofs.runs.last_with.Goals as goal

pub returns-in-Some-get-clause-ends : goal.returns-in-Some-get-clause-ends
returns-in-Some-get-clause-ends c =
    let next : c.in-Some.next ≡ c.args.index + 1 = grind (arith, common_steps, c.checked_add.ensures, c.in-Some.is) in
    inr (subst (λ k. starts c.args.runs.now c.args.at k ≡ Some c.in-Some-get.last.now) next (grind (arith, common_steps, c.in-Some-get.ensures.value)))

pub returns-in-None-clause-ends : goal.returns-in-None-clause-ends
returns-in-None-clause-ends c =
    let next : c.in-Some.next ≡ c.args.index + 1 = grind (arith, common_steps, c.checked_add.ensures, c.in-Some.is) in
    inl (refl, subst (λ k. starts c.args.runs.now c.args.at k ≡ None) next (grind (arith, common_steps, c.in-None.ensures.value)))
