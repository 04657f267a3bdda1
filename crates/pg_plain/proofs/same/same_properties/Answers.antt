use Rattle.std.proofs.Common.{refl, arith}
use Rattle.std.proofs.lemmas.List.{same_lists}
use Rattle.pg_plain.proofs.same.same_properties.Goals as goal

pub returns : goal.returns
returns c =
    let end = c.loop-place-test.false in
    let long = c.loop-place.auto.place-end in
    let even = c.if-a-b.false in
    ((λ _. same_lists c.args.a.now c.args.b.now (omega arith) (λ k e within. c.loop-place.invariant k e (omega arith))), λ _. refl)
