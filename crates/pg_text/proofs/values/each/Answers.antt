use Rattle.std.proofs.Common.{length, sym, ap, arith}
use Rattle.std.proofs.lemmas.Result.{err_from_is_err_and}
use Rattle.pg_text.proofs.LoopLaws.{read_on, read_missed, read_full, read_done}
use Rattle.pg_text.proofs.values.each.Goals as goal

pub returns-then-as_slice-ge-MOST_PROPERTIES : goal.returns-then-as_slice-ge-MOST_PROPERTIES
returns-then-as_slice-ge-MOST_PROPERTIES c =
    read_full c.loop-behind.properties c.loop-behind.rest.now c.args.line.now c.in-Some.behind.now (omega (arith, ap length c.as_slice.ensures)) (sym c.in-Some.ensures) c.loop-behind.invariant

pub returns-in_err-property : goal.returns-in_err-property
returns-in_err-property c =
    let left = err_from_is_err_and c.from_residual.result c.from_residual.ensures.1 in
    rw (left.1, left.2) (read_missed c.in_err-property.field-0.0 c.loop-behind.properties c.loop-behind.rest.now c.args.line.now c.in-Some.behind.now (omega (arith, ap length c.as_slice.ensures)) (sym c.in-Some.ensures) c.in_err-property.ensures c.loop-behind.invariant)

pub loop-behind-preserved : goal.loop-behind-preserved
loop-behind-preserved c =
    rw c.in_ok-push.ensures.ok (read_on c.loop-behind.properties c.loop-behind.rest.now c.args.line.now c.in-Some.behind.now c.in_ok-property.behind.now c.in_ok-property.property (omega (arith, ap length c.as_slice.ensures)) (sym c.in-Some.ensures) c.in_ok-property.ensures c.loop-behind.invariant)

pub returns : goal.returns
returns c = read_done c.loop-behind.properties c.loop-behind.rest.now c.args.line.now (sym c.in_default.ensures) c.loop-behind.invariant
