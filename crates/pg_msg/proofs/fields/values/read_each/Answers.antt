use Rattle.std.proofs.lemmas.Result.{err_from_is_err_and}
use Rattle.pg_msg.specs.Reading.{counted_at, property_at}
use Rattle.pg_msg.proofs.CountedLoop.{reads_on, reads_none, reads_all}
use Rattle.pg_msg.proofs.fields.values.read_each.Goals as goal

pub returns-in_err-property : goal.returns-in_err-property
returns-in_err-property c =
    let left = err_from_is_err_and c.from_residual.result c.from_residual.ensures.1 in
    rw (left.1, left.2) (reads_none property_at c.in_err-property.field-0.0 c.loop.properties c.args.count c.loop.counter c.loop.rest.now (counted_at property_at c.args.count c.args.bytes.now) c.loop-test.true c.in_err-property.ensures c.loop.invariant)

pub loop-preserved : goal.loop-preserved
loop-preserved c =
    rw c.in_ok-push.ensures.ok (reads_on property_at c.loop.properties c.args.count c.loop.counter c.loop.rest.now c.in_ok-property.property c.in_ok-property.behind.now (counted_at property_at c.args.count c.args.bytes.now) c.loop-test.true c.in_ok-property.ensures c.loop.invariant)

pub returns : goal.returns
returns c = reads_all property_at c.loop.properties c.args.count c.loop.counter c.loop.rest.now (counted_at property_at c.args.count c.args.bytes.now) c.loop-test.false c.loop.invariant
