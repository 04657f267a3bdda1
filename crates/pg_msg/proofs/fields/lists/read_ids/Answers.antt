use Rattle.std.specs.Int.{w32}
use Rattle.std.proofs.lemmas.Result.{err_from_is_err_and}
use Rattle.pg_msg.specs.Reading.{number_at, ids_at}
use Rattle.pg_msg.proofs.CountedLoop.{reads_on, reads_none, reads_all}
use Rattle.pg_msg.proofs.fields.lists.read_ids.Goals as goal

pub returns-in_err-id : goal.returns-in_err-id
returns-in_err-id c =
    let left = err_from_is_err_and c.from_residual.result c.from_residual.ensures.1 in
    rw (left.1, left.2) (reads_none (number_at w32) c.in_err-id.field-0.0 c.loop.ids c.args.count c.loop.counter c.loop.rest.now (ids_at c.args.count c.args.bytes.now) c.loop-test.true c.in_err-id.ensures c.loop.invariant)

pub loop-preserved : goal.loop-preserved
loop-preserved c =
    rw c.in_ok-push.ensures.ok (reads_on (number_at w32) c.loop.ids c.args.count c.loop.counter c.loop.rest.now c.in_ok-id.id c.in_ok-id.behind.now (ids_at c.args.count c.args.bytes.now) c.loop-test.true c.in_ok-id.ensures c.loop.invariant)

pub returns : goal.returns
returns c = reads_all (number_at w32) c.loop.ids c.args.count c.loop.counter c.loop.rest.now (ids_at c.args.count c.args.bytes.now) c.loop-test.false c.loop.invariant
