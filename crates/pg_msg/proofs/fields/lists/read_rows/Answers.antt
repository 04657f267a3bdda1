use Rattle.std.proofs.lemmas.Result.{err_from_is_err_and}
use Rattle.pg_msg.specs.Reading.{row_at, rows_at}
use Rattle.pg_msg.proofs.CountedLoop.{reads_on, reads_none, reads_all}
use Rattle.pg_msg.proofs.fields.lists.read_rows.Goals as goal

pub returns-in_err-row : goal.returns-in_err-row
returns-in_err-row c =
    let left = err_from_is_err_and c.from_residual.result c.from_residual.ensures.1 in
    rw (left.1, left.2) (reads_none row_at c.in_err-row.field-0.0 c.loop.rows c.args.count c.loop.counter c.loop.rest.now (rows_at c.args.count c.args.bytes.now) c.loop-test.true c.in_err-row.ensures c.loop.invariant)

pub loop-preserved : goal.loop-preserved
loop-preserved c =
    rw c.in_ok-push.ensures.ok (reads_on row_at c.loop.rows c.args.count c.loop.counter c.loop.rest.now c.in_ok-row.row c.in_ok-row.behind.now (rows_at c.args.count c.args.bytes.now) c.loop-test.true c.in_ok-row.ensures c.loop.invariant)

pub returns : goal.returns
returns c = reads_all row_at c.loop.rows c.args.count c.loop.counter c.loop.rest.now (rows_at c.args.count c.args.bytes.now) c.loop-test.false c.loop.invariant
