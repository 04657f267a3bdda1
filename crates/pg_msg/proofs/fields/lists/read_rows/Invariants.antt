use Rattle.std.proofs.Common.{◌≡◌, ◌-◌}
use Rattle.pg_msg.specs.Reading.{counted_at, row_at}
use Rattle.pg_msg.proofs.CountedLoop.{joined}
use Rattle.pg_msg.proofs.fields.lists.read_rows.Given as goal

abbrev pub invariant-loop : goal.invariant-loop
invariant-loop l = joined l.rows (counted_at row_at (l.count - l.counter) l.rest) ≡ counted_at row_at l.count l.bytes
