use Rattle.std.proofs.Common.{◌≡◌, ◌-◌}
use Rattle.pg_msg.specs.Reading.{counted_at, property_at}
use Rattle.pg_msg.proofs.CountedLoop.{joined}
use Rattle.pg_msg.proofs.fields.values.read_each.Given as goal

abbrev pub invariant-loop : goal.invariant-loop
invariant-loop l = joined l.properties (counted_at property_at (l.count - l.counter) l.rest) ≡ counted_at property_at l.count l.bytes
