use Rattle.std.proofs.Common.{◌≡◌, ◌-◌}
use Rattle.std.specs.Int.{w32}
use Rattle.pg_msg.specs.Reading.{counted_at, number_at}
use Rattle.pg_msg.proofs.CountedLoop.{joined}
use Rattle.pg_msg.proofs.fields.lists.read_ids.Given as goal

abbrev pub invariant-loop : goal.invariant-loop
invariant-loop l = joined l.ids (counted_at (number_at w32) (l.count - l.counter) l.rest) ≡ counted_at (number_at w32) l.count l.bytes
