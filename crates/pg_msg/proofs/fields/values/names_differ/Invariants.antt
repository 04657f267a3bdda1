use Rattle.std.proofs.Common.{◌≡◌, map, length}
use Rattle.pg_msg.specs.Reading.{are_distinct}
use Rattle.pg_msg.proofs.fields.values.names_differ.Given as goal

abbrev pub invariant-loop-first : goal.invariant-loop-first
invariant-loop-first l = are_distinct (map (λ property. property.name) l.rest) ≡ are_distinct (map (λ property. property.name) l.properties)

abbrev pub decreases-loop-first : goal.decreases-loop-first
decreases-loop-first l = length l.rest
