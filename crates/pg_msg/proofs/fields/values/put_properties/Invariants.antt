use Rattle.std.proofs.Common.{◌≡◌, ◌++◌, drop}
use Rattle.pg_msg.specs.Messages.{properties_bytes}
use Rattle.pg_msg.proofs.fields.values.put_properties.Given as goal

abbrev pub invariant-loop-property : goal.invariant-loop-property
invariant-loop-property l = l.out ++ properties_bytes (drop l.property-index l.properties) ≡ l.fn.out ++ properties_bytes l.properties
