use Rattle.std.proofs.Common.{◌≡◌, take}
use Rattle.pg_msg.proofs.properties.Properties.copy.Given as goal

abbrev pub invariant-loop-property : goal.invariant-loop-property
invariant-loop-property l = l.copy ≡ take l.property-index l.self
