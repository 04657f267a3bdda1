use Rattle.std.proofs.Common.{◌≡◌, ◌+◌, ◌*◌, ◌≤◌, length, drop}
use Rattle.pg_msg.specs.Messages.{properties_bytes}
use Rattle.pg_msg.proofs.weighing.properties_weight.Given as goal

abbrev pub invariant-loop-property : goal.invariant-loop-property
invariant-loop-property l = record {
  sum : l.sum + length (properties_bytes (drop l.property-index l.properties)) ≡ length (properties_bytes l.properties);
  most : l.sum ≤ 65603 * l.property-index;
}
