use Rattle.std.proofs.Common.{◌≡◌, ◌++◌, drop}
use Rattle.pg_text.specs.Texts.{properties_text}
use Rattle.pg_text.proofs.rendering.put_properties.Given as goal

abbrev pub invariant-loop-property : goal.invariant-loop-property
invariant-loop-property l = l.out ++ properties_text (drop l.property-index l.properties) ≡ l.fn.out ++ properties_text l.properties
