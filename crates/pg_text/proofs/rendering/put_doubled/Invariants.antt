use Rattle.std.proofs.Common.{◌≡◌, ◌++◌, drop}
use Rattle.pg_text.specs.Texts.{doubled}
use Rattle.pg_text.proofs.rendering.put_doubled.Given as goal

abbrev pub invariant-loop-byte : goal.invariant-loop-byte
invariant-loop-byte l = l.out ++ doubled (drop l.byte-index l.text) ≡ l.fn.out ++ doubled l.text
