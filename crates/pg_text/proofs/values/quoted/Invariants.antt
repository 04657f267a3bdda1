use Rattle.std.proofs.Common.{◌≡◌, false, length}
use Rattle.pg_text.specs.Reading.{joined, quoted_from}
use Rattle.pg_text.proofs.values.quoted.Given as goal

abbrev pub invariant-loop-first : goal.invariant-loop-first
invariant-loop-first l = joined l.text (quoted_from false l.rest) ≡ quoted_from false l.line

abbrev pub decreases-loop-first : goal.decreases-loop-first
decreases-loop-first l = length l.rest
