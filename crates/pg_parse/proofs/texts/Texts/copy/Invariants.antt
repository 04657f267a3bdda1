use Rattle.std.proofs.Common.{◌≡◌, ◌++◌, length}
use Rattle.pg_parse.proofs.texts.Texts.copy.Given as goal

abbrev pub invariant-loop-text : goal.invariant-loop-text
invariant-loop-text l = l.texts ++ l.rest ≡ l.fn.self

abbrev pub decreases-loop-text : goal.decreases-loop-text
decreases-loop-text l = length l.rest
