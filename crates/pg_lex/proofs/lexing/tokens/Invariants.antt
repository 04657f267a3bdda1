use Rattle.std.proofs.Common.{◌-◌, length}
use Rattle.pg_lex.proofs.ReadSoFar.{ReadSoFar}
use Rattle.pg_lex.proofs.lexing.tokens.Given as goal

abbrev pub invariant-loop-from : goal.invariant-loop-from
invariant-loop-from l = ReadSoFar l.filter l.tokens.items l.from

abbrev pub decreases-loop-from : goal.decreases-loop-from
decreases-loop-from l = length l.filter - l.from
