use Rattle.std.proofs.Common.{length}
use Rattle.pg_parse.proofs.Words.{SaidSoFar}
use Rattle.pg_parse.proofs.wording.words_of.Given as goal

abbrev pub invariant-loop-token : goal.invariant-loop-token
invariant-loop-token l = SaidSoFar l.filter l.tokens l.rest l.words.items

abbrev pub decreases-loop-token : goal.decreases-loop-token
decreases-loop-token l = length l.rest
