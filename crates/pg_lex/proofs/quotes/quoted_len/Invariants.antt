use Rattle.std.proofs.Common.{◌-◌, length}
use Rattle.pg_lex.proofs.QuoteLemmas.{IsOpen}
use Rattle.pg_lex.proofs.quotes.quoted_len.Given as goal

abbrev pub invariant-loop-at : goal.invariant-loop-at
invariant-loop-at l = IsOpen l.rest l.at

abbrev pub decreases-loop-at : goal.decreases-loop-at
decreases-loop-at l = length l.rest - l.at
