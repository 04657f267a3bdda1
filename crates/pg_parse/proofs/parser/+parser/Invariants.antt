use Rattle.std.proofs.Common.{◌+◌, ◌*◌, length}
use Rattle.pg_parse.proofs.Chains.{SoFar}
use Rattle.pg_parse.proofs.Phrases.{or_chain, and_chain, sum_chain, term_chain}
use Rattle.pg_parse.proofs.parser.+parser.Given as goal

abbrev pub decreases-or_phrase : goal.decreases-or_phrase
decreases-or_phrase l = 11 * l.levels + 10

abbrev pub decreases-and_phrase : goal.decreases-and_phrase
decreases-and_phrase l = 11 * l.levels + 9

abbrev pub decreases-not_phrase : goal.decreases-not_phrase
decreases-not_phrase l = 11 * l.levels + 8

abbrev pub decreases-test_phrase : goal.decreases-test_phrase
decreases-test_phrase l = 11 * l.levels + 7

abbrev pub decreases-tail : goal.decreases-tail
decreases-tail l = 11 * l.levels + 6

abbrev pub decreases-form : goal.decreases-form
decreases-form l = 11 * l.levels + 5

abbrev pub decreases-range : goal.decreases-range
decreases-range l = 11 * l.levels + 4

abbrev pub decreases-sum_phrase : goal.decreases-sum_phrase
decreases-sum_phrase l = 11 * l.levels + 3

abbrev pub decreases-term_phrase : goal.decreases-term_phrase
decreases-term_phrase l = 11 * l.levels + 2

abbrev pub decreases-unary_phrase : goal.decreases-unary_phrase
decreases-unary_phrase l = 11 * l.levels + 1

abbrev pub decreases-prim_phrase : goal.decreases-prim_phrase
decreases-prim_phrase l = 11 * l.levels

abbrev pub invariant-or_phrase-loop-inner : goal.invariant-or_phrase-loop-inner
invariant-or_phrase-loop-inner l = SoFar (or_chain l.levels) l.words l.tree l.rest

abbrev pub decreases-or_phrase-loop-inner : goal.decreases-or_phrase-loop-inner
decreases-or_phrase-loop-inner l = length l.rest

abbrev pub invariant-and_phrase-loop-inner : goal.invariant-and_phrase-loop-inner
invariant-and_phrase-loop-inner l = SoFar (and_chain l.levels) l.words l.tree l.rest

abbrev pub decreases-and_phrase-loop-inner : goal.decreases-and_phrase-loop-inner
decreases-and_phrase-loop-inner l = length l.rest

abbrev pub invariant-sum_phrase-loop-sign : goal.invariant-sum_phrase-loop-sign
invariant-sum_phrase-loop-sign l = SoFar (sum_chain l.levels) l.words l.tree l.rest

abbrev pub decreases-sum_phrase-loop-sign : goal.decreases-sum_phrase-loop-sign
decreases-sum_phrase-loop-sign l = length l.rest

abbrev pub invariant-term_phrase-loop-inner : goal.invariant-term_phrase-loop-inner
invariant-term_phrase-loop-inner l = SoFar (term_chain l.levels) l.words l.tree l.rest

abbrev pub decreases-term_phrase-loop-inner : goal.decreases-term_phrase-loop-inner
decreases-term_phrase-loop-inner l = length l.rest
