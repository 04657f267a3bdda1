use Rattle.std.proofs.Common.{length}
use Rattle.pg_parse.proofs.Chains.{SoFar}
use Rattle.pg_parse.proofs.Leaves.{item_chain}
use Rattle.pg_parse.proofs.lists.text_items.Given as goal

abbrev pub invariant-loop-inner : goal.invariant-loop-inner
invariant-loop-inner l = SoFar item_chain l.words l.texts l.rest

abbrev pub decreases-loop-inner : goal.decreases-loop-inner
decreases-loop-inner l = length l.rest
