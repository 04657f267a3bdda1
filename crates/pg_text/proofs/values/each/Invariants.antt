use Rattle.std.proofs.Common.{◌-◌, length}
use Rattle.pg_text.proofs.LoopLaws.{HasRead}
use Rattle.pg_text.proofs.values.each.Given as goal

abbrev pub invariant-loop-behind : goal.invariant-loop-behind
invariant-loop-behind l = HasRead l.properties l.rest l.line

abbrev pub decreases-loop-behind : goal.decreases-loop-behind
decreases-loop-behind l = 100 - length l.properties
