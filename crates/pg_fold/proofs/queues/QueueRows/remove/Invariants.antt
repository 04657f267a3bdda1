use Rattle.std.proofs.Common.{◌≡◌, length}
use Rattle.pg_fold.specs.Rows.{without_queue}
use Rattle.pg_fold.proofs.queues.QueueRows.remove.Given as goal

-- what is left to take out is what there was to take out
abbrev pub invariant-loop-place : goal.invariant-loop-place
invariant-loop-place l = without_queue l.id l.self ≡ without_queue l.id l.fn.self

abbrev pub decreases-loop-place : goal.decreases-loop-place
decreases-loop-place l = length l.self
