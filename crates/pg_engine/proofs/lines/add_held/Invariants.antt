use Rattle.std.proofs.Common.{◌≡◌, [], map, take, Bor}
use Rattle.pg_fold.specs.declared.rows.JournaledRow.{JournaledRow}
use Rattle.pg_recover.specs.Denotation.{queue_of}
use Rattle.pg_engine.specs.Kept.{line_from}
use Rattle.pg_engine.proofs.lines.add_held.Given as goal

abbrev pub invariant-loop-place : goal.invariant-loop-place
invariant-loop-place l = l.dispatcher ≡ record { lines = map line_from (map (queue_of (take l.place (map (λ (row : Bor JournaledRow). row.now) l.rows))) l.queues); consumers = [] }
