use Rattle.std.proofs.Common.{◌≡◌, [], map, take}
use Rattle.pg_recover.specs.Denotation.{queue_of}
use Rattle.pg_engine.specs.Kept.{line_from}
use Rattle.pg_engine.proofs.lines.dispatched.Given as goal

abbrev pub invariant-loop-queue : goal.invariant-loop-queue
invariant-loop-queue l = l.dispatcher ≡ record { lines = map line_from (map (queue_of []) (take l.queue-index l.queues)); consumers = [] }
