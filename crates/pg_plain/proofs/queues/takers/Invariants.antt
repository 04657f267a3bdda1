use Rattle.std.proofs.Common.{take}
use Rattle.pg_model.specs.Routing.{GoesTo, queues_of}
use Rattle.pg_plain.proofs.queues.takers.Given as goal

abbrev pub invariant-loop-queue : goal.invariant-loop-queue
invariant-loop-queue l = GoesTo l.properties (queues_of l.address (take l.queue-index l.queues)) l.ids.items
