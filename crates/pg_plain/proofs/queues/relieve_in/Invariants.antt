use Rattle.std.proofs.Common.{◌≡◌, ◌++◌, map, take, drop}
use Rattle.pg_model.specs.Changes.{relieved}
use Rattle.pg_plain.proofs.queues.relieve_in.Given as goal

abbrev pub invariant-loop-queue : goal.invariant-loop-queue
invariant-loop-queue l =
    l.queues ≡ map (relieved l.number l.id) (take l.queue-index l.fn.queues) ++ drop l.queue-index l.fn.queues
