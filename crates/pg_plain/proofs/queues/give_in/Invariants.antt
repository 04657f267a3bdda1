use Rattle.std.proofs.Common.{◌≡◌, ◌++◌, map, take, drop}
use Rattle.pg_model.specs.Changes.{given_to}
use Rattle.pg_plain.proofs.queues.give_in.Given as goal

abbrev pub invariant-loop-queue : goal.invariant-loop-queue
invariant-loop-queue l =
    l.queues ≡ map (given_to l.numbers l.message) (take l.queue-index l.fn.queues) ++ drop l.queue-index l.fn.queues
