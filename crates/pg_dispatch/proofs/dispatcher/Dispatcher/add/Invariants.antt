use Rattle.std.proofs.Common.{◌≡◌, take}
use Rattle.pg_dispatch.specs.Dispatch.{with_message}
use Rattle.pg_dispatch.proofs.dispatcher.Dispatcher.add.Given as goal

abbrev pub invariant-loop-queue : goal.invariant-loop-queue
invariant-loop-queue l = l.self ≡ with_message (take l.queue-index l.queues) l.id l.fn.self
