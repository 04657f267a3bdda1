use Rattle.std.proofs.Common.{◌∙◌}
use Rattle.pg_dispatch.proofs.Steps.{queue_live, queue_seen}
use Rattle.pg_dispatch.proofs.dispatcher.Dispatcher.queue_of.Goals as goal

pub returns-clause-queue : goal.returns-clause-queue
returns-clause-queue c = c.queue_of.ensures.queue ∙ queue_seen c.args.name.now c.self.inside.queues c.self.inside.consumers c.args.self.now c.self.view_is

pub returns-clause-live : goal.returns-clause-live
returns-clause-live c =
    queue_live c.args.name.now c.queue_of.result c.self.inside.queues c.self.inside.consumers c.args.self.now c.self.invariant c.self.view_is c.queue_of.ensures.queue
