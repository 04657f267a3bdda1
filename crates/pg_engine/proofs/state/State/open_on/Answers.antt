use Rattle.std.proofs.Common.{is_some, ◌∙◌, ap}
use Rattle.pg_model.specs.Broker.{consumer_named, queue_with}
use Rattle.pg_engine.specs.Kept.{Kept, broker_of}
use Rattle.pg_engine.proofs.LineLemmas.{line_by_live}
use Rattle.pg_engine.proofs.state.State.open_on.Goals as goal

pub open-requires-clause-new : goal.open-requires-clause-new
open-requires-clause-new c = ap (λ (k : Kept). consumer_named k.consumers c.args.name) c.self.view_is ∙ c.requires.new

pub open-requires-clause-there : goal.open-requires-clause-there
open-requires-clause-there c =
    let i = c.self.inside in
    line_by_live i.durable i.dispatcher.lines c.args.queue c.self.invariant.lined (ap (λ (k : Kept). is_some (queue_with (broker_of k).durable.queues c.args.queue)) c.self.view_is ∙ c.requires.live)
