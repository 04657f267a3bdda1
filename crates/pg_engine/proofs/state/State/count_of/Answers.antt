use Rattle.std.proofs.Common.{length, option_map, sym, ◌∙◌, ap}
use Rattle.pg_model.specs.Broker.{Queue, queue_named}
use Rattle.pg_engine.specs.Kept.{Kept, broker_of}
use Rattle.pg_engine.proofs.LineLemmas.{counted_line}
use Rattle.pg_engine.proofs.state.State.count_of.Goals as goal

pub returns : goal.returns
returns c =
    let i = c.self.inside in
    let named = ap (λ (k : Kept). option_map (λ (q : Queue). q.id) (queue_named (broker_of k).durable.queues c.args.name.now)) c.self.view_is ∙ sym c.queue_id.ensures.id ∙ c.in_ok-id.was in
    c.count_in.ensures ∙ counted_line i.durable i.dispatcher.lines c.args.name.now c.in_ok-id.id c.self.invariant.lined c.self.invariant.sound named
    ∙ ap (λ (k : Kept). option_map (λ (q : Queue). length q.messages) (queue_named (broker_of k).durable.queues c.args.name.now)) c.self.view_is
