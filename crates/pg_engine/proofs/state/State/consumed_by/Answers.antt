use Rattle.std.proofs.Common.{◌≡◌, true, is_some, ◌∙◌, ap, subst}
use Rattle.std.specs.Prelude.{IfSome}
use Rattle.std.specs.Option.{option_map}
use Rattle.pg_model.specs.Broker.{Consumer, consumer_named, queue_with}
use Rattle.pg_engine.specs.Kept.{Kept, broker_of}
use Rattle.pg_engine.proofs.LineLemmas.{live_by_line}
use Rattle.pg_engine.proofs.state.State.consumed_by.Goals as goal

pub returns-clause-queue : goal.returns-clause-queue
returns-clause-queue c = c.queue_of.ensures.queue ∙ ap (λ (k : Kept). option_map (λ (x : Consumer). x.queue) (consumer_named k.consumers c.args.consumer.now)) c.self.view_is

pub returns-clause-live : goal.returns-clause-live
returns-clause-live c =
    let i = c.self.inside in
    subst (λ (k : Kept). IfSome c.queue_of.result (λ queue. is_some (queue_with (broker_of k).durable.queues queue) ≡ true)) c.self.view_is
    (live_by_line i.durable i.dispatcher.lines c.queue_of.result c.self.invariant.lined c.queue_of.ensures.live)
