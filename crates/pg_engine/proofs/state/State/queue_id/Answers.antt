use Rattle.std.proofs.Common.{◌≡◌, ◌∙◌, true, is_some, ap, subst}
use Rattle.std.specs.Prelude.{IfSome}
use Rattle.std.specs.Option.{option_map}
use Rattle.pg_model.specs.Broker.{Queue, queue_named, queue_with}
use Rattle.pg_routes.specs.Names.{RouteNames}
use Rattle.pg_routes.specs.Names.{queue_named as name_of}
use Rattle.pg_engine.specs.Kept.{Kept, broker_of}
use Rattle.pg_engine.proofs.LineLemmas.{live_by_name}
use Rattle.pg_engine.proofs.LookupLemmas.{queue_found}
use Rattle.pg_engine.proofs.state.State.queue_id.Goals as goal

pub returns-clause-id : goal.returns-clause-id
returns-clause-id c =
    let d = c.self.inside.durable in
    c.queue_id.ensures ∙ ap (λ t. name_of t c.self.inside.routes) c.as_str.ensures.value
    ∙ ap (λ (n : RouteNames). name_of c.args.name.now n) c.self.invariant.named.named
    ∙ queue_found c.args.name.now d.journaled d.queues c.self.invariant.named.trees
    ∙ ap (λ (k : Kept). option_map (λ (q : Queue). q.id) (queue_named (broker_of k).durable.queues c.args.name.now)) c.self.view_is

pub returns-clause-live : goal.returns-clause-live
returns-clause-live c =
    let d = c.self.inside.durable in
    subst (λ (k : Kept). IfSome c.queue_id.result (λ queue. is_some (queue_with (broker_of k).durable.queues queue) ≡ true)) c.self.view_is
    (live_by_name d c.args.name.now c.queue_id.result c.self.invariant.sound
    (c.queue_id.ensures ∙ ap (λ t. name_of t c.self.inside.routes) c.as_str.ensures.value
    ∙ ap (λ (n : RouteNames). name_of c.args.name.now n) c.self.invariant.named.named
    ∙ queue_found c.args.name.now d.journaled d.queues c.self.invariant.named.trees))
