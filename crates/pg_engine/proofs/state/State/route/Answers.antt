use Rattle.std.proofs.Common.{◌^◌, ◌<◌, ◌∙◌, All, List, ℕ, ap, map, sym, subst}
use Rattle.std.proofs.lemmas.List.Elements.{recursion_from_All}
use Rattle.pg_msg.specs.declared.properties.Property.{Property}
use Rattle.pg_fold.specs.declared.rows.QueueRow.{QueueRow}
use Rattle.pg_model.specs.Routing.{GoesTo, IsRouted, queues_of}
use Rattle.pg_recover.specs.Denotation.{queue_of}
use Rattle.pg_parse.specs.FilterTexts.{ReadsAs}
use Rattle.pg_routes.specs.Names.{RouteNames, routed_at}
use Rattle.pg_engine.specs.Kept.{Kept, broker_of}
use Rattle.pg_engine.proofs.RoutingLemmas.{goes_where_found}
use Rattle.pg_engine.proofs.state.State.route.Goals as goal

pub returns-clause-routed : goal.returns-clause-routed
returns-clause-routed c =
    let d = c.self.inside.durable in
    let routes = c.self.invariant.named in
    let found = c.queue_ids.ensures.same ∙ c.in_ok-ids.ensures.ids ∙ ap (λ (p : List Property). routed_at c.args.address p c.self.inside.routes) c.as_slice.ensures
    ∙ ap (λ (n : RouteNames). routed_at c.args.address c.args.properties.now n) routes.named in
    subst (λ (k : Kept). IsRouted (broker_of k) c.args.address c.args.properties.now c.queue_ids.result) c.self.view_is
    (subst (λ (l : List ℕ). GoesTo c.args.properties.now (queues_of c.args.address (map (queue_of d.journaled) d.queues)) l) (sym found)
    (goes_where_found routes.trees c.args.address c.args.properties.now d.journaled d.queues (recursion_from_All (λ (row : QueueRow). ReadsAs row.filter (routes.trees row.id)) d.queues routes.read)))

pub returns-clause-in_range : goal.returns-clause-in_range
returns-clause-in_range c = subst (λ (l : List ℕ). All (λ (id : ℕ). id < 2 ^ 32) l) (sym c.queue_ids.ensures.same) c.queue_ids.ensures.in_range
