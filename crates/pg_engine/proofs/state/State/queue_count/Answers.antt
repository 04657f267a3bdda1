use Rattle.std.proofs.Common.{◌∙◌, List, ℕ, length, ap}
use Rattle.pg_model.specs.Routing.{queues_of}
use Rattle.pg_routes.specs.Names.{RouteNames, queue_ids_at}
use Rattle.pg_engine.specs.Kept.{Kept, broker_of}
use Rattle.pg_engine.proofs.LookupLemmas.{count_is}
use Rattle.pg_engine.proofs.state.State.queue_count.Goals as goal

pub returns : goal.returns
returns c =
    let d = c.self.inside.durable in
    let routes = c.self.invariant.named in
    ap (λ (l : List ℕ). length l) c.queues_at.ensures.ids
    ∙ ap (λ (n : RouteNames). length (queue_ids_at c.args.address n)) routes.named
    ∙ count_is routes.trees c.args.address d.journaled d.queues
    ∙ ap (λ (k : Kept). length (queues_of c.args.address (broker_of k).durable.queues)) c.self.view_is
