use Rattle.std.proofs.Common.{◌∙◌, ap}
use Rattle.pg_model.specs.Broker.{address_named}
use Rattle.pg_routes.specs.Names.{RouteNames}
use Rattle.pg_routes.specs.Names.{address_named as name_of}
use Rattle.pg_engine.specs.Kept.{Kept, broker_of}
use Rattle.pg_engine.proofs.LookupLemmas.{address_found}
use Rattle.pg_engine.proofs.state.State.address_id.Goals as goal

pub returns : goal.returns
returns c =
    let d = c.self.inside.durable in
    c.address_id.ensures ∙ ap (λ t. name_of t c.self.inside.routes) c.as_str.ensures.value
    ∙ ap (λ (n : RouteNames). name_of c.args.name.now n) c.self.invariant.named.named
    ∙ address_found c.args.name.now d.addresses c.self.invariant.sound.addresses.numbered
    ∙ ap (λ (k : Kept). address_named (broker_of k).durable.addresses c.args.name.now) c.self.view_is
