use Rattle.std.proofs.Common.{◌∙◌, ap, sym, refl}
use Rattle.pg_flight.specs.Consumers.{changed_for, delivery_to}
use Rattle.pg_flight.specs.Deliveries.{without_delivery}
use Rattle.pg_flight.proofs.OpenRows.{alone_changed, changed_rows, its_delivery}
use Rattle.pg_flight.proofs.consumers.Consumers.take.Goals as goal

pub invariant_of-self : goal.invariant_of-self
invariant_of-self c =
    let inside = c.self.inside in
    alone_changed c.args.name.now (without_delivery c.args.id) inside.flights c.take.new.self inside.names c.self.invariant c.take.ensures.left (λ _. refl)

pub returns-clause-given : goal.returns-clause-given
returns-clause-given c =
    c.take.ensures.given
    ∙ sym (its_delivery c.self.inside.flights c.args.name.now c.args.id c.self.inside.names c.self.invariant)
    ∙ ap (delivery_to c.args.name.now c.args.id) c.self.view_is

pub returns-clause-left : goal.returns-clause-left
returns-clause-left c =
    let inside = c.self.inside in
    changed_rows c.args.name.now (without_delivery c.args.id) inside.flights c.take.new.self inside.names c.take.ensures.left
    ∙ ap (changed_for c.args.name.now (without_delivery c.args.id)) c.self.view_is
