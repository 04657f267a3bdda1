use Rattle.std.proofs.Common.{◌∙◌, ap, sym}
use Rattle.pg_flight.specs.Consumers.{deliveries_to, consumers_of, without_open}
use Rattle.pg_flight.specs.Flights.{cleared}
use Rattle.pg_flight.proofs.OpenRows.{alone_without, its_deliveries, one_closed}
use Rattle.pg_flight.proofs.consumers.Consumers.close.Goals as goal

pub invariant_of-self-2 : goal.invariant_of-self-2
invariant_of-self-2 c =
    let inside = c.self.inside in
    alone_without c.args.name.now inside.flights c.close.new.self inside.names c.remove.new.self c.self.invariant c.in_ok-deliveries.ensures.left c.remove.ensures

pub returns-clause-given : goal.returns-clause-given
returns-clause-given c =
    let inside = c.self.inside in
    c.in_ok-deliveries.ensures.given
    ∙ sym (its_deliveries inside.flights c.args.name.now inside.names (c.self.invariant c.args.name.now))
    ∙ ap (deliveries_to c.args.name.now) c.self.view_is

pub returns-clause-left : goal.returns-clause-left
returns-clause-left c =
    let inside = c.self.inside in
    ap (consumers_of c.close.new.self) c.remove.ensures
    ∙ one_closed c.args.name.now cleared inside.flights c.close.new.self inside.names c.in_ok-deliveries.ensures.left
    ∙ ap (without_open c.args.name.now) c.self.view_is
