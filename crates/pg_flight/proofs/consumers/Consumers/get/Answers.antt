use Rattle.std.proofs.Common.{◌∙◌, ap, sym}
use Rattle.pg_flight.specs.Consumers.{delivery_to}
use Rattle.pg_flight.proofs.OpenRows.{its_delivery}
use Rattle.pg_flight.proofs.consumers.Consumers.get.Goals as goal

pub returns : goal.returns
returns c =
    c.get.ensures
    ∙ sym (its_delivery c.self.inside.flights c.args.name.now c.args.id c.self.inside.names c.self.invariant)
    ∙ ap (delivery_to c.args.name.now c.args.id) c.self.view_is
