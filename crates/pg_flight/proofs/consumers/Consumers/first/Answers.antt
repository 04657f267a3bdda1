use Rattle.std.proofs.Common.{◌∙◌, ap, sym}
use Rattle.std.specs.Prelude.{List, slice_get}
use Rattle.pg_flight.specs.Consumers.{OpenConsumer, deliveries_to}
use Rattle.pg_flight.proofs.OpenRows.{its_deliveries}
use Rattle.pg_flight.proofs.consumers.Consumers.first.Goals as goal

pub returns : goal.returns
returns c =
    let its = its_deliveries c.self.inside.flights c.args.name.now c.self.inside.names (c.self.invariant c.args.name.now) in
    c.first.ensures
    ∙ sym (ap (λ deliveries. slice_get deliveries 0) its)
    ∙ ap (λ (consumers : List OpenConsumer). slice_get (deliveries_to c.args.name.now consumers) 0) c.self.view_is
