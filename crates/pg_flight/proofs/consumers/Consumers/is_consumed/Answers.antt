use Rattle.std.proofs.Common.{◌∙◌, ap, sym}
use Rattle.pg_flight.specs.Consumers.{is_consumed}
use Rattle.pg_flight.proofs.OpenRows.{consumed_as_named}
use Rattle.pg_flight.proofs.consumers.Consumers.is_consumed.Goals as goal

pub returns : goal.returns
returns c =
    c.is_consumed.ensures ∙ sym (consumed_as_named c.self.inside.flights c.args.queue c.self.inside.names) ∙ ap (is_consumed c.args.queue) c.self.view_is
