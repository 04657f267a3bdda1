use Rattle.std.proofs.Common.{◌∙◌, ap, sym, subst}
use Rattle.std.specs.Prelude.{option_map}
use Rattle.pg_flight.specs.Consumers.{AreNamedApart, OpenConsumer, open_named}
use Rattle.pg_flight.proofs.OpenRows.{named_apart, queue_as_named}
use Rattle.pg_flight.proofs.consumers.Consumers.queue_of.Goals as goal

pub returns-clause-queue : goal.returns-clause-queue
returns-clause-queue c =
    c.queue_of.ensures.queue
    ∙ sym (queue_as_named c.self.inside.flights c.args.name.now c.self.inside.names)
    ∙ ap (λ consumers. option_map (λ (consumer : OpenConsumer). consumer.queue) (open_named c.args.name.now consumers)) c.self.view_is

pub returns-clause-apart : goal.returns-clause-apart
returns-clause-apart c = subst AreNamedApart c.self.view_is (named_apart c.self.inside.flights c.self.inside.names c.queue_of.ensures.apart)
