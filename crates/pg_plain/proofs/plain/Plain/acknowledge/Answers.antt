use Rattle.std.proofs.Common.{◌∙◌, sym}
use Rattle.std.proofs.lemmas.Bool.{iff_false}
use Rattle.pg_model.specs.Broker.{Consumer}
use Rattle.pg_plain.proofs.StepLemmas.{ack_nowhere, ack_undelivered, none_of, some_of}
use Rattle.pg_plain.proofs.plain.Plain.acknowledge.Goals as goal

pub returns-in_default : goal.returns-in_default
returns-in_default c = ack_nowhere c.args.self c.args.consumer.now c.args.id (none_of (λ (a : Consumer). a.queue) _ (sym c.queue_of.ensures ∙ c.in_default.is))

pub returns-then-not-has_flight : goal.returns-then-not-has_flight
returns-then-not-has_flight c =
    let found = some_of (λ (a : Consumer). a.queue) _ c.in-Some.queue (sym c.in-Some.ensures) in
    ack_undelivered c.args.self c.args.consumer.now c.args.id found.0 found.1 (iff_false c.has_flight.ensures c.if-not-has_flight.true)
