use Rattle.std.proofs.Common.{◌∙◌, sym}
use Rattle.pg_model.specs.Broker.{Consumer}
use Rattle.pg_plain.proofs.StepLemmas.{receive_nowhere, receive_empty, none_of}
use Rattle.pg_plain.proofs.plain.Plain.receive.Goals as goal

pub returns-in_default : goal.returns-in_default
returns-in_default c = receive_nowhere c.args.self c.args.consumer.now (none_of (λ (a : Consumer). a.queue) _ (sym c.queue_of.ensures ∙ c.in_default.is))

pub returns-in-None : goal.returns-in-None
returns-in-None c =
    receive_empty c.args.self c.args.consumer.now c.in-Some.queue c.available.ensures.live (sym c.in-Some.ensures) c.in-None.ensures.first
