use Rattle.std.proofs.Common.{◌∙◌, sym}
use Rattle.pg_model.specs.Broker.{Consumer}
use Rattle.pg_plain.proofs.StepLemmas.{close_nowhere, none_of}
use Rattle.pg_plain.proofs.plain.Plain.close.Goals as goal

pub returns-in_default : goal.returns-in_default
returns-in_default c = close_nowhere c.args.self c.args.consumer.now (none_of (λ (a : Consumer). a.queue) _ (sym c.queue_of.ensures ∙ c.in_default.is))
