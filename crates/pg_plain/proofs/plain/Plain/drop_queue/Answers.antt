use Rattle.std.proofs.Common.{◌∙◌, sym}
use Rattle.pg_model.specs.Broker.{Queue}
use Rattle.pg_plain.proofs.StepLemmas.{drop_nowhere, drop_consumed, none_of, some_of}
use Rattle.pg_plain.proofs.plain.Plain.drop_queue.Goals as goal

pub returns-in_default : goal.returns-in_default
returns-in_default c = drop_nowhere c.args.self c.args.name.now (none_of (λ (q : Queue). q.id) _ (sym c.queue_id.ensures ∙ c.in_default.is))

pub returns-then-is_consumed : goal.returns-then-is_consumed
returns-then-is_consumed c =
    let found = some_of (λ (q : Queue). q.id) _ c.in-Some.id (sym c.in-Some.ensures) in
    drop_consumed c.args.self c.args.name.now found.0 c.in-Some.id found.1 found.2 (sym c.is_consumed.ensures ∙ c.if-is_consumed.true)
