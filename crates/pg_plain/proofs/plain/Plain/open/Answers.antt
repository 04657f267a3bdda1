use Rattle.std.proofs.Common.{◌≡◌, ◌∙◌, ℕ, true, sym, subst}
use Rattle.pg_model.specs.Broker.{Queue, Consumer}
use Rattle.pg_plain.specs.Kept.{is_live}
use Rattle.pg_plain.proofs.KeptLemmas.{named_live}
use Rattle.pg_plain.proofs.StepLemmas.{open_taken, open_nowhere, none_named, none_of, some_named, some_of}
use Rattle.pg_plain.proofs.plain.Plain.open.Goals as goal

pub returns-then-is_some : goal.returns-then-is_some
returns-then-is_some c =
    let found = some_named (λ (a : Consumer). a.queue) _ c.queue_of.result c.queue_of.ensures (sym c.is_some.ensures ∙ c.if-is_some.true) in
    open_taken c.args.self c.args.name c.args.queue.now found.0 found.1

pub returns-in_default : goal.returns-in_default
returns-in_default c =
    open_nowhere c.args.self c.args.name c.args.queue.now (none_named (λ (a : Consumer). a.queue) _ c.queue_of.result c.queue_of.ensures (sym c.is_some.ensures ∙ c.if-is_some.false))
    (none_of (λ (q : Queue). q.id) _ (sym c.queue_id.ensures ∙ c.in_default.is))

pub with_consumer-requires : goal.with_consumer-requires
with_consumer-requires c =
    let found = some_of (λ (q : Queue). q.id) _ c.in-Some.id (sym c.in-Some.ensures) in
    subst (λ (n : ℕ). is_live c.args.self.durable.queues n ≡ true) found.2 (named_live c.args.self.durable.queues c.args.queue.now found.0 found.1)
