use Rattle.std.proofs.Common.{◌∙◌, ℕ, is_some, Some, ap, sym, subst, arith}
use Rattle.pg_msg.specs.declared.reply.Refusal.TheVariants.{Filter}
use Rattle.pg_msg.specs.declared.reply.Reply.TheVariants.{No}
use Rattle.pg_model.specs.Actions.{MakeQueue}
use Rattle.pg_model.specs.Broker.{Queue}
use Rattle.pg_engine.specs.declared.state.Outcome.TheVariants.{Unchanged}
use Rattle.pg_engine.specs.Outcomes.{IsOutcome}
use Rattle.pg_engine.proofs.LookupLemmas.{address_id_within, none_id}
use Rattle.pg_engine.proofs.StepLemmas.{made_at, none_of, queue_taken, queue_nowhere, queue_full, queue_unreadable, some_of, unmade_at}
use Rattle.pg_engine.proofs.state.State.add_queue.Goals as goal

pub returns-then-is_some-clause-outcome : goal.returns-then-is_some-clause-outcome
returns-then-is_some-clause-outcome c =
    subst (λ o. IsOutcome c.args.self (Some (MakeQueue c.args.name c.args.address c.args.filter)) o) (sym c.refused.ensures)
    (queue_taken c.args.self c.args.name c.args.address c.args.filter (some_of (λ (q : Queue). q.id) _ (ap is_some (sym c.queue_id.ensures.id) ∙ sym c.is_some.ensures ∙ c.if-is_some.true)))

pub returns-in_default-clause-outcome : goal.returns-in_default-clause-outcome
returns-in_default-clause-outcome c =
    let new = none_of (λ (q : Queue). q.id) _ (sym c.queue_id.ensures.id ∙ none_id c.queue_id.result (sym c.is_some.ensures ∙ c.if-is_some.false)) in
    subst (λ o. IsOutcome c.args.self (Some (MakeQueue c.args.name c.args.address c.args.filter)) o) (sym c.refused-in_default.ensures)
    (queue_nowhere c.args.self c.args.name c.args.address c.args.filter new (sym c.address_id.ensures ∙ c.in_default.is))

pub returns-then-queue_count-ge-MOST_QUEUES-clause-outcome : goal.returns-then-queue_count-ge-MOST_QUEUES-clause-outcome
returns-then-queue_count-ge-MOST_QUEUES-clause-outcome c =
    let new = none_of (λ (q : Queue). q.id) _ (sym c.queue_id.ensures.id ∙ none_id c.queue_id.result (sym c.is_some.ensures ∙ c.if-is_some.false)) in
    subst (λ o. IsOutcome c.args.self (Some (MakeQueue c.args.name c.args.address c.args.filter)) o) (sym c.refused-then-queue_count-ge-MOST_QUEUES.ensures)
    (queue_full c.args.self c.args.name c.args.address c.args.filter new c.in-Some.id (sym c.address_id.ensures ∙ c.in-Some.is)
    (omega (arith, c.if-queue_count-ge-MOST_QUEUES.true, c.queue_count.ensures)))

pub returns-in-Err-BadFilter-clause-outcome : goal.returns-in-Err-BadFilter-clause-outcome
returns-in-Err-BadFilter-clause-outcome c =
    let new = none_of (λ (q : Queue). q.id) _ (sym c.queue_id.ensures.id ∙ none_id c.queue_id.result (sym c.is_some.ensures ∙ c.if-is_some.false)) in
    subst (λ o. IsOutcome c.args.self (Some (MakeQueue c.args.name c.args.address c.args.filter)) o) (sym (c.refused-in-Err-BadFilter.ensures ∙ ap (λ (n : ℕ). Unchanged c.args.self (No (Filter n))) c.in-Err-BadFilter.at-is))
    (queue_unreadable c.args.self c.args.name c.args.address c.args.filter c.in-Err-BadFilter.field-0 c.in-Err-BadFilter.at new c.in-Some.id (sym c.address_id.ensures ∙ c.in-Some.is)
    (omega (arith, c.if-queue_count-ge-MOST_QUEUES.false, c.queue_count.ensures)) c.in-Err-BadFilter.ensures.bad c.in-Err-BadFilter.field-0-is)

pub add_readable_queue-requires-clause-new : goal.add_readable_queue-requires-clause-new
add_readable_queue-requires-clause-new c = none_of (λ (q : Queue). q.id) _ (sym c.queue_id.ensures.id ∙ none_id c.queue_id.result (sym c.is_some.ensures ∙ c.if-is_some.false))

pub add_readable_queue-requires-clause-known : goal.add_readable_queue-requires-clause-known
add_readable_queue-requires-clause-known c = address_id_within c.args.address c.args.self.durable.addresses c.in-Some.id (sym c.address_id.ensures ∙ c.in-Some.is)

pub add_readable_queue-requires-clause-few : goal.add_readable_queue-requires-clause-few
add_readable_queue-requires-clause-few c = omega (arith, c.if-queue_count-ge-MOST_QUEUES.false, c.queue_count.ensures)

pub returns-in-Ok-clause-outcome : goal.returns-in-Ok-clause-outcome
returns-in-Ok-clause-outcome c =
    made_at c.args.self c.args.name c.args.filter c.in-Some.id c.add_readable_queue.result c.add_readable_queue.ensures.outcome c.args.address (sym c.address_id.ensures ∙ c.in-Some.is)

pub returns-in-Ok-clause-none : goal.returns-in-Ok-clause-none
returns-in-Ok-clause-none c =
    unmade_at c.args.self c.args.name c.args.filter c.in-Some.id c.add_readable_queue.result c.add_readable_queue.ensures.none c.args.address (sym c.address_id.ensures ∙ c.in-Some.is)
