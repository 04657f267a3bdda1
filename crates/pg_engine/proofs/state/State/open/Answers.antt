use Rattle.std.proofs.Common.{Some, ℕ, [], ◌∷◌, ◌++◌, is_some, sym, subst, ◌∙◌, ap}
use Rattle.pg_model.specs.Actions.{Open}
use Rattle.pg_model.specs.Broker.{Queue, consumer_named, queue_named}
use Rattle.pg_msg.specs.declared.reply.Reply.TheVariants.{Done}
use Rattle.pg_engine.specs.declared.state.Outcome.TheVariants.{Unchanged}
use Rattle.pg_engine.specs.Kept.{Kept, broker_of, with_consumers}
use Rattle.pg_engine.specs.Outcomes.{IsOutcome}
use Rattle.pg_engine.proofs.StepLemmas.{an_owner, no_owner, none_of, open_made, open_nowhere, open_taken, some_from}
use Rattle.pg_engine.proofs.state.State.open.Goals as goal

pub returns-then-is_some-clause-outcome : goal.returns-then-is_some-clause-outcome
returns-then-is_some-clause-outcome c =
    let one = an_owner (consumer_named c.args.self.consumers c.args.name) c.consumed_by.result c.consumed_by.ensures.queue (sym c.is_some.ensures ∙ c.if-is_some.true) in
    subst (λ o. IsOutcome c.args.self (Some (Open c.args.name c.args.queue)) o) (sym c.refused.ensures) (open_taken c.args.self c.args.name c.args.queue (ap is_some one.1))

pub returns-in_default-clause-outcome : goal.returns-in_default-clause-outcome
returns-in_default-clause-outcome c =
    let new = no_owner (consumer_named c.args.self.consumers c.args.name) c.consumed_by.result c.consumed_by.ensures.queue (sym c.is_some.ensures ∙ c.if-is_some.false) in
    subst (λ o. IsOutcome c.args.self (Some (Open c.args.name c.args.queue)) o) (sym c.refused-in_default.ensures)
    (open_nowhere c.args.self c.args.name c.args.queue new (none_of (λ (q : Queue). q.id) _ (sym c.queue_id.ensures.id ∙ c.in_default.is)))

pub open_on-requires-clause-new : goal.open_on-requires-clause-new
open_on-requires-clause-new c = no_owner (consumer_named c.args.self.consumers c.args.name) c.consumed_by.result c.consumed_by.ensures.queue (sym c.is_some.ensures ∙ c.if-is_some.false)

pub returns-clause-outcome : goal.returns-clause-outcome
returns-clause-outcome c =
    let new = no_owner (consumer_named c.args.self.consumers c.args.name) c.consumed_by.result c.consumed_by.ensures.queue (sym c.is_some.ensures ∙ c.if-is_some.false) in
    let q = some_from (λ (q : Queue). q.id) (queue_named (broker_of c.args.self).durable.queues c.args.queue) c.in-Some.id (sym c.queue_id.ensures.id ∙ c.in-Some.is) in
    subst (λ (k : Kept). IsOutcome c.args.self (Some (Open c.args.name c.args.queue)) (Unchanged k Done))
    (sym (c.in_ok-open_on.ensures ∙ ap (λ (n : ℕ). with_consumers (c.args.self.consumers ++ record { name = c.args.name; queue = n; in_flight = [] } ∷ []) c.args.self) (sym q.2)))
    (open_made c.args.self c.args.name c.args.queue q.0 new q.1)
