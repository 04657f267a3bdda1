use Rattle.std.proofs.Common.{eqb, ℕ, ◌∙◌, Some, sym, subst, ap}
use Rattle.std.specs.List.{list_any}
use Rattle.pg_model.specs.Actions.{DropQueue}
use Rattle.pg_model.specs.Broker.{Consumer, Queue, queue_named}
use Rattle.pg_engine.specs.Kept.{broker_of}
use Rattle.pg_engine.specs.Outcomes.{IsOutcome}
use Rattle.pg_engine.proofs.StepLemmas.{drop_consumed, drop_nowhere, none_of, some_from}
use Rattle.pg_engine.proofs.state.State.drop_queue.Goals as goal

pub returns-in_default-clause-outcome : goal.returns-in_default-clause-outcome
returns-in_default-clause-outcome c =
    subst (λ o. IsOutcome c.args.self (Some (DropQueue c.args.name)) o) (sym c.refused.ensures)
    (drop_nowhere c.args.self c.args.name (none_of (λ (q : Queue). q.id) _ (sym c.queue_id.ensures.id ∙ c.in_default.is)))

pub returns-then-is_consumed-clause-outcome : goal.returns-then-is_consumed-clause-outcome
returns-then-is_consumed-clause-outcome c =
    let q = some_from (λ (q : Queue). q.id) (queue_named (broker_of c.args.self).durable.queues c.args.name) c.in-Some.queue (sym c.queue_id.ensures.id ∙ c.in-Some.is) in
    subst (λ o. IsOutcome c.args.self (Some (DropQueue c.args.name)) o) (sym c.refused-then-is_consumed.ensures)
    (drop_consumed c.args.self c.args.name q.0 q.1
    (ap (λ (n : ℕ). list_any (λ (x : Consumer). eqb x.queue n) c.args.self.consumers) q.2 ∙ sym c.is_consumed.ensures ∙ c.if-is_consumed.true))
