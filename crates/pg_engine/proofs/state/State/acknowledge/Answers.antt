use Rattle.std.proofs.Common.{Some, is_some, sym, subst, ◌∙◌}
use Rattle.pg_model.specs.Actions.{Acknowledge}
use Rattle.pg_model.specs.Broker.{consumer_named}
use Rattle.pg_engine.specs.Outcomes.{IsOutcome}
use Rattle.pg_engine.proofs.StepLemmas.{ack_nowhere, ack_undelivered, an_owner, no_owner, not_none, not_some_by}
use Rattle.pg_engine.proofs.state.State.acknowledge.Goals as goal

pub returns-then-is_none-clause-outcome : goal.returns-then-is_none-clause-outcome
returns-then-is_none-clause-outcome c =
    let none = no_owner (consumer_named c.args.self.consumers c.args.consumer) c.consumed_by.result c.consumed_by.ensures.queue (not_some_by (is_some c.consumed_by.result) c.is_none.result c.is_none.ensures c.if-is_none.true) in
    subst (λ o. IsOutcome c.args.self (Some (Acknowledge c.args.consumer c.args.message)) o) (sym c.refused.ensures) (ack_nowhere c.args.self c.args.consumer c.args.message none)

pub returns-in_default-clause-outcome : goal.returns-in_default-clause-outcome
returns-in_default-clause-outcome c =
    let one = an_owner (consumer_named c.args.self.consumers c.args.consumer) c.consumed_by.result c.consumed_by.ensures.queue (not_none (is_some c.consumed_by.result) c.is_none.result c.is_none.ensures c.if-is_none.false) in
    subst (λ o. IsOutcome c.args.self (Some (Acknowledge c.args.consumer c.args.message)) o) (sym c.refused-in_default.ensures)
    (ack_undelivered c.args.self c.args.consumer one.0 one.1 c.args.message (sym c.flight.ensures.from ∙ c.in_default.is))
