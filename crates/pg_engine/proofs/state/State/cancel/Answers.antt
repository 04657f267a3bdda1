use Rattle.std.proofs.Common.{Some, is_some, sym, subst, ap}
use Rattle.pg_model.specs.Actions.{Cancel}
use Rattle.pg_model.specs.Broker.{consumer_named}
use Rattle.pg_dispatch.specs.Dispatch.{flight_from}
use Rattle.pg_msg.specs.declared.reply.Reply.TheVariants.{Done}
use Rattle.pg_engine.specs.declared.state.Outcome.TheVariants.{Unchanged}
use Rattle.pg_engine.specs.Kept.{Kept}
use Rattle.pg_engine.specs.Outcomes.{IsOutcome}
use Rattle.pg_engine.proofs.StepLemmas.{an_owner, cancel_made, cancel_nowhere, cancel_undelivered, is_none_of, is_some_of, no_owner, not_none, not_some_by}
use Rattle.pg_engine.proofs.state.State.cancel.Goals as goal

pub returns-then-is_none-clause-outcome : goal.returns-then-is_none-clause-outcome
returns-then-is_none-clause-outcome c =
    let none = no_owner (consumer_named c.args.self.consumers c.args.consumer) c.consumed_by.result c.consumed_by.ensures.queue (not_some_by (is_some c.consumed_by.result) c.is_none.result c.is_none.ensures c.if-is_none.true) in
    subst (λ o. IsOutcome c.args.self (Some (Cancel c.args.consumer c.args.message)) o) (sym c.refused.ensures) (cancel_nowhere c.args.self c.args.consumer c.args.message none)

pub returns-then-is_none-2-clause-outcome : goal.returns-then-is_none-2-clause-outcome
returns-then-is_none-2-clause-outcome c =
    let one = an_owner (consumer_named c.args.self.consumers c.args.consumer) c.consumed_by.result c.consumed_by.ensures.queue (not_none (is_some c.consumed_by.result) c.is_none.result c.is_none.ensures c.if-is_none.false) in
    let none = is_none_of (flight_from c.args.consumer c.args.message c.args.self.consumers) c.flight.result c.flight.ensures.from (not_some_by (is_some c.flight.result) c.is_none-2.result c.is_none-2.ensures c.if-is_none-2.true) in
    subst (λ o. IsOutcome c.args.self (Some (Cancel c.args.consumer c.args.message)) o) (sym c.refused-then-is_none-2.ensures) (cancel_undelivered c.args.self c.args.consumer one.0 one.1 c.args.message none)

pub put_back-requires : goal.put_back-requires
put_back-requires c =
    let some = is_some_of (flight_from c.args.consumer c.args.message c.args.self.consumers) c.flight.result c.flight.ensures.from (not_none (is_some c.flight.result) c.is_none-2.result c.is_none-2.ensures c.if-is_none-2.false) in
    ap is_some some.1

pub returns-clause-outcome : goal.returns-clause-outcome
returns-clause-outcome c =
    let some = is_some_of (flight_from c.args.consumer c.args.message c.args.self.consumers) c.flight.result c.flight.ensures.from (not_none (is_some c.flight.result) c.is_none-2.result c.is_none-2.ensures c.if-is_none-2.false) in
    subst (λ (k : Kept). IsOutcome c.args.self (Some (Cancel c.args.consumer c.args.message)) (Unchanged k Done)) (sym c.in_ok-put_back.ensures)
    (cancel_made c.args.self c.args.consumer c.args.message some.0 some.1)
