use Rattle.std.proofs.Common.{Some, is_some, sym, subst, ap}
use Rattle.pg_model.specs.Actions.{Close}
use Rattle.pg_model.specs.Broker.{consumer_named}
use Rattle.pg_msg.specs.declared.reply.Reply.TheVariants.{Done}
use Rattle.pg_engine.specs.declared.state.Outcome.TheVariants.{Unchanged}
use Rattle.pg_engine.specs.Kept.{Kept}
use Rattle.pg_engine.specs.Outcomes.{IsOutcome}
use Rattle.pg_engine.proofs.StepLemmas.{an_owner, close_made, close_nowhere, no_owner, not_none, not_some_by}
use Rattle.pg_engine.proofs.state.State.close.Goals as goal

pub returns-then-is_none-clause-outcome : goal.returns-then-is_none-clause-outcome
returns-then-is_none-clause-outcome c =
    let none = no_owner (consumer_named c.args.self.consumers c.args.consumer) c.consumed_by.result c.consumed_by.ensures.queue (not_some_by (is_some c.consumed_by.result) c.is_none.result c.is_none.ensures c.if-is_none.true) in
    subst (λ o. IsOutcome c.args.self (Some (Close c.args.consumer)) o) (sym c.refused.ensures) (close_nowhere c.args.self c.args.consumer none)

pub shut-requires : goal.shut-requires
shut-requires c =
    let one = an_owner (consumer_named c.args.self.consumers c.args.consumer) c.consumed_by.result c.consumed_by.ensures.queue (not_none (is_some c.consumed_by.result) c.is_none.result c.is_none.ensures c.if-is_none.false) in
    ap is_some one.1

pub returns-clause-outcome : goal.returns-clause-outcome
returns-clause-outcome c =
    let one = an_owner (consumer_named c.args.self.consumers c.args.consumer) c.consumed_by.result c.consumed_by.ensures.queue (not_none (is_some c.consumed_by.result) c.is_none.result c.is_none.ensures c.if-is_none.false) in
    subst (λ (k : Kept). IsOutcome c.args.self (Some (Close c.args.consumer)) (Unchanged k Done)) (sym c.in_ok-shut.ensures) (close_made c.args.self c.args.consumer one.0 one.1)
