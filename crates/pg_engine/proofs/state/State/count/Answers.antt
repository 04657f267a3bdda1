use Rattle.std.proofs.Common.{Some, sym, subst, ◌∙◌}
use Rattle.pg_model.specs.Actions.{Count}
use Rattle.pg_model.specs.Broker.{queue_named}
use Rattle.pg_engine.specs.Kept.{broker_of}
use Rattle.pg_engine.specs.Outcomes.{IsOutcome}
use Rattle.pg_engine.proofs.StepLemmas.{count_nowhere, count_made, none_length}
use Rattle.pg_engine.proofs.state.State.count.Goals as goal

pub returns-in-Some : goal.returns-in-Some
returns-in-Some c =
    subst (λ o. IsOutcome c.args.self (Some (Count c.args.queue)) o) (sym c.unchanged.ensures)
    (count_made c.args.self c.args.queue c.in-Some.count (sym c.count_of.ensures ∙ c.in-Some.is))

pub returns : goal.returns
returns c =
    subst (λ o. IsOutcome c.args.self (Some (Count c.args.queue)) o) (sym c.refused.ensures)
    (count_nowhere c.args.self c.args.queue (none_length (queue_named (broker_of c.args.self).durable.queues c.args.queue) (sym c.count_of.ensures ∙ c.in-None.is)))
