use Rattle.std.proofs.Common.{◌≡◌, true, ℕ, List, Option, Some, is_some, sym, subst, ◌∙◌, ap}
use Rattle.pg_model.specs.Actions.{Receive}
use Rattle.std.specs.Prelude.{IfSome}
use Rattle.pg_msg.specs.declared.message.Message.{Message}
use Rattle.pg_msg.specs.declared.reply.Reply.{Reply}
use Rattle.pg_msg.specs.declared.reply.Reply.TheVariants.{Empty, Given}
use Rattle.pg_engine.specs.declared.state.Outcome.TheVariants.{Unchanged}
use Rattle.pg_engine.specs.Kept.{Kept, after_giving, broker_of}
use Rattle.pg_model.specs.Broker.{Consumer, Queue, consumer_named, queue_with}
use Rattle.pg_engine.specs.Outcomes.{IsOutcome}
use Rattle.pg_engine.proofs.StepLemmas.{an_owner, no_owner, not_none, not_some_by, queue_there, receive_none, receive_nowhere, receive_some}
use Rattle.pg_engine.proofs.state.State.receive.Goals as goal
use Rattle.pg_engine.proofs.state.State.receive.Goals.{in-Some, in-None}

pub returns-then-is_none-clause-outcome : goal.returns-then-is_none-clause-outcome
returns-then-is_none-clause-outcome c =
    let none = no_owner (consumer_named c.args.self.consumers c.args.consumer) c.consumed_by.result c.consumed_by.ensures.queue (not_some_by (is_some c.consumed_by.result) c.is_none.result c.is_none.ensures c.if-is_none.true) in
    subst (λ o. IsOutcome c.args.self (Some (Receive c.args.consumer)) o) (sym c.refused.ensures) (receive_nowhere c.args.self c.args.consumer none)

pub give-requires : goal.give-requires
give-requires c =
    let one = an_owner (consumer_named c.args.self.consumers c.args.consumer) c.consumed_by.result c.consumed_by.ensures.queue (not_none (is_some c.consumed_by.result) c.is_none.result c.is_none.ensures c.if-is_none.false) in
    ap is_some one.1

-- a queue that was found by the consumer that has it
owned_queue : (s : Kept) (name : List ℕ) (one : Consumer) (r : Option ℕ) → r ≡ Some one.queue → IfSome r (λ queue. is_some (queue_with (broker_of s).durable.queues queue) ≡ true) → (q : Queue) × (queue_with (broker_of s).durable.queues one.queue ≡ Some q)
owned_queue s name one r is live = queue_there (queue_with (broker_of s).durable.queues one.queue) (subst (λ (o : Option ℕ). IfSome o (λ queue. is_some (queue_with (broker_of s).durable.queues queue) ≡ true)) is live)

pub returns-clause-outcome : goal.returns-clause-outcome
returns-clause-outcome c =
    let s = c.args.self in
    let name = c.args.consumer in
    let one = an_owner (consumer_named s.consumers name) c.consumed_by.result c.consumed_by.ensures.queue (not_none (is_some c.consumed_by.result) c.is_none.result c.is_none.ensures c.if-is_none.false) in
    let q = owned_queue s name one.0 c.consumed_by.result one.2 c.consumed_by.ensures.live in
    elim c.match-branch-2.branch [
      | in-Some w ↦
          subst (λ (r : Reply). IsOutcome s (Some (Receive name)) (Unchanged c.give.new.self r)) (sym w.reply-is)
          (subst (λ (k : Kept). IsOutcome s (Some (Receive name)) (Unchanged k (Given w.in-Some.message)))
          (sym (c.in_ok-message.ensures.taken ∙ ap (λ (o : Option Message). after_giving name o s) w.in-Some.is))
          (receive_some s name one.0 one.1 q.0 w.in-Some.message q.1 (sym w.in-Some.is ∙ c.in_ok-message.ensures.given)))
      | in-None w ↦
          subst (λ (r : Reply). IsOutcome s (Some (Receive name)) (Unchanged c.give.new.self r)) (sym w.reply-is)
          (subst (λ (k : Kept). IsOutcome s (Some (Receive name)) (Unchanged k Empty))
          (sym (c.in_ok-message.ensures.taken ∙ ap (λ (o : Option Message). after_giving name o s) w.in-None.is))
          (receive_none s name one.0 one.1 q.0 q.1 (sym w.in-None.is ∙ c.in_ok-message.ensures.given)))
    ]
