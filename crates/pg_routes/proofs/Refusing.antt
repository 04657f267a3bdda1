-- Replies that leave all as it was.
use Rattle.std.proofs.Common.{◌≡◌, ℕ, List, [], ◌∷◌, ◌++◌, length, Option, Some, None}
use Rattle.std.specs.Prelude.{MatchOption}
use Rattle.pg_msg.specs.declared.message.Message.{Message}
use Rattle.pg_msg.specs.declared.message.MessageId.{MessageId}
use Rattle.pg_msg.specs.declared.properties.Property.{Property}
use Rattle.pg_msg.specs.declared.reply.Refusal.{Refusal}
use Rattle.pg_msg.specs.declared.reply.Reply.{Reply}
use Rattle.pg_msg.specs.declared.reply.Reply.TheVariants as answer
use Rattle.pg_model.specs.Actions.{Action, MakeAddress, MakeQueue, DropQueue, Send, Open, Receive, Acknowledge, Cancel, Close, Count}
use Rattle.pg_model.specs.Broker.{Broker, queue_named, queue_with, consumer_named}
use Rattle.pg_model.specs.Changes.{with_durable, with_consumers, with_queues, without_queue, acknowledged, without_id, with_flights}
use Rattle.pg_model.specs.Refusals.{View}
use Rattle.pg_model.specs.Steps.{Sends, Gives, IsDone, Does, Answers, Acts, Takes, available}
use Rattle.pg_routes.proofs.Done.{QueueMade, queue_made, MessageSent, message_sent}
use Rattle.pg_routes.proofs.Members.{matched}

-- the reply of a line that may have changed something
pub record IsQuiet (reply : Reply) : Type 0 where
  pub done : reply ≡ answer.Done → ⊥
  pub sent : (id : MessageId) → reply ≡ answer.Sent id → ⊥
  pub given : (m : Message) → reply ≡ answer.Given m → ⊥

quiet_send : (s t : Broker) (numbers : List ℕ) (properties : List Property) (body : List ℕ) (reply : Reply) → IsQuiet reply → Sends s numbers properties body reply t → t ≡ s
quiet_send s t [] properties body reply quiet sends = sends.1
quiet_send s t (number ∷ numbers) properties body reply quiet sends = absurd (quiet.sent _ sends.0)

quiet_give : (s t : Broker) (consumer : List ℕ) (o : Option Message) (reply : Reply) → IsQuiet reply → Gives s consumer o reply t → t ≡ s
quiet_give s t consumer None reply quiet gives = gives.1
quiet_give s t consumer (Some m) reply quiet gives = absurd (quiet.given m gives.0)

quiet_does : (s t : Broker) (action : Action) (reply : Reply) → IsQuiet reply → Does s action reply t → t ≡ s
quiet_does s t (MakeAddress name settings) reply quiet does = absurd (quiet.done does.0)
quiet_does s t (MakeQueue name address filter) reply quiet does =
    let made : QueueMade s t name address filter reply = queue_made s t name address filter reply does in
    absurd (quiet.done made.done)
quiet_does s t (DropQueue name) reply quiet does =
    let at = matched (queue_named s.durable.queues name) (λ q. IsDone reply t (with_durable s (with_queues s.durable (without_queue q.id s.durable.queues)))) does in
    absurd (quiet.done at.2.0)
quiet_does s t (Send address properties body) reply quiet does =
    let sent : MessageSent s t address properties body reply = message_sent s t address properties body reply does in
    quiet_send s t sent.numbers properties body reply quiet sent.sends
quiet_does s t (Open name queue) reply quiet does =
    let at = matched (queue_named s.durable.queues queue) (λ q. IsDone reply t (with_consumers s (s.running.consumers ++ (record { name = name; queue = q.id; in_flight = [] } ∷ [])))) does in
    absurd (quiet.done at.2.0)
quiet_does s t (Receive consumer) reply quiet does =
    let at = matched (consumer_named s.running.consumers consumer) (λ c. MatchOption (queue_with s.durable.queues c.queue) ⊥ (λ q. Gives s consumer (available s q) reply t)) does in
    let of = matched (queue_with s.durable.queues at.0.queue) (λ q. Gives s consumer (available s q) reply t) at.2 in
    quiet_give s t consumer (available s of.0) reply quiet of.2
quiet_does s t (Acknowledge consumer id) reply quiet does =
    let at = matched (consumer_named s.running.consumers consumer) (λ c. IsDone reply t (with_durable (with_consumers s (with_flights consumer (without_id id) s.running.consumers)) (with_queues s.durable (acknowledged c.queue id s.durable.queues)))) does in
    absurd (quiet.done at.2.0)
quiet_does s t (Cancel consumer id) reply quiet does = absurd (quiet.done does.0)
quiet_does s t (Close consumer) reply quiet does = absurd (quiet.done does.0)
quiet_does s t (Count queue) reply quiet does =
    let at = matched (queue_named s.durable.queues queue) (λ q. (reply ≡ answer.Count (length q.messages)) × (t ≡ s)) does in
    at.2.1

quiet_answers : (s t : Broker) (action : Action) (refusal : Option Refusal) (reply : Reply) → IsQuiet reply → Answers s action refusal reply t → t ≡ s
quiet_answers s t action None reply quiet answers = quiet_does s t action reply quiet answers
quiet_answers s t action (Some refusal) reply quiet answers = answers.1

pub quiet_acts : (view : View) (s t : Broker) (action : Action) (reply : Reply) → IsQuiet reply → Acts view s action reply t → t ≡ s
quiet_acts view s t action reply quiet acts = quiet_answers s t action acts.refusal reply quiet acts.answers

pub quiet_takes : (view : View) (s t : Broker) (asked : Option Action) (reply : Reply) → IsQuiet reply → Takes view s asked reply t → t ≡ s
quiet_takes view s t None reply quiet takes = takes.1
quiet_takes view s t (Some action) reply quiet takes = quiet_acts view s t action reply quiet takes

-- the replies that are so
pub quiet_no : (refusal : Refusal) → IsQuiet (answer.No refusal)
quiet_no refusal = record { done = λ is. cc; sent = λ id is. cc; given = λ m is. cc }

pub quiet_unrouted : IsQuiet answer.Unrouted
quiet_unrouted = record { done = λ is. cc; sent = λ id is. cc; given = λ m is. cc }

pub quiet_empty : IsQuiet answer.Empty
quiet_empty = record { done = λ is. cc; sent = λ id is. cc; given = λ m is. cc }

pub quiet_count : (n : ℕ) → IsQuiet (answer.Count n)
quiet_count n = record { done = λ is. cc; sent = λ id is. cc; given = λ m is. cc }
