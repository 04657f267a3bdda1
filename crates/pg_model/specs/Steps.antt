-- What each line does to the broker, and what line after line does.
use Rattle.std.specs.Prelude.{◌≡◌, ℕ, Bool, not, ◌&&◌, ◌==◌, List, [], ◌∷◌, ◌++◌, length, find, Option, Some, None, MatchOption}
use Rattle.std.specs.List.{list_any}
use Rattle.pg_msg.specs.declared.command.Command.{Command}
use Rattle.pg_msg.specs.declared.message.Message.{Message}
use Rattle.pg_msg.specs.declared.message.MessageId.{MessageId}
use Rattle.pg_msg.specs.declared.properties.Property.{Property}
use Rattle.pg_msg.specs.declared.reply.Refusal.{Refusal}
use Rattle.pg_msg.specs.declared.reply.Refusal.TheVariants as refusal
use Rattle.pg_msg.specs.declared.reply.Reply.{Reply}
use Rattle.pg_msg.specs.declared.reply.Reply.TheVariants as answer
use Rattle.pg_model.specs.Actions.{Action, MakeAddress, MakeQueue, DropQueue, Send, Open, Receive, Acknowledge, Cancel, Close, Count, action_of}
use Rattle.pg_model.specs.Broker.{Queue, Consumer, Broker, address_named, queue_named, queue_with, consumer_named, same_id}
use Rattle.pg_model.specs.Causes.{IsFirst}
use Rattle.pg_model.specs.Changes.{with_durable, with_consumers, with_queues, with_address, with_queue, without_queue, next_id, message_of, with_message, acknowledged, with_id, without_id, with_flights, without_consumer}
use Rattle.pg_model.specs.Refusals.{View, causes}
use Rattle.pg_model.specs.Routing.{HasReading, IsRouted, text_of}

-- A message goes to these queues, and where there are none it goes nowhere.
abbrev pub Sends : Broker → List ℕ → List Property → List ℕ → Reply → Broker → Type 0
Sends s [] properties body reply t = (reply ≡ answer.Unrouted) × (t ≡ s)
Sends s (number ∷ numbers) properties body reply t =
    (reply ≡ answer.Sent (next_id s))
    × (t ≡ with_message s (number ∷ numbers) (message_of (next_id s) properties body))

-- a consumer of the queue has the message in flight
abbrev pub is_in_flight : List Consumer → ℕ → MessageId → Bool
is_in_flight consumers queue id = list_any (λ c. (c.queue == queue) && list_any (λ other. same_id other id) c.in_flight) consumers

-- the first message of the queue that isn't in flight
abbrev pub available : Broker → Queue → Option Message
available s q = find (λ m. not (is_in_flight s.running.consumers q.id m.id)) q.messages

-- The consumer gets the message, and where there is none it gets nothing.
abbrev pub Gives : Broker → List ℕ → Option Message → Reply → Broker → Type 0
Gives s consumer None reply t = (reply ≡ answer.Empty) × (t ≡ s)
Gives s consumer (Some m) reply t =
    (reply ≡ answer.Given m) × (t ≡ with_consumers s (with_flights consumer (with_id m.id) s.running.consumers))

-- it is done, and this is the state behind it
abbrev pub IsDone : Reply → Broker → Broker → Type 0
IsDone reply t is = (reply ≡ answer.Done) × (t ≡ is)

-- what an action does that isn't refused
abbrev pub Does : Broker → Action → Reply → Broker → Type 0
Does s (MakeAddress name settings) reply t = IsDone reply t (with_durable s (with_address s.durable name settings))
Does s (MakeQueue name address filter) reply t =
    HasReading filter × MatchOption (address_named s.durable.addresses address) ⊥
    (λ id. IsDone reply t (with_durable s (with_queue s.durable name id (text_of filter))))
Does s (DropQueue name) reply t =
    MatchOption (queue_named s.durable.queues name) ⊥
    (λ q. IsDone reply t (with_durable s (with_queues s.durable (without_queue q.id s.durable.queues))))
Does s (Send address properties body) reply t =
    MatchOption (address_named s.durable.addresses address) ⊥
    (λ id. (numbers : List ℕ) × IsRouted s id properties numbers × Sends s numbers properties body reply t)
Does s (Open name queue) reply t =
    MatchOption (queue_named s.durable.queues queue) ⊥
    (λ q. IsDone reply t (with_consumers s
    (s.running.consumers ++ (record { name = name; queue = q.id; in_flight = [] } ∷ []))))
Does s (Receive consumer) reply t =
    MatchOption (consumer_named s.running.consumers consumer) ⊥
    (λ c. MatchOption (queue_with s.durable.queues c.queue) ⊥ (λ q. Gives s consumer (available s q) reply t))
Does s (Acknowledge consumer id) reply t =
    MatchOption (consumer_named s.running.consumers consumer) ⊥
    (λ c. IsDone reply t (with_durable
    (with_consumers s (with_flights consumer (without_id id) s.running.consumers))
    (with_queues s.durable (acknowledged c.queue id s.durable.queues))))
Does s (Cancel consumer id) reply t =
    IsDone reply t (with_consumers s (with_flights consumer (without_id id) s.running.consumers))
Does s (Close consumer) reply t = IsDone reply t (with_consumers s (without_consumer consumer s.running.consumers))
Does s (Count queue) reply t =
    MatchOption (queue_named s.durable.queues queue) ⊥
    (λ q. (reply ≡ answer.Count (length q.messages)) × (t ≡ s))

-- after a refusal all is as before
abbrev pub Refuses : Broker → Refusal → Reply → Broker → Type 0
Refuses s refusal reply t = (reply ≡ answer.No refusal) × (t ≡ s)

-- it is refused for this, or it isn't
abbrev pub Answers : Broker → Action → Option Refusal → Reply → Broker → Type 0
Answers s action None reply t = Does s action reply t
Answers s action (Some refusal) reply t = Refuses s refusal reply t

-- an action is refused for the first of its causes that holds, and does what it does where none holds
pub record Acts (view : View) (s : Broker) (action : Action) (reply : Reply) (t : Broker) : Type 0 where
  pub refusal : Option Refusal
  pub first : IsFirst (causes view s action) refusal
  pub answers : Answers s action refusal reply t

-- the action that a line asks for, if it is a command that has one
abbrev pub asked : Option Command → Option Action
asked None = None
asked (Some command) = action_of command

-- Without an action the line is unreadable.
abbrev pub Takes : View → Broker → Option Action → Reply → Broker → Type 0
Takes view s None reply t = Refuses s refusal.Line reply t
Takes view s (Some action) reply t = Acts view s action reply t

-- one line: a command, or an unreadable one
abbrev pub Step : View → Broker → Option Command → Reply → Broker → Type 0
Step view s item reply t = Takes view s (asked item) reply t

-- the same under some view that is seen of the state before it
abbrev pub StepSeen : (Broker → View → Type 0) → Broker → Option Command → Reply → Broker → Type 0
StepSeen Sees s item reply t = (view : View) × Sees s view × Step view s item reply t

-- line after line, with one reply and one state each
abbrev pub Run : (Broker → View → Type 0) → Broker → List (Option Command) → List Reply → List Broker → Type 0
Run Sees s [] [] [] = Unit {0}
Run Sees s (item ∷ items) (reply ∷ replies) (t ∷ states) =
    StepSeen Sees s item reply t × Run Sees t items replies states
Run Sees s _ _ _ = ⊥

-- the last of the states, or the first one where there is no other
abbrev pub last_state : Broker → List Broker → Broker
last_state s [] = s
last_state s (t ∷ states) = last_state t states
