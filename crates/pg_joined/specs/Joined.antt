-- A broker whose messages stand in two places: the front of each queue with the broker itself, and the rest in pages.
use Rattle.std.specs.Prelude.{◌≡◌, ◌⊎◌, ◌+◌, ℕ, Bool, true, not, ◌&&◌, ◌==◌, if◌then◌else◌, List, [], ◌∷◌, ◌++◌, map, find, Option, Some, All, AllPairs}
use Rattle.std.specs.List.{list_any, Contains}
use Rattle.std.specs.Str.{bytes_eq}
use Rattle.pg_msg.specs.declared.message.Message.{Message}
use Rattle.pg_msg.specs.declared.message.MessageId.{MessageId}
use Rattle.pg_msg.specs.declared.properties.Property.{Property}
use Rattle.pg_msg.specs.declared.reply.Reply.{Reply}
use Rattle.pg_msg.specs.declared.reply.Reply.TheVariants as answer
use Rattle.pg_model.specs.Actions.{Action, Open, Acknowledge, Cancel}
use Rattle.pg_model.specs.Broker.{Queue, Consumer, Broker, HoldsMessage, address_named, same_id}
use Rattle.pg_model.specs.Changes.{with_queues, has_number, is_before, with_id}
use Rattle.pg_model.specs.Refusals.{HasConsumer, HasFlight}
use Rattle.pg_model.specs.Routing.{IsRouted}

-- the messages of each queue that stand in pages, by the queue's id and in their order
abbrev pub PagedMessages : Type 0
PagedMessages = ℕ → List Message

-- the ids of the messages in pages that are in flight for the consumer of a name
abbrev pub PagedFlights : Type 0
PagedFlights = List ℕ → List MessageId

-- ---- the whole
-- these ids, each put at its place among the others
abbrev pub merged : List MessageId → List MessageId → List MessageId
merged [] others = others
merged (id ∷ ids) others = with_id id (merged ids others)

-- a queue whose messages in pages stand behind the others
abbrev pub joined_queue : PagedMessages → Queue → Queue
joined_queue paged q = record q { messages = q.messages ++ paged q.id }

-- a consumer that has both in flight
abbrev pub joined_consumer : PagedFlights → Consumer → Consumer
joined_consumer flights c = record c { in_flight = merged (flights c.name) c.in_flight }

abbrev pub joined_queues : PagedMessages → List Queue → List Queue
joined_queues paged queues = map (joined_queue paged) queues

abbrev pub joined_consumers : PagedFlights → List Consumer → List Consumer
joined_consumers flights consumers = map (joined_consumer flights) consumers

-- the broker with these queues and consumers, and all else as it is
abbrev pub joined : PagedMessages → PagedFlights → Broker → Broker
joined paged flights s = record {
  durable = with_queues s.durable (joined_queues paged s.durable.queues);
  running = record { drawn = s.running.drawn; consumers = joined_consumers flights s.running.consumers };
  ids = s.ids;
}

-- ---- what stands in pages changes
-- for the consumers of one name
abbrev pub with_flights_at : List ℕ → (List MessageId → List MessageId) → PagedFlights → PagedFlights
with_flights_at name change flights other = if bytes_eq name other then change (flights other) else flights other

-- for the queue of one id
abbrev pub with_messages_at : ℕ → (List Message → List Message) → PagedMessages → PagedMessages
with_messages_at queue change paged other = if other == queue then change (paged other) else paged other

-- a message comes behind those in pages of each of these queues
abbrev pub with_paged : List ℕ → Message → PagedMessages → PagedMessages
with_paged numbers m paged other = if has_number numbers other then paged other ++ (m ∷ []) else paged other

-- one more message id is drawn
abbrev pub with_drawn : Broker → Broker
with_drawn s = record {
  durable = s.durable;
  running = record { drawn = s.running.drawn + 1; consumers = s.running.consumers };
  ids = s.ids;
}

-- there is nothing
abbrev pub nothing : {X : Type 0} → List X → List X
nothing xs = []

-- ---- when the two parts fit together
-- one of the messages has the id
abbrev pub HasMessage : List Message → MessageId → Type 0
HasMessage messages id = (m : Message) × Contains messages m × (m.id ≡ id)

-- each id comes before all later ones
abbrev pub Ascends : List MessageId → Type 0
Ascends ids = AllPairs (λ id other. is_before id other ≡ true) ids

-- What the broker has in flight ascends and is held by a queue that it has, for each consumer; what else is in flight for
-- a consumer stands in pages of its queue; and no id is both of a message of the broker's queue and of one in its pages.
pub record IsSplit (paged : PagedMessages) (flights : PagedFlights) (s : Broker) : Type 0 where
  pub ascending : All (λ c. Ascends c.in_flight) s.running.consumers
  pub held : All (λ c. All (λ id. HoldsMessage s.durable.queues c.queue id) c.in_flight) s.running.consumers
  pub in_pages : All (λ c. All (λ id. HasMessage (paged c.queue) id) (flights c.name)) s.running.consumers
  pub apart : All (λ q. All (λ m. HasMessage (paged q.id) m.id → ⊥) q.messages) s.durable.queues

-- ---- what laws ask
-- no cause of the action asks what is in flight
abbrev pub AsksNoFlight : Action → Type 0
AsksNoFlight (Acknowledge consumer id) = ⊥
AsksNoFlight (Cancel consumer id) = ⊥
AsksNoFlight _ = Unit {0}

-- the consumer isn't open, or has the message in flight with the broker itself, or doesn't have it in flight in pages
abbrev pub IsNotInPages : PagedFlights → Broker → List ℕ → MessageId → Type 0
IsNotInPages flights s consumer id =
    (HasConsumer s consumer → ⊥) ⊎ (HasFlight s consumer id ⊎ (Contains (flights consumer) id → ⊥))

-- where the action opens a consumer, nothing is in flight in pages for its name
abbrev pub OpensWithNone : PagedFlights → Action → Reply → Type 0
OpensWithNone flights (Open name queue) reply = reply ≡ answer.Done → flights name ≡ []
OpensWithNone flights _ reply = Unit {0}

-- a message of these properties to the address of that name goes to no queue that has messages in pages
abbrev pub GoesPastPages : PagedMessages → Broker → List ℕ → List Property → Type 0
GoesPastPages paged s address properties =
    (id : ℕ) (numbers : List ℕ) → address_named s.durable.addresses address ≡ Some id
    → IsRouted s id properties numbers → All (λ number. paged number ≡ []) numbers

-- a consumer of the queue has the message in flight in pages
abbrev pub is_in_paged_flight : PagedFlights → List Consumer → ℕ → MessageId → Bool
is_in_paged_flight flights consumers queue id =
    list_any (λ c. (c.queue == queue) && list_any (λ other. same_id other id) (flights c.name)) consumers

-- the first message in pages of the queue that isn't in flight
abbrev pub paged_available : PagedMessages → PagedFlights → Broker → Queue → Option Message
paged_available paged flights s q =
    find (λ m. not (is_in_paged_flight flights s.running.consumers q.id m.id)) (paged q.id)
