-- How queues and consumers are kept beside each other, and what they are seen as.
use Rattle.std.specs.Prelude.{◌≡◌, ◌≤◌, ◌==◌, ◌&&◌, ℕ, Bool, true, None, List, [], ◌∷◌, map, if◌then◌else◌}
use Rattle.std.specs.List.{count_by, list_any, AllByRecursion}
use Rattle.std.specs.Option.{option_map_or}
use Rattle.std.specs.Str.{bytes_eq}
use Rattle.pg_msg.specs.declared.message.MessageId.{MessageId}
use Rattle.pg_model.specs.Broker.{Consumer, consumer_named}
use Rattle.pg_model.specs.Steps.{is_in_flight}
use Rattle.pg_flight.specs.declared.delivery.Delivery.{Delivery}
use Rattle.pg_flight.specs.Consumers.{OpenConsumer}
use Rattle.pg_queue.specs.Entries.{Contents, Entry}
use Rattle.pg_dispatch.specs.Dispatch.{Dispatch, Line, has_id, has_line, line_of, with_message}

-- ---- what they are seen as
-- a queue's entries as their messages, in their order
abbrev pub line_seen : Contents → Line
line_seen queue = record { queue = queue.id; ids = map (λ entry. entry.id) queue.entries }

abbrev pub lines_seen : List Contents → List Line
lines_seen queues = map line_seen queues

-- a consumer's deliveries as their messages, in their order
abbrev pub consumer_seen : OpenConsumer → Consumer
consumer_seen consumer = record {
  name = consumer.name;
  queue = consumer.queue;
  in_flight = map (λ delivery. delivery.id) consumer.deliveries;
}

abbrev pub consumers_seen : List OpenConsumer → List Consumer
consumers_seen consumers = map consumer_seen consumers

-- both together
abbrev pub seen : List Contents → List OpenConsumer → Dispatch
seen queues consumers = record { lines = lines_seen queues; consumers = consumers_seen consumers }

-- ---- what is true of lines and consumers beside each other
-- the messages of that queue, and none where there is no such queue
abbrev pub ids_in : ℕ → List Line → List MessageId
ids_in queue lines = option_map_or (λ line. line.ids) (line_of queue lines) []

-- what the consumer of that name has in flight, and nothing where there is none
abbrev pub flights_to : List ℕ → List Consumer → List MessageId
flights_to name consumers = option_map_or (λ consumer. consumer.in_flight) (consumer_named consumers name) []

-- the consumer has the message of that queue in flight
abbrev pub holds : ℕ → MessageId → Consumer → Bool
holds queue id consumer = (consumer.queue == queue) && has_id id consumer.in_flight

-- the message stands behind the others of that queue, unless it is there already
abbrev pub given_once : ℕ → MessageId → Dispatch → Dispatch
given_once queue id d = if has_id id (ids_in queue d.lines) then d else with_message (queue ∷ []) id d

-- The queue of each consumer is there, and holds what is in flight from it. No two consumers have one name, or one message of a
-- queue in flight.
pub record IsWhole (d : Dispatch) : Type 0 where
  pub live : (queue : ℕ) → list_any (λ consumer. consumer.queue == queue) d.consumers ≡ true
      → has_line queue d.lines ≡ true
  pub held : (queue : ℕ) (id : MessageId) → is_in_flight d.consumers queue id ≡ true
      → has_id id (ids_in queue d.lines) ≡ true
  pub named : (name : List ℕ) → count_by (λ consumer. bytes_eq name consumer.name) d.consumers ≤ 1
  pub once : (queue : ℕ) (id : MessageId) → count_by (holds queue id) d.consumers ≤ 1

-- ---- how they are kept
-- an entry of that queue stands in no page, and is taken exactly where it is in flight
pub record IsMarked (flies : ℕ → MessageId → Bool) (queue : ℕ) (entry : Entry) : Type 0 where
  pub place : entry.place ≡ None
  pub taken : entry.taken ≡ flies queue entry.id

abbrev pub AreMarked : (ℕ → MessageId → Bool) → List Contents → Type 0
AreMarked flies queues = AllByRecursion (λ queue. AllByRecursion (IsMarked flies queue.id) queue.entries) queues

-- a delivery is from that queue, and stands in no page
pub record IsFrom (queue : ℕ) (delivery : Delivery) : Type 0 where
  pub queue_is : delivery.queue ≡ queue
  pub place : delivery.place ≡ None

abbrev pub AreTheirs : List OpenConsumer → Type 0
AreTheirs consumers = AllByRecursion (λ consumer. AllByRecursion (IsFrom consumer.queue) consumer.deliveries) consumers

-- An entry is taken exactly where some consumer of its queue has it in flight, and each consumer was given entries of its queue.
pub record AreMatched (queues : List Contents) (consumers : List OpenConsumer) : Type 0 where
  pub whole : IsWhole (seen queues consumers)
  pub marked : AreMarked (is_in_flight (consumers_seen consumers)) queues
  pub theirs : AreTheirs consumers
