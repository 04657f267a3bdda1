-- The broker that replies are those of: what it keeps, and when that is valid.
use Rattle.std.specs.Prelude.{◌≡◌, ◌≢◌, ◌⊎◌, ◌≤◌, ◌<◌, ◌+◌, ℕ, Bool, ◌&&◌, ◌==◌, List, [], ◌∷◌, ◌++◌, map, find, position, Option, All, AllPairs}
use Rattle.std.specs.List.{Contains}
use Rattle.std.specs.Option.{option_map}
use Rattle.std.specs.Str.{bytes_eq}
use Rattle.pg_msg.specs.declared.message.Message.{Message}
use Rattle.pg_msg.specs.declared.message.MessageId.{MessageId}
use Rattle.pg_parse.specs.FilterTexts.{IsReadable}

-- how an address keeps messages: `max` and `ahead` are bytes of messages, `page` is bytes of a page file, and `dup` is a
-- count of duplicate ids
pub record Settings : Type 0 where
  pub max : ℕ
  pub page : ℕ
  pub ahead : ℕ
  pub dup : ℕ

-- an address; its id is its place among the addresses, from 1
pub record Address : Type 0 where
  pub name : List ℕ
  pub settings : Settings

-- a live queue: its id, its name, the id of its address, the text of its filter, which is empty where it has none, and
-- its messages in their order
pub record Queue : Type 0 where
  pub id : ℕ
  pub name : List ℕ
  pub address : ℕ
  pub filter : List ℕ
  pub messages : List Message

-- What outlives a run: the epoch, the id that the next queue gets, and addresses and queues in the order of their making.
pub record Durable : Type 0 where
  pub epoch : ℕ
  pub next : ℕ
  pub addresses : List Address
  pub queues : List Queue

-- an open consumer: its name, the id of its queue, and the ids of the messages in flight for it, which ascend
pub record Consumer : Type 0 where
  pub name : List ℕ
  pub queue : ℕ
  pub in_flight : List MessageId

-- What ends with a run: how many message ids were drawn, and the consumers in the order of their opening.
pub record Running : Type 0 where
  pub drawn : ℕ
  pub consumers : List Consumer

-- the state of a broker, and how many message ids an epoch has
pub record Broker : Type 0 where
  pub durable : Durable
  pub running : Running
  pub ids : ℕ

-- nothing was made yet
abbrev pub fresh : Durable
fresh = record { epoch = 0; next = 1; addresses = []; queues = [] }

-- in the next epoch
abbrev pub next_epoch : Durable → Durable
next_epoch d = record { epoch = d.epoch + 1; next = d.next; addresses = d.addresses; queues = d.queues }

-- a run that has just begun
abbrev pub at_rest : Running
at_rest = record { drawn = 0; consumers = [] }

-- opened anew: in the next epoch, and nothing of the run before is left
abbrev pub opened_from : ℕ → Durable → Broker
opened_from ids d = record { durable = next_epoch d; running = at_rest; ids = ids }

-- ---- what is found by a name, an id or an address
-- the id of the address of that name
abbrev pub address_named : List Address → List ℕ → Option ℕ
address_named addresses name = option_map (λ place. place + 1) (position (λ a. bytes_eq name a.name) addresses)

abbrev pub queue_named : List Queue → List ℕ → Option Queue
queue_named queues name = find (λ q. bytes_eq name q.name) queues

abbrev pub queue_with : List Queue → ℕ → Option Queue
queue_with queues id = find (λ q. q.id == id) queues

abbrev pub consumer_named : List Consumer → List ℕ → Option Consumer
consumer_named consumers name = find (λ c. bytes_eq name c.name) consumers

-- two ids of messages are one
abbrev pub same_id : MessageId → MessageId → Bool
same_id a b = (a.epoch == b.epoch) && (a.number == b.number)

-- the ids of all messages in flight, with the id of the queue that each is in flight from
abbrev pub flights_of : Consumer → List (ℕ × MessageId)
flights_of c = map (λ id. (c.queue, id)) c.in_flight

abbrev pub flights : List Consumer → List (ℕ × MessageId)
flights [] = []
flights (c ∷ consumers) = flights_of c ++ flights consumers

-- ---- valid states
-- the id was drawn: it is of an earlier epoch, or it isn't above those that were drawn in this one
abbrev pub IsDrawn : ℕ → ℕ → MessageId → Type 0
IsDrawn epoch drawn id = (id.epoch < epoch) ⊎ ((id.epoch ≡ epoch) × (id.number ≤ drawn))

-- a queue holds each of its messages once, and all their ids were drawn
pub record AreHeld (epoch drawn : ℕ) (messages : List Message) : Type 0 where
  pub distinct : AllPairs (λ m other. m.id ≢ other.id) messages
  pub were_drawn : All (λ m. IsDrawn epoch drawn m.id) messages

-- a live queue has this id and holds a message of that one
pub record HoldsMessage (queues : List Queue) (queue : ℕ) (id : MessageId) : Type 0 where
  pub holder : Queue
  pub live : Contains queues holder
  pub is_queue : holder.id ≡ queue
  pub message : Message
  pub held : Contains holder.messages message
  pub is_message : message.id ≡ id

-- some live queue has the id
pub record IsLive (queues : List Queue) (queue : ℕ) : Type 0 where
  pub one : Queue
  pub live : Contains queues one
  pub is_queue : one.id ≡ queue

-- Names and ids differ, ids of queues are below the next one and those of messages were drawn, filters are readable, the
-- queue of a consumer is live, and what is in flight is held by its queue and in flight once.
pub record IsValid (s : Broker) : Type 0 where
  pub addresses : AllPairs (λ a other. a.name ≢ other.name) s.durable.addresses
  pub names : AllPairs (λ q other. q.name ≢ other.name) s.durable.queues
  pub ids : AllPairs (λ q other. q.id ≢ other.id) s.durable.queues
  pub below : All (λ q. q.id < s.durable.next) s.durable.queues
  pub readable : All (λ q. IsReadable q.filter) s.durable.queues
  pub held : All (λ q. AreHeld s.durable.epoch s.running.drawn q.messages) s.durable.queues
  pub consumers : AllPairs (λ c other. c.name ≢ other.name) s.running.consumers
  pub live : All (λ c. IsLive s.durable.queues c.queue) s.running.consumers
  pub there : All (λ flight. HoldsMessage s.durable.queues flight.0 flight.1) (flights s.running.consumers)
  pub once : AllPairs (λ flight other. flight ≢ other) (flights s.running.consumers)
