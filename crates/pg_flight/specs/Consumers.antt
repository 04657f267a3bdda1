-- The open consumers, and what is in flight for each.
use Rattle.std.specs.Prelude.{◌==◌, ◌≡◌, ◌≢◌, ℕ, Bool, not, Option, None, List, [], map, filter, find, AllPairs, if◌then◌else◌}
use Rattle.std.specs.List.{list_any}
use Rattle.std.specs.Option.{option_map_or, option_and_then}
use Rattle.std.specs.Str.{bytes_eq}
use Rattle.pg_msg.specs.declared.message.MessageId.{MessageId}
use Rattle.pg_flight.specs.declared.delivery.Delivery.{Delivery}
use Rattle.pg_flight.specs.declared.names.Row.{Row}
use Rattle.pg_flight.specs.Deliveries.{delivery_with}
use Rattle.pg_flight.specs.Flights.{Holder, deliveries_of}
use Rattle.pg_flight.specs.Names.{named}

-- an open consumer: its name, the id of its queue, and what is in flight for it, in the order of the messages' ids
pub record OpenConsumer : Type 0 where
  pub name : List ℕ
  pub queue : ℕ
  pub deliveries : List Delivery

-- the consumer of that name
abbrev pub open_named : List ℕ → List OpenConsumer → Option OpenConsumer
open_named name consumers = find (λ consumer. bytes_eq name consumer.name) consumers

-- the delivery of that message to the consumer of that name
abbrev pub delivery_to : List ℕ → MessageId → List OpenConsumer → Option Delivery
delivery_to name id consumers =
    option_and_then (λ consumer. delivery_with id consumer.deliveries) (open_named name consumers)

-- what is in flight for the consumer of that name, and nothing where there is none
abbrev pub deliveries_to : List ℕ → List OpenConsumer → List Delivery
deliveries_to name consumers = option_map_or (λ consumer. consumer.deliveries) (open_named name consumers) []

-- some consumer is open on the queue
abbrev pub is_consumed : ℕ → List OpenConsumer → Bool
is_consumed queue consumers = list_any (λ consumer. consumer.queue == queue) consumers

-- what is in flight for the consumer of that name is changed so, and for the others it stays
abbrev pub changed_for : List ℕ → (List Delivery → List Delivery) → List OpenConsumer → List OpenConsumer
changed_for name change consumers =
    map {A = OpenConsumer}
    (λ consumer. if bytes_eq name consumer.name then record consumer { deliveries = change consumer.deliveries } else consumer)
    consumers

-- the consumers but the one of that name
abbrev pub without_open : List ℕ → List OpenConsumer → List OpenConsumer
without_open name consumers = filter (λ consumer. not (bytes_eq name consumer.name)) consumers

-- no two have one name
abbrev pub AreNamedApart : List OpenConsumer → Type 0
AreNamedApart consumers = AllPairs (λ consumer other. consumer.name ≢ other.name) consumers

-- ---- how they are kept
-- the consumer of the row, with what is in flight for its name
abbrev pub consumer_of : List Holder → Row → OpenConsumer
consumer_of flights row = record { name = row.name; queue = row.queue; deliveries = deliveries_of flights row.name }

abbrev pub consumers_of : List Holder → List Row → List OpenConsumer
consumers_of flights rows = map (consumer_of flights) rows

-- nothing is in flight for a name that no row has
abbrev pub IsForOpenOnly : List Holder → List Row → Type 0
IsForOpenOnly flights rows = (name : List ℕ) → named name rows ≡ None → deliveries_of flights name ≡ []
