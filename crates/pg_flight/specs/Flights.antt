-- The deliveries in flight, by consumers, and what a call changes among them.
use Rattle.std.specs.Prelude.{◌≡◌, ℕ, Option, List, [], ◌∷◌, String, if◌then◌else◌, map}
use Rattle.std.specs.declared.alloc.Global.{Global}
use Rattle.std.specs.Str.{bytes_eq}
use Rattle.std.specs.String.{string_bytes}
use Rattle.std.specs.BTreeMap.{BTreeMap}
use Rattle.pg_msg.specs.declared.message.MessageId.{MessageId}
use Rattle.pg_flight.specs.declared.delivery.Delivery.{Delivery}
use Rattle.pg_flight.specs.Deliveries.{delivery_with}

-- a consumer by its name, and what is in flight for it
pub record Holder : Type 0 where
  pub consumer : List ℕ
  pub deliveries : List Delivery

-- what is in flight for the consumer: nothing where no holder has its name
abbrev pub deliveries_of : List Holder → List ℕ → List Delivery
deliveries_of [] consumer = []
deliveries_of (holder ∷ holders) consumer = if bytes_eq consumer holder.consumer then holder.deliveries else deliveries_of holders consumer

-- the delivery of that message to the consumer
abbrev pub delivery_of : List Holder → List ℕ → MessageId → Option Delivery
delivery_of holders consumer id = delivery_with id (deliveries_of holders consumer)

-- what is in flight for the consumer is changed so, and for every other consumer it stays
abbrev pub ChangesAt : List ℕ → (List Delivery → List Delivery) → List Holder → List Holder → Type 0
ChangesAt consumer change old new =
    (other : List ℕ) → deliveries_of new other ≡ (if bytes_eq consumer other then change (deliveries_of old other) else deliveries_of old other)

-- nothing is left in flight
abbrev pub cleared : List Delivery → List Delivery
cleared deliveries = []

-- ---- how they are kept
abbrev pub Kept : Type 0
Kept = BTreeMap (String Global) (List Delivery)

abbrev pub seen : Kept → List Holder
seen kept = map (λ entry. record { consumer = string_bytes entry.0; deliveries = entry.1 }) kept.entries
