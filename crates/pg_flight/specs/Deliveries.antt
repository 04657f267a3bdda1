-- The deliveries to one consumer, by their messages.
use Rattle.std.specs.Prelude.{◌≡◌, not, Option, List, [], ◌∷◌, find, filter, AllPairs}
use Rattle.std.specs.List.{AllByRecursion}
use Rattle.std.specs.declared.cmp.Ordering.TheVariants.{Less}
use Rattle.std.specs.Ordering.{match_ordering}
use Rattle.std.specs.BTreeMap.{BTreeMap, IsOrdered}
use Rattle.pg_msg.specs.declared.message.MessageId.{MessageId}
use Rattle.pg_flight.specs.declared.delivery.Delivery.{Delivery}
use Rattle.pg_flight.specs.Ids.{Key, id_cmp, key_cmp, key_of, same_id}

-- the delivery of the message with that id
abbrev pub delivery_with : MessageId → List Delivery → Option Delivery
delivery_with id deliveries = find (λ delivery. same_id delivery.id id) deliveries

-- the deliveries but that one
abbrev pub without_delivery : MessageId → List Delivery → List Delivery
without_delivery id deliveries = filter (λ delivery. not (same_id delivery.id id)) deliveries

-- One more, at its place in the order of ids. A former delivery of the same message gives way.
abbrev pub with_delivery : Delivery → List Delivery → List Delivery
with_delivery delivery [] = delivery ∷ []
with_delivery delivery (other ∷ others) =
    match_ordering (id_cmp delivery.id other.id) (delivery ∷ other ∷ others) (delivery ∷ others) (other ∷ with_delivery delivery others)

-- each id is below those behind it, so no message is delivered twice
abbrev pub AreAscending : List Delivery → Type 0
AreAscending deliveries = AllPairs (λ delivery other. id_cmp delivery.id other.id ≡ Less) deliveries

-- ---- how they are kept
-- each delivery stands at the key of its message, and the keys ascend
abbrev pub IsKeyed : Key × Delivery → Type 0
IsKeyed entry = entry.0 ≡ key_of entry.1.id

pub record AreKeyed (kept : BTreeMap Key Delivery) : Type 0 where
  pub ordered : IsOrdered key_cmp kept
  pub keyed : AllByRecursion IsKeyed kept.entries
