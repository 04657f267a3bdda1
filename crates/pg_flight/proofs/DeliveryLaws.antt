-- A list of deliveries as a map from messages.
use Rattle.std.proofs.Common.{◌≡◌, true, false, cond, List, [], ◌∷◌, refl, inl, inr, ◌⊎◌, arith}
use Rattle.std.proofs.lemmas.Grind.{common_steps}
use Rattle.std.specs.Prelude.{Some, None}
use Rattle.std.specs.declared.cmp.Ordering.{Ordering}
use Rattle.std.specs.declared.cmp.Ordering.TheVariants.{Less, Equal, Greater}
use Rattle.std.proofs.lemmas.Bool.{cases_Bool}
use Rattle.pg_msg.specs.declared.message.MessageId.{MessageId}
use Rattle.pg_flight.specs.declared.delivery.Delivery.{Delivery}
use Rattle.pg_flight.specs.Deliveries.{delivery_with, with_delivery, without_delivery}
use Rattle.pg_flight.specs.Ids.{id_cmp, same_id}

pub tied_ids : (a b : MessageId) → id_cmp a b ≡ Equal → a ≡ b
tied_ids a b tie = grind (arith, common_steps, tie)

pub equal_ids : (a b : MessageId) → same_id a b ≡ true → a ≡ b
equal_ids a b same = grind (arith, common_steps, same)

pub found_with : (deliveries : List Delivery) (delivery : Delivery) (id : MessageId)
    → delivery_with id (with_delivery delivery deliveries) ≡ cond (same_id delivery.id id) (Some delivery) (delivery_with id deliveries)
found_with [] delivery id = grind (arith, common_steps)
found_with (other ∷ others) delivery id = by_order (found_with others delivery id) (id_cmp delivery.id other.id) refl
  where
    by_order : delivery_with id (with_delivery delivery others) ≡ cond (same_id delivery.id id) (Some delivery) (delivery_with id others)
        → (order : Ordering) → id_cmp delivery.id other.id ≡ order
        → delivery_with id (with_delivery delivery (other ∷ others)) ≡ cond (same_id delivery.id id) (Some delivery) (delivery_with id (other ∷ others))
    by_order rest Less is = grind (arith, common_steps, is)
    by_order rest Equal is = grind (arith, common_steps, is, tied_ids delivery.id other.id is)
    by_order rest Greater is =
        elim (cases_Bool (same_id delivery.id id)) [
          | inl same ↦
              let differ : same_id other.id id ≡ false = grind (arith, common_steps, is, equal_ids delivery.id id same) in
              grind (arith, common_steps, is, rest, same, differ)
          | inr apart ↦ grind (arith, common_steps, is, rest, apart)
        ]

pub found_without : (deliveries : List Delivery) (id other : MessageId) → delivery_with other (without_delivery id deliveries) ≡ cond (same_id id other) None (delivery_with other deliveries)
found_without [] id other = grind (arith, common_steps)
found_without (delivery ∷ deliveries) id other =
    elim (cases_Bool (same_id delivery.id id)) [
      | inl same ↦
          let its = equal_ids delivery.id id same in
          grind (arith, common_steps, same, its, found_without deliveries id other)
      | inr apart ↦ kept apart (cases_Bool (same_id id other)) (found_without deliveries id other)
    ]
  where
    kept : same_id delivery.id id ≡ false → (same_id id other ≡ true) ⊎ (same_id id other ≡ false)
        → delivery_with other (without_delivery id deliveries) ≡ cond (same_id id other) None (delivery_with other deliveries)
        → delivery_with other (without_delivery id (delivery ∷ deliveries)) ≡ cond (same_id id other) None (delivery_with other (delivery ∷ deliveries))
    kept apart (inl same) rest = grind (arith, common_steps, apart, same, rest, equal_ids id other same)
    kept apart (inr differ) rest = grind (arith, common_steps, apart, differ, rest)
