-- The deliveries as they are kept by their keys, and the list that they are seen as.
use Rattle.std.proofs.Common.{◌≡◌, true, List, [], ◌∷◌, refl, sym, ap, ◌∙◌, Bool, arith, subst, inl, inr}
use Rattle.std.proofs.lemmas.Grind.{common_steps}
use Rattle.std.specs.Prelude.{All}
use Rattle.std.specs.List.{AllByRecursion}
use Rattle.std.specs.List.Sorted.{IsStrictlySortedBy}
use Rattle.std.specs.declared.cmp.Ordering.TheVariants.{Less}
use Rattle.std.specs.Map.{lookup, remove_entry, keys_of, values_of}
use Rattle.std.specs.BTreeMap.{insert_entry, is_at}
use Rattle.std.proofs.lemmas.Bool.{cases_Bool}
use Rattle.std.proofs.lemmas.List.Elements.{All-cons, All-nil}
use Rattle.std.proofs.lemmas.List.Kept.{AllPairs-cons}
use Rattle.std.proofs.lemmas.Map.Keys.{sorted_head, sorted_tail}
use Rattle.pg_msg.specs.declared.message.MessageId.{MessageId}
use Rattle.pg_flight.specs.declared.delivery.Delivery.{Delivery}
use Rattle.pg_flight.specs.Deliveries.{AreAscending, IsKeyed, delivery_with, with_delivery, without_delivery}
use Rattle.pg_flight.specs.Ids.{Key, id_cmp, key_cmp, key_of, same_id}

-- the order of keys finds the same ids as the test of ids
pub tells_same : (id other : MessageId) → is_at (key_cmp (key_of id)) (key_of other) ≡ same_id other id
tells_same id other = grind (arith, common_steps)

pub at_entry : (id : MessageId) (entry : Key × Delivery) → IsKeyed entry → is_at (key_cmp (key_of id)) entry.0 ≡ same_id entry.1.id id
at_entry id entry keyed = ap (is_at (key_cmp (key_of id))) keyed ∙ tells_same id entry.1.id

-- a look-up by the key finds the delivery of the message
pub found : (id : MessageId) (entries : List (Key × Delivery)) → AllByRecursion IsKeyed entries
    → lookup (is_at (key_cmp (key_of id))) entries ≡ delivery_with id (values_of entries)
found id [] keyed = refl
found id (entry ∷ entries) keyed = grind (arith, common_steps, at_entry id entry keyed.0, found id entries keyed.1)

-- ---- one that is put in
pub put_in : (delivery : Delivery) (entries : List (Key × Delivery)) → AllByRecursion IsKeyed entries
    → values_of (insert_entry key_cmp entries (key_of delivery.id) delivery) ≡ with_delivery delivery (values_of entries)
put_in delivery [] keyed = refl
put_in delivery (entry ∷ entries) keyed =
    grind (arith, common_steps, ap (key_cmp (key_of delivery.id)) keyed.0, put_in delivery entries keyed.1)

pub still_keyed_with : (delivery : Delivery) (entries : List (Key × Delivery)) → AllByRecursion IsKeyed entries
    → AllByRecursion IsKeyed (insert_entry key_cmp entries (key_of delivery.id) delivery)
still_keyed_with delivery [] keyed = (refl, tt)
still_keyed_with delivery (entry ∷ entries) keyed =
    grind (arith, common_steps, keyed.0, keyed.1, still_keyed_with delivery entries keyed.1)

-- ---- one that is taken out
pub still_keyed_without : (test : Key → Bool) (entries : List (Key × Delivery)) → AllByRecursion IsKeyed entries → AllByRecursion IsKeyed (remove_entry test entries)
still_keyed_without test [] keyed = tt
still_keyed_without test (entry ∷ entries) keyed = grind (arith, common_steps, keyed.0, keyed.1, still_keyed_without test entries keyed.1)

-- where all keys are above that of the message, no delivery is that of the message
pub none_above : (id : MessageId) (entries : List (Key × Delivery)) → AllByRecursion IsKeyed entries
    → AllByRecursion (λ key. key_cmp (key_of id) key ≡ Less) (keys_of entries) → without_delivery id (values_of entries) ≡ values_of entries
none_above id [] keyed above = refl
none_above id (entry ∷ entries) keyed above =
    grind (arith, common_steps, at_entry id entry keyed.0, above.0, none_above id entries keyed.1 above.1)

-- the entry of the message has its key
pub its_key : (id : MessageId) (entry : Key × Delivery) → IsKeyed entry → same_id entry.1.id id ≡ true → entry.0 ≡ key_of id
its_key id entry keyed same = keyed ∙ ap key_of (equal entry.1.id id same)
  where
    equal : (a b : MessageId) → same_id a b ≡ true → a ≡ b
    equal a b e = grind (arith, common_steps, e)

pub taken_out : (id : MessageId) (entries : List (Key × Delivery)) → AllByRecursion IsKeyed entries → IsStrictlySortedBy key_cmp (keys_of entries)
    → values_of (remove_entry (is_at (key_cmp (key_of id))) entries) ≡ without_delivery id (values_of entries)
taken_out id [] keyed sorted = refl
taken_out id (entry ∷ entries) keyed sorted =
    elim (cases_Bool (same_id entry.1.id id)) [
      | inl same ↦ let above = subst (λ key. AllByRecursion (λ other. key_cmp key other ≡ Less) (keys_of entries)) (its_key id entry keyed.0 same) (sorted_head key_cmp entry.0 (keys_of entries) sorted) in
          grind (arith, common_steps, same, at_entry id entry keyed.0, none_above id entries keyed.1 above)
      | inr other ↦ grind (arith, common_steps, other, at_entry id entry keyed.0, taken_out id entries keyed.1 (sorted_tail key_cmp entry.0 (keys_of entries) sorted))
    ]

-- ---- the order
pub all_above : (id : MessageId) (entries : List (Key × Delivery)) → AllByRecursion IsKeyed entries → AllByRecursion (λ key. key_cmp (key_of id) key ≡ Less) (keys_of entries)
    → All (λ other. id_cmp id other.id ≡ Less) (values_of entries)
all_above id [] keyed above = All-nil (λ other. id_cmp id other.id ≡ Less)
all_above id (entry ∷ entries) keyed above =
    All-cons (λ other. id_cmp id other.id ≡ Less) entry.1 (values_of entries) (sym (ap (key_cmp (key_of id)) keyed.0) ∙ above.0) (all_above id entries keyed.1 above.1)

pub ascending : (entries : List (Key × Delivery)) → AllByRecursion IsKeyed entries → IsStrictlySortedBy key_cmp (keys_of entries) → AreAscending (values_of entries)
ascending [] keyed sorted = λ i j d below within. grind (arith, common_steps, within)
ascending (entry ∷ entries) keyed sorted =
    AllPairs-cons (λ delivery other. id_cmp delivery.id other.id ≡ Less) entry.1 (values_of entries)
    (all_above entry.1.id entries keyed.1 (subst (λ key. AllByRecursion (λ other. key_cmp key other ≡ Less) (keys_of entries)) keyed.0 (sorted_head key_cmp entry.0 (keys_of entries) sorted)))
    (ascending entries keyed.1 (sorted_tail key_cmp entry.0 (keys_of entries) sorted))
