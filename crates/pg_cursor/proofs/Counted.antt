-- Lists of all places of a kind.
use Rattle.std.proofs.Common.{◌≡◌, ◌⊎◌, ℕ, Bool, true, false, cond, List, [], ◌∷◌, ◌++◌, length, map, Option, Some, None, refl, sym, ◌∙◌, ap, inl, inr, arith}
use Rattle.std.specs.Prelude.{filter, not}
use Rattle.std.specs.List.{AllByRecursion}
use Rattle.std.specs.List.Sorted.{IsStrictlySortedBy}
use Rattle.std.specs.Map.{keys_of, lookup}
use Rattle.std.specs.BTreeMap.{is_at}
use Rattle.std.specs.declared.cmp.Ordering.TheVariants.{Less}
use Rattle.std.proofs.lemmas.Bool.{cases_Bool}
use Rattle.std.proofs.lemmas.Grind.{common_steps}
use Rattle.std.proofs.lemmas.Map.Keys.{sorted_head, sorted_tail}
use Rattle.pg_acks.specs.declared.position.Position.{Position}
use Rattle.pg_acks.specs.Acked.{AckSets, is_acknowledged}
use Rattle.pg_page.specs.declared.place.Place.{Place}
use Rattle.pg_cursor.specs.Counting.{AreAll, AreOnce, open_of}
use Rattle.pg_cursor.specs.Kept.{Key, key_cmp, place_of}
use Rattle.pg_cursor.specs.Places.{HasPlace, is_same, offset_at}
use Rattle.pg_cursor.proofs.Keeping.{found, key_of}
use Rattle.pg_cursor.proofs.Moving.{not_both, same_positions, some_is}

-- ---- what is kept in a map

less_not : (a b : Key) → key_cmp a b ≡ Less → is_at (key_cmp a) b ≡ false
less_not a b less = grind (arith, common_steps, less)

none_above : (key : Key) (entries : List (Key × ℕ)) → AllByRecursion (λ other. key_cmp key other ≡ Less) (keys_of entries) → lookup (is_at (key_cmp key)) entries ≡ None
none_above key [] above = refl
none_above key (entry ∷ entries) above = grind (arith, common_steps, less_not key entry.0 above.0, none_above key entries above.1)

pub kept_once : (entries : List (Key × ℕ)) → IsStrictlySortedBy key_cmp (keys_of entries) → AreOnce (map place_of entries)
kept_once [] sorted = tt
kept_once (entry ∷ entries) sorted = (
  found (place_of entry).position entries ∙ none_above (key_of (place_of entry).position) entries (sorted_head key_cmp entry.0 (keys_of entries) sorted),
  kept_once entries (sorted_tail key_cmp entry.0 (keys_of entries) sorted),
)

-- ---- those that aren't acknowledged

module _ (queue : ℕ) (acks : AckSets) where
  abbrev IsOpen : Position → Bool
  IsOpen position = not (is_acknowledged acks queue position)

  pub open_keys : (entries : List (Key × ℕ)) → length (filter (λ (key : Key). not (is_acknowledged acks queue (record { page = key.0; index = key.1 }))) (keys_of entries)) ≡ length (open_of queue acks (map place_of entries))
  open_keys [] = refl
  open_keys (entry ∷ entries) = grind (arith, common_steps, open_keys entries)

  same_open : (a b : Position) → is_same a b ≡ true → is_acknowledged acks queue b ≡ is_acknowledged acks queue a
  same_open a b same = ap (is_acknowledged acks queue) (same_positions a b same)

  pub offset_open : (places : List Place) (position : Position) → is_acknowledged acks queue position ≡ false → offset_at (open_of queue acks places) position ≡ offset_at places position
  offset_open [] position open_ = refl
  offset_open (place ∷ places) position open_ =
      elim (cases_Bool (is_same position place.position)) [
        | inl same ↦ grind (arith, common_steps, open_, same, same_open position place.position same, offset_open places position open_)
        | inr apart ↦ grind (arith, common_steps, open_, apart, offset_open places position open_)
      ]

  pub offset_shut : (places : List Place) (position : Position) → is_acknowledged acks queue position ≡ true → offset_at (open_of queue acks places) position ≡ None
  offset_shut [] position shut = refl
  offset_shut (place ∷ places) position shut =
      elim (cases_Bool (is_same position place.position)) [
        | inl same ↦ grind (arith, common_steps, shut, same, same_open position place.position same, offset_shut places position shut)
        | inr apart ↦ grind (arith, common_steps, shut, apart, offset_shut places position shut)
      ]

  offset_gone : (places : List Place) (position : Position) → offset_at places position ≡ None → offset_at (open_of queue acks places) position ≡ None
  offset_gone places position none =
      elim (cases_Bool (is_acknowledged acks queue position)) [
        | inl shut ↦ offset_shut places position shut
        | inr open_ ↦ offset_open places position open_ ∙ none
      ]

  once_if : (b : Bool) (place : Place) (places : List Place) → offset_at places place.position ≡ None → AreOnce places → AreOnce (cond b (place ∷ places) places)
  once_if true place places none once = (none, once)
  once_if false place places none once = once

  once_open : (places : List Place) → AreOnce places → AreOnce (open_of queue acks places)
  once_open [] once = tt
  once_open (place ∷ places) once = once_if (IsOpen place.position) place (open_of queue acks places) (offset_gone places place.position once.0) (once_open places once.1)

  -- all of a list that aren't acknowledged
  pub all_open : (places : List Place) → AreOnce places → AreAll (λ place. HasPlace places place × (is_acknowledged acks queue place.position ≡ false)) (open_of queue acks places)
  all_open places once = record {
    each = λ place is. offset_open places place.position is.1 ∙ is.0;
    only = λ place has. elim (cases_Bool (is_acknowledged acks queue place.position)) [
      | inl shut ↦ absurd (not_both (offset_at (open_of queue acks places) place.position) place.offset (offset_shut places place.position shut) has)
      | inr open_ ↦ (sym (offset_open places place.position open_) ∙ has, open_)
    ];
    once = once_open places once;
  }

pub all_of : (places : List Place) → AreOnce places → AreAll (HasPlace places) places
all_of places once = record { each = λ place has. has; only = λ place has. has; once = once }

pub no_places : (P : Place → Type 0) → ((place : Place) → P place → ⊥) → AreAll P []
no_places P none = record { each = λ place is. absurd (none place is); only = λ place has. absurd (never place has); once = tt }
  where
    never : (place : Place) → HasPlace [] place → ⊥
    never place has = cc

-- the same kind, said otherwise
pub all_as : (P Q : Place → Type 0) (places : List Place) → AreAll P places → ((place : Place) → P place → Q place) → ((place : Place) → Q place → P place) → AreAll Q places
all_as P Q places all there back = record { each = λ place is. all.each place (back place is); only = λ place has. there place (all.only place has); once = all.once }

-- ---- two lists

front_has : (xs ys : List Place) (position : Position) (offset : ℕ) → offset_at xs position ≡ Some offset → offset_at (xs ++ ys) position ≡ Some offset
front_has [] ys position offset has = absurd (not_both None offset refl has)
front_has (x ∷ xs) ys position offset has =
    elim (cases_Bool (is_same position x.position)) [
      | inl same ↦ grind (arith, common_steps, same, has)
      | inr apart ↦ grind (arith, common_steps, apart, has, front_has xs ys position offset (grind (arith, common_steps, apart, has)))
    ]

back_has : (xs ys : List Place) (position : Position) → offset_at xs position ≡ None → offset_at (xs ++ ys) position ≡ offset_at ys position
back_has [] ys position none = refl
back_has (x ∷ xs) ys position none =
    elim (cases_Bool (is_same position x.position)) [
      | inl same ↦ absurd (not_both (offset_at (x ∷ xs) position) x.offset none (grind (arith, common_steps, same)))
      | inr apart ↦ grind (arith, common_steps, apart, back_has xs ys position (grind (arith, common_steps, apart, none)))
    ]

pub some_or_none : (o : Option ℕ) → ((offset : ℕ) × (o ≡ Some offset)) ⊎ (o ≡ None)
some_or_none None = inr refl
some_or_none (Some offset) = inl (offset, refl)

none_if : (o : Option ℕ) → ((offset : ℕ) → o ≡ Some offset → ⊥) → o ≡ None
none_if None never = refl
none_if (Some offset) never = absurd (never offset refl)

at_self : (place : Place) (places : List Place) → offset_at (place ∷ places) place.position ≡ Some place.offset
at_self place places = grind (arith, common_steps)

module _ (P Q : Place → Type 0) (apart : (a b : Place) → P a → Q b → a.position ≡ b.position → ⊥) where
  not_in_front : (xs : List Place) → AreAll P xs → (place : Place) → Q place → offset_at xs place.position ≡ None
  not_in_front xs all place is = none_if (offset_at xs place.position) (λ offset has. apart (record { position = place.position; offset = offset }) place (all.only (record { position = place.position; offset = offset }) has) is refl)

  -- no position is in both
  once_both : (xs ys : List Place) → ((position : Position) (offset : ℕ) → offset_at xs position ≡ Some offset → offset_at ys position ≡ None) → AreOnce xs → AreOnce ys → AreOnce (xs ++ ys)
  once_both [] ys not once more = more
  once_both (x ∷ xs) ys not once more = (
    back_has xs ys x.position once.0 ∙ not x.position x.offset (at_self x xs),
    once_both xs ys (λ position offset has. not position offset (later position offset has)) once.1 more,
  )
    where
      later : (position : Position) (offset : ℕ) → offset_at xs position ≡ Some offset → offset_at (x ∷ xs) position ≡ Some offset
      later position offset has = elim (cases_Bool (is_same position x.position)) [
        | inl same ↦ absurd (not_both (offset_at xs position) offset (ap (offset_at xs) (sym (same_positions position x.position same)) ∙ once.0) has)
        | inr differs ↦ grind (arith, common_steps, differs, has)
      ]

  pub all_both : (xs ys : List Place) → AreAll P xs → AreAll Q ys → AreAll (λ place. P place ⊎ Q place) (xs ++ ys)
  all_both xs ys left right = record {
    each = λ place is. elim is [
      | inl one ↦ front_has xs ys place.position place.offset (left.each place one)
      | inr two ↦ back_has xs ys place.position (not_in_front xs left place two) ∙ right.each place two
    ];
    only = λ place has. elim (some_or_none (offset_at xs place.position)) [
      | inl some ↦ inl (left.only place (some.1 ∙ ap (λ (n : ℕ). Some n) (some_is some.0 place.offset (sym (front_has xs ys place.position some.0 some.1) ∙ has))))
      | inr none ↦ inr (right.only place (sym (back_has xs ys place.position none) ∙ has))
    ];
    once = once_both xs ys (λ position offset has. none_if (offset_at ys position) (λ other also. apart (record { position = position; offset = offset }) (record { position = position; offset = other }) (left.only (record { position = position; offset = offset }) has) (right.only (record { position = position; offset = other }) also) refl)) left.once right.once;
  }
