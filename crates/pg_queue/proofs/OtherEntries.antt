-- The entries that a call doesn't speak of.
use Rattle.std.proofs.Common.{◌≡◌, Bool, true, false, not, ◌&&◌, ◌||◌, ◌⊎◌, List, [], ◌∷◌, refl, sym, ◌∙◌, inl, inr, arith}
use Rattle.std.proofs.lemmas.Grind.{common_steps}
use Rattle.std.specs.Prelude.{filter}
use Rattle.std.specs.List.{list_any}
use Rattle.std.proofs.lemmas.Bool.{and_parts, cases_Bool}
use Rattle.std.proofs.lemmas.List.Folds.{list_any-append}
use Rattle.pg_queue.specs.Entries.{Entry, added, has_entry, is_journaled, is_same, is_taken, marked, without_entry}
use Rattle.pg_queue.proofs.EntryLaws.{same_as_itself, same_through}

pub marked_stay : (entries : List Entry) (taken : Bool) (entry other : Entry) → has_entry (marked taken entry entries) other ≡ has_entry entries other
marked_stay [] taken entry other = refl
marked_stay (x ∷ entries) taken entry other =
    elim (cases_Bool (is_same x entry)) [
      | inl same ↦ grind (arith, common_steps, same, marked_stay entries taken entry other)
      | inr apart ↦ grind (arith, common_steps, apart, marked_stay entries taken entry other)
    ]

-- ---- one more
-- some entry passes where some does among those that are journaled, or among the others
pub any_apart : (test : Entry → Bool) (entries : List Entry) → (list_any test (filter is_journaled entries) || list_any test (filter (λ entry. not (is_journaled entry)) entries)) ≡ list_any test entries
any_apart test [] = refl
any_apart test (entry ∷ entries) =
    elim (cases_Bool (is_journaled entry)) [
      | inl here ↦ grind (arith, common_steps, here, any_apart test entries)
      | inr other ↦ grind (arith, common_steps, other, any_apart test entries)
    ]

pub any_added : (test : Entry → Bool) (entry : Entry) (entries : List Entry) → list_any test (added entry entries) ≡ (test entry || list_any test entries)
any_added test entry entries =
    let joined = list_any-append test (filter is_journaled entries) (entry ∷ filter (λ other. not (is_journaled other)) entries) in
    grind (arith, common_steps, joined, any_apart test entries)

pub added_has : (entries : List Entry) (entry other : Entry) → has_entry (added entry entries) other ≡ (is_same entry other || has_entry entries other)
added_has entries entry other = any_added (λ x. is_same x other) entry entries

pub added_waits : (entries : List Entry) (entry other : Entry) → entry.taken ≡ false → is_taken (added entry entries) other ≡ is_taken entries other
added_waits entries entry other waits =
    let joined = any_added (λ x. is_same x other && x.taken) entry entries in
    grind (arith, common_steps, joined, waits)

-- ---- one less
pub same_back : (a b : Entry) → is_same a b ≡ true → is_same b a ≡ true
same_back a b same = sym (same_through a b a same) ∙ same_as_itself a

-- an entry that is not the same as another is not the same as what is the same as that one
pub differs_through : (x entry other : Entry) → is_same x entry ≡ false → is_same x other ≡ true → is_same entry other ≡ false
differs_through x entry other apart same =
    elim (cases_Bool (is_same entry other)) [
      | inl equal ↦ absurd (grind (arith, common_steps, apart, sym (same_through x other entry same), same_back entry other equal))
      | inr differ ↦ differ
    ]

-- the test passes entries that are the same as the other one alone
pub any_left : (test : Entry → Bool) (entry other : Entry) → ((x : Entry) → test x ≡ true → is_same x other ≡ true) → (entries : List Entry)
    → list_any test (without_entry entry entries) ≡ (not (is_same entry other) && list_any test entries)
any_left test entry other only [] = grind (arith, common_steps)
any_left test entry other only (x ∷ entries) = at (any_left test entry other only entries) (cases_Bool (is_same x entry)) (cases_Bool (test x))
  where
    at : list_any test (without_entry entry entries) ≡ (not (is_same entry other) && list_any test entries) → (is_same x entry ≡ true) ⊎ (is_same x entry ≡ false) → (test x ≡ true) ⊎ (test x ≡ false)
        → list_any test (without_entry entry (x ∷ entries)) ≡ (not (is_same entry other) && list_any test (x ∷ entries))
    at rest (inl same) (inl passes) =
        let its : is_same entry other ≡ true = sym (same_through x entry other same) ∙ only x passes in grind (arith, common_steps, rest, same, passes, its)
    at rest (inl same) (inr fails) = grind (arith, common_steps, rest, same, fails)
    at rest (inr apart) (inl passes) =
        let differ : is_same entry other ≡ false = differs_through x entry other apart (only x passes) in grind (arith, common_steps, rest, apart, passes, differ)
    at rest (inr apart) (inr fails) = grind (arith, common_steps, rest, apart, fails)

pub left_has : (entries : List Entry) (entry other : Entry) → has_entry (without_entry entry entries) other ≡ (not (is_same entry other) && has_entry entries other)
left_has entries entry other = any_left (λ x. is_same x other) entry other (λ x passes. passes) entries

pub left_taken : (entries : List Entry) (entry other : Entry) → is_taken (without_entry entry entries) other ≡ (not (is_same entry other) && is_taken entries other)
left_taken entries entry other = any_left (λ x. is_same x other && x.taken) entry other (λ x passes. (and_parts (is_same x other) x.taken passes).0) entries
