-- Ids in ascending order: one more at its place, and one less.
use Rattle.std.proofs.Common.{◌≡◌, ◌==◌, ℕ, zero, suc, ◌<◌, ◌≤◌, true, false, not, nat_lt, List, [], ◌∷◌, ◌++◌, length, refl, ap₂, ◌∙◌, inl, inr, arith}
use Rattle.std.proofs.lemmas.Grind.{common_steps}
use Rattle.std.proofs.lemmas.Bool.{cases_Bool}
use Rattle.std.proofs.lemmas.Bool.Decides.{nat_tests}
use Rattle.std.proofs.lemmas.List.Elements.{filter-append}
use Rattle.std.proofs.lemmas.Map.Keys.{sorted_head, sorted_tail}
use Rattle.std.specs.List.Sorted.{IsStrictlySortedBy}
use Rattle.std.specs.Ordering.{nat_cmp}
use Rattle.std.specs.Prelude.{filter}
use Rattle.std.specs.List.{AllByRecursion, AllWithin, insert, list_any}
use Rattle.std.specs.declared.cmp.Ordering.TheVariants.{Less}
use Rattle.pg_routes.specs.Lists.{with_id, without_id}

-- none of the ids is below that one: all stand behind it
pub none_below : (id : ℕ) (ids : List ℕ) → AllWithin (λ other. nat_lt other id ≡ false) ids 0 (length ids) → list_any (λ other. other == id) ids ≡ false
    → (filter (λ other. nat_lt other id) ids ≡ []) × (filter (λ other. nat_lt id other) ids ≡ ids)
none_below id [] above absent = (refl, refl)
none_below id (x ∷ ids) above absent =
    let first : nat_lt x id ≡ false = above 0 0 (omega arith) (omega arith) in
    let rest = none_below id ids (λ k d low high. above (suc k) d (omega arith) (omega arith)) (grind (arith, common_steps, absent)) in
    (grind (arith, common_steps, first, rest.0), grind (arith, common_steps, nat_tests, first, absent, rest.1))

pub inserted : (id k : ℕ) (ids : List ℕ) → AllWithin (λ other. nat_lt other id ≡ true) ids 0 k → AllWithin (λ other. nat_lt other id ≡ false) ids k (length ids)
    → list_any (λ other. other == id) ids ≡ false → k ≤ length ids → insert ids k id ≡ with_id id ids
inserted id zero [] below above absent le = refl
inserted id (suc k) [] below above absent le = absurd (omega (arith, le))
inserted id zero (x ∷ ids) below above absent le =
    let parts = none_below id (x ∷ ids) above absent in
    grind (arith, common_steps, parts.0, parts.1)
inserted id (suc k) (x ∷ ids) below above absent le =
    let first : nat_lt x id ≡ true = below 0 0 (omega arith) (omega arith) in
    let rest = inserted id k ids (λ i d low high. below (suc i) d (omega arith) (omega arith)) (λ i d low high. above (suc i) d (omega arith) (omega arith)) (grind (arith, common_steps, absent)) (omega (arith, le)) in
    grind (arith, common_steps, nat_tests, first, rest)

-- an id that isn't there leaves the ids as they are when it goes
pub none_without : (id : ℕ) (ids : List ℕ) → list_any (λ other. other == id) ids ≡ false → without_id id ids ≡ ids
none_without id [] absent = refl
none_without id (x ∷ ids) absent = grind (arith, common_steps, absent, none_without id ids (grind (arith, common_steps, absent)))

-- one more and then one less
pub without_below : (id : ℕ) (ids : List ℕ) → without_id id (filter (λ other. nat_lt other id) ids) ≡ filter (λ other. nat_lt other id) ids
without_below id [] = refl
without_below id (x ∷ ids) =
    elim (cases_Bool (nat_lt x id)) [
      | inl below ↦ grind (arith, common_steps, nat_tests, below, without_below id ids)
      | inr other ↦ grind (arith, common_steps, other, without_below id ids)
    ]

pub without_above : (id : ℕ) (ids : List ℕ) → without_id id (filter (λ other. nat_lt id other) ids) ≡ filter (λ other. nat_lt id other) ids
without_above id [] = refl
without_above id (x ∷ ids) =
    elim (cases_Bool (nat_lt id x)) [
      | inl above ↦ grind (arith, common_steps, nat_tests, above, without_above id ids)
      | inr other ↦ grind (arith, common_steps, other, without_above id ids)
    ]

-- what stands behind a greater one is greater
pub all_above : (id x : ℕ) (ids : List ℕ) → AllByRecursion (λ other. nat_cmp x other ≡ Less) ids → nat_lt id x ≡ true
    → (filter (λ other. nat_lt other id) ids ≡ []) × (filter (λ other. nat_lt id other) ids ≡ ids)
all_above id x [] above below = (refl, refl)
all_above id x (y ∷ ids) above below =
    let first : x < y = grind (arith, common_steps, above.0) in
    let rest = all_above id x ids above.1 below in
    (grind (arith, common_steps, nat_tests, first, below, rest.0), grind (arith, common_steps, nat_tests, first, below, rest.1))

-- the smaller and the greater ones are all of them
pub apart : (id : ℕ) (ids : List ℕ) → IsStrictlySortedBy nat_cmp ids → list_any (λ other. other == id) ids ≡ false
    → filter (λ other. nat_lt other id) ids ++ filter (λ other. nat_lt id other) ids ≡ ids
apart id [] sorted absent = refl
apart id (x ∷ ids) sorted absent =
    elim (cases_Bool (nat_lt x id)) [
      | inl below ↦ grind (arith, common_steps, nat_tests, below, apart id ids (sorted_tail nat_cmp x ids sorted) (grind (arith, common_steps, absent)))
      | inr other ↦
          let above : nat_lt id x ≡ true = grind (arith, common_steps, nat_tests, other, absent) in
          let rest = all_above id x ids (sorted_head nat_cmp x ids sorted) above in
          grind (arith, common_steps, other, above, rest.0, rest.1)
    ]

pub put_and_taken : (id : ℕ) (ids : List ℕ) → IsStrictlySortedBy nat_cmp ids → list_any (λ other. other == id) ids ≡ false → without_id id (with_id id ids) ≡ ids
put_and_taken id ids sorted absent =
    let parts = filter-append (λ other. not (other == id)) (filter (λ other. nat_lt other id) ids) (id ∷ filter (λ other. nat_lt id other) ids) in
    let middle : without_id id (id ∷ filter (λ other. nat_lt id other) ids) ≡ filter (λ other. nat_lt id other) ids = grind (arith, common_steps, without_above id ids) in
    parts ∙ ap₂ (λ a b. a ++ b) (without_below id ids) middle ∙ apart id ids sorted absent
