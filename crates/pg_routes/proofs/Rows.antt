-- Rows in the order of their ids.
use Rattle.std.proofs.Common.{◌≡◌, ◌==◌, ℕ, ◌<◌, Bool, true, not, nat_lt, List, [], ◌∷◌, ◌++◌, map, refl, inl, inr, arith}
use Rattle.std.proofs.lemmas.Grind.{common_steps}
use Rattle.std.proofs.lemmas.Bool.{cases_Bool}
use Rattle.std.proofs.lemmas.Bool.Decides.{nat_tests}
use Rattle.std.proofs.lemmas.Map.Keys.{sorted_head, sorted_tail}
use Rattle.std.specs.Prelude.{filter, None}
use Rattle.std.specs.List.{AllByRecursion}
use Rattle.std.specs.List.Sorted.{IsStrictlySortedBy}
use Rattle.std.specs.Ordering.{nat_cmp}
use Rattle.std.specs.declared.cmp.Ordering.TheVariants.{Less}
use Rattle.std.specs.Map.{keys_of, lookup, remove_entry}
use Rattle.std.specs.BTreeMap.{insert_entry, is_at}

pub map_filter : {X Y : Type 0} (f : X → Y) (p : Y → Bool) (xs : List X) → map f (filter (λ x. p (f x)) xs) ≡ filter p (map f xs)
map_filter f p [] = refl
map_filter f p (x ∷ xs) =
    elim (cases_Bool (p (f x))) [
      | inl passes ↦ grind (arith, common_steps, passes, map_filter f p xs)
      | inr fails ↦ grind (arith, common_steps, fails, map_filter f p xs)
    ]

-- what stands behind a greater id has a greater one
pub rows_above : {X : Type 0} (id x : ℕ) (es : List (ℕ × X)) → AllByRecursion (λ other. nat_cmp x other ≡ Less) (keys_of es) → nat_lt id x ≡ true
    → (filter (λ e. nat_lt e.0 id) es ≡ []) × (filter (λ e. nat_lt id e.0) es ≡ es)
rows_above id x [] above below = (refl, refl)
rows_above id x (e ∷ es) above below =
    let first : x < e.0 = grind (arith, common_steps, above.0) in
    let rest = rows_above id x es above.1 below in
    (grind (arith, common_steps, nat_tests, first, below, rest.0), grind (arith, common_steps, nat_tests, first, below, rest.1))

pub row_placed : {X : Type 0} (id : ℕ) (v : X) (es : List (ℕ × X)) → IsStrictlySortedBy nat_cmp (keys_of es) → lookup (is_at (nat_cmp id)) es ≡ None
    → insert_entry nat_cmp es id v ≡ filter (λ e. nat_lt e.0 id) es ++ ((id, v) ∷ filter (λ e. nat_lt id e.0) es)
row_placed id v [] sorted absent = refl
row_placed id v (e ∷ es) sorted absent =
    elim (cases_Bool (nat_lt id e.0)) [
      | inl above ↦
          let rest = rows_above id e.0 es (sorted_head nat_cmp e.0 (keys_of es) sorted) above in
          grind (arith, common_steps, nat_tests, above, rest.0, rest.1)
      | inr other ↦
          let rest = row_placed id v es (sorted_tail nat_cmp e.0 (keys_of es) sorted) (grind (arith, common_steps, absent)) in
          grind (arith, common_steps, nat_tests, other, absent, rest)
    ]

-- behind the id no other row has it
pub none_behind : {X : Type 0} (id x : ℕ) (es : List (ℕ × X)) → AllByRecursion (λ other. nat_cmp x other ≡ Less) (keys_of es) → x ≡ id → filter (λ e. not (e.0 == id)) es ≡ es
none_behind id x [] above is = refl
none_behind id x (e ∷ es) above is =
    let first : x < e.0 = grind (arith, common_steps, above.0) in
    grind (arith, common_steps, nat_tests, first, is, none_behind id x es above.1 is)

pub row_left : {X : Type 0} (id : ℕ) (es : List (ℕ × X)) → IsStrictlySortedBy nat_cmp (keys_of es) → remove_entry (is_at (nat_cmp id)) es ≡ filter (λ e. not (e.0 == id)) es
row_left id [] sorted = refl
row_left id (e ∷ es) sorted =
    elim (cases_Bool (e.0 == id)) [
      | inl same ↦
          let is : e.0 ≡ id = grind (arith, common_steps, nat_tests, same) in
          grind (arith, common_steps, nat_tests, same, is, none_behind id e.0 es (sorted_head nat_cmp e.0 (keys_of es) sorted) is)
      | inr other ↦ grind (arith, common_steps, nat_tests, other, row_left id es (sorted_tail nat_cmp e.0 (keys_of es) sorted))
    ]
