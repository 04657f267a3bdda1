-- What a list contains, after it is mapped, filtered and searched.
use Rattle.std.proofs.Common.{◌≡◌, ℕ, zero, suc, ◌<◌, ◌≤◌, ◌+◌, ◌⊎◌, cond, ltb, Bool, true, false, not, List, [], ◌∷◌, length, get_or, map, refl, sym, ap, subst, ◌∙◌, inl, inr, arith}
use Rattle.std.proofs.lemmas.Bool.{cases_Bool, cond_both, or_parts, ltb-false, false≢true}
use Rattle.std.specs.Prelude.{filter, find, Option, Some, None, is_some, position, MatchOption}
use Rattle.std.specs.Option.{option_map}
use Rattle.std.specs.List.{AllByRecursion, Contains, list_any, prefix_len}

none_some : {X : Type 0} {x : X} → None ≡ Some x → ⊥
none_some is = cc

pub nothing_in : {X : Type 0} (x : X) → Contains [] x → ⊥
nothing_in x there = omega (arith, there.1)

pub in_first : {X : Type 0} (x : X) (xs : List X) → Contains (x ∷ xs) x
in_first x xs = (0, omega arith, refl)

pub in_rest : {X : Type 0} (x y : X) (xs : List X) → Contains xs x → Contains (y ∷ xs) x
in_rest x y xs there = (suc there.0, omega (arith, there.1), there.2)

cases_at : {X : Type 0} (x y : X) (xs : List X) (k : ℕ) → k < length (y ∷ xs) → get_or (y ∷ xs) k x ≡ x → (y ≡ x) ⊎ Contains xs x
cases_at x y xs zero within is = inl is
cases_at x y xs (suc k) within is = inr (k, omega arith, is)

pub in_cases : {X : Type 0} (x y : X) (xs : List X) → Contains (y ∷ xs) x → (y ≡ x) ⊎ Contains xs x
in_cases x y xs there = cases_at x y xs there.0 there.1 there.2

pub each_in : {X : Type 0} (P : X → Type 0) (xs : List X) (x : X) → AllByRecursion P xs → Contains xs x → P x
each_in P [] x all there = absurd (nothing_in x there)
each_in P (y ∷ xs) x all there =
    elim (in_cases x y xs there) [
      | inl is ↦ subst P is all.0
      | inr rest ↦ each_in P xs x all.1 rest
    ]

-- what holds of all that a list contains
pub each_by : {X : Type 0} (P : X → Type 0) (xs : List X) → ((x : X) → Contains xs x → P x) → AllByRecursion P xs
each_by P [] all = tt
each_by P (x ∷ xs) all = (all x (in_first x xs), each_by P xs (λ y there. all y (in_rest y x xs there)))

-- ---- mapped
pub in_mapped : {X Y : Type 0} (f : X → Y) (xs : List X) (x : X) → Contains xs x → Contains (map f xs) (f x)
in_mapped f [] x there = absurd (nothing_in x there)
in_mapped f (y ∷ xs) x there =
    elim (in_cases x y xs there) [
      | inl is ↦ subst (λ z. Contains (map f (y ∷ xs)) (f z)) is (in_first (f y) (map f xs))
      | inr rest ↦ in_rest (f x) (f y) (map f xs) (in_mapped f xs x rest)
    ]

pub from_mapped : {X Y : Type 0} (f : X → Y) (xs : List X) (y : Y) → Contains (map f xs) y → (x : X) × Contains xs x × (f x ≡ y)
from_mapped f [] y there = absurd (nothing_in y there)
from_mapped f (x ∷ xs) y there =
    elim (in_cases y (f x) (map f xs) there) [
      | inl is ↦ (x, in_first x xs, is)
      | inr rest ↦
          let before : (z : _) × Contains xs z × (f z ≡ y) = from_mapped f xs y rest in
          (before.0, in_rest before.0 x xs before.1, before.2)
    ]

-- ---- filtered
pub in_filtered : {X : Type 0} (p : X → Bool) (xs : List X) (x : X) → p x ≡ true → Contains xs x → Contains (filter p xs) x
in_filtered p [] x passes there = absurd (nothing_in x there)
in_filtered p (y ∷ xs) x passes there =
    cond_both (p y) (y ∷ filter p xs) (filter p xs) (λ kept. Contains kept x)
    (λ stays. elim (in_cases x y xs there) [
      | inl is ↦ subst (λ z. Contains (y ∷ filter p xs) z) is (in_first y (filter p xs))
      | inr rest ↦ in_rest x y (filter p xs) (in_filtered p xs x passes rest)
    ])
    (λ goes. elim (in_cases x y xs there) [
      | inl is ↦ absurd (false≢true (sym goes ∙ ap p is ∙ passes))
      | inr rest ↦ in_filtered p xs x passes rest
    ])

pub from_filtered : {X : Type 0} (p : X → Bool) (xs : List X) (x : X) → Contains (filter p xs) x → Contains xs x × (p x ≡ true)
from_filtered p [] x there = absurd (nothing_in x there)
from_filtered p (y ∷ xs) x there =
    cond_both (p y) (y ∷ filter p xs) (filter p xs) (λ kept. Contains kept x → Contains (y ∷ xs) x × (p x ≡ true))
    (λ stays within. elim (in_cases x y (filter p xs) within) [
      | inl is ↦ (subst (λ z. Contains (y ∷ xs) z) is (in_first y xs), sym (ap p is) ∙ stays)
      | inr rest ↦ let before : Contains xs x × (p x ≡ true) = from_filtered p xs x rest in (in_rest x y xs before.0, before.1)
    ])
    (λ goes within. let before : Contains xs x × (p x ≡ true) = from_filtered p xs x within in (in_rest x y xs before.0, before.1))
    there

-- ---- searched
pub in_found : {X : Type 0} (p : X → Bool) (xs : List X) (x : X) → find p xs ≡ Some x → Contains xs x × (p x ≡ true)
in_found p [] x found = absurd (none_some found)
in_found p (y ∷ xs) x found =
    cond_both (p y) (Some y) (find p xs) (λ is. is ≡ Some x → Contains (y ∷ xs) x × (p x ≡ true))
    (λ here is. let same : y ≡ x = cc in (subst (λ z. Contains (y ∷ xs) z) same (in_first y xs), subst (λ z. p z ≡ true) same here))
    (λ other is. let before : Contains xs x × (p x ≡ true) = in_found p xs x is in (in_rest x y xs before.0, before.1))
    found

pub not_found : {X : Type 0} (p : X → Bool) (xs : List X) → (is_some (find p xs) ≡ true → ⊥) → AllByRecursion (λ x. p x ≡ false) xs
not_found p [] none = tt
not_found p (y ∷ xs) none =
    cond_both (p y) (Some y) (find p xs) (λ is. (is_some is ≡ true → ⊥) → AllByRecursion (λ x. p x ≡ false) (y ∷ xs))
    (λ here no. absurd (no refl))
    (λ other no. (other, not_found p xs no))
    none

pub none_passes : {X : Type 0} (p : X → Bool) (xs : List X) → length xs ≤ prefix_len (λ x. not (p x)) xs → AllByRecursion (λ x. p x ≡ false) xs
none_passes p [] whole = tt
none_passes p (y ∷ xs) whole =
    elim (cases_Bool (p y)) [
      | inl here ↦ absurd (omega (arith, subst (λ b. suc (length xs) ≤ cond (not b) (1 + prefix_len (λ x. not (p x)) xs) 0) here whole))
      | inr other ↦ (other, none_passes p xs (omega (arith, subst (λ b. suc (length xs) ≤ cond (not b) (1 + prefix_len (λ x. not (p x)) xs) 0) other whole)))
    ]

pub none_any : {X : Type 0} (p : X → Bool) (xs : List X) → list_any p xs ≡ false → AllByRecursion (λ x. p x ≡ false) xs
none_any p [] none = tt
none_any p (y ∷ xs) none = let parts = or_parts (p y) (list_any p xs) none in (parts.0, none_any p xs parts.1)

pub not_placed : {X : Type 0} (p : X → Bool) (xs : List X) → (is_some (option_map (λ (place : ℕ). place + 1) (position p xs)) ≡ true → ⊥) → AllByRecursion (λ x. p x ≡ false) xs
not_placed p xs none =
    elim (cases_Bool (ltb (prefix_len (λ x. not (p x)) xs) (length xs))) [
      | inl less ↦ absurd (none (subst (λ b. is_some (option_map (λ (place : ℕ). place + 1) (cond b (Some (prefix_len (λ x. not (p x)) xs)) None)) ≡ true) (sym less) refl))
      | inr whole ↦ none_passes p xs (ltb-false (prefix_len (λ x. not (p x)) xs) (length xs) whole)
    ]

-- ---- what a match tells, and how it is told
pub matched : {X : Type 0} (o : Option X) (Q : X → Type 0) → MatchOption o ⊥ Q → (x : X) × (o ≡ Some x) × Q x
matched None Q none = absurd none
matched (Some x) Q told = (x, refl, told)

pub is_matched : {X : Type 0} (o : Option X) (Q : X → Type 0) (x : X) → o ≡ Some x → Q x → MatchOption o ⊥ Q
is_matched o Q x is told = subst (λ o. MatchOption o ⊥ Q) (sym is) told

-- a cause that doesn't hold
pub goes_on : {A B X : Type 0} {x : X} → (A × (None ≡ Some x)) ⊎ ((A → ⊥) × B) → (A → ⊥) × B
goes_on (inl refused) = absurd (none_some refused.1)
goes_on (inr rest) = rest
