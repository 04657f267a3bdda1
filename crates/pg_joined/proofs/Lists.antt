-- What lists contain, and what is found in a list whose elements are changed.
use Rattle.std.proofs.Common.{◌≡◌, ℕ, zero, suc, ◌<◌, ◌⊎◌, cond, Bool, true, false, ◌||◌, List, [], ◌∷◌, length, get_or, map, refl, sym, ap, ap₂, subst, ◌∙◌, inl, inr, arith}
use Rattle.std.proofs.lemmas.Bool.{cond_both}
use Rattle.std.specs.Prelude.{filter, find, Option, Some, None, is_some, MatchOption}
use Rattle.std.specs.Option.{option_map}
use Rattle.std.specs.List.{Contains, list_any}

none_some : {X : Type 0} {x : X} → None ≡ Some x → ⊥
none_some is = cc

-- ---- what a list contains
pub nothing_in : {X : Type 0} (x : X) → Contains [] x → ⊥
nothing_in x there = omega (arith, there.1)

pub in_first : {X : Type 0} (x : X) (xs : List X) → Contains (x ∷ xs) x
in_first x xs = (0, omega arith, refl)

pub in_rest : {X : Type 0} (x y : X) (xs : List X) → Contains xs x → Contains (y ∷ xs) x
in_rest x y xs there = (suc there.0, omega (arith, there.1), there.2)

cases_at : {X : Type 0} (x y : X) (xs : List X) (k : ℕ) → k < length (y ∷ xs) → get_or (y ∷ xs) k x ≡ x → (y ≡ x) ⊎ Contains xs x
cases_at x y xs zero within is = inl is
cases_at x y xs (suc k) within is = inr (k, omega arith, is)

pub in_cases : {X : Type 0} (x y : X) (xs : List X) → Contains (y ∷ xs) x → (y ≡ x) ⊎ Contains xs x
in_cases x y xs there = cases_at x y xs there.0 there.1 there.2

pub from_filtered : {X : Type 0} (p : X → Bool) (xs : List X) (x : X) → Contains (filter p xs) x → Contains xs x × (p x ≡ true)
from_filtered p [] x there = absurd (nothing_in x there)
from_filtered p (y ∷ xs) x there =
    cond_both (p y) (y ∷ filter p xs) (filter p xs) (λ kept. Contains kept x → Contains (y ∷ xs) x × (p x ≡ true))
    (λ stays within. elim (in_cases x y (filter p xs) within) [
      | inl is ↦ (subst (λ z. Contains (y ∷ xs) z) is (in_first y xs), sym (ap p is) ∙ stays)
      | inr rest ↦ let before : Contains xs x × (p x ≡ true) = from_filtered p xs x rest in (in_rest x y xs before.0, before.1)
    ])
    (λ goes within. let before : Contains xs x × (p x ≡ true) = from_filtered p xs x within in (in_rest x y xs before.0, before.1))
    there

pub in_found : {X : Type 0} (p : X → Bool) (xs : List X) (x : X) → find p xs ≡ Some x → Contains xs x × (p x ≡ true)
in_found p [] x found = absurd (none_some found)
in_found p (y ∷ xs) x found =
    cond_both (p y) (Some y) (find p xs) (λ is. is ≡ Some x → Contains (y ∷ xs) x × (p x ≡ true))
    (λ here is. let same : y ≡ x = cc in (subst (λ z. Contains (y ∷ xs) z) same (in_first y xs), subst (λ z. p z ≡ true) same here))
    (λ other is. let before : Contains xs x × (p x ≡ true) = in_found p xs x is in (in_rest x y xs before.0, before.1))
    found

pub not_found : {X : Type 0} (p : X → Bool) (xs : List X) → (is_some (find p xs) ≡ true → ⊥) → (x : X) → Contains xs x → p x ≡ false
not_found p [] none x there = absurd (nothing_in x there)
not_found p (y ∷ xs) none x there =
    cond_both (p y) (Some y) (find p xs) (λ is. (is_some is ≡ true → ⊥) → p x ≡ false)
    (λ here no. absurd (no refl))
    (λ other no. elim (in_cases x y xs there) [
      | inl is ↦ ap p (sym is) ∙ other
      | inr rest ↦ not_found p xs no x rest
    ])
    none

-- ---- changed elements
pub maps_alike : {X Y : Type 0} (f g : X → Y) (xs : List X) → ((x : X) → Contains xs x → f x ≡ g x) → map f xs ≡ map g xs
maps_alike f g [] alike = refl
maps_alike f g (x ∷ xs) alike = ap₂ (λ y ys. y ∷ ys) (alike x (in_first x xs)) (maps_alike f g xs (λ y there. alike y (in_rest y x xs there)))

pub twice_mapped : {X Y Z : Type 0} (f : Y → Z) (g : X → Y) (xs : List X) → map f (map g xs) ≡ map (λ x. f (g x)) xs
twice_mapped f g [] = refl
twice_mapped f g (x ∷ xs) = ap (λ ys. f (g x) ∷ ys) (twice_mapped f g xs)

pub any_alike : {X : Type 0} (p q : X → Bool) (xs : List X) → ((x : X) → Contains xs x → p x ≡ q x) → list_any p xs ≡ list_any q xs
any_alike p q [] alike = refl
any_alike p q (x ∷ xs) alike = ap₂ (λ here later. here || later) (alike x (in_first x xs)) (any_alike p q xs (λ y there. alike y (in_rest y x xs there)))

pub any_mapped : {X Y : Type 0} (p : Y → Bool) (f : X → Y) (xs : List X) → list_any p (map f xs) ≡ list_any (λ x. p (f x)) xs
any_mapped p f [] = refl
any_mapped p f (x ∷ xs) = ap (λ later. p (f x) || later) (any_mapped p f xs)

pub find_alike : {X : Type 0} (p q : X → Bool) (xs : List X) → ((x : X) → Contains xs x → p x ≡ q x) → find p xs ≡ find q xs
find_alike p q [] alike = refl
find_alike p q (x ∷ xs) alike = ap₂ (λ (here : Bool) later. cond here (Some x) later) (alike x (in_first x xs)) (find_alike p q xs (λ y there. alike y (in_rest y x xs there)))

-- a test that doesn't see the change
pub found_mapped : {X : Type 0} (p : X → Bool) (f : X → X) → ((x : X) → p (f x) ≡ p x) → (xs : List X) → find p (map f xs) ≡ option_map f (find p xs)
found_mapped p f same [] = refl
found_mapped p f same (x ∷ xs) =
    ap₂ (λ (here : Bool) later. cond here (Some (f x)) later) (same x) (found_mapped p f same xs)
    ∙ cond_both (p x) (Some x) (find p xs) (λ found. cond (p x) (Some (f x)) (option_map f (find p xs)) ≡ option_map f found)
    (λ here. ap (λ b. cond b (Some (f x)) (option_map f (find p xs))) here)
    (λ other. ap (λ b. cond b (Some (f x)) (option_map f (find p xs))) other)

pub some_mapped : {X : Type 0} (f : X → X) (o : Option X) → is_some (option_map f o) ≡ is_some o
some_mapped f None = refl
some_mapped f (Some x) = refl

pub from_mapped : {X : Type 0} (f : X → X) (o : Option X) (y : X) → option_map f o ≡ Some y → (x : X) × (o ≡ Some x) × (f x ≡ y)
from_mapped f None y is = absurd (none_some is)
from_mapped f (Some x) y is = (x, refl, cc)

pub filter_mapped : {X : Type 0} (p : X → Bool) (f : X → X) → ((x : X) → p (f x) ≡ p x) → (xs : List X) → filter p (map f xs) ≡ map f (filter p xs)
filter_mapped p f same [] = refl
filter_mapped p f same (x ∷ xs) =
    ap₂ (λ (here : Bool) later. cond here (f x ∷ later) later) (same x) (filter_mapped p f same xs)
    ∙ cond_both (p x) (x ∷ filter p xs) (filter p xs) (λ kept. cond (p x) (f x ∷ map f (filter p xs)) (map f (filter p xs)) ≡ map f kept)
    (λ here. ap (λ b. cond b (f x ∷ map f (filter p xs)) (map f (filter p xs))) here)
    (λ other. ap (λ b. cond b (f x ∷ map f (filter p xs)) (map f (filter p xs))) other)

-- ---- what a match tells, and how it is told
pub matched : {X : Type 0} (o : Option X) (Q : X → Type 0) → MatchOption o ⊥ Q → (x : X) × (o ≡ Some x) × Q x
matched None Q none = absurd none
matched (Some x) Q told = (x, refl, told)

pub is_matched : {X : Type 0} (o : Option X) (Q : X → Type 0) (x : X) → o ≡ Some x → Q x → MatchOption o ⊥ Q
is_matched o Q x is told = subst (λ o. MatchOption o ⊥ Q) (sym is) told
