-- What lists contain.
use Rattle.std.proofs.Common.{◌≡◌, ℕ, zero, suc, ◌<◌, ◌⊎◌, Bool, true, false, List, [], ◌∷◌, length, get_or, refl, sym, ap, subst, ◌∙◌, inl, inr, arith}
use Rattle.std.proofs.lemmas.Bool.{cond_both}
use Rattle.std.specs.Prelude.{filter}
use Rattle.std.specs.List.{Contains}

pub nothing_in : {X : Type 0} (x : X) → Contains [] x → ⊥
nothing_in x there = omega (arith, there.1)

pub in_first : {X : Type 0} (x : X) (xs : List X) → Contains (x ∷ xs) x
in_first x xs = (0, omega arith, refl)

pub in_rest : {X : Type 0} (x y : X) (xs : List X) → Contains xs x → Contains (y ∷ xs) x
in_rest x y xs there = (suc there.0, omega (arith, there.1), there.2)

cases_at : {X : Type 0} (x y : X) (xs : List X) (k : ℕ) → k < length (y ∷ xs) → get_or (y ∷ xs) k x ≡ x → (y ≡ x) ⊎ Contains xs x
cases_at x y xs zero within is = inl is
cases_at x y xs (suc k) within is = inr (k, omega arith, is)

pub in_cases : {X : Type 0} (x y : X) (xs : List X) → Contains (y ∷ xs) x → (y ≡ x) ⊎ Contains xs x
in_cases x y xs there = cases_at x y xs there.0 there.1 there.2

-- what passes a test is kept, and nothing else
pub in_kept : {X : Type 0} (p : X → Bool) (xs : List X) (x : X) → Contains xs x → p x ≡ true → Contains (filter p xs) x
in_kept p [] x there passes = absurd (nothing_in x there)
in_kept p (y ∷ xs) x there passes = elim (in_cases x y xs there) [
  | inl is ↦ cond_both (p y) (y ∷ filter p xs) (filter p xs) (λ l. Contains l x)
      (λ stays. subst (λ z. Contains (y ∷ filter p xs) z) is (in_first y (filter p xs)))
      (λ goes. absurd (never (p y) (ap p is ∙ passes) goes))
  | inr rest ↦ cond_both (p y) (y ∷ filter p xs) (filter p xs) (λ l. Contains l x)
      (λ stays. in_rest x y (filter p xs) (in_kept p xs x rest passes))
      (λ goes. in_kept p xs x rest passes)
]
  where
    never : (b : Bool) → b ≡ true → b ≡ false → ⊥
    never b is not_ = cc

pub from_kept : {X : Type 0} (p : X → Bool) (xs : List X) (x : X) → Contains (filter p xs) x → Contains xs x × (p x ≡ true)
from_kept p [] x there = absurd (nothing_in x there)
from_kept p (y ∷ xs) x there =
    cond_both (p y) (y ∷ filter p xs) (filter p xs) (λ kept. Contains kept x → Contains (y ∷ xs) x × (p x ≡ true))
    (λ stays within. elim (in_cases x y (filter p xs) within) [
      | inl is ↦ (subst (λ z. Contains (y ∷ xs) z) is (in_first y xs), sym (ap p is) ∙ stays)
      | inr rest ↦ let inside : Contains xs x × (p x ≡ true) = from_kept p xs x rest in (in_rest x y xs inside.0, inside.1)
    ])
    (λ goes within. let inside : Contains xs x × (p x ≡ true) = from_kept p xs x within in (in_rest x y xs inside.0, inside.1))
    there
