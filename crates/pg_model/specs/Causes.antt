-- Causes in their order, and the first of them that holds.
use Rattle.std.specs.Prelude.{◌≡◌, ◌⊎◌, List, [], ◌∷◌, Option, Some, None}

-- a proposition, and what is answered where it is the first that holds; the answer may tell of what holds
pub record Cause (Answer : Type 0) : Type 1 where
  pub holds : Type 0
  pub tells : holds → Answer

-- The answer of the first cause that holds, and None where none does.
abbrev pub IsFirst : {Answer : Type 0} → List (Cause Answer) → Option Answer → Type 0
IsFirst [] answer = answer ≡ None
IsFirst (cause ∷ causes) answer =
    ((held : cause.holds) × (answer ≡ Some (cause.tells held))) ⊎ ((cause.holds → ⊥) × IsFirst causes answer)
