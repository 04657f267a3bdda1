-- How time goes on within one call.
use Rattle.std.specs.Prelude.{◌⊎◌, ◌≤◌, ℕ, List}
use Rattle.pg_disk.specs.Files.{Files}

-- a crash since t might have left what it might have left before, or what one within the call may leave
pub record Elapses (before now : ℕ) (past since : ℕ → Files → List ℕ → Type 0)
    (within : Files → List ℕ → Type 0) : Type 0 where
  pub later : before ≤ now
  pub nothing_else : (t : ℕ) (c : Files) (b : List ℕ) → t ≤ before → since t c b → past t c b ⊎ within c b
  pub keeps : (t : ℕ) (c : Files) (b : List ℕ) → t ≤ before → past t c b → since t c b
