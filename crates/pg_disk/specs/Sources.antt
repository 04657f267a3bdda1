-- What is said of a source as a whole, by its meanings.
use Rattle.std.specs.Prelude.{◌≡◌, ℕ, List}
use Rattle.pg_disk.specs.declared.source.Source.{Ghosts}
use Rattle.pg_disk.specs.Reads.{TakesFrom}

-- where it tells what was left, that began with these bytes, and what is left now stood behind them
abbrev pub Takes : {R : Type 0} → Ghosts R → R → R → List ℕ → Type 0
Takes s old new bytes = TakesFrom (s.rest old) (s.rest new) bytes

-- nothing was taken
abbrev pub Stays : {R : Type 0} → Ghosts R → R → R → Type 0
Stays s old new = s.rest new ≡ s.rest old
