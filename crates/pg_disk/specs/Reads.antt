-- What the files read as, and what was read of a source.
use Rattle.std.specs.Prelude.{◌≡◌, ◌++◌, ℕ, List, map, Option, Some}
use Rattle.std.specs.FinMap.{FinMap, entries, from_entries}
use Rattle.pg_disk.specs.Files.{file_cmp, Files}
use Rattle.pg_disk.specs.Account.{FileState}

abbrev pub reads : FinMap file_cmp FileState → Files
reads m = from_entries (map (λ e. (e.0, e.1.bytes)) (entries m))

-- where it is told what was left, that began with these bytes, and what is left now stood behind them
abbrev pub TakesFrom : Option (List ℕ) → Option (List ℕ) → List ℕ → Type 0
TakesFrom old new bytes = (xs : List ℕ) → old ≡ Some xs → (ys : List ℕ) × (new ≡ Some ys) × (xs ≡ bytes ++ ys)
