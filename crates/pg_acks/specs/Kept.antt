-- How acknowledged positions are kept.
use Rattle.std.specs.Prelude.{ℕ, Bool, List, [], ◌∷◌}
use Rattle.std.specs.FinSet as set
use Rattle.std.specs.BTreeMap.{BTreeMap, IsOrdered}
use Rattle.std.specs.BTreeSet as sorted
use Rattle.std.specs.BTreeSet.{BTreeSet}
use Rattle.std.specs.List.{list_any}
use Rattle.pg_acks.specs.declared.row.AckRow.{AckRow}
use Rattle.pg_acks.specs.Acked.{AckSets, indexes_between, is_single, position_at, with_indexes}
use Rattle.pg_acks.specs.Keys.{At, Key, at_cmp, key_cmp}
use Rattle.pg_acks.specs.Runs.{AreRuns, starts}

abbrev pub row_of : Key × ℕ → AckRow
row_of entry = record { queue = entry.0.0.0; page = entry.0.0.1; from = entry.0.1; to = entry.1 }

-- the positions of the runs
abbrev pub positions_of : List (Key × ℕ) → set.FinSet key_cmp
positions_of [] = set.empty
positions_of (run ∷ runs) = with_indexes run.0.0 (indexes_between run.0.1 run.1) (positions_of runs)

abbrev pub seen : BTreeMap Key ℕ → BTreeSet At → AckSets
seen runs pages = record { singles = positions_of runs.entries; wholes = set.from_list pages.keys }

-- what is kept of each page are runs
pub record RunsAreKept (runs : BTreeMap Key ℕ) : Type 0 where
  pub ordered : IsOrdered key_cmp runs
  pub each : (at : At) → AreRuns (starts runs at)

pub record AreKept (runs : BTreeMap Key ℕ) (pages : BTreeSet At) : Type 0 where
  pub singles : RunsAreKept runs
  pub wholes : sorted.IsOrdered at_cmp pages

-- some position of the page between these indexes is a single one
abbrev pub any_single : AckSets → ℕ → ℕ → ℕ → ℕ → Bool
any_single acks queue page from to =
    list_any (λ index. is_single acks queue (position_at page index)) (indexes_between from to)
