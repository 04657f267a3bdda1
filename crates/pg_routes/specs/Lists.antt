-- Ids in ascending order, and the lists of the ids of each address's queues.
use Rattle.std.specs.Prelude.{◌==◌, ℕ, not, nat_lt, List, [], ◌∷◌, ◌++◌, filter}
use Rattle.std.specs.BTreeMap.{BTreeMap, get}
use Rattle.std.specs.Option.{option_map_or}
use Rattle.std.specs.Ordering.{nat_cmp}
use Rattle.std.specs.Prelude.{Vec}
use Rattle.std.specs.declared.alloc.Global.{Global}

-- the ids with one more, which stands behind the smaller ones and before the greater ones
abbrev pub with_id : ℕ → List ℕ → List ℕ
with_id id ids = filter (λ other. nat_lt other id) ids ++ (id ∷ filter (λ other. nat_lt id other) ids)

-- the ids but that one
abbrev pub without_id : ℕ → List ℕ → List ℕ
without_id id ids = filter (λ other. not (other == id)) ids

abbrev pub Lists : Type 0
Lists = BTreeMap ℕ (Vec ℕ Global)

-- the ids that are listed for the address: none where it has no list
abbrev pub ids_at : Lists → ℕ → List ℕ
ids_at lists address = option_map_or (λ ids. ids.items) (get nat_cmp lists address) []
