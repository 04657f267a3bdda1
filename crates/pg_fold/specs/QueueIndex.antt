-- What is kept beside the live queues agrees with them.
use Rattle.std.specs.Prelude.{◌≡◌, ◌≢◌, ℕ, Bool, true, nat_eq, List, String, AllPairs}
use Rattle.std.specs.Option.{unwrap_or}
use Rattle.std.specs.declared.alloc.Global.{Global}
use Rattle.std.specs.declared.hash.FoldHasher.{FoldHasher}
use Rattle.std.specs.declared.hash.BuildHasherDefault.{BuildHasherDefault}
use Rattle.indexmap.specs.IndexMap.{IndexMap, get}
use Rattle.indexmap.specs.IndexSet.{IndexSet, contains_text}
use Rattle.pg_fold.specs.declared.rows.QueueRow.{QueueRow}
use Rattle.pg_fold.specs.Rows.{has_queue_named, queues_at, AreAscending}

-- the set of the names
abbrev pub Names : Type 0
Names = IndexSet (String Global) (BuildHasherDefault FoldHasher)

-- a name is in the set where a queue has it
abbrev pub AreNamesOf : Names → List QueueRow → Type 0
AreNamesOf names rows = (name : List ℕ) → contains_text names name ≡ has_queue_named rows name

-- how many queues were counted for each address
abbrev pub Counts : Type 0
Counts = IndexMap ℕ ℕ (BuildHasherDefault FoldHasher)

abbrev pub counted : Counts → ℕ → ℕ
counted counts address = unwrap_or (get nat_eq counts address) 0

-- as many were counted as the address has
abbrev pub AreCountsOf : Counts → List QueueRow → Type 0
AreCountsOf counts rows = (address : ℕ) → counted counts address ≡ queues_at rows address

-- The names differ and are those in the set, and the counts are right. Where the mark is set, the ids ascend.
pub record AreIndexed (ascending : Bool) (names : Names) (counts : Counts) (rows : List QueueRow) : Type 0 where
  pub ids : ascending ≡ true → AreAscending rows
  pub apart : AllPairs (λ row other. row.name ≢ other.name) rows
  pub named : AreNamesOf names rows
  pub numbers : AreCountsOf counts rows
