-- The names of the open consumers, and how they are kept: by numbers, which ascend in the order of opening.
use Rattle.std.specs.Prelude.{◌≡◌, ◌≢◌, ◌<◌, ℕ, not, Option, Some, IsSome, List, String, filter, find, AllPairs}
use Rattle.std.specs.declared.alloc.Global.{Global}
use Rattle.std.specs.Ordering.{nat_cmp}
use Rattle.std.specs.Str.{bytes_eq}
use Rattle.std.specs.BTreeMap.{BTreeMap, get, get_by_text, IsOrdered}
use Rattle.pg_flight.specs.declared.names.Row.{Row}

-- the row of that name
abbrev pub named : List ℕ → List Row → Option Row
named name rows = find (λ row. bytes_eq name row.name) rows

-- the rows but the one of that name
abbrev pub without_name : List ℕ → List Row → List Row
without_name name rows = filter (λ row. not (bytes_eq name row.name)) rows

-- no two have one name
abbrev pub AreApart : List Row → Type 0
AreApart rows = AllPairs (λ row other. row.name ≢ other.name) rows

-- ---- how they are kept
-- rows by their numbers
abbrev pub Rows : Type 0
Rows = BTreeMap ℕ Row

-- the numbers of rows by their names
abbrev pub Numbers : Type 0
Numbers = BTreeMap (String Global) ℕ

-- each row's number is below the next one, and is found by the row's name
pub record AreNumbered (next : ℕ) (rows : Rows) (numbers : Numbers) : Type 0 where
  pub ordered : IsOrdered nat_cmp rows
  pub below : (number : ℕ) → IsSome (get nat_cmp rows number) → number < next
  pub found : (number : ℕ) (row : Row) → get nat_cmp rows number ≡ Some row → get_by_text numbers row.name ≡ Some number

-- the row of that name has the number
pub record IsNumberOf (rows : Rows) (numbers : Numbers) (name : List ℕ) (number : ℕ) : Type 0 where
  pub row : Row
  pub there : get nat_cmp rows number ≡ Some row
  pub its : row.name ≡ name
  pub leads : get_by_text numbers name ≡ Some number
