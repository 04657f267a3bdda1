-- The lists of queues and of pages, and how they are spelled.
use Rattle.std.specs.Prelude.{◌<◌, ◌^◌, ℕ, List, [], ◌∷◌, ◌++◌, length, map, All}
use Rattle.std.specs.Int.{to_be_bytes, w16, w32, w64}
use Rattle.pg_msg.specs.declared.limits.TheConstants.{MOST_QUEUES}
use Rattle.pg_msg.specs.Names.{IsBetween}

-- each id in 4 bytes, one behind the other
abbrev pub ids_bytes : List ℕ → List ℕ
ids_bytes [] = []
ids_bytes (id ∷ ids) = to_be_bytes w32 id ++ ids_bytes ids

-- the count in 2 bytes, and the ids
abbrev pub queues_bytes : List ℕ → List ℕ
queues_bytes queues = to_be_bytes w16 (length queues) ++ ids_bytes queues

-- the number is below the first of the list, if it has one
abbrev pub IsBelowFirst : ℕ → List ℕ → Type 0
IsBelowFirst id [] = Unit {0}
IsBelowFirst id (next ∷ ids) = id < next

-- each number is below the one behind it
abbrev pub Ascends : List ℕ → Type 0
Ascends [] = Unit {0}
Ascends (id ∷ ids) = IsBelowFirst id ids × Ascends ids

-- the queues that a message goes to
pub record AreQueues (queues : List ℕ) : Type 0 where
  pub count : IsBetween 1 MOST_QUEUES (length queues)
  pub each : All (λ queue. queue < 2 ^ 32) queues
  pub ascending : Ascends queues

-- an address in 4 bytes and its last page in 8, one behind the other
abbrev pub rows_bytes : List (ℕ × ℕ) → List ℕ
rows_bytes [] = []
rows_bytes (row ∷ rows) = to_be_bytes w32 row.0 ++ (to_be_bytes w64 row.1 ++ rows_bytes rows)

-- the count in 2 bytes, and the addresses with their last pages
abbrev pub pages_bytes : List (ℕ × ℕ) → List ℕ
pages_bytes rows = to_be_bytes w16 (length rows) ++ rows_bytes rows

-- each number has its place; which pages there may be isn't asked here
abbrev pub IsPageRow : ℕ × ℕ → Type 0
IsPageRow row = (row.0 < 2 ^ 32) × (row.1 < 2 ^ 64)

-- the last pages of a transaction, by address
pub record ArePages (rows : List (ℕ × ℕ)) : Type 0 where
  pub count : IsBetween 1 65535 (length rows)
  pub each : All IsPageRow rows
  pub ascending : Ascends (map (λ row. row.0) rows)
