-- Which directories are well formed, as far as it is built: frames, large messages and transactions aren't.
use Rattle.std.specs.Prelude.{◌≡◌, ◌≢◌, ◌<◌, ◌≤◌, ◌+◌, ◌^◌, ℕ, List, All, Some, true}
use Rattle.pg_disk.specs.declared.file_id.FileId.{FileId}
use Rattle.pg_disk.specs.declared.file_id.Kind.{Kind}
use Rattle.pg_disk.specs.declared.file_id.Kind.TheVariants.{Journal, Page, Large}
use Rattle.pg_gate.specs.Gated.{Batches}
use Rattle.pg_fold.specs.declared.durable.Durable.{Durable}
use Rattle.pg_fold.specs.declared.rows.AddressRow.{AddressRow}
use Rattle.pg_fold.specs.Rows.{has_address}
use Rattle.pg_disk.specs.Views.{Contents}
use Rattle.pg_recover.specs.Denotation.{FoldsTo, weight_at}

-- the file is there
abbrev pub IsThere : Contents → FileId → Type 0
IsThere contents file = (bytes : List ℕ) × (contents file ≡ Some bytes)

-- a page of an address
abbrev pub page_file : ℕ → ℕ → FileId
page_file address number = record { kind = Page; owner = address; number = number }

-- from 1 to 2^62
abbrev pub IsFileNumber : ℕ → Type 0
IsFileNumber number = (1 ≤ number) × (number ≤ 2 ^ 62)

-- a file of the journal has owner 0, the owner of a page is one of the addresses, and both are numbered
abbrev pub IsNamedAs : List AddressRow → Kind → ℕ → ℕ → Type 0
IsNamedAs addresses Journal owner number = (owner ≡ 0) × IsFileNumber number
IsNamedAs addresses Page owner number = (has_address addresses owner ≡ true) × IsFileNumber number
IsNamedAs addresses Large owner number = Unit {0}

abbrev pub IsNamed : List AddressRow → FileId → Type 0
IsNamed addresses file = IsNamedAs addresses file.kind file.owner file.number

-- the pages of the address from its first one on are numbered without a gap, beginning with the first
abbrev pub IsGapless : Contents → AddressRow → Type 0
IsGapless contents row =
    (number : ℕ) → IsThere contents (page_file row.id number)
    → (other : ℕ) → row.first ≤ other → other ≤ number → IsThere contents (page_file row.id other)

-- the messages of each address have room in memory, where a last one may pass the limit
abbrev pub AreRoomy : Durable → Type 0
AreRoomy d = All (λ row. weight_at row.id d.journaled < row.max + 102400) d.addresses

pub record WellFormed (contents : Contents) : Type 0 where
  -- the batches of the journal spell entries whose conditions hold
  pub state : Durable
  pub folds : FoldsTo contents state
  -- no batch is cut
  pub whole : (file : FileId) → file.kind ≢ Large → (bytes : List ℕ) → contents file ≡ Some bytes
      → (batches : List (List ℕ)) × Batches bytes batches
  pub named : (file : FileId) → IsThere contents file → IsNamed state.addresses file
  pub gapless : All (IsGapless contents) state.addresses
  pub roomy : AreRoomy state
