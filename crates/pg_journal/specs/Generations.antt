-- Which of the journal's files counts, and what the journal says.
use Rattle.std.specs.Prelude.{◌≡◌, ◌≢◌, ◌⊎◌, ◌<◌, ℕ, Bool, true, false, List, [], Some, None}
use Rattle.std.specs.List.{AllPairs}
use Rattle.pg_disk.specs.declared.file_id.FileId.{FileId}
use Rattle.pg_disk.specs.declared.file_id.Kind.{Kind}
use Rattle.pg_disk.specs.declared.file_id.Kind.TheVariants.{Journal, Page, Large}
use Rattle.pg_disk.specs.Views.{Contents}
use Rattle.pg_gate.specs.Gated.{AllFit, HasBatches, HasNone}

-- whether a file of this kind is a generation of the journal
abbrev pub is_of_journal : Kind → Bool
is_of_journal Journal = true
is_of_journal Page = false
is_of_journal Large = false

-- whether the file is one
abbrev pub is_generation : FileId → Bool
is_generation file = is_of_journal file.kind

-- a generation comes before another: its number is smaller, or the numbers are the same and its owner is smaller
abbrev pub IsBefore : FileId → FileId → Type 0
IsBefore a b = (a.number < b.number) ⊎ ((a.number ≡ b.number) × (a.owner < b.owner))

-- no later one comes before an earlier one
abbrev pub IsAscending : List FileId → Type 0
IsAscending files = AllPairs (λ a b. IsBefore b a → ⊥) files

-- the last generation that has a batch, and its batches
pub record IsGeneration (contents : Contents) (file : FileId) (batches : List (List ℕ)) : Type 0 where
  pub kind : file.kind ≡ Journal
  pub has : HasBatches batches (contents file)
  pub fit : AllFit batches
  pub some : batches ≢ []
  pub last : (other : FileId) → other.kind ≡ Journal → IsBefore file other → HasNone (contents other)

-- no generation has a batch
abbrev pub HasNoGeneration : Contents → Type 0
HasNoGeneration contents = (file : FileId) → file.kind ≡ Journal → HasNone (contents file)

-- what the journal says: the batches of the last generation that has one, or nothing
abbrev pub JournalOf : Contents → List (List ℕ) → Type 0
JournalOf contents batches =
    ((file : FileId) × IsGeneration contents file batches) ⊎ (HasNoGeneration contents × (batches ≡ []))

-- the last generation that is there
pub record IsLastThere (contents : Contents) (file : FileId) : Type 0 where
  pub kind : file.kind ≡ Journal
  pub there : (bytes : List ℕ) × (contents file ≡ Some bytes)
  pub last : (other : FileId) → other.kind ≡ Journal → IsBefore file other → contents other ≡ None

-- no generation is there
abbrev pub HasNoneThere : Contents → Type 0
HasNoneThere contents = (file : FileId) → file.kind ≡ Journal → contents file ≡ None

-- the first generation
abbrev pub first_generation : FileId
first_generation = record { kind = Journal; owner = 0; number = 1 }

-- The file with which the journal goes on: the last generation that has a batch, where none has the last one that is
-- there, and the first one where none is there.
abbrev pub GoesOn : Contents → FileId → Type 0
GoesOn contents file =
    ((batches : List (List ℕ)) × IsGeneration contents file batches)
    ⊎ ((HasNoGeneration contents × IsLastThere contents file) ⊎ (HasNoneThere contents × (file ≡ first_generation)))
