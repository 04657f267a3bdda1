-- What a journal that was found stands for, among the files.
use Rattle.std.specs.Prelude.{◌≡◌, ◌≢◌, ◌⊎◌, ℕ, List, [], Option, Some, None}
use Rattle.std.specs.FinMap.{FinMap, get}
use Rattle.pg_disk.specs.declared.file_id.FileId.{FileId}
use Rattle.pg_disk.specs.declared.file_id.Kind.TheVariants.{Journal as OfJournal}
use Rattle.pg_disk.specs.Account.{FileState, IsQuiet, IsQuietAt}
use Rattle.pg_disk.specs.Files.{file_cmp}
use Rattle.pg_gate.specs.Gated.{Batches, RestsAt, StandsFor, file_of, counted_length}
use Rattle.pg_journal.specs.declared.journal.Journal.{Journal}
use Rattle.pg_journal.specs.Generations.{IsBefore}

-- the journal's file
abbrev pub name_of : Journal → FileId
name_of journal = file_of journal.rest

-- how many bytes of it are counted
abbrev pub counted : Journal → ℕ
counted journal = counted_length journal.rest

-- the file isn't there, or it has no batch and nothing of it is pending
abbrev pub IsIdle : Option FileState → Type 0
IsIdle None = Unit {0}
IsIdle (Some s) = IsQuiet s × Batches s.bytes []

-- Among these files the journal stands for these batches: its file is at rest and has them, and no generation behind it
-- has a batch, nor any other where it has none itself.
pub record Stands (journal : Journal) (batches : List (List ℕ)) (files : FinMap file_cmp FileState) : Type 0 where
  pub kind : (name_of journal).kind ≡ OfJournal
  pub stands : StandsFor journal.rest batches (get files (name_of journal))
  pub last : (other : FileId) → other.kind ≡ OfJournal → IsBefore (name_of journal) other → IsIdle (get files other)
  pub alone : batches ≡ [] → (other : FileId) → other.kind ≡ OfJournal → other ≢ name_of journal →
      IsIdle (get files other)

-- the file had no batch, and is at rest without one, or it wasn't there and isn't
abbrev pub ComesToRest : Option FileState → Option FileState → Type 0
ComesToRest None t = t ≡ None
ComesToRest (Some s) t = Batches s.bytes [] × RestsAt 0 [] t

-- the file is as it was, or it had no batch and is at rest without one
abbrev pub StaysOrComesToRest : Option FileState → Option FileState → Type 0
StaysOrComesToRest s t = (t ≡ s) ⊎ ComesToRest s t

-- nothing of any generation is pending
abbrev pub AreQuiet : FinMap file_cmp FileState → Type 0
AreQuiet files = (file : FileId) → file.kind ≡ OfJournal → IsQuietAt (get files file)
