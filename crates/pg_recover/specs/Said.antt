-- What is read of the journal, and what a crash leaves meanwhile.
use Rattle.std.specs.Prelude.{◌≡◌, ◌≢◌, ◌⊎◌, ℕ, List, Option, Some, None}
use Rattle.std.specs.FinMap.{FinMap, get}
use Rattle.pg_disk.specs.declared.file_id.FileId.{FileId}
use Rattle.pg_disk.specs.declared.file_id.Kind.TheVariants.{Journal as OfJournal}
use Rattle.pg_disk.specs.Account.{FileState, Account, account, IsHonest, AllQuiet}
use Rattle.pg_disk.specs.Files.{file_cmp, Files}
use Rattle.pg_gate.specs.Gated.{Batches}
use Rattle.pg_fold.specs.declared.durable.Durable.{Durable}
use Rattle.pg_fold.specs.Fold.{fresh}
use Rattle.pg_journal.specs.declared.journal.Journal.{Journal}
use Rattle.pg_journal.specs.Generations.{first_generation, GoesOn, JournalOf}
use Rattle.pg_disk.specs.Views.{Contents, as_read, as_left}
use Rattle.pg_journal.specs.Stands.{Stands, StaysOrComesToRest, name_of}
use Rattle.pg_recover.specs.Folding.{FoldsFrom}

-- no batch is cut, where the file is there
abbrev pub IsWhole : Option (List ℕ) → Type 0
IsWhole None = Unit {0}
IsWhole (Some bytes) = (batches : List (List ℕ)) × Batches bytes batches

-- Each file that is no generation has in it what it had, no generation was cut that wasn't, and none is there that
-- wasn't but the first one.
pub record KeepsWhole (old new : Contents) : Type 0 where
  pub others : (file : FileId) → file.kind ≢ OfJournal → new file ≡ old file
  pub whole : (file : FileId) → file.kind ≡ OfJournal → IsWhole (old file) → IsWhole (new file)
  pub made : (file : FileId) → file.kind ≡ OfJournal → old file ≡ None
      → (new file ≡ None) ⊎ (file ≡ first_generation)

-- the journal says what it said, and no file is cut that wasn't
pub record LeavesSaid (tells : Option Account) (image : Files) (told : List ℕ) : Type 0 where
  pub honest : IsHonest tells
  pub nothing : told ≡ (account tells).told
  pub says : (batches : List (List ℕ)) → JournalOf (as_read (account tells).files) batches
      → JournalOf (as_left image) batches
  pub keeps : KeepsWhole (as_read (account tells).files) (as_left image)

-- the journal that was found stands for what it said, and its batches lead to the state
pub record IsReadFrom (journal : Journal) (durable : Durable) (old now : FinMap file_cmp FileState) : Type 0 where
  pub batches : List (List ℕ)
  pub says : JournalOf (as_read old) batches
  pub goes_on : GoesOn (as_read old) (name_of journal)
  pub stands : Stands journal batches now
  pub folds : FoldsFrom fresh batches durable
  pub others : (file : FileId) → file.kind ≡ OfJournal → file ≢ name_of journal
      → StaysOrComesToRest (get old file) (get now file)
  pub quiet : AllQuiet now
  pub keeps : KeepsWhole (as_read old) (as_read now)
