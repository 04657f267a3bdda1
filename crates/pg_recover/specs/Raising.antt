-- How the next epoch is begun, and what a crash leaves meanwhile.
use Rattle.std.specs.Prelude.{◌≡◌, ◌⊎◌, ◌<◌, ◌≤◌, ◌+◌, ◌^◌, ℕ, List, Option, None}
use Rattle.std.specs.FinMap.{FinMap}
use Rattle.pg_disk.specs.declared.fault.Fault.{Fault}
use Rattle.pg_disk.specs.declared.fault.Fault.TheVariants.{Failed, Damaged, Spent, Memory}
use Rattle.pg_disk.specs.declared.fault.Rule.TheVariants.{Room}
use Rattle.pg_disk.specs.declared.file_id.FileId.{FileId}
use Rattle.pg_disk.specs.Account.{FileState, Account, account, IsHonest, AllQuiet}
use Rattle.pg_disk.specs.Files.{file_cmp, Files}
use Rattle.pg_fold.specs.declared.durable.Durable.{Durable}
use Rattle.pg_fold.specs.Fold.{fresh}
use Rattle.pg_journal.specs.declared.journal.Journal.{Journal}
use Rattle.pg_disk.specs.Views.{as_read, as_left}
use Rattle.pg_journal.specs.Stands.{Stands, counted, name_of}
use Rattle.pg_recover.specs.Denotation.{FoldsTo, raised}
use Rattle.pg_recover.specs.Folding.{FoldsFrom, IsDamageAt}
use Rattle.pg_recover.specs.Listing.{HasUnlisted}
use Rattle.pg_recover.specs.Removing.{ListsOthers}
use Rattle.pg_recover.specs.Said.{KeepsWhole}
use Rattle.pg_recover.specs.WellFormed.{AreRoomy}

-- the journal stands for batches that lead to the state, the list has the other generations, and nothing is pending
pub record IsReady (journal : Journal) (durable : Durable) (list : List FileId)
    (files : FinMap file_cmp FileState) : Type 0 where
  pub batches : List (List ℕ)
  pub stands : Stands journal batches files
  pub folds : FoldsFrom fresh batches durable
  pub listed : ListsOthers list (name_of journal) files
  pub quiet : AllQuiet files

-- The journal gives the state, or the state in the next epoch, and no file is cut that wasn't.
pub record LeavesRaised (journal : Journal) (durable : Durable) (tells : Option Account) (image : Files)
    (told : List ℕ) : Type 0 where
  pub honest : IsHonest tells
  pub nothing : told ≡ (account tells).told
  pub denotes : (batches : List (List ℕ)) → Stands journal batches (account tells).files
      → FoldsFrom fresh batches durable → FoldsTo (as_left image) durable ⊎ FoldsTo (as_left image) (raised durable)
  pub keeps : KeepsWhole (as_read (account tells).files) (as_left image)

-- the disk failed, or there was no memory
abbrev pub IsFailedOrMemory : Fault → Type 0
IsFailedOrMemory fault = (fault ≡ Failed) ⊎ (fault ≡ Memory)

-- the files are none that may stand beside the state, or the state has no next epoch below this in this journal
abbrev pub IsUnfit : List FileId → Journal → Durable → ℕ → Fault → Type 0
IsUnfit files journal durable epochs Failed = ⊥
IsUnfit files journal durable epochs (Damaged damage) =
    HasUnlisted durable.addresses None files damage
    ⊎ IsDamageAt (name_of journal) 0 (λ rule. (rule ≡ Room) × (AreRoomy durable → ⊥)) damage
IsUnfit files journal durable epochs Spent = (epochs ≤ durable.epoch + 1) ⊎ (2 ^ 62 < counted journal + 14)
IsUnfit files journal durable epochs Memory = Unit {0}
