-- What an opening comes to, and what a crash within it leaves.
use Rattle.std.specs.Prelude.{◌≡◌, ◌≢◌, ◌⊎◌, ◌≤◌, ◌<◌, ◌+◌, ◌^◌, ℕ, List, [], length, Option, Some, None}
use Rattle.std.specs.FinMap.{FinMap, get}
use Rattle.pg_disk.specs.declared.fault.Fault.{Fault}
use Rattle.pg_disk.specs.declared.fault.Fault.TheVariants.{Failed, Damaged, Spent, Memory}
use Rattle.pg_disk.specs.declared.file_id.FileId.{FileId}
use Rattle.pg_disk.specs.declared.file_id.Kind.TheVariants.{Journal as OfJournal}
use Rattle.pg_disk.specs.Account.{FileState, Account, account, IsHonest}
use Rattle.pg_disk.specs.Meanings.{Either, LeavesMeaning, Meaning}
use Rattle.pg_disk.specs.Files.{file_cmp, Files}
use Rattle.pg_disk.specs.Calls.{Changes, ChangesWhere, ReadsSome}
use Rattle.pg_disk.specs.Image.{AnyFile}
use Rattle.pg_gate.specs.Gated.{opened, HasBatches}
use Rattle.pg_gate.specs.Spans.{IsMendable}
use Rattle.pg_records.specs.declared.entry.Entry.{Entry}
use Rattle.pg_records.specs.Entries.{SpellBatches}
use Rattle.pg_fold.specs.declared.durable.Durable.{Durable}
use Rattle.pg_fold.specs.Fold.{fresh, Folds}
use Rattle.pg_fold.specs.Sound.{IsSound}
use Rattle.pg_journal.specs.declared.journal.Journal.{Journal}
use Rattle.pg_journal.specs.Generations.{first_generation, HasNoneThere}
use Rattle.pg_disk.specs.Views.{Contents, as_read, as_left, bytes_of}
use Rattle.pg_journal.specs.Stands.{Stands, name_of}
use Rattle.pg_recover.specs.Denotation.{FoldsTo, raised}
use Rattle.pg_recover.specs.WellFormed.{WellFormed}

-- a sound state in the next epoch, of which there is no message yet
pub record IsBegun (durable : Durable) : Type 0 where
  pub before : Durable
  pub sound : IsSound before
  pub is : durable ≡ raised before

-- Among these files the journal stands for batches that spell entries which give the state, and no other generation is
-- there.
pub record Owns (journal : Journal) (durable : Durable) (files : FinMap file_cmp FileState) : Type 0 where
  pub batches : List (List ℕ)
  pub entries : List Entry
  pub stands : Stands journal batches files
  pub spelled : SpellBatches batches entries
  pub folded : Folds fresh entries durable
  pub alone : (file : FileId) → file.kind ≡ OfJournal → file ≢ name_of journal → get files file ≡ None

-- the journal gives what this makes of the state that it gave, and files that were well formed are
pub record Gives (change : Durable → Durable) (tells : Option Account) (image : Files) : Type 0 where
  pub folds : (d : Durable) → FoldsTo (as_read (account tells).files) d → FoldsTo (as_left image) (change d)
  pub well : WellFormed (as_read (account tells).files) → WellFormed (as_left image)

-- the state from before, and that in the next epoch
abbrev pub GivesSame : Meaning
GivesSame = Gives (λ d. d)

abbrev pub GivesNext : Meaning
GivesNext = Gives raised

-- What a crash within an opening leaves: the one or the other, with nothing told.
abbrev pub LeavesOpened : Option Account → Files → List ℕ → Type 0
LeavesOpened = LeavesMeaning (Either GivesSame GivesNext)

-- each file that is no generation of the journal has the bytes that it had
abbrev pub KeepsOthers : FinMap file_cmp FileState → FinMap file_cmp FileState → Type 0
KeepsOthers files now = (file : FileId) → file.kind ≢ OfJournal → bytes_of (get now file) ≡ bytes_of (get files file)

-- that is so, bytes may have been read, and nothing was told
abbrev pub OpensFiles : Account → Account → Type 0
OpensFiles = ChangesWhere AnyFile ReadsSome KeepsOthers

-- The generation was empty or had the one byte 1, so that it had no batch. It is there still, and has none.
abbrev pub IsMended : Option (List ℕ) → Option (List ℕ) → Type 0
IsMended None now = ⊥
IsMended (Some bytes) now = IsMendable bytes × HasBatches [] now

-- it is the first generation, laid where no generation was there, and has no batch
pub record IsLaid (old now : Contents) (file : FileId) : Type 0 where
  pub first : file ≡ first_generation
  pub none : HasNoneThere old
  pub empty : HasBatches [] (now file)

-- a generation has the bytes that it had, or it was mended or laid
abbrev pub IsKeptGeneration : Contents → Contents → FileId → Type 0
IsKeptGeneration old now file = (now file ≡ old file) ⊎ (IsMended (old file) (now file) ⊎ IsLaid old now file)

-- Each file that is no generation of the journal has the bytes that it had. So has each generation, but for one without
-- a batch that was mended, and for the first one where it was laid. None that was there is gone.
pub record KeepsBytes (files now : FinMap file_cmp FileState) : Type 0 where
  pub others : KeepsOthers files now
  pub generations : (file : FileId) → file.kind ≡ OfJournal → IsKeptGeneration (as_read files) (as_read now) file

-- that is so, bytes may have been read, and nothing was told
abbrev pub KeepsFiles : Account → Account → Type 0
KeepsFiles = ChangesWhere AnyFile ReadsSome KeepsBytes

-- so it is where there was damage or a limit was met
abbrev pub AreKept : Option Account → Option Account → Fault → Type 0
AreKept old new Failed = Unit {0}
AreKept old new (Damaged damage) = Changes old new KeepsFiles
AreKept old new Spent = Changes old new KeepsFiles
AreKept old new Memory = Unit {0}

-- the files weren't well formed
abbrev pub AreIllFormed : Option Account → Type 0
AreIllFormed tells = IsHonest tells → WellFormed (as_read (account tells).files) → ⊥

-- damage is that
abbrev pub IsIllFormed : Option Account → Fault → Type 0
IsIllFormed tells Failed = Unit {0}
IsIllFormed tells (Damaged damage) = AreIllFormed tells
IsIllFormed tells Spent = Unit {0}
IsIllFormed tells Memory = Unit {0}

-- no epoch is left below this, or the journal has no room for the 14 bytes of one more and its gate
pub record HasNoEpoch (epochs : ℕ) (files : FinMap file_cmp FileState) : Type 0 where
  pub state : Durable
  pub folds : FoldsTo (as_read files) state
  pub spent : (epochs ≤ state.epoch + 1) ⊎ (2 ^ 62 < length (opened folds.batches) + 15)

-- a limit is passed where there is no next epoch
abbrev pub IsSpentAt : ℕ → Option Account → Fault → Type 0
IsSpentAt epochs tells Failed = Unit {0}
IsSpentAt epochs tells (Damaged damage) = Unit {0}
IsSpentAt epochs tells Spent = IsHonest tells → HasNoEpoch epochs (account tells).files
IsSpentAt epochs tells Memory = Unit {0}

-- there is a next epoch below this, and it isn't the first
pub record IsEpoch (epochs epoch : ℕ) : Type 0 where
  pub begun : 1 ≤ epoch
  pub below : epoch < epochs
