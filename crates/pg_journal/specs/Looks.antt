-- What the search for the journal does to the files, and what a crash leaves meanwhile.
use Rattle.std.specs.Prelude.{◌≡◌, ◌≢◌, ◌⊎◌, ◌+◌, ◌≤◌, ◌++◌, ◌∷◌, ℕ, List, [], length, sum_by, Option, Some, None}
use Rattle.std.specs.FinMap.{FinMap, get, keys}
use Rattle.std.specs.List.{AllPairs, Contains, filter}
use Rattle.pg_disk.specs.declared.fault.Fault.{Fault}
use Rattle.pg_disk.specs.declared.fault.Fault.TheVariants.{Failed, Damaged, Spent, Memory}
use Rattle.pg_disk.specs.declared.fault.Rule.TheVariants.{Cut}
use Rattle.pg_disk.specs.declared.file_id.FileId.{FileId}
use Rattle.pg_disk.specs.declared.file_id.Kind.TheVariants.{Journal as OfJournal}
use Rattle.pg_disk.specs.Account.{FileState, Account, account, IsHonest, IsQuiet}
use Rattle.pg_disk.specs.Files.{file_cmp, Files}
use Rattle.pg_disk.specs.Calls.{ChangesWhere, ReadsSome}
use Rattle.pg_disk.specs.Image.{IsFileThere, LeavesBeside, Only}
use Rattle.pg_gate.specs.Gated.{Batches, HasBatches, HasNone}
use Rattle.pg_gate.specs.Spans.{IsCut, StaysOrMends, spans_of}
use Rattle.pg_gate.specs.declared.spans.Span.{Span}
use Rattle.pg_journal.specs.declared.journal.Journal.{Journal}
use Rattle.pg_journal.specs.Generations.{first_generation, is_generation, GoesOn, IsAscending, JournalOf}
use Rattle.pg_disk.specs.Views.{as_read, as_left, bytes_of}
use Rattle.pg_journal.specs.Stands.{AreQuiet, Stands, StaysOrComesToRest, name_of}

-- how many bytes a file has as read
abbrev pub size_of : Option FileState → ℕ
size_of None = 0
size_of (Some s) = length s.bytes

-- how many bytes the generations have, together
abbrev pub journal_bytes : FinMap file_cmp FileState → ℕ
journal_bytes files = sum_by (λ file. size_of (get files file)) (filter is_generation (keys files))

-- the bytes that were read, and so many beside them, are no more than the generations had
abbrev pub TakesWithin : ℕ → Account → Account → Type 0
TakesWithin beside old new = new.taken + beside ≤ old.taken + journal_bytes old.files

-- these are the generations that are there, each once, in their order
pub record AreGenerations (generations : List FileId) (files : FinMap file_cmp FileState) : Type 0 where
  pub ascending : IsAscending generations
  pub distinct : AllPairs (λ a b. a ≢ b) generations
  pub bytes : sum_by (λ file. size_of (get files file)) generations ≡ journal_bytes files
  pub there : (file : FileId) → Contains generations file → (file.kind ≡ OfJournal) × IsFileThere file files
  pub all : (file : FileId) → file.kind ≡ OfJournal → Contains generations file ⊎ (get files file ≡ None)

-- a generation of the journal
abbrev pub IsOfJournal : FileId → Type 0
IsOfJournal file = file.kind ≡ OfJournal

-- what the search does to the generations
pub record MendsGenerations (files now : FinMap file_cmp FileState) : Type 0 where
  pub generations : (file : FileId) → file.kind ≡ OfJournal → StaysOrMends (get files file) (get now file)
  pub made : (file : FileId) → file.kind ≡ OfJournal → get files file ≡ None →
      (get now file ≡ None) ⊎ (file ≡ first_generation)

-- Bytes of files were read, and a generation that was there kept its bytes unless it was mended. The first generation
-- may have been laid. Nothing else changed.
abbrev pub ReadsGenerations : Account → Account → Type 0
ReadsGenerations = ChangesWhere IsOfJournal ReadsSome MendsGenerations

-- A crash leaves the batches of a generation of which nothing is pending, and no batch of one that isn't there.
abbrev pub KeepsGeneration : Option FileState → Option (List ℕ) → Type 0
KeepsGeneration None left = HasNone left
KeepsGeneration (Some s) left =
    IsQuiet s → (batches : List (List ℕ)) → Batches s.bytes batches → HasBatches batches left

-- Each generation keeps its batches, none but the first is made, and the journal says what it said, where nothing of it
-- was pending.
pub record KeepsJournal (files : FinMap file_cmp FileState) (image : Files) : Type 0 where
  pub generations : (file : FileId) → file.kind ≡ OfJournal → KeepsGeneration (get files file) (get image file)
  pub made : (file : FileId) → file.kind ≡ OfJournal → get files file ≡ None →
      (get image file ≡ None) ⊎ (file ≡ first_generation)
  pub says : AreQuiet files → (batches : List (List ℕ)) → JournalOf (as_read files) batches →
      JournalOf (as_left image) batches

-- the generations are left so, and every other file as a crash may leave it
abbrev pub LeavesJournal : Option Account → Files → List ℕ → Type 0
LeavesJournal = LeavesBeside IsOfJournal KeepsJournal

-- the journal says what it said, or that and the batch
abbrev pub SaysOldOrNew : Journal → List ℕ → FinMap file_cmp FileState → Files → Type 0
SaysOldOrNew journal batch files image = (batches : List (List ℕ)) → Stands journal batches files →
    JournalOf (as_left image) batches ⊎ JournalOf (as_left image) (batches ++ batch ∷ [])

-- and every file but the journal's is as a crash may leave it
abbrev pub LeavesOldOrNew : Journal → List ℕ → Option Account → Files → List ℕ → Type 0
LeavesOldOrNew journal batch = LeavesBeside (Only (name_of journal)) (SaysOldOrNew journal batch)

-- a generation is cut there
pub record IsCutAt (files : FinMap file_cmp FileState) (file : FileId) (at : ℕ) : Type 0 where
  pub state : FileState
  pub there : get files file ≡ Some state
  pub cut : IsCut state.bytes at

-- damage is that a generation is cut, at the gate of the offset
abbrev pub IsCutGeneration : Option Account → Fault → Type 0
IsCutGeneration tells Failed = Unit {0}
IsCutGeneration tells (Damaged damage) = (damage.file.kind ≡ OfJournal) × (damage.rule ≡ Cut)
    × (IsHonest tells → IsCutAt (account tells).files damage.file damage.at)
IsCutGeneration tells Spent = ⊥
IsCutGeneration tells Memory = Unit {0}

-- Where this generation is damaged, its bytes are as they were. Each other one is as it was, or it had no batch and is
-- at rest without one. None was made.
pub record KeepsDamaged (damaged : FileId) (old now : FinMap file_cmp FileState) : Type 0 where
  pub bytes : bytes_of (get now damaged) ≡ bytes_of (get old damaged)
  pub others : (file : FileId) → file.kind ≡ OfJournal → file ≢ damaged →
      StaysOrComesToRest (get old file) (get now file)
  pub made : (file : FileId) → file.kind ≡ OfJournal → get old file ≡ None → get now file ≡ None

-- damage leaves that of the generations, and no limit is met
abbrev pub KeepsAtDamage : Option Account → Option Account → Fault → Type 0
KeepsAtDamage old new Failed = Unit {0}
KeepsAtDamage old new (Damaged damage) = IsHonest old → KeepsDamaged damage.file (account old).files (account new).files
KeepsAtDamage old new Spent = ⊥
KeepsAtDamage old new Memory = Unit {0}

-- what was found: what the journal says, with the places of its payloads, its file, and what became of the other
-- generations
pub record IsFound (journal : Journal) (spans : List Span) (old now : FinMap file_cmp FileState) : Type 0 where
  pub batches : List (List ℕ)
  pub says : JournalOf (as_read old) batches
  pub stands : Stands journal batches now
  pub places : spans ≡ spans_of 0 batches
  pub goes_on : GoesOn (as_read old) (name_of journal)
  pub others : (file : FileId) → file.kind ≡ OfJournal → file ≢ name_of journal →
      StaysOrComesToRest (get old file) (get now file)
