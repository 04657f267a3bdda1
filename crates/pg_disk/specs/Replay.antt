-- What a site in memory tells after each event of its record. The replay of the record is what the site is.
use Rattle.std.specs.Prelude.{◌⊎◌, ◌+◌, max, ℕ, Bool, true, false, List as Seq, [], ◌∷◌, ◌++◌, length, take, drop, Option, Some, None}
use Rattle.std.specs.FinMap.{get, insert, remove, empty}
use Rattle.pg_disk.specs.declared.file_id.FileId.{FileId}
use Rattle.pg_disk.specs.Files.{Files}
use Rattle.pg_disk.specs.Account.{FileState, Account}
use Rattle.pg_disk.specs.Image.{Leaves}
use Rattle.pg_disk.specs.Calls.{fresh}
use Rattle.pg_disk.specs.declared.call_record.Event.{Event}
use Rattle.pg_disk.specs.declared.call_record.Event.TheVariants.{List, Length, Read, Write, Sync, Create, Remove, Emit, Put, Told}

-- the old content, with these bytes at this offset
abbrev pub overwritten_content : ℕ → Seq ℕ → Seq ℕ → Seq ℕ
overwritten_content at bytes old = take at old ++ (bytes ++ drop (at + length bytes) old)

-- of what an event may change, the change where it took effect
abbrev pub if_done : {X : Type 0} → Bool → X → X → X
if_done true new old = new
if_done false new old = old

-- after a write: the range is pending also where the write failed
abbrev pub written_file : ℕ → Seq ℕ → Bool → FileState → FileState
written_file at bytes done s = record {
  bytes = if_done done (overwritten_content at bytes s.bytes) s.bytes;
  synced = s.synced;
  greatest = max s.greatest (at + length bytes);
  ranges = (at, length bytes) ∷ s.ranges;
}

-- this content, with nothing pending
abbrev pub quiet_file : Seq ℕ → FileState
quiet_file bytes = record { bytes = bytes; synced = length bytes; greatest = length bytes; ranges = [] }

-- after a sync: nothing is pending, unless it failed
abbrev pub synced_file : Bool → FileState → FileState
synced_file done s = if_done done (quiet_file s.bytes) s

-- the account with the file in this state
abbrev pub with_file : FileId → FileState → Account → Account
with_file f s a = record { files = insert a.files f s; told = a.told; taken = a.taken }

-- the account where the file is gone
abbrev pub without_file : FileId → Account → Account
without_file f a = record { files = remove a.files f; told = a.told; taken = a.taken }

-- one file changes so, where it is there
abbrev pub with_changed_file : FileId → (FileState → FileState) → Option FileState → Account → Account
with_changed_file f change None a = a
with_changed_file f change (Some s) a = with_file f (change s) a

-- the account after each kind of event. A done of false is for one that failed
abbrev pub after_read : ℕ → Account → Account
after_read count a = record { files = a.files; told = a.told; taken = a.taken + count }

abbrev pub after_write : FileId → ℕ → Seq ℕ → Bool → Account → Account
after_write f at bytes done a = with_changed_file f (written_file at bytes done) (get a.files f) a

abbrev pub after_sync : FileId → Bool → Account → Account
after_sync f done a = with_changed_file f (synced_file done) (get a.files f) a

abbrev pub after_create : FileId → Bool → Account → Account
after_create f done a = if_done done (with_file f fresh a) a

abbrev pub after_remove : FileId → Bool → Account → Account
after_remove f done a = if_done done (without_file f a) a

abbrev pub after_emit : Seq ℕ → Bool → Account → Account
after_emit bytes done a = record { files = a.files; told = if_done done (a.told ++ bytes) a.told; taken = a.taken }

abbrev pub after_put : FileId → Seq ℕ → Account → Account
after_put f bytes a = with_file f (quiet_file bytes) a

abbrev pub after_told : Seq ℕ → Account → Account
after_told bytes a = after_emit bytes true a

-- what changes nothing
abbrev pub unchanged : Account → Account
unchanged a = a

-- the account after the event
abbrev pub step : Event → Account → Account
step List a = a
step (Length f) a = a
step (Read f count) a = after_read count a
step (Write f at bytes done) a = after_write f at bytes.items done a
step (Sync f done) a = after_sync f done a
step (Create f done) a = after_create f done a
step (Remove f done) a = after_remove f done a
step (Emit bytes done) a = after_emit bytes.items done a
step (Put f bytes) a = after_put f bytes.items a
step (Told bytes) a = after_told bytes.items a

-- the event as it is where the call is complete. A create, a removal and a write that failed may have been done all the
-- same
abbrev pub completed : Event → Event
completed (Write f at bytes done) = Write f at bytes true
completed (Create f done) = Create f true
completed (Remove f done) = Remove f true
completed e = e

-- no files, nothing told and nothing taken
abbrev pub start : Account
start = record { files = empty; told = []; taken = 0 }

-- the account that the events lead to
abbrev pub replay : Account → Seq Event → Account
replay a [] = a
replay a (e ∷ es) = replay (step e a) es

-- what a crash may leave at one of the moments of these events. Within an event it may be left as before, or complete
abbrev pub LeftIn : Account → Seq Event → Files → Seq ℕ → Type 0
LeftIn a [] c b = Leaves (Some a) c b
LeftIn a (e ∷ es) c b = Leaves (Some a) c b ⊎ (Leaves (Some (step (completed e) a)) c b ⊎ LeftIn (step e a) es c b)

-- what a crash may leave at one of the moments from t on. Each event is a moment
abbrev pub LeftSince : Seq Event → ℕ → Files → Seq ℕ → Type 0
LeftSince es t c b = LeftIn (replay start (take t es)) (drop t es) c b
