-- What a crash leaves of the files, by what is to become of the bytes that are pending.
use Rattle.std.specs.Prelude.{ℕ, Bool, true, false, List as Seq, [], ◌∷◌, ◌++◌, length, replicate, take, Option, Some, None, if◌then◌else◌}
use Rattle.std.specs.FinMap.{get}
use Rattle.pg_disk.specs.declared.file_id.FileId.{FileId}
use Rattle.pg_disk.specs.declared.call_record.Event.{Event}
use Rattle.pg_disk.specs.declared.call_record.Event.TheVariants.{List, Length, Read, Write, Sync, Create, Remove, Emit, Put, Told}
use Rattle.pg_disk.specs.declared.crash.Pick.{Pick}
use Rattle.pg_disk.specs.declared.crash.Pick.TheVariants.{Old, New, Fill}
use Rattle.pg_disk.specs.Account.{FileState, Account}
use Rattle.pg_disk.specs.Replay.{step, completed, start, if_done, after_write, after_create, after_remove, after_put}

-- what is left of a write: nothing, the write where it was done, or its range full of the byte
abbrev pub left_of_write : Pick → FileId → ℕ → Seq ℕ → Bool → Account → Account
left_of_write Old f at bytes done l = l
left_of_write New f at bytes done l = after_write f at bytes done l
left_of_write (Fill b) f at bytes done l = after_write f at (replicate (length bytes) b) true l

-- the file is left as it reads, where it is there
abbrev pub left_as_read : FileId → Option FileState → Account → Account
left_as_read f None l = l
left_as_read f (Some s) l = after_put f s.bytes l

-- what is left after the event, where a is the account before it, and l what was left then
abbrev pub left_after : Pick → Event → Account → Account → Account
left_after pick List a l = l
left_after pick (Length f) a l = l
left_after pick (Read f count) a l = l
left_after pick (Write f at bytes done) a l = left_of_write pick f at bytes.items done l
left_after pick (Sync f done) a l = if_done done (left_as_read f (get a.files f) l) l
left_after pick (Create f done) a l = after_create f done l
left_after pick (Remove f done) a l = after_remove f done l
left_after pick (Emit bytes done) a l = l
left_after pick (Put f bytes) a l = after_put f bytes.items l
left_after pick (Told bytes) a l = l

-- what is left after the events
abbrev pub left_replay : Pick → Account → Account → Seq Event → Account
left_replay pick a l [] = l
left_replay pick a l (e ∷ es) = left_replay pick (step e a) (left_after pick e a l) es

-- whether the call that the crash stops counts as done. A sync that is stopped ends no range
abbrev pub counts_as_done : Pick → Event → Bool
counts_as_done Old e = false
counts_as_done New e = true
counts_as_done (Fill b) (Sync f done) = false
counts_as_done (Fill b) e = true

-- what has happened of the event that is stopped: nothing, or all that the call was to do, also where it was named to
-- fail
abbrev pub last_done : Pick → Event → Seq Event
last_done pick e = if counts_as_done pick e then completed e ∷ [] else []

-- what has happened, where the event at this place is stopped
abbrev pub happened : Pick → Seq Event → Event → ℕ → Seq Event
happened pick es e place = take place es ++ last_done pick e

-- what is left of the files where the call at this place is stopped
abbrev pub left_at : Pick → Seq Event → Event → ℕ → Account
left_at pick es e place = left_replay pick start start (happened pick es e place)
