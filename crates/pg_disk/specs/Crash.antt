-- What a crash within a call leaves of a site in memory.
use Rattle.std.specs.Prelude.{◌≡◌, ◌⊎◌, ◌+◌, ℕ, List, [], length, take, slice_get, filter_map, count_by, Some, IsSome}
use Rattle.std.specs.FinMap.{get}
use Rattle.pg_disk.specs.declared.file_id.FileId.{FileId}
use Rattle.pg_disk.specs.declared.call_record.Event.{Event}
use Rattle.pg_disk.specs.declared.crash.Pick.{Pick}
use Rattle.pg_disk.specs.declared.crash.Remains.{Remains}
use Rattle.pg_disk.specs.Account.{FileState, Account, IsQuiet}
use Rattle.pg_disk.specs.Contents.{content_at, HasContents}
use Rattle.pg_disk.specs.Events.{call_of, is_emit}
use Rattle.pg_disk.specs.Image.{Leaves}
use Rattle.pg_disk.specs.Left.{left_replay, left_at}
use Rattle.pg_disk.specs.Reads.{reads}
use Rattle.pg_disk.specs.Replay.{start, step, completed, replay, LeftSince}

-- the call of this number is the event at this place
pub record IsCallAt (es : List Event) (number place : ℕ) (event : Event) : Type 0 where
  pub there : slice_get es place ≡ Some event
  pub is_call : IsSome (call_of event)
  pub before : length (filter_map call_of (take place es)) + 1 ≡ number

-- of an account: what the files read as, what is left of them, and what was told
pub record Follows (remains : Remains) (a l : Account) : Type 0 where
  pub read : HasContents remains.read a.files
  pub left : HasContents remains.left l.files
  pub told : remains.told.items ≡ a.told

-- the same after an event, which changes the account, and what is left
abbrev pub Redoes : (Account → Account) → (Account → Account → Account) → Remains → Remains → Type 0
Redoes change leave old new = (a l : Account) → Follows old a l → Follows new (change a) (leave a l)

-- the same after all these events
abbrev pub RedoesAll : Pick → List Event → Remains → Remains → Type 0
RedoesAll pick es = Redoes (λ a. replay a es) (λ a l. left_replay pick a l es)

-- a site at its beginning: nothing pending, and neither a call nor an emit
pub record IsAtRest (es : List Event) : Type 0 where
  pub quiet : (f : FileId) (s : FileState) → get (replay start es).files f ≡ Some s → IsQuiet s
  pub calls : filter_map call_of es ≡ []
  pub emits : count_by is_emit es ≡ 0

-- what is left where the site stops within its call of this number: what was told before it, and these files. They are
-- among what a crash may leave just before the call, or just after it where it is complete
pub record LeftWithin (es : List Event) (number : ℕ) (pick : Pick) (new : Account) : Type 0 where
  pub place : ℕ
  pub event : Event
  pub call : IsCallAt es number place event
  pub told : new.told ≡ (replay start (take place es)).told
  pub contents : (f : FileId) → content_at new.files f ≡ content_at (left_at pick es event place).files f
  pub left : Leaves (Some (replay start (take place es))) (reads new.files) new.told
      ⊎ Leaves (Some (step (completed event) (replay start (take place es)))) (reads new.files) new.told
  pub since : LeftSince es place (reads new.files) new.told
