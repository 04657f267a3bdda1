-- What each call does to what a site tells.
use Rattle.std.specs.Prelude.{◌≡◌, ◌⊎◌, ◌≤◌, ◌<◌, ◌+◌, ◌-◌, min, max, ℕ, Bool, List, [], ◌++◌, length, take, drop, slice_index, Option, Some, None, IsTrue}
use Rattle.std.specs.FinMap.{FinMap, get}
use Rattle.pg_disk.specs.declared.file_id.FileId.{FileId}
use Rattle.pg_disk.specs.Account.{FileState, Account, account, IsHonest, IsQuiet}
use Rattle.pg_disk.specs.Files.{file_cmp}
use Rattle.pg_disk.specs.Image.{IsIn, Only}

-- honesty is kept in both directions, and an honest site changes so
pub record Changes (old new : Option Account) (changes : Account → Account → Type 0) : Type 0 where
  pub kept : IsHonest old → IsHonest new
  pub back : IsHonest new → IsHonest old
  pub step : IsHonest old → changes (account old) (account new)

-- files and told bytes stay, and so many bytes more were read
pub record Reads (count : ℕ) (old new : Account) : Type 0 where
  pub files : new.files ≡ old.files
  pub told : new.told ≡ old.told
  pub taken : new.taken ≡ old.taken + count

-- files and told bytes stay, and bytes may have been read
pub record OnlyReads (old new : Account) : Type 0 where
  pub files : new.files ≡ old.files
  pub told : new.told ≡ old.told
  pub taken : old.taken ≤ new.taken

-- how many bytes are read: none, and some
abbrev pub ReadsNone : ℕ → ℕ → Type 0
ReadsNone old new = new ≡ old

abbrev pub ReadsSome : ℕ → ℕ → Type 0
ReadsSome old new = old ≤ new

-- The own files change so, and every other file stays. Nothing is told, and so many bytes are read.
pub record ChangesWhere (own : FileId → Type 0) (reads : ℕ → ℕ → Type 0)
    (R : FinMap file_cmp FileState → FinMap file_cmp FileState → Type 0) (old new : Account) : Type 0 where
  pub told : new.told ≡ old.told
  pub taken : reads old.taken new.taken
  pub others : (f : FileId) → (own f → ⊥) → get new.files f ≡ get old.files f
  pub change : R old.files new.files

-- one file changes so, and nothing else
abbrev pub ChangesFile : FileId → (Option FileState → Option FileState → Type 0) → Account → Account → Type 0
ChangesFile id R = ChangesWhere (Only id) ReadsNone (λ files now. R (get files id) (get now id))

-- a file isn't there still, or nothing of it is pending any more and it has the bytes that it had
abbrev pub IsSettled : Option FileState → Option FileState → Type 0
IsSettled None t = t ≡ None
IsSettled (Some s) None = ⊥
IsSettled (Some s) (Some t) = IsQuiet t × (t.bytes ≡ s.bytes)

-- nothing of the own files is pending any more, and all else is as it was
abbrev pub Settles : (FileId → Type 0) → Account → Account → Type 0
Settles own = ChangesWhere own ReadsNone (λ files now. (f : FileId) → own f → IsSettled (get files f) (get now f))

-- the file has these bytes at this offset
pub record Holds (file : List ℕ) (at : ℕ) (bytes : List ℕ) : Type 0 where
  pub within : at + length bytes ≤ length file
  pub each : (i : ℕ) → i < length bytes → slice_index file (at + i) ≡ slice_index bytes i

-- only bytes from lo up to hi are other ones, and the file is no longer than it was, or than hi
pub record Touches (lo hi : ℕ) (old new : List ℕ) : Type 0 where
  pub outside : (i : ℕ) → i < length old → (i < lo) ⊎ (hi ≤ i) → slice_index new i ≡ slice_index old i
  pub no_shorter : length old ≤ length new
  pub no_longer : length new ≤ max (length old) hi

-- the same of a file, which is there still if it was
abbrev pub Rewrites : ℕ → ℕ → Option FileState → Option FileState → Type 0
Rewrites lo hi None t = t ≡ None
Rewrites lo hi (Some s) None = ⊥
Rewrites lo hi (Some s) (Some t) = Touches lo hi s.bytes t.bytes

-- after a write of these bytes at this offset: at Err the range may hold anything
pub record Wrote (at : ℕ) (bytes : List ℕ) (ok : Bool) (a b : FileState) : Type 0 where
  pub synced : b.synced ≡ a.synced
  pub greatest : b.greatest ≤ max a.greatest (at + length bytes)
  pub ranges : (i : ℕ) → IsIn b.ranges i → IsIn a.ranges i ⊎ ((at ≤ i) × (i < at + length bytes))
  pub no_shorter : length a.bytes ≤ length b.bytes
  pub no_longer : length b.bytes ≤ max (length a.bytes) (at + length bytes)
  pub outside : (i : ℕ) → i < length a.bytes → (i < at) ⊎ (at + length bytes ≤ i)
      → slice_index b.bytes i ≡ slice_index a.bytes i
  pub written : IsTrue ok → Holds b.bytes at bytes

-- after a sync
pub record Synced (ok : Bool) (a b : FileState) : Type 0 where
  pub bytes : b.bytes ≡ a.bytes
  pub done : IsTrue ok → (b.synced ≡ length a.bytes) × (b.greatest ≡ length a.bytes) × (b.ranges ≡ [])
  pub pending : (IsTrue ok → ⊥) → b ≡ a

-- the step of one file that is there
abbrev pub There : (FileState → FileState → Type 0) → Option FileState → Option FileState → Type 0
There step (Some a) (Some b) = step a b
There step _ _ = ⊥

-- an empty file with nothing pending
abbrev pub fresh : FileState
fresh = record { bytes = []; synced = 0; greatest = 0; ranges = [] }

abbrev pub Created : Bool → Option FileState → Option FileState → Type 0
Created ok a b = (b ≡ Some fresh) ⊎ ((IsTrue ok → ⊥) × (b ≡ a))

abbrev pub Removed : Bool → Option FileState → Option FileState → Type 0
Removed ok a b = (b ≡ None) ⊎ ((IsTrue ok → ⊥) × (b ≡ a))

-- of n bytes of the file at this offset
pub record ReadsAt (at n : ℕ) (bytes old new : List ℕ) : Type 0 where
  pub count : n ≡ min (length old) (length bytes - at)
  pub bytes_are : new ≡ take n (drop at bytes) ++ drop n old

-- all bytes are told at Ok, and a prefix at Err
pub record Emits (piece : List ℕ) (ok : Bool) (old new : Account) : Type 0 where
  pub files : new.files ≡ old.files
  pub taken : new.taken ≡ old.taken
  pub count : ℕ
  pub within : count ≤ length piece
  pub told : new.told ≡ old.told ++ take count piece
  pub all : IsTrue ok → count ≡ length piece
