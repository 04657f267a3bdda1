-- What a crash may leave.
use Rattle.std.specs.Prelude.{◌≡◌, ◌≢◌, ◌⊎◌, ◌≤◌, ◌<◌, ◌+◌, ◌++◌, take, ℕ, List, [], ◌∷◌, length, slice_index, Option, Some, None}
use Rattle.std.specs.FinMap.{FinMap, get}
use Rattle.pg_disk.specs.declared.file_id.FileId.{FileId}
use Rattle.pg_disk.specs.Files.{file_cmp, Files}
use Rattle.pg_disk.specs.Account.{AllQuiet, FileState, Account, account, IsHonest}

-- the place is in one of the ranges
abbrev pub IsIn : List (ℕ × ℕ) → ℕ → Type 0
IsIn [] i = ⊥
IsIn (r ∷ rs) i = ((r.0 ≤ i) × (i < r.0 + r.1)) ⊎ IsIn rs i

-- what may be left of a file: a length between, and below the synced end each byte as read that was not written since
pub record IsLeft (s : FileState) (bytes : List ℕ) : Type 0 where
  pub no_shorter : s.synced ≤ length bytes
  pub no_longer : length bytes ≤ s.greatest
  pub as_read : (i : ℕ) → i < s.synced → (IsIn s.ranges i → ⊥) → slice_index bytes i ≡ slice_index s.bytes i

-- the same of a file that may not be there
abbrev pub IsLeftAt : Option FileState → Option (List ℕ) → Type 0
IsLeftAt None None = Unit {0}
IsLeftAt None (Some bytes) = ⊥
IsLeftAt (Some s) None = ⊥
IsLeftAt (Some s) (Some bytes) = IsLeft s bytes

-- the files that a crash may leave
abbrev pub IsImage : FinMap file_cmp FileState → Files → Type 0
IsImage files image = (f : FileId) → IsLeftAt (get files f) (get image f)

-- each other file is as a crash may leave it
abbrev pub OthersLeft : FileId → FinMap file_cmp FileState → Files → Type 0
OthersLeft file files image = (f : FileId) → f ≢ file → IsLeftAt (get files f) (get image f)

-- a crash of a site that tells this may leave these files, with these bytes told
pub record Leaves (tells : Option Account) (c : Files) (b : List ℕ) : Type 0 where
  pub honest : IsHonest tells
  pub image : IsImage (account tells).files c
  pub told : b ≡ (account tells).told

-- What has P, or what a crash at entry may leave, with nothing more told. Where nothing was pending at entry, what has
-- P.
pub record OnceQuiet (P : Option Account → Files → List ℕ → Type 0) (tells : Option Account) (c : Files)
    (b : List ℕ) : Type 0 where
  pub either : Leaves tells c b ⊎ P tells c b
  pub quiet : AllQuiet (account tells).files → P tells c b

-- The own files may be left as P says of all files at entry and of what is left. Every other file is as a crash may
-- leave it, and nothing more is told.
pub record LeavesBeside (own : FileId → Type 0) (P : FinMap file_cmp FileState → Files → Type 0)
    (tells : Option Account) (c : Files) (b : List ℕ) : Type 0 where
  pub honest : IsHonest tells
  pub others : (f : FileId) → (own f → ⊥) → IsLeftAt (get (account tells).files f) (get c f)
  pub left : P (account tells).files c
  pub told : b ≡ (account tells).told

-- this one file
abbrev pub Only : FileId → FileId → Type 0
Only id f = f ≡ id

-- whichever file it is
abbrev pub AnyFile : FileId → Type 0
AnyFile file = Unit {0}

-- the same of one file, by its state at entry and what is left of it
abbrev pub LeavesAt : FileId → (Option FileState → Option (List ℕ) → Type 0) → Option Account → Files → List ℕ → Type 0
LeavesAt id P = LeavesBeside (Only id) (λ files c. P (get files id) (get c id))

abbrev pub IsFileThere : FileId → FinMap file_cmp FileState → Type 0
IsFileThere file files = (s : FileState) × (get files file ≡ Some s)

-- it isn't there, or it is there and empty
abbrev pub MayBeCreated : Option FileState → Option (List ℕ) → Type 0
MayBeCreated was left = (left ≡ None) ⊎ (left ≡ Some [])

-- it isn't there, or as before
abbrev pub MayBeRemoved : Option FileState → Option (List ℕ) → Type 0
MayBeRemoved was left = (left ≡ None) ⊎ IsLeftAt was left

-- the files as before, and a prefix of the piece told
pub record LeavesPrefix (piece : List ℕ) (tells : Option Account) (c : Files) (b : List ℕ) : Type 0 where
  pub honest : IsHonest tells
  pub image : IsImage (account tells).files c
  pub count : ℕ
  pub within : count ≤ length piece
  pub told : b ≡ (account tells).told ++ take count piece
