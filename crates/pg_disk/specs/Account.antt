-- What a site tells of its files and its output.
use Rattle.std.specs.Prelude.{◌≡◌, ◌≤◌, ℕ, List, [], length, Option, Some, None, IsSome}
use Rattle.std.specs.FinMap.{FinMap, get, empty}
use Rattle.pg_disk.specs.declared.file_id.FileId.{FileId}
use Rattle.pg_disk.specs.Files.{file_cmp}

-- a file: the bytes that a read gives, the length that is synced, the greatest length since, and each range
-- (from, count) that was written since
pub record FileState : Type 0 where
  pub bytes : List ℕ
  pub synced : ℕ
  pub greatest : ℕ
  pub ranges : List (ℕ × ℕ)

-- the files, the bytes emitted and the count of bytes read
pub record Account : Type 0 where
  pub files : FinMap file_cmp FileState
  pub told : List ℕ
  pub taken : ℕ

-- what a site tells, and where it tells nothing an account that no clause reads
abbrev pub account : Option Account → Account
account (Some a) = a
account None = record { files = empty; told = []; taken = 0 }

-- the file's length as read lies between the two
pub record IsSound (s : FileState) : Type 0 where
  pub no_shorter : s.synced ≤ length s.bytes
  pub no_longer : length s.bytes ≤ s.greatest

-- a site that tells all, and reads as one of its images
pub record IsHonest (told : Option Account) : Type 0 where
  pub tells : IsSome told
  pub sound : (f : FileId) (s : FileState) → get (account told).files f ≡ Some s → IsSound s

-- nothing of the file is pending
pub record IsQuiet (s : FileState) : Type 0 where
  pub synced : s.synced ≡ length s.bytes
  pub greatest : s.greatest ≡ length s.bytes
  pub ranges : s.ranges ≡ []

-- the same of a file that may not be there
abbrev pub IsQuietAt : Option FileState → Type 0
IsQuietAt None = Unit {0}
IsQuietAt (Some s) = IsQuiet s

-- nothing of any file is pending
abbrev pub AllQuiet : FinMap file_cmp FileState → Type 0
AllQuiet files = (file : FileId) → IsQuietAt (get files file)
