-- What syncing all files does to them.
use Rattle.std.specs.Prelude.{◌≡◌, List, ℕ, Option, Some, None}
use Rattle.std.specs.FinMap.{FinMap, get}
use Rattle.pg_disk.specs.declared.file_id.FileId.{FileId}
use Rattle.pg_disk.specs.Account.{FileState, Account, IsQuiet}
use Rattle.pg_disk.specs.Calls.{ChangesWhere, ReadsNone}
use Rattle.pg_disk.specs.Files.{file_cmp}
use Rattle.pg_disk.specs.Image.{AnyFile, IsLeft}

-- the file reads as before, and what a crash may leave of it it might have left before
pub record Narrows (s t : FileState) : Type 0 where
  pub bytes : t.bytes ≡ s.bytes
  pub quiet : IsQuiet s → IsQuiet t
  pub left : (bytes : List ℕ) → IsLeft t bytes → IsLeft s bytes

abbrev pub NarrowsAt : Option FileState → Option FileState → Type 0
NarrowsAt None None = Unit {0}
NarrowsAt None (Some t) = ⊥
NarrowsAt (Some s) None = ⊥
NarrowsAt (Some s) (Some t) = Narrows s t

-- that is so of each file
abbrev pub AllNarrow : FinMap file_cmp FileState → FinMap file_cmp FileState → Type 0
AllNarrow files now = (file : FileId) → NarrowsAt (get files file) (get now file)

-- and nothing else happened
abbrev pub SyncsFiles : Account → Account → Type 0
SyncsFiles = ChangesWhere AnyFile ReadsNone AllNarrow
