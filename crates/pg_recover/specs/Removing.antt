-- What the removal of the other generations does, and what a crash within it leaves.
use Rattle.std.specs.Prelude.{◌≡◌, ◌≢◌, ◌⊎◌, List, ℕ, All, Option, None}
use Rattle.std.specs.List.{AllPairs, Contains}
use Rattle.std.specs.FinMap.{FinMap, get}
use Rattle.pg_disk.specs.declared.file_id.FileId.{FileId}
use Rattle.pg_disk.specs.declared.file_id.Kind.TheVariants.{Journal as OfJournal}
use Rattle.pg_disk.specs.Account.{FileState, Account}
use Rattle.pg_disk.specs.Calls.{ChangesFile, ChangesWhere, ReadsNone}
use Rattle.pg_disk.specs.Files.{file_cmp, Files}
use Rattle.pg_disk.specs.Image.{IsFileThere, LeavesBeside, MayBeRemoved}

-- another generation than the one that is kept
abbrev pub IsOther : FileId → FileId → Type 0
IsOther keep file = (file.kind ≡ OfJournal) × (file ≢ keep)

-- the list has the other generations that are there, each once
pub record ListsOthers (list : List FileId) (keep : FileId) (files : FinMap file_cmp FileState) : Type 0 where
  pub distinct : AllPairs (λ a b. a ≢ b) list
  pub there : All (λ file. IsOther keep file → IsFileThere file files) list
  pub all : (file : FileId) → IsOther keep file → Contains list file ⊎ (get files file ≡ None)

-- a file is as it was, or gone
abbrev pub StaysOrGoes : Option FileState → Option FileState → Type 0
StaysOrGoes s t = (t ≡ s) ⊎ (t ≡ None)

-- so is each file
abbrev pub AllStayOrGo : FinMap file_cmp FileState → FinMap file_cmp FileState → Type 0
AllStayOrGo files now = (file : FileId) → StaysOrGoes (get files file) (get now file)

-- other generations may be gone, and nothing else changed
abbrev pub RemovesOthers : FileId → Account → Account → Type 0
RemovesOthers keep = ChangesWhere (IsOther keep) ReadsNone AllStayOrGo

-- this file is as it was, or it is another generation and gone
abbrev pub MayGo : FileId → FileId → Option FileState → Option FileState → Type 0
MayGo keep one s t = (t ≡ s) ⊎ (IsOther keep one × (t ≡ None))

-- one file may be gone, if it is another generation
abbrev pub RemovesOther : FileId → FileId → Account → Account → Type 0
RemovesOther keep one = ChangesFile one (MayGo keep one)

-- each file is left as a crash may leave it, or not at all
abbrev pub AllMayBeRemoved : FinMap file_cmp FileState → Files → Type 0
AllMayBeRemoved files image = (file : FileId) → MayBeRemoved (get files file) (get image file)

-- So it is of other generations while they are removed. Every other file is as a crash may leave it.
abbrev pub LeavesOthersGone : FileId → Option Account → Files → List ℕ → Type 0
LeavesOthersGone keep = LeavesBeside (IsOther keep) AllMayBeRemoved

-- no other generation is there
abbrev pub HasNoOther : FileId → FinMap file_cmp FileState → Type 0
HasNoOther keep files = (file : FileId) → IsOther keep file → get files file ≡ None
