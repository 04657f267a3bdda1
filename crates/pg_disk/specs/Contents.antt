-- The contents of files, beside what a site tells of them.
use Rattle.std.specs.Prelude.{◌≡◌, ℕ, List, Option}
use Rattle.std.specs.Option.{option_map}
use Rattle.std.proofs.Common.{Vec}
use Rattle.std.specs.declared.alloc.Global.{Global}
use Rattle.std.specs.BTreeMap as tree
use Rattle.std.specs.BTreeMap.{BTreeMap}
use Rattle.std.specs.FinMap.{FinMap, get}
use Rattle.pg_disk.specs.declared.file_id.FileId.{FileId}
use Rattle.pg_disk.specs.Files.{file_cmp}
use Rattle.pg_disk.specs.Account.{FileState, Account}

-- the file's content as read, if it is there
abbrev pub content_at : FinMap file_cmp FileState → FileId → Option (List ℕ)
content_at files f = option_map (λ s. s.bytes) (get files f)

-- the tree has the content of each file that is there, and no other
abbrev pub HasContents : BTreeMap FileId (Vec ℕ Global) → FinMap file_cmp FileState → Type 0
HasContents m files = (f : FileId) → option_map (λ v. v.items) (tree.get file_cmp m f) ≡ content_at files f

-- where the tree had the contents of an account, it has those of the account after the change
abbrev pub ComesTo : BTreeMap FileId (Vec ℕ Global) → BTreeMap FileId (Vec ℕ Global) → (Account → Account) → Type 0
ComesTo old new change = (a : Account) → HasContents old a.files → HasContents new (change a).files
