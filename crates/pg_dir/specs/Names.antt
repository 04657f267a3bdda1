-- The names of the files in a directory.
use Rattle.std.specs.Prelude.{ℕ, List, ◌++◌, ◌<◌, ◌≤◌, ◌^◌, ◌≡◌, ◌≢◌, codes, decimal}
use Rattle.pg_disk.specs.declared.file_id.Kind.{Kind}
use Rattle.pg_disk.specs.declared.file_id.Kind.TheVariants.{Journal, Page, Large}
use Rattle.pg_disk.specs.declared.file_id.FileId.{FileId}

-- a name of this kind, by the owner and the number
abbrev pub name_by_kind : Kind → ℕ → ℕ → List ℕ
name_by_kind Journal owner number = codes "j-" ++ decimal number
name_by_kind Page owner number = codes "p-" ++ (decimal owner ++ (codes "-" ++ (decimal number ++ codes ".page")))
name_by_kind Large owner number = codes "l-" ++ (decimal owner ++ (codes "-" ++ (decimal number ++ codes ".msg")))

-- the file's name
abbrev pub name_of : FileId → List ℕ
name_of file = name_by_kind file.kind file.owner file.number

-- the journal has no owner, and every other file has one
abbrev pub HasItsOwner : Kind → ℕ → Type 0
HasItsOwner Journal owner = owner ≡ 0
HasItsOwner Page owner = 0 < owner
HasItsOwner Large owner = 0 < owner

-- a file that has a name
pub record IsNamed (file : FileId) : Type 0 where
  pub owner : HasItsOwner file.kind file.owner
  pub fits : file.owner < 2 ^ 32
  pub from_one : 0 < file.number
  pub most : file.number ≤ 2 ^ 62

-- the text is the name of no file that has one
abbrev pub IsNoName : List ℕ → Type 0
IsNoName text = (file : FileId) → IsNamed file → text ≢ name_of file

-- the text is written of no number from 1 to the greatest
abbrev pub IsNoNumber : ℕ → List ℕ → Type 0
IsNoNumber greatest text = (n : ℕ) → 0 < n → n ≤ greatest → text ≢ decimal n

-- the text is `OWNER-NUMBER.ENDING` of no owner and no number
abbrev pub IsNoOwned : List ℕ → List ℕ → Type 0
IsNoOwned ending text = (owner number : ℕ) → 0 < owner → owner < 2 ^ 32 → 0 < number → number ≤ 2 ^ 62 →
    text ≢ decimal owner ++ (codes "-" ++ (decimal number ++ (codes "." ++ ending)))
