-- What a listing shows of the rules on names, numbers and gaps.
use Rattle.std.specs.Prelude.{◌≡◌, ◌≢◌, ◌⊎◌, ◌<◌, ◌-◌, ℕ, List, [], ◌∷◌, All, Option, Some}
use Rattle.std.specs.List.{Contains}
use Rattle.pg_disk.specs.declared.fault.Damage.{Damage}
use Rattle.pg_disk.specs.declared.fault.Rule.{Rule}
use Rattle.pg_disk.specs.declared.fault.Rule.TheVariants.{Name, Gap}
use Rattle.pg_disk.specs.declared.file_id.FileId.{FileId}
use Rattle.pg_disk.specs.declared.file_id.Kind.{Kind}
use Rattle.pg_disk.specs.declared.file_id.Kind.TheVariants.{Journal, Page, Large}
use Rattle.pg_fold.specs.declared.rows.AddressRow.{AddressRow}
use Rattle.pg_recover.specs.Folding.{IsDamageAt}
use Rattle.pg_recover.specs.WellFormed.{IsNamed, page_file}

-- a page behind the first of its address stands right behind the page before it
abbrev pub IsNextAs : List AddressRow → Option FileId → Kind → ℕ → ℕ → Type 0
IsNextAs addresses before Journal owner number = Unit {0}
IsNextAs addresses before Page owner number =
    All (λ row. row.id ≡ owner → row.first < number → before ≡ Some (page_file owner (number - 1))) addresses
IsNextAs addresses before Large owner number = Unit {0}

-- a file with a right name, at a right place
pub record IsListed (addresses : List AddressRow) (before : Option FileId) (file : FileId) : Type 0 where
  pub named : IsNamed addresses file
  pub next : IsNextAs addresses before file.kind file.owner file.number

-- that is so of each file of a listing, where this one stands before them
abbrev pub AreListed : List AddressRow → Option FileId → List FileId → Type 0
AreListed addresses before [] = Unit {0}
AreListed addresses before (file ∷ files) = IsListed addresses before file × AreListed addresses (Some file) files

-- a page behind the first one of its address, which doesn't stand right behind the page before it
pub record IsGapAt (addresses : List AddressRow) (before : Option FileId) (file : FileId) : Type 0 where
  pub row : AddressRow
  pub known : Contains addresses row
  pub page : file ≡ page_file row.id file.number
  pub past : row.first < file.number
  pub gap : before ≢ Some (page_file row.id (file.number - 1))

-- the rule that a file breaks in the listing, behind this one
abbrev pub IsUnlisted : List AddressRow → Option FileId → FileId → Rule → Type 0
IsUnlisted addresses before file rule =
    ((rule ≡ Name) × (IsNamed addresses file → ⊥)) ⊎ ((rule ≡ Gap) × IsGapAt addresses before file)

-- the damage is that of one of the files of a listing, where this one stands before them
abbrev pub HasUnlisted : List AddressRow → Option FileId → List FileId → Damage → Type 0
HasUnlisted addresses before [] damage = ⊥
HasUnlisted addresses before (file ∷ files) damage =
    IsDamageAt file 0 (IsUnlisted addresses before file) damage ⊎ HasUnlisted addresses (Some file) files damage
