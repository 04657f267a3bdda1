-- What files show that the broker's own state doesn't: which addresses page, and what their messages weigh in memory.
use Rattle.std.specs.Prelude.{◌≡◌, ◌≤◌, ◌-◌, ◌==◌, ◌&&◌, ◌↔◌, ℕ, Bool, true, false, List, All, length, nat_le, slice_index_or}
use Rattle.std.specs.List.{list_any}
use Rattle.pg_disk.specs.declared.file_id.FileId.{FileId}
use Rattle.pg_disk.specs.declared.file_id.Kind.{Kind}
use Rattle.pg_disk.specs.declared.file_id.Kind.TheVariants.{Journal, Page, Large}
use Rattle.pg_disk.specs.Views.{Contents}
use Rattle.pg_fold.specs.declared.durable.Durable.{Durable as Folded}
use Rattle.pg_fold.specs.declared.rows.AddressRow.{AddressRow}
use Rattle.pg_model.specs.Broker.{Durable}
use Rattle.pg_model.specs.Refusals.{Paging, View}
use Rattle.pg_recover.specs.Denotation.{FoldsTo, durable_part, weight_at}
use Rattle.pg_recover.specs.WellFormed.{IsThere, page_file}

-- a page of the address is there, from its first one on
abbrev pub HasPage : Contents → AddressRow → Type 0
HasPage contents row = (number : ℕ) × (row.first ≤ number) × IsThere contents (page_file row.id number)

-- That is so exactly where this is true.
abbrev pub IsMarked : Contents → AddressRow → Bool → Type 0
IsMarked contents row paged = (paged ≡ true) ↔ HasPage contents row

-- one for each address
pub record ArePaged (contents : Contents) (rows : List AddressRow) (paged : List Bool) : Type 0 where
  pub count : length paged ≡ length rows
  pub each : All (λ row. IsMarked contents row (slice_index_or paged (row.id - 1) false)) rows

-- What files show of an address in this state.
pub record IsShown (contents : Contents) (state : Folded) (row : AddressRow) (paging : Paging) : Type 0 where
  pub resident : paging.resident ≡ weight_at row.id state.journaled
  pub paged : IsMarked contents row paging.is_paging

-- the view of files that denote the durable part
pub record Shows (contents : Contents) (durable : Durable) (view : View) : Type 0 where
  pub state : Folded
  pub folds : FoldsTo contents state
  pub is : durable ≡ durable_part state
  pub each : All (λ row. IsShown contents state row (view row.id)) state.addresses

-- ---- how it is read off a listing
-- the file is a page of the address, from its first one on
abbrev pub is_page_kind : Kind → Bool
is_page_kind Journal = false
is_page_kind Page = true
is_page_kind Large = false

abbrev pub is_page_of : AddressRow → FileId → Bool
is_page_of row file = is_page_kind file.kind && ((file.owner == row.id) && nat_le row.first file.number)

-- one of these files is
abbrev pub is_paged : List FileId → AddressRow → Bool
is_paged files row = list_any (is_page_of row) files
