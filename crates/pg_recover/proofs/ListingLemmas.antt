-- The files of a listing, one after the other.
use Rattle.std.proofs.Common.{◌≡◌, ◌⊎◌, inl, inr, ℕ, ◌+◌, ◌-◌, ◌≤◌, ◌<◌, true, false, List, [], length, get_or, drop, Option, Some, sym, ◌∙◌, ap, subst, arith}
use Rattle.std.specs.List.{All}
use Rattle.std.proofs.lemmas.Bool.{leb-true, le-leb, lt-leb}
use Rattle.std.proofs.lemmas.List.{drop_more, drop_all, get_or_default}
use Rattle.pg_disk.specs.declared.fault.Damage.{Damage}
use Rattle.pg_disk.specs.declared.file_id.FileId.{FileId}
use Rattle.pg_disk.specs.declared.file_id.Kind.TheVariants.{Page}
use Rattle.pg_fold.specs.declared.rows.AddressRow.{AddressRow}
use Rattle.pg_fold.specs.Rows.{AreNumbered, has_address}
use Rattle.pg_fold.proofs.AddressLemmas.{known_up_to, unknown_zero}
use Rattle.pg_recover.specs.Folding.{IsDamageAt}
use Rattle.pg_recover.specs.Listing.{AreListed, HasUnlisted, IsGapAt, IsListed, IsUnlisted}
use Rattle.pg_recover.specs.WellFormed.{page_file}

-- an id that is no place is that of no address
pub none_at_zero : (rows : List AddressRow) (id : ℕ) → AreNumbered rows → (1 ≤ id → ⊥) → has_address rows id ≡ false
none_at_zero rows id numbered none = sym (unknown_zero rows id numbered (omega (arith, none))) ∙ lt-leb 1 id (omega (arith, none))

pub none_behind : (rows : List AddressRow) (id place : ℕ) → AreNumbered rows → 1 ≤ id → place ≡ id - 1 → length rows ≤ place → has_address rows id ≡ false
none_behind rows id place numbered some is past = sym (known_up_to rows id numbered some) ∙ lt-leb id (length rows) (omega (arith, is, past))

-- the address with an id is at its place
pub first_of : (rows : List AddressRow) (id place : ℕ) (row : AddressRow) → AreNumbered rows → 1 ≤ id → place ≡ id - 1 → place < length rows → row ≡ get_or rows place row
    → (has_address rows id ≡ true) × All (λ (r : AddressRow). r.id ≡ id → r.first ≡ row.first) rows
first_of rows id place row numbered some is inside there = (
  sym (known_up_to rows id numbered some) ∙ le-leb id (length rows) (omega (arith, is, inside)),
  λ k d lt same.
      let here : k ≡ place = omega (arith, sym (numbered k d lt) ∙ same, is) in
      ap (λ (r : AddressRow). r.first) (ap (λ n. get_or rows n d) here ∙ get_or_default rows place d row inside ∙ sym there),
)

-- so does a known one
known_place : (rows : List AddressRow) (id : ℕ) → AreNumbered rows → has_address rows id ≡ true → (1 ≤ id) × (id ≤ length rows)
known_place rows id numbered known = elim (low_or_not id) [
  | inl some ↦ (some, leb-true id (length rows) (known_up_to rows id numbered some ∙ known))
  | inr none ↦ absurd (apart (sym known ∙ none_at_zero rows id numbered (λ some. absurd (omega (arith, none, some)))))
]
  where
    low_or_not : (n : ℕ) → (1 ≤ n) ⊎ (n < 1)
    low_or_not n = grind arith

    apart : true ≡ false → ⊥
    apart e = cc

no_row : AddressRow
no_row = record { id = 0; name = []; max = 0; page = 0; ahead = 0; dup = 0; first = 0 }

-- a page behind the first that stands behind another file than the page before it
pub gap_found : (rows : List AddressRow) (before : Option FileId) (file : FileId) (first : ℕ) → AreNumbered rows → file.kind ≡ Page → has_address rows file.owner ≡ true → All (λ (r : AddressRow). r.id ≡ file.owner → r.first ≡ first) rows → first < file.number
    → (before ≡ Some (page_file file.owner (file.number - 1)) → ⊥) → IsGapAt rows before file
gap_found rows before file first numbered kind known firsts behind not =
    let place = known_place rows file.owner numbered known in
    let k : ℕ = file.owner - 1 in
    let inside : k < length rows = omega (arith, place.0, place.1) in
    let row = get_or rows k no_row in
    let id = numbered k no_row inside in
    let same : row.id ≡ file.owner = omega (arith, id, place.0) in
    let first_is = firsts k no_row inside same in
    record {
      row = row;
      known = (k, inside, get_or_default rows k row no_row inside);
      page = λ i. record { kind = kind i; owner = sym same i; number = file.number };
      past = omega (arith, first_is, behind);
      gap = λ is. not (is ∙ ap (λ n. Some (page_file n (file.number - 1))) same);
    }

-- the files that are left, and the next one
module _ (addresses : List AddressRow) (before : Option FileId) (files : List FileId) (index : ℕ) (default : FileId) (inside : index < length files) where
  abbrev this : FileId
  this = get_or files index default

  pub listed_next : IsListed addresses before this → AreListed addresses (Some this) (drop (index + 1) files) → AreListed addresses before (drop index files)
  listed_next here are = subst (AreListed addresses before) (sym (drop_more files index default inside)) (here, are)

  pub unlisted_next : (damage : Damage) → IsDamageAt this 0 (IsUnlisted addresses before this) damage ⊎ HasUnlisted addresses (Some this) (drop (index + 1) files) damage → HasUnlisted addresses before (drop index files) damage
  unlisted_next damage named = subst (λ l. HasUnlisted addresses before l damage) (sym (drop_more files index default inside)) named

pub none_listed : (addresses : List AddressRow) (before : Option FileId) (files : List FileId) (index : ℕ) → length files ≤ index → AreListed addresses before (drop index files)
none_listed addresses before files index past = subst (AreListed addresses before) (sym (drop_all index files past)) tt
