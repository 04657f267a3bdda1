-- Which addresses have pages, as a listing shows it.
use Rattle.std.proofs.Common.{◌≡◌, inl, inr, ℕ, ◌-◌, ◌≤◌, Bool, true, false, ◌||◌, eq-eqb, List, [], ◌∷◌, length, get_or, map, Vec, Global, Option, Result, Ok, Err, refl, sym, ◌∙◌, ap, subst, arith}
use Rattle.std.specs.Prelude.{IfOk}
use Rattle.std.specs.FinMap.{FinMap, keys}
use Rattle.std.proofs.lemmas.Bool.{and_parts, and_from, cases_Bool, eqb-true, leb-true, le-leb, or_left, or_right}
use Rattle.std.proofs.lemmas.List.{length-map, get_or-map}
use Rattle.pg_disk.specs.declared.file_id.FileId.{FileId}
use Rattle.pg_disk.specs.declared.file_id.Kind.{Kind}
use Rattle.pg_disk.specs.declared.file_id.Kind.TheVariants.{Journal, Page, Large}
use Rattle.pg_disk.specs.declared.fault.Fault.{Fault}
use Rattle.pg_disk.specs.Account.{FileState, Account, account, IsHonest}
use Rattle.pg_disk.specs.Files.{file_cmp}
use Rattle.pg_disk.specs.Views.{as_read}
use Rattle.pg_fold.specs.declared.durable.Durable.{Durable}
use Rattle.pg_fold.specs.declared.rows.AddressRow.{AddressRow}
use Rattle.pg_fold.specs.Rows.{AreNumbered}
use Rattle.pg_recover.specs.declared.recovering.Parts.{Parts}
use Rattle.pg_recover.specs.Denotation.{raised}
use Rattle.pg_recover.specs.Viewing.{ArePaged, IsMarked, is_page_kind, is_page_of, is_paged}
use Rattle.pg_recover.specs.WellFormed.{IsThere, page_file}
use Rattle.pg_recover.proofs.OrderLemmas.{IsAmong, among_there, there_among}

-- the file that passed the test is a page of the address
page_kind : (kind : Kind) → is_page_kind kind ≡ true → kind ≡ Page
page_kind Journal is = cc
page_kind Page is = refl
page_kind Large is = cc

is_page : (row : AddressRow) (file : FileId) → is_page_of row file ≡ true → (row.first ≤ file.number) × (file ≡ page_file row.id file.number)
is_page row file is =
    let parts = and_parts _ _ is in
    let rest = and_parts _ _ parts.1 in
    let kind = page_kind file.kind parts.0 in
    let owner = eqb-true file.owner row.id rest.0 in
    (leb-true row.first file.number rest.1, λ i. record { kind = kind i; owner = owner i; number = file.number })

-- what passes the test is among the others
one_among : (row : AddressRow) (files : List FileId) → is_paged files row ≡ true → (file : FileId) × IsAmong files file × (is_page_of row file ≡ true)
one_among row [] is = cc
one_among row (file ∷ files) is = elim (cases_Bool (is_page_of row file)) [
  | inl here ↦ (file, inl refl, here)
  | inr elsewhere ↦
      let more = one_among row files (sym (ap (λ (b : Bool). b || is_paged files row) elsewhere) ∙ is) in
      (more.0, inr more.1, more.2)
]

among_paged : (row : AddressRow) (files : List FileId) (file : FileId) → IsAmong files file → is_page_of row file ≡ true → is_paged files row ≡ true
among_paged row [] file among is = absurd among
among_paged row (other ∷ files) file (inl same) is = or_left _ _ (subst (λ (f : FileId). is_page_of row f ≡ true) same is)
among_paged row (other ∷ files) file (inr more) is = or_right _ _ (among_paged row files file more is)

module _ (files : FinMap file_cmp FileState) (ids : List FileId) (is : ids ≡ keys files) where
  shown_page : (row : AddressRow) → IsMarked (as_read files) row (is_paged ids row)
  shown_page row = (
    λ paged.
        let one = one_among row ids paged in
        let page = is_page row one.0 one.2 in
        (one.0.number, page.0, subst (IsThere (as_read files)) page.1 (among_there files ids is one.0 one.1)),
    λ has.
        among_paged row ids (page_file row.id has.0) (there_among files ids is (page_file row.id has.0) has.2)
        (and_from _ _ refl (and_from _ _ (eq-eqb row.id row.id refl) (le-leb row.first has.0 has.1))),
  )

  shown_paged : (rows : List AddressRow) (paged : List Bool) → AreNumbered rows → paged ≡ map (is_paged ids) rows → ArePaged (as_read files) rows paged
  shown_paged rows paged numbered are = record {
    count = ap length are ∙ length-map rows (is_paged ids);
    each = λ k d within.
        let row = get_or rows k d in
        let place : row.id - 1 ≡ k = (let at = numbered k d within in omega arith) in
        let same : get_or paged (row.id - 1) false ≡ is_paged ids row =
        ap (λ (l : List Bool). get_or l (row.id - 1) false) are
        ∙ ap (λ (n : ℕ). get_or (map (is_paged ids) rows) n false) place
        ∙ get_or-map (is_paged ids) rows k d false within in
        subst (IsMarked (as_read files) row) (sym same) (shown_page row);
  }

-- so it is for the parts of an opening
pub all_paged : (old : Option Account) (ids : List FileId) → (IsHonest old → ids ≡ keys (account old).files) → (d : Durable) → AreNumbered d.addresses → (paged : Vec Bool Global) → paged.items ≡ map (is_paged ids) d.addresses
    → (result : Result Parts Fault) → IfOk result (λ parts. parts.durable ≡ raised d) → IfOk result (λ parts. parts.paged ≡ paged)
    → IfOk result (λ parts. IsHonest old → ArePaged (as_read (account old).files) parts.durable.addresses parts.paged.items)
all_paged old ids listed d numbered paged are (Ok parts) is same = λ honest.
    subst (λ (s : Durable). ArePaged (as_read (account old).files) s.addresses parts.paged.items) (sym is)
    (shown_paged (account old).files ids (listed honest) d.addresses parts.paged.items numbered (ap (λ (v : Vec Bool Global). v.items) same ∙ are))
all_paged old ids listed d numbered paged are (Err e) is same = tt

pub all_counted : (ids : List FileId) (d : Durable) (paged : Vec Bool Global) → paged.items ≡ map (is_paged ids) d.addresses → (result : Result Parts Fault) → IfOk result (λ parts. parts.durable ≡ raised d) → IfOk result (λ parts. parts.paged ≡ paged)
    → IfOk result (λ parts. length parts.paged.items ≡ length parts.durable.addresses)
all_counted ids d paged are (Ok parts) is same =
    ap (λ (v : Vec Bool Global). length v.items) same ∙ ap length are ∙ length-map d.addresses (is_paged ids) ∙ sym (ap (λ (s : Durable). length s.addresses) is)
all_counted ids d paged are (Err e) is same = tt
