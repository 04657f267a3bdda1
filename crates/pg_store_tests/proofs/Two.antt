-- Two addresses, of which the first one has a page.
use Rattle.std.proofs.Common.{◌≡◌, ◌≢◌, ℕ, ◌+◌, List, [], ◌∷◌, ◌++◌, length, Option, Some, None, sym, ◌∙◌, ap, subst, arith}
use Rattle.std.specs.FinMap.{empty, get, get-empty}
use Rattle.pg_disk.specs.declared.file_id.FileId.{FileId}
use Rattle.pg_disk.specs.Account.{Account, account, IsHonest}
use Rattle.pg_disk.specs.Files.{file_cmp}
use Rattle.pg_page.specs.Pages.{page_file}
use Rattle.pg_disk.specs.Calls.{Changes}
use Rattle.pg_gate.specs.Spans.{ReadsAndChanges, StaysOrMends}
use Rattle.pg_store.specs.declared.store.Store.{Store}
use Rattle.pg_store.specs.Every.{Appends, AreReady, IsStoreWith}
use Rattle.pg_store.specs.Pages.{FilesNow, HasNoneFrom, IsLast, states_of}
use Rattle.pg_store.specs.Stores.{IsReady, Reopens}
use Rattle.pg_store.proofs.AllFrames.{added_ready, none_stand, opened_ready}

-- there is no file
pub none_yet : (address first : ℕ) (a : Account) → a ≡ record { files = empty; told = []; taken = 0 } → HasNoneFrom first (states_of a.files address)
none_yet address first a is page le = ap (λ (b : Account). get b.files (page_file address page)) is ∙ get-empty file_cmp (page_file address page)

abbrev pub NoneMore : FilesNow → Type 0
NoneMore files = HasNoneFrom 2 (states_of files 1) × HasNoneFrom 4 (states_of files 2)

pub fewer : (files : FilesNow) → HasNoneFrom 1 (states_of files 1) × HasNoneFrom 4 (states_of files 2) → NoneMore files
fewer files none = (λ page le. none.0 page (omega (arith, le)), none.1)

-- a page of the address 1 is none of the address 2
pub other_owner : (page : ℕ) → page_file 2 page ≢ page_file 1 1
other_owner page is = absurd (omega (arith, ap (λ (f : FileId). f.owner) is))

-- a change of page 1 of the address 1 leaves none behind it
pub none_more : (old new : Option Account) → (IsHonest new → IsHonest old) → (IsHonest old → (f : FileId) → f ≢ page_file 1 1 → get (account new).files f ≡ get (account old).files f)
    → (IsHonest old → NoneMore (account old).files) → IsHonest new → NoneMore (account new).files
none_more old new back same was h = (
  λ page le. same (back h) (page_file 1 page) (λ e. absurd (omega (arith, le, ap (λ (f : FileId). f.number) e))) ∙ (was (back h)).0 page le,
  λ page le. same (back h) (page_file 2 page) (other_owner page) ∙ (was (back h)).1 page le,
)

-- the address 1 was opened, and the address 2 added
pub two_ready : (none one two : List Store) (old new : Option Account) → none ≡ [] → Appends none one (IsStoreWith 1 1 (Some 1))
    → (IsHonest old → Appends none one (λ store. IsReady store (states_of (account new).files 1) × Reopens store (states_of (account old).files 1) (states_of (account new).files 1)))
    → Changes old new (ReadsAndChanges (page_file 1 1) StaysOrMends) → Appends one two (IsStoreWith 2 4 None) → (IsHonest old → IsLast 1 (Some 1) (states_of (account old).files 1) × HasNoneFrom 4 (states_of (account old).files 2))
    → IsHonest new → AreReady two (account new).files
two_ready none one two old new is first opened stays second was honest =
    let h = stays.back honest in
    let now : FilesNow = (account new).files in
    let count : 2 ≡ length one + 1 = sym (ap (λ (l : List Store). length l + 1) (first.1 ∙ ap (λ (l : List Store). l ++ first.0 ∷ []) is)) in
    let ready : AreReady one now =
    opened_ready [] one 1 (Some 1) (account old).files now (subst (λ (l : List Store). Appends l one (IsStoreWith 1 1 (Some 1))) is first)
    (subst (λ (l : List Store). Appends l one (λ store. IsReady store (states_of now 1) × Reopens store (states_of (account old).files 1) (states_of now 1))) is (opened h)) (none_stand (λ address. []) now).0 in
    added_ready one two 4 now (subst (λ (n : ℕ). Appends one two (IsStoreWith n 4 None)) count second)
    (subst (λ (n : ℕ). HasNoneFrom 4 (states_of now n)) count (λ page le. (stays.step h).others (page_file 2 page) (other_owner page) ∙ (was h).1 page le)) ready
