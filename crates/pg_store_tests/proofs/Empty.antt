-- A site in memory that is new, and one page that is made in it.
use Rattle.std.proofs.Common.{◌≡◌, ◌≢◌, ℕ, ◌+◌, ◌≤◌, [], Option, ◌∙◌, ap, arith}
use Rattle.std.specs.FinMap.{empty, get, get-empty}
use Rattle.pg_disk.specs.declared.file_id.FileId.{FileId}
use Rattle.pg_disk.specs.Account.{Account, account, IsHonest}
use Rattle.pg_disk.specs.Files.{file_cmp}
use Rattle.pg_page.specs.Pages.{page_file}
use Rattle.pg_store.specs.Pages.{HasNoneFrom, states_of}

-- there is no file
pub nothing_yet : (first : ℕ) (a : Account) → a ≡ record { files = empty; told = []; taken = 0 } → HasNoneFrom first (states_of a.files 3)
nothing_yet first a is page le = ap (λ (b : Account). get b.files (page_file 3 page)) is ∙ get-empty file_cmp (page_file 3 page)

-- a change of this page leaves none behind it
pub none_behind : (number : ℕ) (old new : Option Account) → (IsHonest new → IsHonest old) → (IsHonest old → (f : FileId) → f ≢ page_file 3 number → get (account new).files f ≡ get (account old).files f)
    → (IsHonest old → HasNoneFrom (number + 1) (states_of (account old).files 3)) → IsHonest new → HasNoneFrom (number + 1) (states_of (account new).files 3)
none_behind number old new back same was h page le =
    same (back h) (page_file 3 page) (λ e. differ page le (ap (λ (f : FileId). f.number) e)) ∙ was (back h) page le
  where
    differ : (n : ℕ) → number + 1 ≤ n → n ≡ number → ⊥
    differ n le is = absurd (omega (arith, le, is))

-- fewer pages are behind a later one
pub none_later : (number : ℕ) (tells : Option Account) → (IsHonest tells → HasNoneFrom number (states_of (account tells).files 3)) → IsHonest tells → HasNoneFrom (number + 1) (states_of (account tells).files 3)
none_later number tells was h page le = was h page (omega (arith, le))
