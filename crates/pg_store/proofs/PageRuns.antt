-- Calls on one page, as changes of the pages of its address.
use Rattle.std.proofs.Common.{◌≡◌, ◌≢◌, ℕ, List, Option, refl, ◌∙◌, ap}
use Rattle.std.specs.FinMap.{get}
use Rattle.pg_disk.specs.declared.disk.Disk.{Ghosts}
use Rattle.pg_disk.specs.declared.file_id.FileId.{FileId}
use Rattle.pg_disk.specs.Account.{FileState, Account, account, IsHonest}
use Rattle.pg_disk.specs.Calls.{Changes, ChangesFile, ReadsNone}
use Rattle.pg_disk.specs.Files.{Files}
use Rattle.pg_disk.specs.Image.{IsLeftAt, LeavesAt, Leaves, Only}
use Rattle.pg_disk.specs.Moments.{Within}
use Rattle.pg_disk.proofs.Composing.{beside_wider, changes_none, changes_then, runs_then, weaker, where_then}
use Rattle.pg_page.specs.Pages.{IsPageOf, Pages, page_file}
use Rattle.pg_store.specs.Pages.{ChangesPages, LeavesPages, States, Somehow, states_of}

-- another page has another file
other_page : (address page other : ℕ) → other ≢ page → page_file address other ≢ page_file address page
other_page address page other differ same = differ (ap (λ (f : FileId). f.number) same)

-- one page changed so, and every other one stays
pub page_changed : (address page : ℕ) (old new : Option Account) (R : Option FileState → Option FileState → Type 0) (T : States → States → Type 0) → Changes old new (ChangesFile (page_file address page) R)
    → ((s t : States) → R (s page) (t page) → ((other : ℕ) → other ≢ page → t other ≡ s other) → T s t) → Changes old new (ChangesPages address T)
page_changed address page old new R T changes then = record {
  kept = changes.kept;
  back = changes.back;
  step = λ h.
      let a = changes.step h in
      record {
        told = a.told;
        taken = a.taken;
        others = λ f out. a.others f (λ is. out (page, is));
        change = then (states_of (account old).files address) (states_of (account new).files address) a.change (λ other differ. a.others (page_file address other) (other_page address page other differ));
      };
}

-- nothing is changed
pub pages_stay : (address : ℕ) (tells : Option Account) → Changes tells tells (ChangesPages address Somehow)
pages_stay address tells = changes_none tells (ChangesPages address Somehow) (λ h. record { told = refl; taken = refl; others = λ f out. refl; change = tt })

-- one change of pages, and then another
pub pages_then : (address : ℕ) (old mid new : Option Account) (R S T : States → States → Type 0) → Changes old mid (ChangesPages address R) → Changes mid new (ChangesPages address S)
    → ((r s t : States) → R r s → S s t → T r t) → Changes old new (ChangesPages address T)
pages_then address old mid new R S T first second both =
    changes_then old mid new (ChangesPages address R) (ChangesPages address S) (ChangesPages address T) first second
    (λ h a b. where_then (IsPageOf address) ReadsNone ReadsNone ReadsNone (λ f g. R (states_of f address) (states_of g address)) (λ f g. S (states_of f address) (states_of g address)) (λ f g. T (states_of f address) (states_of g address))
    (account old) (account mid) (account new) a b (λ one two. two ∙ one) (both (states_of (account old).files address) (states_of (account mid).files address) (states_of (account new).files address)))

-- what is left of the page is this, of the others what a crash may leave of them
pub page_left : (address page : ℕ) (tells : Option Account) (Q : Option FileState → Option (List ℕ) → Type 0) (P : States → Pages → Type 0)
    → (IsHonest tells → (left : Pages) → ((other : ℕ) → other ≢ page → IsLeftAt (states_of (account tells).files address other) (left other)) → Q (states_of (account tells).files address page) (left page) → P (states_of (account tells).files address) left)
    → (c : Files) (b : List ℕ) → LeavesAt (page_file address page) Q tells c b → LeavesPages address P tells c b
page_left address page tells Q P then =
    beside_wider (Only (page_file address page)) (IsPageOf address) (λ files c. Q (get files (page_file address page)) (get c (page_file address page))) (λ files c. P (states_of files address) (λ n. get c (page_file address n))) tells (λ f is. (page, is))
    (λ c h others own. then h (λ n. get c (page_file address n)) (λ other differ. others (page_file address other) (other_page address page other differ)) own)

-- nothing was done
pub pages_left : (address : ℕ) (tells : Option Account) (P : States → Pages → Type 0)
    → (IsHonest tells → (left : Pages) → ((page : ℕ) → IsLeftAt (states_of (account tells).files address page) (left page)) → P (states_of (account tells).files address) left)
    → (c : Files) (b : List ℕ) → Leaves tells c b → LeavesPages address P tells c b
pages_left address tells P then c b left = record {
  honest = left.honest;
  others = λ f out. left.image f;
  left = then left.honest (λ n. get c (page_file address n)) (λ page. left.image (page_file address page));
  told = left.told;
}

module _ {D : Type 0} (m : Ghosts D) where
  -- one run on pages, and then another
  pub pages_run : (address : ℕ) (old mid new : D) (R : States → States → Type 0) (P Q : States → Pages → Type 0) → Within m old mid (LeavesPages address P) → Changes (m.tells old) (m.tells mid) (ChangesPages address R) → Within m mid new (LeavesPages address Q)
      → ((s t : States) (left : Pages) → R s t → Q t left → P s left) → Within m old new (LeavesPages address P)
  pages_run address old mid new R P Q first change second then =
      runs_then m (IsPageOf address) ReadsNone (λ f g. R (states_of f address) (states_of g address)) (λ f c. P (states_of f address) (λ n. get c (page_file address n))) (λ f c. Q (states_of f address) (λ n. get c (page_file address n))) old mid new first change second
      (λ c r q. then (states_of (account (m.tells old)).files address) (states_of (account (m.tells mid)).files address) (λ n. get c (page_file address n)) r q)

  -- what is left of pages in one way is left in another
  pub pages_weaker : (address : ℕ) (old new : D) (P Q : States → Pages → Type 0) → Within m old new (LeavesPages address P) → ((s : States) (left : Pages) → P s left → Q s left) → Within m old new (LeavesPages address Q)
  pages_weaker address old new P Q run then = weaker m old new (LeavesPages address P) (LeavesPages address Q) run
      (λ c b left. record { honest = left.honest; others = left.others; left = then _ _ left.left; told = left.told })
