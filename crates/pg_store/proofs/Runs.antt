-- The calls by which pages are made and written, as changes of the pages of an address.
use Rattle.std.proofs.Common.{◌≡◌, ℕ, ◌+◌, ◌<◌, List, [], Option, None, sym, subst}
use Rattle.std.specs.FinMap.{get}
use Rattle.pg_disk.specs.declared.disk.Disk.{Ghosts}
use Rattle.pg_disk.specs.declared.file_id.FileId.{FileId}
use Rattle.pg_disk.specs.Account.{FileState, Account, account, IsHonest}
use Rattle.pg_disk.specs.Calls.{Changes, ChangesFile}
use Rattle.pg_disk.specs.Files.{Files}
use Rattle.pg_disk.specs.Image.{Leaves, LeavesAt}
use Rattle.pg_disk.specs.Moments.{Within}
use Rattle.pg_disk.proofs.Composing.{started, weaker}
use Rattle.pg_gate.specs.Gated.{HasNone}
use Rattle.pg_page.specs.declared.place.Place.{Place}
use Rattle.pg_page.specs.Pages.{page_file}
use Rattle.pg_page.specs.Writing.{Adds, MayAdd, Writes, name_of, next_position}
use Rattle.pg_store.specs.declared.store.NormalStore.{NormalStore}
use Rattle.pg_store.specs.declared.store.PagingStore.{PagingStore}
use Rattle.pg_store.specs.Pages.{ChangesPages, LeavesPages, Somehow}
use Rattle.pg_store.specs.Stores.{LeavesNone, MayPage, Paged, Starts, address_of_normal, address_of_paging, first_of, first_of_normal, frames_in_last, last_of}
use Rattle.pg_store.specs.Turning.{Keeps, Turns}
use Rattle.pg_store.proofs.PageRuns.{page_changed, page_left, pages_left, pages_run, pages_then, pages_weaker}
use Rattle.pg_store.proofs.Standing.{add_leaves, keeps_may, pages_added, rest_leaves, start_leaves, starts, turn_leaves, turned_leaves, turned_paged, turns, unstarted_leaves}

-- ---- the last page is written

pub added : (store : PagingStore) (payload : List ℕ) (next : PagingStore) (place : Place) (old new : Option Account) → first_of next ≡ first_of store → last_of next ≡ last_of store → place.position ≡ next_position store.writer
    → Changes old new (ChangesFile (name_of store.writer) (Adds store.writer payload next.writer)) → Changes old new (ChangesPages (address_of_paging store) (Paged store payload next place))
added store payload next place old new first last position wrote =
    page_changed (address_of_paging store) (last_of store) old new (Adds store.writer payload next.writer) (Paged store payload next place) wrote
    (λ s t adds same. pages_added store payload next place s t first last position adds same)

pub adding : {D : Type 0} (m : Ghosts D) (store : PagingStore) (payload : List ℕ) (old new : D) → frames_in_last store < 4294967295 → Within m old new (LeavesAt (name_of store.writer) (MayAdd store.writer payload)) → Within m old new (LeavesPages (address_of_paging store) (MayPage store payload))
adding m store payload old new room run =
    weaker m old new (LeavesAt (name_of store.writer) (MayAdd store.writer payload)) (LeavesPages (address_of_paging store) (MayPage store payload)) run
    (page_left (address_of_paging store) (last_of store) (m.tells old) (MayAdd store.writer payload) (MayPage store payload) (λ h left others own. add_leaves store payload _ left room others own))

-- ---- a page is made, whose file goes by this name

module _ (file : FileId) (address page : ℕ) (named : file ≡ page_file address page) where
  pub isnt_there : (tells : Option Account) → (IsHonest tells → get (account tells).files (page_file address page) ≡ None) → IsHonest tells → get (account tells).files file ≡ None
  isnt_there tells none h = subst (λ f. get (account tells).files f ≡ None) (sym named) (none h)

  pub made_somehow : (old new : Option Account) (R : Option FileState → Option FileState → Type 0) → Changes old new (ChangesFile file R) → Changes old new (ChangesPages address Somehow)
  made_somehow old new R made = page_changed address page old new R Somehow (subst (λ f. Changes old new (ChangesFile f R)) named made) (λ s t any same. tt)

  pub made_so : (old new : Option Account) (R : Option FileState → Option FileState → Type 0) → Changes old new (ChangesFile file R) → Changes old new (ChangesFile (page_file address page) R)
  made_so old new R made = subst (λ f. Changes old new (ChangesFile f R)) named made

  pub making : {D : Type 0} (m : Ghosts D) (old new : D) → Within m old new (LeavesAt file (λ _. HasNone)) → Within m old new (LeavesAt (page_file address page) (λ _. HasNone))
  making m old new run = subst (λ f. Within m old new (LeavesAt f (λ _. HasNone))) named run

-- the first one

pub was_started : (store : NormalStore) (next : PagingStore) (old new : Option Account) → first_of next ≡ first_of_normal store → last_of next ≡ first_of_normal store
    → Changes old new (ChangesFile (page_file (address_of_normal store) (first_of_normal store)) (λ _ s. Writes next.writer [] s)) → Changes old new (ChangesPages (address_of_normal store) (Starts store next))
was_started store next old new first last made =
    page_changed (address_of_normal store) (first_of_normal store) old new (λ _ s. Writes next.writer [] s) (Starts store next) made
    (λ s t writes same. starts store next s t first last writes same)

module _ {D : Type 0} (m : Ghosts D) (store : NormalStore) where
  pub unstarted : (old : D) → ((c : Files) (b : List ℕ) → m.left_since old (m.moment old) c b → Leaves (m.tells old) c b) → Within m old old (LeavesPages (address_of_normal store) (LeavesNone store))
  unstarted old now = started m old (LeavesPages (address_of_normal store) (LeavesNone store))
      (λ c b left. pages_left (address_of_normal store) (m.tells old) (LeavesNone store) (λ h pages is. unstarted_leaves store _ pages is) c b (now c b left))

  pub starting : (old new : D) → Within m old new (LeavesAt (page_file (address_of_normal store) (first_of_normal store)) (λ _. HasNone)) → Within m old new (LeavesPages (address_of_normal store) (LeavesNone store))
  starting old new run =
      weaker m old new (LeavesAt (page_file (address_of_normal store) (first_of_normal store)) (λ _. HasNone)) (LeavesPages (address_of_normal store) (LeavesNone store)) run
      (page_left (address_of_normal store) (first_of_normal store) (m.tells old) (λ _. HasNone) (LeavesNone store) (λ h left others own. start_leaves store _ left others own))

-- one behind the last

pub was_turned : (store next : PagingStore) (old new : Option Account) → first_of next ≡ first_of store → last_of next ≡ last_of store + 1
    → Changes old new (ChangesFile (page_file (address_of_paging store) (last_of store + 1)) (λ _ s. Writes next.writer [] s)) → Changes old new (ChangesPages (address_of_paging store) (Turns store next))
was_turned store next old new first last made =
    page_changed (address_of_paging store) (last_of store + 1) old new (λ _ s. Writes next.writer [] s) (Turns store next) made
    (λ s t writes same. turns store next s t first last writes same)

pub turning : {D : Type 0} (m : Ghosts D) (store : PagingStore) (old new : D) → Within m old new (LeavesAt (page_file (address_of_paging store) (last_of store + 1)) (λ _. HasNone)) → Within m old new (LeavesPages (address_of_paging store) (Keeps store))
turning m store old new run =
    weaker m old new (LeavesAt (page_file (address_of_paging store) (last_of store + 1)) (λ _. HasNone)) (LeavesPages (address_of_paging store) (Keeps store)) run
    (page_left (address_of_paging store) (last_of store + 1) (m.tells old) (λ _. HasNone) (Keeps store) (λ h left others own. turn_leaves store _ left others own))

-- ---- a call that does nothing, and one behind another

pub unpaged : {D : Type 0} (m : Ghosts D) (store : PagingStore) (payload : List ℕ) (old : D) → ((c : Files) (b : List ℕ) → m.left_since old (m.moment old) c b → Leaves (m.tells old) c b) → Within m old old (LeavesPages (address_of_paging store) (MayPage store payload))
unpaged m store payload old now = started m old (LeavesPages (address_of_paging store) (MayPage store payload))
    (λ c b left. pages_left (address_of_paging store) (m.tells old) (MayPage store payload) (λ h pages is. keeps_may store payload _ pages (rest_leaves store _ pages is)) c b (now c b left))

-- a page is made, and then written
module _ (store mid : PagingStore) (payload : List ℕ) (address : address_of_paging mid ≡ address_of_paging store) (first : first_of mid ≡ first_of store) where
  pub two_paged : (next : PagingStore) (place : Place) (old between new : Option Account) → Changes old between (ChangesPages (address_of_paging store) (Turns store mid)) → Changes between new (ChangesPages (address_of_paging mid) (Paged mid payload next place))
      → Changes old new (ChangesPages (address_of_paging store) (Paged store payload next place))
  two_paged next place old between new one two =
      pages_then (address_of_paging store) old between new (Turns store mid) (Paged mid payload next place) (Paged store payload next place) one
      (subst (λ (a : ℕ). Changes between new (ChangesPages a (Paged mid payload next place))) address two) (λ r s t turned paged. turned_paged store mid payload next place r s t turned paged)

  pub two_somehow : (old between new : Option Account) → Changes old between (ChangesPages (address_of_paging store) Somehow) → Changes between new (ChangesPages (address_of_paging mid) Somehow) → Changes old new (ChangesPages (address_of_paging store) Somehow)
  two_somehow old between new one two =
      pages_then (address_of_paging store) old between new Somehow Somehow Somehow one (subst (λ (a : ℕ). Changes between new (ChangesPages a Somehow)) address two) (λ r s t any more. tt)

  pub may_two : {D : Type 0} (m : Ghosts D) (old between new : D) → Within m old between (LeavesPages (address_of_paging store) (Keeps store)) → Changes (m.tells old) (m.tells between) (ChangesPages (address_of_paging store) (Turns store mid))
      → Within m between new (LeavesPages (address_of_paging mid) (MayPage mid payload)) → Within m old new (LeavesPages (address_of_paging store) (MayPage store payload))
  may_two m old between new one turned two =
      pages_run m (address_of_paging store) old between new (Turns store mid) (MayPage store payload) (MayPage mid payload)
      (pages_weaker m (address_of_paging store) old between (Keeps store) (MayPage store payload) one (λ s left keeps. keeps_may store payload s left keeps)) turned
      (subst (λ (a : ℕ). Within m between new (LeavesPages a (MayPage mid payload))) address two) (λ s t left turned may. turned_leaves store mid payload s t left first turned may)

pub may_one : {D : Type 0} (m : Ghosts D) (store : PagingStore) (payload : List ℕ) (old new : D) → Within m old new (LeavesPages (address_of_paging store) (Keeps store)) → Within m old new (LeavesPages (address_of_paging store) (MayPage store payload))
may_one m store payload old new one = pages_weaker m (address_of_paging store) old new (Keeps store) (MayPage store payload) one (λ s left keeps. keeps_may store payload s left keeps)
