-- A payload is added at an address in either state.
use Rattle.std.proofs.Common.{◌≡◌, inl, ℕ, List, [], ◌∷◌, ◌++◌, length, Option, sym, subst}
use Rattle.pg_disk.specs.declared.disk.Disk.{Ghosts}
use Rattle.pg_disk.specs.Account.{Account}
use Rattle.pg_disk.specs.Calls.{Changes}
use Rattle.pg_disk.specs.Files.{Files}
use Rattle.pg_disk.specs.Image.{Leaves}
use Rattle.pg_disk.specs.Moments.{Within}
use Rattle.pg_disk.proofs.Composing.{changes_weaker}
use Rattle.pg_page.specs.declared.place.Place.{Place}
use Rattle.pg_page.specs.Pages.{Entry, HasEntries, Pages}
use Rattle.pg_store.specs.declared.store.NormalStore.{NormalStore}
use Rattle.pg_store.specs.declared.store.PagingStore.{PagingStore}
use Rattle.pg_store.specs.declared.store.Store.{Store}
use Rattle.pg_store.specs.declared.store.Store.TheVariants.{Normal, Paging}
use Rattle.pg_store.specs.Pages.{ChangesPages, HasOldOrMore, LeavesPages, Somehow, States}
use Rattle.pg_store.specs.Stores.{LeavesNone, MayPage, MayPageInto, Paged, PagedInto, StandsPaging, Starts, Takes, address_of_normal, address_of_paging, address_of_store, first_of, first_of_normal}
use Rattle.pg_store.proofs.PageRuns.{pages_run, pages_then, pages_weaker}
use Rattle.pg_store.proofs.Runs.{unstarted}

-- ---- at a normal address

none_may : (store : NormalStore) (payload : List ℕ) (s : States) (left : Pages) → LeavesNone store s left → MayPageInto (Normal store) payload s left
none_may store payload s left leaves entries stands = inl (subst (λ (es : List Entry). HasEntries (first_of_normal store) es left) (sym stands.1) (leaves stands.0))

module _ {D : Type 0} (m : Ghosts D) (store : NormalStore) (payload : List ℕ) where
  -- nothing was done
  pub unstarted_may : (old : D) → ((c : Files) (b : List ℕ) → m.left_since old (m.moment old) c b → Leaves (m.tells old) c b) → Within m old old (LeavesPages (address_of_normal store) (MayPageInto (Normal store) payload))
  unstarted_may old now = pages_weaker m (address_of_normal store) old old (LeavesNone store) (MayPageInto (Normal store) payload) (unstarted m store old now) (none_may store payload)

  -- the first page was made, or it wasn't
  pub starting_may : (old new : D) → Within m old new (LeavesPages (address_of_normal store) (LeavesNone store)) → Within m old new (LeavesPages (address_of_normal store) (MayPageInto (Normal store) payload))
  starting_may old new run = pages_weaker m (address_of_normal store) old new (LeavesNone store) (MayPageInto (Normal store) payload) run (none_may store payload)

-- the first page is made, and then written
module _ (store : NormalStore) (mid : PagingStore) (payload : List ℕ) (address : address_of_paging mid ≡ address_of_normal store) (first : first_of mid ≡ first_of_normal store) where
  pub start_paged : (next : PagingStore) (place : Place) (old between new : Option Account) → Changes old between (ChangesPages (address_of_normal store) (Starts store mid)) → Changes between new (ChangesPages (address_of_paging mid) (Paged mid payload next place))
      → Changes old new (ChangesPages (address_of_normal store) (PagedInto (Normal store) payload (Paging next) place))
  start_paged next place old between new one two =
      pages_then (address_of_normal store) old between new (Starts store mid) (Paged mid payload next place) (PagedInto (Normal store) payload (Paging next) place) one
      (subst (λ (a : ℕ). Changes between new (ChangesPages a (Paged mid payload next place))) address two)
      (λ r s t starts paged. record {
        ready = λ normal. paged.ready (starts.ready normal);
        adds = λ entries stands. subst (λ (es : List Entry). StandsPaging next (es ++ (place.position, payload) ∷ []) t) (sym stands.1) (paged.adds [] (starts.stands stands.0));
      })

  pub start_somehow : (old between new : Option Account) → Changes old between (ChangesPages (address_of_normal store) (Starts store mid)) → Changes between new (ChangesPages (address_of_paging mid) Somehow) → Changes old new (ChangesPages (address_of_normal store) Somehow)
  start_somehow old between new one two =
      pages_then (address_of_normal store) old between new (Starts store mid) Somehow Somehow one (subst (λ (a : ℕ). Changes between new (ChangesPages a Somehow)) address two) (λ r s t any more. tt)

  started_may : (s t : States) (left : Pages) → Starts store mid s t → MayPage mid payload t left → MayPageInto (Normal store) payload s left
  started_may s t left starts may entries stands =
      subst (λ (es : List Entry). HasOldOrMore (first_of_normal store) es payload left) (sym stands.1)
      (subst (λ (n : ℕ). HasOldOrMore n [] payload left) first (may [] (starts.stands stands.0)))

  pub start_may : {D : Type 0} (m : Ghosts D) (old between new : D) → Within m old between (LeavesPages (address_of_normal store) (LeavesNone store)) → Changes (m.tells old) (m.tells between) (ChangesPages (address_of_normal store) (Starts store mid))
      → Within m between new (LeavesPages (address_of_paging mid) (MayPage mid payload)) → Within m old new (LeavesPages (address_of_normal store) (MayPageInto (Normal store) payload))
  start_may m old between new one starts two =
      pages_run m (address_of_normal store) old between new (Starts store mid) (MayPageInto (Normal store) payload) (MayPage mid payload) (starting_may m store payload old between one) starts
      (subst (λ (a : ℕ). Within m between new (LeavesPages a (MayPage mid payload))) address two) started_may

-- ---- in either state

-- a store that was normal
module _ (self : Store) (store : NormalStore) (is : self ≡ Normal store) (payload : List ℕ) where
  pub normal_may : {D : Type 0} (m : Ghosts D) (old new : D) → Within m old new (LeavesPages (address_of_normal store) (MayPageInto (Normal store) payload)) → Within m old new (LeavesPages (address_of_store self) (MayPageInto self payload))
  normal_may m old new run = subst (λ (s : Store). Within m old new (LeavesPages (address_of_store s) (MayPageInto s payload))) (sym is) run

  pub normal_takes : (limit : ℕ) (next : Store) (place : Place) → ((any : ℕ) → Takes (Normal store) (length payload) any next place) → Takes self (length payload) limit next place
  normal_takes limit next place takes = subst (λ (s : Store). Takes s (length payload) limit next place) (sym is) (takes limit)

  pub normal_paged : (next : Store) (place : Place) (old new : Option Account) → Changes old new (ChangesPages (address_of_normal store) (PagedInto (Normal store) payload next place)) → Changes old new (ChangesPages (address_of_store self) (PagedInto self payload next place))
  normal_paged next place old new paged = subst (λ (s : Store). Changes old new (ChangesPages (address_of_store s) (PagedInto s payload next place))) (sym is) paged

-- one that paged already
module _ (self : Store) (store : PagingStore) (is : self ≡ Paging store) (payload : List ℕ) where
  pub paging_may : {D : Type 0} (m : Ghosts D) (old new : D) → Within m old new (LeavesPages (address_of_paging store) (MayPage store payload)) → Within m old new (LeavesPages (address_of_store self) (MayPageInto self payload))
  paging_may m old new run = subst (λ (s : Store). Within m old new (LeavesPages (address_of_store s) (MayPageInto s payload))) (sym is) run

  same_change : (next : PagingStore) (place : Place) (old new : Option Account) → Changes old new (ChangesPages (address_of_paging store) (Paged store payload next place)) → Changes old new (ChangesPages (address_of_paging store) (PagedInto (Paging store) payload (Paging next) place))
  same_change next place old new paged = changes_weaker old new (ChangesPages (address_of_paging store) (Paged store payload next place)) (ChangesPages (address_of_paging store) (PagedInto (Paging store) payload (Paging next) place)) paged
      (λ h a. record { told = a.told; taken = a.taken; others = a.others; change = record { ready = a.change.ready; adds = a.change.adds } })

  pub paging_paged : (next : PagingStore) (place : Place) (old new : Option Account) → Changes old new (ChangesPages (address_of_paging store) (Paged store payload next place)) → Changes old new (ChangesPages (address_of_store self) (PagedInto self payload (Paging next) place))
  paging_paged next place old new paged = subst (λ (s : Store). Changes old new (ChangesPages (address_of_store s) (PagedInto s payload (Paging next) place))) (sym is) (same_change next place old new paged)
