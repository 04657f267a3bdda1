-- One address takes a payload, among all of them.
use Rattle.std.proofs.Common.{◌≡◌, ◌↔◌, ℕ, List, Option, Result, Ok, Err, IsErrOf, sym, ◌∙◌, subst}
use Rattle.pg_disk.specs.declared.disk.Disk.{Ghosts}
use Rattle.pg_disk.specs.declared.fault.Fault.{Fault}
use Rattle.pg_disk.specs.declared.fault.Fault.TheVariants.{Spent}
use Rattle.pg_disk.specs.Account.{Account, account, IsHonest}
use Rattle.pg_disk.specs.Calls.{Changes}
use Rattle.pg_disk.specs.Moments.{Within}
use Rattle.pg_disk.proofs.Composing.{changes_weaker, weaker}
use Rattle.pg_page.specs.declared.place.Place.{Place}
use Rattle.pg_page.specs.Pages.{page_file}
use Rattle.pg_store.specs.declared.store.Store.{Store}
use Rattle.pg_store.specs.Every.{AreReady, HasStore, IsStoreOf, MayPageAt, PagedAt, StayElsewhere}
use Rattle.pg_store.specs.Pages.{ChangesPages, LeavesPages, Somehow, States, states_of}
use Rattle.pg_store.specs.Stores.{HasNoSpaceFor, IsReady, MayPageInto, PagedInto, address_of_store}
use Rattle.pg_store.proofs.Knowing.{no_page_of, ready_still}
use Rattle.pg_store.proofs.Listed.{each_with, store_once}

-- of two results with one error, both are that they are spent, or none is
by_cause : {S T : Type 0} (came : Result S Fault) (result : Result T Fault) (e f : Fault) → came ≡ Err e → result ≡ Err f → f ≡ e → IsErrOf result Spent → IsErrOf came Spent
by_cause came result e f is then same is_spent = cc

module _ (address : ℕ) (stores : List Store) (store : Store) (had : IsStoreOf address stores store) where
  -- its store is the only one that can have no space
  pub no_space : (size limit : ℕ) → HasStore address stores (λ s. HasNoSpaceFor s size limit) → HasNoSpaceFor store size limit
  no_space size limit some = subst (λ (s : Store). HasNoSpaceFor s size limit) (store_once address stores some.0 store some.1 had) some.2

  -- the error that is passed on is the one that came
  pub spent_passed : {S T : Type 0} (came : Result S Fault) (result : Result T Fault) (e f : Fault) → came ≡ Err e → result ≡ Err f → f ≡ e → (size limit : ℕ) → (IsErrOf came Spent ↔ HasNoSpaceFor store size limit)
      → IsErrOf result Spent ↔ HasStore address stores (λ s. HasNoSpaceFor s size limit)
  spent_passed came result e f is then same size limit spent = (
    λ is_spent. (store, had, spent.0 (by_cause came result e f is then same is_spent)),
    λ some. by_cause result came f e then is (sym same) (spent.1 (no_space size limit some)),
  )

  pub unspent : {S T : Type 0} (came : Result S Fault) (x : S) (y : T) → came ≡ Ok x → (size limit : ℕ) → (IsErrOf came Spent ↔ HasNoSpaceFor store size limit) → IsErrOf {E = Fault} (Ok y) Spent ↔ HasStore address stores (λ s. HasNoSpaceFor s size limit)
  unspent came x y is size limit spent = (λ is_spent. cc, λ some. let was = spent.1 (no_space size limit some) in cc)

  module _ (payload : List ℕ) (old new : Option Account) (ready : IsHonest old → AreReady stores (account old).files) where
    own : IsHonest old → address_of_store store ≡ address
    own h = (ready h address store had).0

    pub is_ready : IsHonest old → IsReady store (states_of (account old).files (address_of_store store))
    is_ready h = subst (λ (n : ℕ). IsReady store (states_of (account old).files n)) (sym (own h)) (ready h address store had).1

    at_own : (R : States → States → Type 0) → Changes old new (ChangesPages (address_of_store store) R) → Changes old new (ChangesPages address R)
    at_own R changes = record {
      kept = changes.kept;
      back = changes.back;
      step = λ h. subst (λ (n : ℕ). ChangesPages n R (account old) (account new)) (own h) (changes.step h);
    }

    pub all_somehow : Changes old new (ChangesPages (address_of_store store) Somehow) → Changes old new (ChangesPages address Somehow)
    all_somehow changes = at_own Somehow changes

    module _ (next : List Store) (after : Store) (place : Place) (has : IsStoreOf address next after) (paged : Changes old new (ChangesPages (address_of_store store) (PagedInto store payload after place))) where
      pub all_paged : Changes old new (ChangesPages address (PagedAt address stores payload next place))
      all_paged = changes_weaker old new (ChangesPages address (PagedInto store payload after place)) (ChangesPages address (PagedAt address stores payload next place)) (at_own (PagedInto store payload after place) paged)
          (λ h a. record { told = a.told; taken = a.taken; others = a.others; change = (store, had, (after, has, a.change)) })

      pub all_ready : StayElsewhere address stores next → address_of_store after ≡ address_of_store store → IsHonest new → AreReady next (account new).files
      all_ready stay same honest =
          let h = paged.back honest in
          let a = (at_own (PagedInto store payload after place) paged).step h in
          each_with address stores next stay after has (λ n s. (address_of_store s ≡ n) × IsReady s (states_of (account new).files n))
          (same ∙ own h, a.change.ready (ready h address store had).1)
          (λ other s differ at.
          let was = ready h other s at in
          (was.0, ready_still s (states_of (account old).files other) (states_of (account new).files other) (λ page. a.others (page_file other page) (no_page_of other address page (λ e. differ (sym e)))) was.1))

  pub all_may : (payload : List ℕ) {D : Type 0} (m : Ghosts D) (old new : D) → (IsHonest (m.tells old) → AreReady stores (account (m.tells old)).files)
      → Within m old new (LeavesPages (address_of_store store) (MayPageInto store payload)) → Within m old new (LeavesPages address (MayPageAt address stores payload))
  all_may payload m old new ready run =
      weaker m old new (LeavesPages (address_of_store store) (MayPageInto store payload)) (LeavesPages address (MayPageAt address stores payload)) run
      (λ c b left.
      let here = subst (λ (n : ℕ). LeavesPages n (MayPageInto store payload) (m.tells old) c b) (ready left.honest address store had).0 left in
      record { honest = here.honest; others = here.others; left = (store, had, here.left); told = here.told })
