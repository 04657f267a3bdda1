-- A store is opened over the pages that are there.
use Rattle.std.proofs.Common.{◌≡◌, ◌≢◌, ℕ, ◌+◌, Option, Some, refl, sym, ◌∙◌, ap, subst, arith}
use Rattle.std.specs.FinMap.{get}
use Rattle.pg_disk.specs.declared.file_id.FileId.{FileId}
use Rattle.pg_disk.specs.Account.{FileState, Account, account, IsHonest}
use Rattle.pg_disk.specs.Calls.{Changes}
use Rattle.pg_disk.specs.Views.{bytes_of}
use Rattle.pg_gate.specs.Gated.{HasBatches}
use Rattle.pg_gate.specs.Spans.{ReadsAndChanges, StaysOrMends}
use Rattle.pg_page.specs.Pages.{page_file}
use Rattle.pg_page.specs.Writing.{OpensAs, Writes}
use Rattle.pg_store.specs.declared.store.PagingStore.{PagingStore}
use Rattle.pg_store.specs.Pages.{HasNoneFrom, IsLast, States, states_of}
use Rattle.pg_store.specs.Stores.{IsPaging, ReopensPaging, first_of, last_of}
use Rattle.pg_store.proofs.Positions.{have_still}

-- the last page was opened, and every other one is as it was
module _ (store : PagingStore) (s t : States) (u : FileState) (last : ℕ) (is : last_of store ≡ last) (there : s last ≡ Some u) (none : HasNoneFrom (last + 1) s) (opens : OpensAs store.writer u.bytes (t last))
    (same : (other : ℕ) → other ≢ last → t other ≡ s other) where
  abbrev pub open_ready : IsPaging store t
  open_ready = record {
    written = (opens.0, subst (λ (n : ℕ). Writes store.writer opens.0 (t n)) (sym is) opens.2);
    none = λ page le. same page (omega (arith, le, is)) ∙ none page (omega (arith, le, is));
  }

  had : HasBatches opens.0 (bytes_of (s (last_of store)))
  had = subst (λ (o : Option FileState). HasBatches opens.0 (bytes_of o)) (sym (ap s is ∙ there)) opens.1

  pub open_stands : ReopensPaging store s t
  open_stands = (
    opens.0,
    had,
    subst (λ (n : ℕ). Writes store.writer opens.0 (t n)) (sym is) opens.2,
    λ closed place have. record {
      ready = open_ready;
      closed = closed;
      place = place;
      are_closed = have_still (first_of store) closed s t have (λ page lt. same page (omega (arith, lt, place, is)));
      are = refl;
    },
  )

other_page : (address page other : ℕ) → other ≢ page → page_file address other ≢ page_file address page
other_page address page other differ same = differ (ap (λ (f : FileId). f.number) same)

-- as the calls of the disk give it
pub reopened : (store : PagingStore) (address first last : ℕ) (old new : Option Account) → last_of store ≡ last → (IsHonest old → IsLast first (Some last) (states_of (account old).files address))
    → (IsHonest old → (u : FileState) → get (account old).files (page_file address last) ≡ Some u → OpensAs store.writer u.bytes (get (account new).files (page_file address last)))
    → Changes old new (ReadsAndChanges (page_file address last) StaysOrMends)
    → IsHonest old → IsPaging store (states_of (account new).files address) × ReopensPaging store (states_of (account old).files address) (states_of (account new).files address)
reopened store address first last old new is was opened changes h =
    let there = was h in
    let opens = opened h there.1.0 there.1.1 in
    let same : (other : ℕ) → other ≢ last → states_of (account new).files address other ≡ states_of (account old).files address other =
    λ other differ. (changes.step h).others (page_file address other) (other_page address last other differ) in (
      open_ready store (states_of (account old).files address) (states_of (account new).files address) there.1.0 last is there.1.1 there.2 opens same,
      open_stands store (states_of (account old).files address) (states_of (account new).files address) there.1.0 last is there.1.1 there.2 opens same,
    )
