-- The stores of all addresses, and what the files have of their pages.
use Rattle.std.specs.Prelude.{◌≡◌, ◌≢◌, ◌⊎◌, ◌<◌, ◌+◌, ◌↔◌, ℕ, List, [], ◌∷◌, ◌++◌, length, slice_get, Option, Some}
use Rattle.pg_acks.specs.declared.position.Position.{Position}
use Rattle.pg_disk.specs.Views.{Contents}
use Rattle.pg_page.specs.declared.frame.Frame.{Frame}
use Rattle.pg_page.specs.declared.place.Place.{Place}
use Rattle.pg_page.specs.Pages.{HasFrames, Pages, pages_of}
use Rattle.pg_store.specs.declared.store.Store.{Store}
use Rattle.pg_store.specs.Framed.{FramesOf, StandsForFrames, with_frame}
use Rattle.pg_store.specs.Pages.{FilesNow, States, states_of}
use Rattle.pg_store.specs.Stores.{IsReady, MayPageInto, PagedInto, address_of_store, first_of_store, last_of_store}

-- The address has this store. The ids of addresses count from 1: the store at the front of the list is that of the
-- address 1.
abbrev pub IsStoreOf : ℕ → List Store → Store → Type 0
IsStoreOf address stores store = (place : ℕ) × (address ≡ place + 1) × (slice_get stores place ≡ Some store)

-- the address has a store, and this is true of it
abbrev pub HasStore : ℕ → List Store → (Store → Type 0) → Type 0
HasStore address stores P = (store : Store) × IsStoreOf address stores store × P store

-- it had one and has one, and this is true of the two
abbrev pub HasBoth : ℕ → List Store → List Store → (Store → Store → Type 0) → Type 0
HasBoth address stores next P = HasStore address stores (λ store. HasStore address next (P store))

-- one store more stands behind the others, and this is true of it
abbrev pub Appends : List Store → List Store → (Store → Type 0) → Type 0
Appends stores next P = (store : Store) × (next ≡ stores ++ store ∷ []) × P store

-- a store of this address, with this first page, and with this last one or none
abbrev pub IsStoreWith : ℕ → ℕ → Option ℕ → Store → Type 0
IsStoreWith address first last store =
    (address_of_store store ≡ address) × (first_of_store store ≡ first) × (last_of_store store ≡ last)

-- there are as many stores as before, and each other address has the one that it had
pub record StayElsewhere (address : ℕ) (stores next : List Store) : Type 0 where
  pub count : length next ≡ length stores
  pub others : (other : ℕ) (store : Store) → other ≢ address
      → IsStoreOf other next store ↔ IsStoreOf other stores store

-- each address has a store of its own, which is ready for the calls
abbrev pub AreReady : List Store → FilesNow → Type 0
AreReady stores files = (address : ℕ) (store : Store) → IsStoreOf address stores store
    → (address_of_store store ≡ address) × IsReady store (states_of files address)

-- each address has a store of its own, which stands for these frames of it
abbrev pub StandForAll : List Store → FramesOf → FilesNow → Type 0
StandForAll stores frames files = (address : ℕ) (store : Store) → IsStoreOf address stores store
    → (address_of_store store ≡ address) × StandsForFrames store (frames address) (states_of files address)

-- the pages of each address that has a store have these frames, from its first page on
abbrev pub HaveFrames : List Store → FramesOf → Contents → Type 0
HaveFrames stores frames contents = (address : ℕ) (store : Store) → IsStoreOf address stores store
    → HasFrames (first_of_store store) (frames address) (pages_of contents address)

-- the same, or this address has this one behind them, at a position that pages have
abbrev pub HaveOldFramesOrMore : ℕ → List Store → FramesOf → Frame → Contents → Type 0
HaveOldFramesOrMore address stores frames frame contents = HaveFrames stores frames contents
    ⊎ ((position : Position) × (position.index < 4294967295)
    × HaveFrames stores (with_frame address (position, frame) frames) contents)

-- the payload stands behind those of the address, at this place
abbrev pub PagedAt : ℕ → List Store → List ℕ → List Store → Place → States → States → Type 0
PagedAt address stores payload next place s t =
    HasBoth address stores next (λ store after. PagedInto store payload after place s t)

-- what a crash leaves of the address has the payloads that its store stands for, or this one behind them too
abbrev pub MayPageAt : ℕ → List Store → List ℕ → States → Pages → Type 0
MayPageAt address stores payload s left = HasStore address stores (λ store. MayPageInto store payload s left)
