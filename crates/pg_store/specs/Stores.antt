-- What a store knows of the pages of its address.
use Rattle.std.specs.Prelude.{◌≡◌, ◌⊎◌, ◌<◌, ◌+◌, ◌^◌, ℕ, List, [], ◌∷◌, ◌++◌, length, Option, Some, None}
use Rattle.pg_disk.specs.Views.{bytes_of}
use Rattle.pg_gate.specs.Gated.{HasBatches}
use Rattle.pg_page.specs.declared.place.Place.{Place}
use Rattle.pg_page.specs.Pages.{Entry, HasEntries, Pages, position_at, positioned}
use Rattle.pg_page.specs.Writing.{HasRoom, IsWritten, Writes, address_of, counted_of, frames_of, next_position, page_of}
use Rattle.pg_store.specs.declared.store.NormalStore.{NormalStore}
use Rattle.pg_store.specs.declared.store.PagingStore.{PagingStore}
use Rattle.pg_store.specs.declared.store.Store.{Store}
use Rattle.pg_store.specs.declared.store.Store.TheVariants.{Normal, Paging}
use Rattle.pg_store.specs.Pages.{HasNoneFrom, HasOldOrMore, States, SurelyHave}

-- the address of a normal store, and its first page, which isn't there
abbrev pub address_of_normal : NormalStore → ℕ
address_of_normal store = store.address

abbrev pub first_of_normal : NormalStore → ℕ
first_of_normal store = store.first

-- the address of a paging store, its first page and its last one
abbrev pub address_of_paging : PagingStore → ℕ
address_of_paging store = address_of store.writer

abbrev pub first_of : PagingStore → ℕ
first_of store = store.first

abbrev pub last_of : PagingStore → ℕ
last_of store = page_of store.writer

-- how many frames its last page has, and how many bytes of it are counted
abbrev pub frames_in_last : PagingStore → ℕ
frames_in_last store = frames_of store.writer

abbrev pub counted_in_last : PagingStore → ℕ
counted_in_last store = counted_of store.writer

-- an address is normal where it has no page from its first one on
abbrev pub IsNormal : NormalStore → States → Type 0
IsNormal store states = HasNoneFrom (first_of_normal store) states

-- An address pages. Its last page is at rest, and there is none behind it. Of the pages before it nothing is known.
pub record IsPaging (store : PagingStore) (states : States) : Type 0 where
  pub written : IsWritten store.writer (states (last_of store))
  pub none : HasNoneFrom (last_of store + 1) states

-- The pages from the first one on have these payloads, each at its position, whatever a crash leaves of them. With two
-- pages from 3 on, of the payloads a and b and of none: (3:0, a) ∷ (3:1, b) ∷ [].
pub record StandsPaging (store : PagingStore) (entries : List Entry) (states : States) : Type 0 where
  pub ready : IsPaging store states
  pub closed : List (List (List ℕ))
  pub place : last_of store ≡ first_of store + length closed
  pub are_closed : SurelyHave (first_of store) closed states
  pub are : entries ≡ positioned (first_of store) (closed ++ ready.written.0 ∷ [])

-- the same of an address in either state
abbrev pub address_of_store : Store → ℕ
address_of_store (Normal store) = address_of_normal store
address_of_store (Paging store) = address_of_paging store

abbrev pub first_of_store : Store → ℕ
first_of_store (Normal store) = first_of_normal store
first_of_store (Paging store) = first_of store

-- the last page, or none where the address is normal
abbrev pub last_of_store : Store → Option ℕ
last_of_store (Normal store) = None
last_of_store (Paging store) = Some (last_of store)

abbrev pub IsReady : Store → States → Type 0
IsReady (Normal store) states = IsNormal store states
IsReady (Paging store) states = IsPaging store states

abbrev pub Stands : Store → List Entry → States → Type 0
Stands (Normal store) entries states = IsNormal store states × (entries ≡ [])
Stands (Paging store) entries states = StandsPaging store entries states

-- Paging starts: where there was no page from the first one on, there is this one now, without payloads.
pub record Starts (store : NormalStore) (next : PagingStore) (s t : States) : Type 0 where
  pub ready : IsNormal store s → IsPaging next t
  pub stands : IsNormal store s → StandsPaging next [] t

-- the payload stands behind the others, at this place
pub record Paged (store : PagingStore) (payload : List ℕ) (next : PagingStore) (place : Place) (s t : States)
    : Type 0 where
  pub ready : IsPaging store s → IsPaging next t
  pub adds : (entries : List Entry) → StandsPaging store entries s
      → StandsPaging next (entries ++ (place.position, payload) ∷ []) t

-- what a crash leaves has no payload from the first page on
abbrev pub LeavesNone : NormalStore → States → Pages → Type 0
LeavesNone store s left = IsNormal store s → HasEntries (first_of_normal store) [] left

-- it has the payloads that the store stands for, or this one behind them too
abbrev pub MayPage : PagingStore → List ℕ → States → Pages → Type 0
MayPage store payload s left =
    (entries : List Entry) → StandsPaging store entries s → HasOldOrMore (first_of store) entries payload left

-- Where a payload of so many bytes goes: to the last page where it has room there, and else to a page behind it. At a
-- limit of 100 a last page 7 of one frame and 45 counted bytes takes a payload of 46 bytes at 7:1, and one of 47 goes
-- to 8:0.
abbrev pub GoesTo : PagingStore → ℕ → ℕ → Place → Type 0
GoesTo store size limit place = (HasRoom store.writer size limit × (place.position ≡ next_position store.writer)
    × (place.offset ≡ counted_in_last store + 8))
    ⊎ ((HasRoom store.writer size limit → ⊥) × (place.position ≡ position_at (last_of store + 1) 0)
    × (place.offset ≡ 9))

-- The page that it goes to would be numbered above 2^62, or that file would grow past 2^62 bytes. An empty page has one
-- counted byte.
abbrev pub HasNoSpace : PagingStore → ℕ → ℕ → Type 0
HasNoSpace store size limit = (HasRoom store.writer size limit × (2 ^ 62 < counted_in_last store + size + 9))
    ⊎ ((HasRoom store.writer size limit → ⊥) × ((2 ^ 62 < last_of store + 1) ⊎ (2 ^ 62 < size + 10)))

-- The last page had these payloads as it read, and has them now. The store stands for them behind those of the pages
-- before it, whatever these are.
abbrev pub ReopensPaging : PagingStore → States → States → Type 0
ReopensPaging store s t = (payloads : List (List ℕ)) × HasBatches payloads (bytes_of (s (last_of store)))
    × Writes store.writer payloads (t (last_of store))
    × ((closed : List (List (List ℕ))) → last_of store ≡ first_of store + length closed
    → SurelyHave (first_of store) closed s
    → StandsPaging store (positioned (first_of store) (closed ++ payloads ∷ [])) t)

abbrev pub Reopens : Store → States → States → Type 0
Reopens (Normal store) s t = Stands (Normal store) [] t
Reopens (Paging store) s t = ReopensPaging store s t

-- ---- a payload is added at an address in either state

-- Where it goes: at a normal address to its first page, which is made, and else as GoesTo says. At a normal address
-- whose first page is 7 that is 7:0, which stands at offset 9, whatever the limit is.
abbrev pub GoesFrom : Store → ℕ → ℕ → Place → Type 0
GoesFrom (Normal store) size limit place = (place.position ≡ position_at (first_of_normal store) 0) × (place.offset ≡ 9)
GoesFrom (Paging store) size limit place = GoesTo store size limit place

-- The last page has the payload as its last one: it has one frame more than the place's index, and its counted length
-- ends 1 byte behind the payload.
abbrev pub EndsWith : Store → ℕ → Place → Type 0
EndsWith (Normal store) size place = ⊥
EndsWith (Paging store) size place =
    (frames_in_last store ≡ place.position.index + 1) × (counted_in_last store ≡ place.offset + size + 1)

-- The store has taken a payload of so many bytes at this place, which is on its last page. Its address and its first
-- page stay.
pub record Takes (store : Store) (size limit : ℕ) (next : Store) (place : Place) : Type 0 where
  pub address : address_of_store next ≡ address_of_store store
  pub first : first_of_store next ≡ first_of_store store
  pub last : last_of_store next ≡ Some place.position.page
  pub goes : GoesFrom store size limit place
  pub ends : EndsWith next size place

-- There is no page for it: at a normal address the first page is numbered above 2^62, or its file would grow past 2^62
-- bytes. An empty page has one counted byte.
abbrev pub HasNoSpaceFor : Store → ℕ → ℕ → Type 0
HasNoSpaceFor (Normal store) size limit = (2 ^ 62 < first_of_normal store) ⊎ (2 ^ 62 < size + 10)
HasNoSpaceFor (Paging store) size limit = HasNoSpace store size limit

-- the payload stands behind the others, at this place
pub record PagedInto (store : Store) (payload : List ℕ) (next : Store) (place : Place) (s t : States) : Type 0 where
  pub ready : IsReady store s → IsReady next t
  pub adds : (entries : List Entry) → Stands store entries s
      → Stands next (entries ++ (place.position, payload) ∷ []) t

-- what a crash leaves has the payloads that the store stands for, or this one behind them too
abbrev pub MayPageInto : Store → List ℕ → States → Pages → Type 0
MayPageInto store payload s left =
    (entries : List Entry) → Stands store entries s → HasOldOrMore (first_of_store store) entries payload left
