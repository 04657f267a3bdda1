-- When a cursor tracks its queue.
use Rattle.std.specs.Prelude.{◌≡◌, ◌⊎◌, ◌<◌, ◌≤◌, ℕ, List, Option, Some, None, IsSome, IfSome, IfNone}
use Rattle.pg_acks.specs.declared.position.Position.{Position}
use Rattle.pg_acks.specs.Acked.{AckSets}
use Rattle.pg_page.specs.declared.place.Place.{Place}
use Rattle.pg_page.specs.Pages.{Pages}
use Rattle.pg_pagetx.specs.Standings.{Transactions}
use Rattle.pg_cursor.specs.declared.tail.Tail.{Tail}
use Rattle.pg_cursor.specs.Entries.{IsEntry, IsLive, pages_from}
use Rattle.pg_cursor.specs.Places.{ChangesAt, HasPlace, IsBefore, IsNoEarlier, IsPassed, offset_at, page_of}
use Rattle.pg_cursor.specs.Walking.{TailStands}

-- A queue and its address; the tail, which has passed the frames before it and no others; the front, which are places
-- that were passed and may be given; and the taken places.
pub record Cursor : Type 0 where
  pub queue : ℕ
  pub address : ℕ
  pub tail : Tail
  pub front : List Place
  pub taken : List Place

-- Each passed place that names the queue, counts and isn't acknowledged is in the front or taken. The front holds such
-- places alone. Each taken place is passed, names the queue and counts. No place stands in both, and none in either
-- twice, since each is looked for by its position.
pub record Tracks (cursor : Cursor) (acks : AckSets) (txs : Transactions) (pages : Pages) : Type 0 where
  pub passed : (place : Place) → IsLive cursor.queue acks txs pages place → IsPassed cursor.tail place.position
      → HasPlace cursor.front place ⊎ HasPlace cursor.taken place
  pub front : (place : Place) → HasPlace cursor.front place
      → IsPassed cursor.tail place.position × IsLive cursor.queue acks txs pages place
  pub taken : (place : Place) → HasPlace cursor.taken place
      → IsPassed cursor.tail place.position × IsEntry cursor.queue txs pages place
  pub once : (position : Position) → IsSome (offset_at cursor.front position) → offset_at cursor.taken position ≡ None

-- the place names the queue, counts, isn't acknowledged and isn't taken
pub record IsAvailable (cursor : Cursor) (acks : AckSets) (txs : Transactions) (pages : Pages) (place : Place)
    : Type 0 where
  pub live : IsLive cursor.queue acks txs pages place
  pub free : offset_at cursor.taken place.position ≡ None

-- the place was taken, and is in the front instead; nothing else changed
pub record PutsBack (place : Place) (old new : Cursor) : Type 0 where
  pub queue : new.queue ≡ old.queue
  pub address : new.address ≡ old.address
  pub tail : new.tail ≡ old.tail
  pub front : ChangesAt place.position (Some place.offset) old.front new.front
  pub taken : ChangesAt place.position None old.taken new.taken

-- the place is taken no more, and nothing else changed
pub record Removes (place : Place) (old new : Cursor) : Type 0 where
  pub queue : new.queue ≡ old.queue
  pub address : new.address ≡ old.address
  pub tail : new.tail ≡ old.tail
  pub front : new.front ≡ old.front
  pub taken : ChangesAt place.position None old.taken new.taken

-- the first of these, by their positions
pub record IsFirstAvailable (cursor : Cursor) (acks : AckSets) (txs : Transactions) (pages : Pages) (place : Place)
    : Type 0 where
  pub available : IsAvailable cursor acks txs pages place
  pub first : (other : Place) → IsAvailable cursor acks txs pages other → IsBefore other.position place.position → ⊥

-- the first place that is available, or none, where none is available up to the last page
abbrev pub IsGiven : ℕ → Cursor → AckSets → Transactions → Option Place → Pages → Type 0
IsGiven last cursor acks txs None pages =
    (place : Place) → IsAvailable cursor acks txs pages place → last < place.position.page
IsGiven last cursor acks txs (Some place) pages = IsFirstAvailable cursor acks txs pages place

-- A place that is given is taken. The tail doesn't move back.
pub record Takes (given : Option Place) (old new : Cursor) : Type 0 where
  pub queue : new.queue ≡ old.queue
  pub address : new.address ≡ old.address
  pub tail : IsNoEarlier old.tail new.tail
  pub taken : IfSome given (λ place. ChangesAt place.position (Some place.offset) old.taken new.taken)
  pub none : IfNone given (new.taken ≡ old.taken)

-- where the old cursor tracks its queue, the first available place is given, and the new one tracks it
pub record Follows (last : ℕ) (acks : AckSets) (txs : Transactions) (given : Option Place) (old new : Cursor)
    (pages : Pages) : Type 0 where
  pub is_next : Tracks old acks txs pages → IsGiven last old acks txs given pages
  pub tracks : Tracks old acks txs pages → Tracks new acks txs pages

-- That, whichever page is the address's first one, as long as the tail isn't before it: what stands on pages before the
-- first one is no entry of any queue. And the new tail stands behind a batch, or at the beginning of a page.
pub record GivesNext (last : ℕ) (acks : AckSets) (txs : Transactions) (given : Option Place) (old new : Cursor)
    (pages : Pages) : Type 0 where
  pub stands : TailStands new.tail pages
  pub follows : (first : ℕ) → first ≤ page_of old.tail → Follows last acks txs given old new (pages_from first pages)
