-- How many places there are.
use Rattle.std.specs.Prelude.{◌≡◌, ◌⊎◌, ◌≤◌, ◌^◌, ◌-◌, ℕ, List, [], ◌∷◌, length, filter, min, not, None}
use Rattle.pg_acks.specs.Acked.{AckSets, is_acknowledged}
use Rattle.pg_page.specs.declared.place.Place.{Place}
use Rattle.pg_page.specs.Pages.{Pages}
use Rattle.pg_pagetx.specs.Standings.{Transactions}
use Rattle.pg_cursor.specs.declared.tail.Tail.{Tail}
use Rattle.pg_cursor.specs.Entries.{IsLive, pages_from}
use Rattle.pg_cursor.specs.Places.{HasPlace, IsPassed, offset_at, page_of}
use Rattle.pg_cursor.specs.Tracking.{Cursor, Tracks}

-- no two of these places are at one position
abbrev pub AreOnce : List Place → Type 0
AreOnce [] = Unit {0}
AreOnce (place ∷ places) = (offset_at places place.position ≡ None) × AreOnce places

-- those that aren't acknowledged at the queue
abbrev pub open_of : ℕ → AckSets → List Place → List Place
open_of queue acks places = filter (λ place. not (is_acknowledged acks queue place.position)) places

-- these are all places of a kind, each once
pub record AreAll (P : Place → Type 0) (places : List Place) : Type 0 where
  pub each : (place : Place) → P place → HasPlace places place
  pub only : (place : Place) → HasPlace places place → P place
  pub once : AreOnce places

-- so many places are of the kind, or more where it is 2^64 - 1
pub record HasCount (P : Place → Type 0) (count : ℕ) : Type 0 where
  pub places : List Place
  pub all : AreAll P places
  pub is : count ≡ min (length places) (2 ^ 64 - 1)

-- the places that a walk from this tail finds up to the last page
pub record IsLiveBehind (queue : ℕ) (acks : AckSets) (txs : Transactions) (last : ℕ) (tail : Tail) (pages : Pages)
    (place : Place) : Type 0 where
  pub live : IsLive queue acks txs pages place
  pub behind : IsPassed tail place.position → ⊥
  pub within : place.position.page ≤ last

-- A place names the queue, counts and isn't acknowledged, and stands on a page up to the last one or before the tail.
-- Whether it is taken doesn't matter.
pub record IsCounted (last : ℕ) (cursor : Cursor) (acks : AckSets) (txs : Transactions) (pages : Pages) (place : Place)
    : Type 0 where
  pub live : IsLive cursor.queue acks txs pages place
  pub within : (place.position.page ≤ last) ⊎ IsPassed cursor.tail place.position

-- where the cursor tracks its queue among the pages from a first one on, so many places there are counted
abbrev pub CountsLive : ℕ → Cursor → AckSets → Transactions → ℕ → Pages → Type 0
CountsLive last cursor acks txs count pages = (first : ℕ) → first ≤ page_of cursor.tail
    → Tracks cursor acks txs (pages_from first pages)
    → HasCount (IsCounted last cursor acks txs (pages_from first pages)) count
