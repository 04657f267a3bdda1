-- Where a frame is read from.
use Rattle.std.specs.Prelude.{◌≡◌, ◌<◌, ◌≤◌, ◌+◌, ℕ, List, [], ◌∷◌, ◌++◌, length, Option, Some, None}
use Rattle.pg_acks.specs.declared.position.Position.{Position}
use Rattle.pg_disk.specs.Account.{Account}
use Rattle.pg_disk.specs.Calls.{Holds}
use Rattle.pg_gate.specs.Gated.{opened, Batches}
use Rattle.pg_gate.specs.declared.spans.Span.{Span}
use Rattle.pg_page.specs.declared.frame.Frame.{Frame}
use Rattle.pg_page.specs.declared.place.Place.{Place}
use Rattle.pg_page.specs.Frames.{frame_bytes}
use Rattle.pg_page.specs.Pages.{position_at}

-- The reading passes these batches and stands at a gate behind them: they are whole, whatever the gate is. Of a file of
-- two batches and a third one that is cut, it passes none, the first, and the first two.
pub record Passes (bytes : List ℕ) (batches : List (List ℕ)) : Type 0 where
  pub stand : Holds bytes 0 (opened batches)
  pub gate : length (opened batches) < length bytes

-- At this offset stands the payload that has these ones before it. The first one stands at 9.
pub record StandsAt (bytes : List ℕ) (offset : ℕ) (before : List (List ℕ)) (payload : List ℕ) : Type 0 where
  pub passes : Passes bytes (before ++ payload ∷ [])
  pub at : offset ≡ length (opened before) + 9

-- some payload does
abbrev pub StandsSome : ℕ → List ℕ → Type 0
StandsSome offset bytes = (before : List (List ℕ)) × (payload : List ℕ) × StandsAt bytes offset before payload

-- at this place
pub record IsAt (bytes : List ℕ) (place : Place) (before : List (List ℕ)) (payload : List ℕ) : Type 0 where
  pub stands : StandsAt bytes place.offset before payload
  pub index : place.position.index ≡ length before

-- some payload does
abbrev pub IsPlace : Place → List ℕ → Type 0
IsPlace place bytes = (before : List (List ℕ)) × (payload : List ℕ) × IsAt bytes place before payload

-- the next payload behind these, or none where these are all
abbrev pub IsNextSpan : List ℕ → List (List ℕ) → Option Span → Type 0
IsNextSpan bytes before None = Batches bytes before
IsNextSpan bytes before (Some span) = (payload : List ℕ) × StandsAt bytes span.at before payload

-- the same of a page, by its place
abbrev pub IsNextPlace : List ℕ → ℕ → List (List ℕ) → Option Place → Type 0
IsNextPlace bytes page before None = Batches bytes before
IsNextPlace bytes page before (Some place) =
    (place.position.page ≡ page) × ((payload : List ℕ) × IsAt bytes place before payload)

-- the position behind this one, at this payload's place
abbrev pub IsNextTo : Position → Option Span → Option Place → Type 0
IsNextTo after None next = next ≡ None
IsNextTo after (Some span) next =
    next ≡ Some (record { position = position_at after.page (after.index + 1); offset = span.at })

-- at most so many bytes were read
abbrev pub ReadsFew : ℕ → Account → Account → Type 0
ReadsFew most old new = new.taken ≤ old.taken + most

-- so many bytes of a payload were read, and at most 9 more, which are its gate and its length
pub record ReadsPayload (size : ℕ) (old new : Account) : Type 0 where
  pub all : old.taken + size ≤ new.taken
  pub few : new.taken ≤ old.taken + size + 9

-- those of this frame
abbrev pub ReadsFrame : Frame → Account → Account → Type 0
ReadsFrame frame old new = ReadsPayload (length (frame_bytes frame)) old new
