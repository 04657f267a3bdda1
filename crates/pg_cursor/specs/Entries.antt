-- Which places of an address's pages are entries of a queue.
use Rattle.std.specs.Prelude.{◌≡◌, ◌==◌, ℕ, Bool, true, false, List, [], ◌∷◌, ◌++◌, Option, Some, None, nat_le}
use Rattle.std.specs.Prelude.{if◌then◌else◌}
use Rattle.std.specs.List.{list_any}
use Rattle.pg_msg.specs.declared.message.MessageId.{MessageId}
use Rattle.pg_acks.specs.Acked.{AckSets, is_acknowledged}
use Rattle.pg_gate.specs.Gated.{AllFit}
use Rattle.pg_page.specs.declared.frame.Frame.{Frame}
use Rattle.pg_page.specs.declared.place.Place.{Place}
use Rattle.pg_page.specs.Frames.{SpellsFrame}
use Rattle.pg_page.specs.Pages.{Pages}
use Rattle.pg_page.specs.Places.{IsAt, IsPlace}
use Rattle.pg_pagetx.specs.Standings.{Transactions, standing_of}
use Rattle.pg_pagetx.specs.declared.standing.Standing.TheVariants.{Counts}

-- A batch of the place's page stands there, behind whole ones, whatever stands behind it. The lengths of all of these
-- have a spelling of eight bytes, so that the bytes can't be read as other batches too.
pub record StandsOn (pages : Pages) (place : Place) : Type 0 where
  pub bytes : List ℕ
  pub there : pages place.position.page ≡ Some bytes
  pub is : IsPlace place bytes
  pub fit : AllFit (is.0 ++ is.1 ∷ [])

-- the batch there is this frame
pub record HasFrame (pages : Pages) (place : Place) (frame : Frame) : Type 0 where
  pub bytes : List ℕ
  pub there : pages place.position.page ≡ Some bytes
  pub before : List (List ℕ)
  pub payload : List ℕ
  pub fit : AllFit (before ++ payload ∷ [])
  pub at : IsAt bytes place before payload
  pub spelled : SpellsFrame payload frame

-- the message was routed to the queue
abbrev pub names : ℕ → Frame → Bool
names queue frame = list_any (λ other. other == queue) frame.queues

-- the frame belongs to no transaction, or to one that is committed
abbrev pub FrameCounts : Transactions → Option MessageId → Type 0
FrameCounts txs None = Unit {0}
FrameCounts txs (Some tx) = standing_of txs tx ≡ Counts

-- A frame stands there that names the queue and counts. Excluded are frames of other queues alone, those of undecided
-- and of void transactions, and places without a frame.
pub record IsEntry (queue : ℕ) (txs : Transactions) (pages : Pages) (place : Place) : Type 0 where
  pub frame : Frame
  pub has : HasFrame pages place frame
  pub named : names queue frame ≡ true
  pub counts : FrameCounts txs frame.tx

-- the same, and it isn't acknowledged at the queue
pub record IsLive (queue : ℕ) (acks : AckSets) (txs : Transactions) (pages : Pages) (place : Place) : Type 0 where
  pub entry : IsEntry queue txs pages place
  pub open_ : is_acknowledged acks queue place.position ≡ false

-- The pages from this number on, as if there were none before it. Of the pages 2, 3 and 4 those from 3 on are 3 and 4.
abbrev pub pages_from : ℕ → Pages → Pages
pages_from first pages = λ page. if nat_le first page then pages page else None
