-- Which pages an address may have in a well formed directory.
use Rattle.std.specs.Prelude.{◌≡◌, ◌<◌, ◌≤◌, ℕ, List, map, All, Option, IfSome}
use Rattle.pg_acks.specs.declared.position.Position.{Position}
use Rattle.pg_msg.specs.declared.message.MessageId.{MessageId}
use Rattle.pg_page.specs.declared.frame.Frame.{Frame}
use Rattle.pg_page.specs.Pages.{HasFrames, Pages}

-- what is known of the broker: the epoch, the id of the next queue, and the address of each live queue
pub record Known : Type 0 where
  pub epoch : ℕ
  pub next : ℕ
  pub address_of : ℕ → Option ℕ

-- the queue was made at some time, and where it is live it is one of this address
abbrev pub IsQueueAt : Known → ℕ → ℕ → Type 0
IsQueueAt known address queue = (queue < known.next) × IfSome (known.address_of queue) (λ other. other ≡ address)

-- a frame that a page of this address may have
pub record MayStand (known : Known) (address : ℕ) (frame : Frame) : Type 0 where
  pub queues : All (IsQueueAt known address) frame.queues
  pub message : frame.message.id.epoch ≤ known.epoch
  pub tx : IfSome frame.tx (λ tx. tx.epoch ≤ known.epoch)

-- The pages of the address from its first one on are numbered without a gap, each payload spells a frame that may stand
-- there, and no page has more frames than there are positions in it, which are 4,294,967,295.
pub record ArePages (known : Known) (address first : ℕ) (pages : Pages) : Type 0 where
  pub frames : List (Position × Frame)
  pub has : HasFrames first frames pages
  pub may_stand : All (λ frame. MayStand known address frame.1) frames
  pub few : All (λ frame. frame.0.index < 4294967295) frames

-- the ids of the messages in frames; over a whole directory no id stands twice
abbrev pub ids_of : List (Position × Frame) → List MessageId
ids_of frames = map (λ frame. frame.1.message.id) frames
