-- How a frame is spelled. One without a transaction, for queue 1, of message 1-1 with body `x`, is these 31 bytes:
--   01 0000000000000000 0001 00000001 00000001 00000001 01 00 00 00000001 78
use Rattle.std.specs.Prelude.{◌≡◌, ℕ, List, ◌∷◌, ◌++◌, Option, Some, None, IfSome}
use Rattle.std.specs.Int.{to_be_bytes, w32}
use Rattle.pg_msg.specs.declared.message.MessageId.{MessageId}
use Rattle.pg_msg.specs.Lists.{AreQueues, queues_bytes}
use Rattle.pg_msg.specs.Messages.{IsMessage, IsMessageId, id_bytes, message_bytes}
use Rattle.pg_page.specs.declared.frame.Frame.{Frame}

-- the id of the transaction, or eight zeros where there is none
abbrev pub tx_bytes : Option MessageId → List ℕ
tx_bytes None = to_be_bytes w32 0 ++ to_be_bytes w32 0
tx_bytes (Some id) = id_bytes id

-- the format 1, the transaction, the queues behind their count, and the message
abbrev pub frame_bytes : Frame → List ℕ
frame_bytes frame = 1 ∷ (tx_bytes frame.tx ++ (queues_bytes frame.queues ++ message_bytes frame.message))

-- each field is in its range
pub record IsFrame (frame : Frame) : Type 0 where
  pub tx : IfSome frame.tx IsMessageId
  pub queues : AreQueues frame.queues
  pub message : IsMessage frame.message

-- the payload spells the frame
pub record SpellsFrame (payload : List ℕ) (frame : Frame) : Type 0 where
  pub spelled : payload ≡ frame_bytes frame
  pub in_range : IsFrame frame

-- the payload spells no frame
abbrev pub SpellsNone : List ℕ → Type 0
SpellsNone payload = (frame : Frame) → SpellsFrame payload frame → ⊥
