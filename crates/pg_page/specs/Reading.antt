-- Reading a frame from left to right: what stands there, or nothing where no frame is spelled.
use Rattle.std.specs.Prelude.{ℕ, ◌&&◌, List, length, Option, Some, None, nat_le, ◌==◌, if◌then◌else◌}
use Rattle.std.specs.Int.{w8, w32}
use Rattle.pg_msg.specs.declared.message.MessageId.{MessageId}
use Rattle.pg_msg.specs.Reading.{Read, ◌>>=◌, guarded, number_at, queues_at, message_at}
use Rattle.pg_page.specs.declared.frame.Frame.{Frame}

-- both parts are 0, which is no transaction, or neither is
abbrev pub tx_of : ℕ → ℕ → Option (Option MessageId)
tx_of epoch number =
    if (epoch == 0) && (number == 0) then Some None else
    guarded (nat_le 1 epoch && nat_le 1 number) (Some (record { epoch = epoch; number = number }))

unfoldable pub tx_at : List ℕ → Read (Option MessageId)
tx_at bytes = do
  epoch ← number_at w32 bytes
  number ← number_at w32 epoch.1
  tx ← tx_of epoch.0 number.0
  Some (tx, number.1)

-- all of the bytes, which are one frame of the format 1
unfoldable pub frame_at : List ℕ → Option Frame
frame_at bytes = do
  format ← number_at w8 bytes
  known ← guarded (format.0 == 1) format
  tx ← tx_at known.1
  queues ← queues_at tx.1
  message ← message_at queues.1
  guarded (length message.1 == 0) (record { tx = tx.0; queues = queues.0; message = message.0 })
