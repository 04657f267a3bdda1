-- The messages of a queue that stand in pages.
use Rattle.std.specs.Prelude.{◌==◌, ◌&&◌, ℕ, Bool, true, false, not, List, map, filter, find, Option, Some, None, is_none}
use Rattle.pg_acks.specs.declared.position.Position.{Position}
use Rattle.pg_acks.specs.Acked.{AckSets, is_acknowledged}
use Rattle.pg_msg.specs.declared.message.Message.{Message}
use Rattle.pg_msg.specs.declared.message.MessageId.{MessageId}
use Rattle.pg_page.specs.declared.frame.Frame.{Frame}
use Rattle.pg_page.specs.declared.place.Place.{Place}
use Rattle.pg_pagetx.specs.Standings.{Transactions, standing_of}
use Rattle.pg_pagetx.specs.declared.standing.Standing.{Standing}
use Rattle.pg_pagetx.specs.declared.standing.Standing.TheVariants.{Counts, Pending, Void}
use Rattle.pg_cursor.specs.Entries.{names}
use Rattle.pg_cursor.specs.Places.{offset_at}

-- the frames of an address, each with its position
abbrev pub Framed : Type 0
Framed = Position × Frame

abbrev pub Frames : Type 0
Frames = List Framed

abbrev pub same_position : Position → Position → Bool
same_position a b = (a.page == b.page) && (a.index == b.index)

-- the standing is that of a committed transaction
abbrev pub is_counting : Standing → Bool
is_counting Counts = true
is_counting Pending = false
is_counting Void = false

-- there is no transaction, or it counts
abbrev pub counts : Transactions → Option MessageId → Bool
counts txs None = true
counts txs (Some tx) = is_counting (standing_of txs tx)

-- the frame names the queue and counts, and its position isn't acknowledged at the queue
abbrev pub is_left : AckSets → Transactions → ℕ → Framed → Bool
is_left acks txs queue framed =
    names queue framed.1 && (counts txs framed.1.tx && not (is_acknowledged acks queue framed.0))

abbrev pub message_in : Framed → Message
message_in framed = framed.1.message

-- the messages of the frames that are left for the queue, in their order
abbrev pub paged_for : AckSets → Transactions → ℕ → Frames → List Message
paged_for acks txs queue frames = map message_in (filter (is_left acks txs queue) frames)

-- the frame is left for the queue, and no taken place is at its position
abbrev pub is_free : AckSets → Transactions → ℕ → List Place → Framed → Bool
is_free acks txs queue taken framed = is_left acks txs queue framed && is_none (offset_at taken framed.0)

-- the first of these frames
abbrev pub first_free : AckSets → Transactions → ℕ → List Place → Frames → Option Framed
first_free acks txs queue taken frames = find (is_free acks txs queue taken) frames
