-- The ids of messages, and their order.
use Rattle.std.specs.Prelude.{◌==◌, ◌&&◌, ℕ, Bool}
use Rattle.std.specs.declared.cmp.Ordering.{Ordering}
use Rattle.std.specs.Ordering.{nat_cmp, ordering_then}
use Rattle.pg_msg.specs.declared.message.MessageId.{MessageId}

abbrev pub same_id : MessageId → MessageId → Bool
same_id a b = (a.epoch == b.epoch) && (a.number == b.number)

-- by the epoch, and in one epoch by the number
abbrev pub id_cmp : MessageId → MessageId → Ordering
id_cmp a b = ordering_then (nat_cmp a.epoch b.epoch) (nat_cmp a.number b.number)

-- what an id is looked for by: its epoch and its number
abbrev pub Key : Type 0
Key = ℕ × ℕ

abbrev pub key_cmp : Key → Key → Ordering
key_cmp a b = ordering_then (nat_cmp a.0 b.0) (nat_cmp a.1 b.1)

abbrev pub key_of : MessageId → Key
key_of id = (id.epoch, id.number)
