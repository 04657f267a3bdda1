-- The entries of a queue, and the rows that name the queue.
use Rattle.std.specs.Prelude.{◌≡◌, Bool, not, List, map, filter}
use Rattle.pg_msg.specs.declared.message.MessageId.{MessageId}
use Rattle.pg_flight.specs.Ids.{same_id}
use Rattle.pg_queue.specs.Entries.{Entry, is_journaled}

-- the messages of the journaled entries, in their order
abbrev pub journaled_ids : List Entry → List MessageId
journaled_ids entries = map (λ entry. entry.id) (filter is_journaled entries)

-- the messages of those rows that name the queue, in their order
abbrev pub ids_naming : {Row : Type 0} → (Row → MessageId) → (Row → Bool) → List Row → List MessageId
ids_naming id_of names rows = map id_of (filter names rows)

-- The journaled entries are the messages that the rows name, in the same order, and no other. Whether one is taken isn't asked.
abbrev pub AreThoseOf : List MessageId → List Entry → Type 0
AreThoseOf ids entries = journaled_ids entries ≡ ids

-- the ids but this one
abbrev pub without_id : MessageId → List MessageId → List MessageId
without_id id ids = filter (λ other. not (same_id other id)) ids
