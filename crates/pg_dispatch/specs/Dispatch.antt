-- The messages of the live queues by their ids, the open consumers, and what the calls make of both.
use Rattle.std.specs.Prelude.{◌==◌, ℕ, Bool, not, ◌&&◌, Option, Some, None, List, [], ◌∷◌, ◌++◌, map, filter, find, if◌then◌else◌}
use Rattle.std.specs.List.{list_any}
use Rattle.std.specs.Option.{option_and_then}
use Rattle.pg_msg.specs.declared.message.MessageId.{MessageId}
use Rattle.pg_model.specs.Broker.{Consumer, consumer_named, same_id}
use Rattle.pg_model.specs.Changes.{has_number, with_flights, with_id, without_id, without_consumer}
use Rattle.pg_model.specs.Steps.{is_in_flight}

-- a live queue: its id, and the ids of its messages in their order
pub record Line : Type 0 where
  pub queue : ℕ
  pub ids : List MessageId

-- the live queues in the order of their ids, and the consumers in the order of their opening
pub record Dispatch : Type 0 where
  pub lines : List Line
  pub consumers : List Consumer

-- the line of that queue
abbrev pub line_of : ℕ → List Line → Option Line
line_of queue lines = find (λ line. line.queue == queue) lines

abbrev pub has_line : ℕ → List Line → Bool
has_line queue lines = list_any (λ line. line.queue == queue) lines

-- the message is among these
abbrev pub has_id : MessageId → List MessageId → Bool
has_id id ids = list_any (λ other. same_id other id) ids

-- the message is in the line of that queue
abbrev pub has_in_line : ℕ → MessageId → List Line → Bool
has_in_line queue id lines = list_any (λ line. (line.queue == queue) && has_id id line.ids) lines

-- it is in some line
abbrev pub has_in_lines : MessageId → List Line → Bool
has_in_lines id lines = list_any (λ line. has_id id line.ids) lines

-- the first message of the queue that isn't in flight
abbrev pub first_available : ℕ → Dispatch → Option MessageId
first_available queue d =
    option_and_then (λ line. find (λ id. not (is_in_flight d.consumers line.queue id)) line.ids) (line_of queue d.lines)

-- the queue from which the message is in flight for the consumer of that name
abbrev pub flight_from : List ℕ → MessageId → List Consumer → Option ℕ
flight_from name id consumers =
    option_and_then
    (λ consumer. if has_id id consumer.in_flight then Some consumer.queue else None)
    (consumer_named consumers name)

-- ---- what the calls make of them
-- a further queue behind the others, without messages
abbrev pub with_line : ℕ → Dispatch → Dispatch
with_line queue d = record d { lines = d.lines ++ (record { queue = queue; ids = [] } ∷ []) }

abbrev pub without_line : ℕ → Dispatch → Dispatch
without_line queue d = record d { lines = filter (λ line. not (line.queue == queue)) d.lines }

-- the message stands behind the others of the line, if the queue is one of these
abbrev pub given_line : List ℕ → MessageId → Line → Line
given_line queues id line =
    if has_number queues line.queue then record line { ids = line.ids ++ (id ∷ []) } else line

-- it does so in the lines of all these queues
abbrev pub with_message : List ℕ → MessageId → Dispatch → Dispatch
with_message queues id d = record d { lines = map (given_line queues id) d.lines }

-- a further consumer behind the others, with nothing in flight
abbrev pub with_consumer : List ℕ → ℕ → Dispatch → Dispatch
with_consumer name queue d =
    record d { consumers = d.consumers ++ (record { name = name; queue = queue; in_flight = [] } ∷ []) }

-- the message is in flight for the consumer of that name, if one is given
abbrev pub given_to : List ℕ → Option MessageId → Dispatch → Dispatch
given_to name None d = d
given_to name (Some id) d = record d { consumers = with_flights name (with_id id) d.consumers }

-- it is so no more
abbrev pub cancelled : List ℕ → MessageId → Dispatch → Dispatch
cancelled name id d = record d { consumers = with_flights name (without_id id) d.consumers }

-- the message is gone from the line, if it is the one of that queue
abbrev pub relieved_line : ℕ → MessageId → Line → Line
relieved_line queue id line =
    if line.queue == queue then record line { ids = without_id id line.ids } else line

-- it is in flight for the consumer of that name no more, and is gone from the line of that queue
abbrev pub acknowledged : List ℕ → ℕ → MessageId → Dispatch → Dispatch
acknowledged name queue id d = record {
  lines = map (relieved_line queue id) d.lines;
  consumers = with_flights name (without_id id) d.consumers;
}

-- the consumer is closed
abbrev pub closed : List ℕ → Dispatch → Dispatch
closed name d = record d { consumers = without_consumer name d.consumers }
