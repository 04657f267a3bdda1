-- What the plain broker keeps true of its rows.
use Rattle.std.specs.Prelude.{ℕ, Bool, not, ◌==◌, List, find, Option, if◌then◌else◌}
use Rattle.std.specs.Str.{bytes_eq}
use Rattle.pg_msg.specs.declared.message.Message.{Message}
use Rattle.pg_msg.specs.declared.message.MessageId.{MessageId}
use Rattle.std.specs.List.{list_all, list_any}
use Rattle.pg_model.specs.Broker.{Queue, Consumer}
use Rattle.pg_model.specs.Steps.{is_in_flight}

-- some queue has the id
abbrev pub is_live : List Queue → ℕ → Bool
is_live queues id = list_any (λ q. q.id == id) queues

-- each consumer's queue is there
abbrev pub are_live : List Queue → List Consumer → Bool
are_live queues consumers = list_all (λ c. is_live queues c.queue) consumers

-- the consumer has these in flight, if it is the one of that name
abbrev pub with_flight : List ℕ → (List MessageId → List MessageId) → Consumer → Consumer
with_flight name change c = if bytes_eq name c.name then record c { in_flight = change c.in_flight } else c

-- the first message of the queue that none of the consumers has in flight
abbrev pub available_in : List Consumer → Queue → Option Message
available_in consumers q = find (λ m. not (is_in_flight consumers q.id m.id)) q.messages
