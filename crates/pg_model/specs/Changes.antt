-- What actions change in the state of a broker.
use Rattle.std.specs.Prelude.{◌+◌, ℕ, Bool, not, ◌&&◌, ◌||◌, List, [], ◌∷◌, ◌++◌, map, filter, None, nat_lt, ◌==◌, if◌then◌else◌}
use Rattle.std.specs.List.{list_any}
use Rattle.std.specs.Str.{bytes_eq}
use Rattle.pg_msg.specs.declared.message.Body.TheVariants.{Plain}
use Rattle.pg_msg.specs.declared.message.Message.{Message}
use Rattle.pg_msg.specs.declared.message.MessageId.{MessageId}
use Rattle.pg_msg.specs.declared.properties.Property.{Property}
use Rattle.pg_model.specs.Broker.{Settings, Queue, Durable, Consumer, Broker, same_id}

abbrev pub with_durable : Broker → Durable → Broker
with_durable s d = record { durable = d; running = s.running; ids = s.ids }

abbrev pub with_consumers : Broker → List Consumer → Broker
with_consumers s consumers =
    record { durable = s.durable; running = record { drawn = s.running.drawn; consumers = consumers }; ids = s.ids }

abbrev pub with_queues : Durable → List Queue → Durable
with_queues d queues = record { epoch = d.epoch; next = d.next; addresses = d.addresses; queues = queues }

-- ---- addresses and queues
-- a further address behind the others
abbrev pub with_address : Durable → List ℕ → Settings → Durable
with_address d name settings = record {
  epoch = d.epoch;
  next = d.next;
  addresses = d.addresses ++ (record { name = name; settings = settings } ∷ []);
  queues = d.queues;
}

-- a further queue behind the others, with the next id, this text for its filter, and no messages
abbrev pub with_queue : Durable → List ℕ → ℕ → List ℕ → Durable
with_queue d name address text = record {
  epoch = d.epoch;
  next = d.next + 1;
  addresses = d.addresses;
  queues =
      d.queues ++ (record { id = d.next; name = name; address = address; filter = text; messages = [] } ∷ []);
}

-- the queue is gone, with what it holds
abbrev pub without_queue : ℕ → List Queue → List Queue
without_queue id queues = filter (λ q. not (q.id == id)) queues

-- ---- messages
-- the id that is drawn next
abbrev pub next_id : Broker → MessageId
next_id s = record { epoch = s.durable.epoch; number = s.running.drawn + 1 }

-- a message that is all here, without a duplicate id
abbrev pub message_of : MessageId → List Property → List ℕ → Message
message_of id properties body = record { id = id; dup = None; properties = properties; body = Plain body }

abbrev pub has_number : List ℕ → ℕ → Bool
has_number numbers number = list_any (λ other. other == number) numbers

-- the message stands behind the others of the queue, if the queue is one of these
abbrev pub given_to : List ℕ → Message → Queue → Queue
given_to numbers m q =
    if has_number numbers q.id then record q { messages = q.messages ++ (m ∷ []) } else q

-- each of these queues gets the message
abbrev pub given : List ℕ → Message → List Queue → List Queue
given numbers m queues = map (given_to numbers m) queues

-- the message is given to these queues, and its number is drawn
abbrev pub with_message : Broker → List ℕ → Message → Broker
with_message s numbers m = record {
  durable = with_queues s.durable (given numbers m s.durable.queues);
  running = record { drawn = s.running.drawn + 1; consumers = s.running.consumers };
  ids = s.ids;
}

-- the messages but that one
abbrev pub without_message : MessageId → List Message → List Message
without_message id messages = filter (λ m. not (same_id m.id id)) messages

-- the queue holds the message no more, if it is that one
abbrev pub relieved : ℕ → MessageId → Queue → Queue
relieved queue id q = if q.id == queue then record q { messages = without_message id q.messages } else q

abbrev pub acknowledged : ℕ → MessageId → List Queue → List Queue
acknowledged queue id queues = map (relieved queue id) queues

-- ---- consumers
-- the id at its place among ids that ascend
abbrev pub is_before : MessageId → MessageId → Bool
is_before a b = nat_lt a.epoch b.epoch || ((a.epoch == b.epoch) && nat_lt a.number b.number)

abbrev pub with_id : MessageId → List MessageId → List MessageId
with_id id [] = id ∷ []
with_id id (other ∷ others) = if is_before other id then other ∷ with_id id others else id ∷ other ∷ others

abbrev pub without_id : MessageId → List MessageId → List MessageId
without_id id ids = filter (λ other. not (same_id other id)) ids

-- the consumer of that name has these in flight
abbrev pub with_flights : List ℕ → (List MessageId → List MessageId) → List Consumer → List Consumer
with_flights name change consumers =
    map {A = Consumer} (λ c. if bytes_eq name c.name then record c { in_flight = change c.in_flight } else c) consumers

-- the consumer is closed
abbrev pub without_consumer : List ℕ → List Consumer → List Consumer
without_consumer name consumers = filter (λ c. not (bytes_eq name c.name)) consumers
