-- What is known of one message, one consumer or one queue of a broker whose two parts fit together.
use Rattle.std.proofs.Common.{◌≡◌, ℕ, true, false, List, sym, subst}
use Rattle.std.proofs.lemmas.List.Elements.{All-contains}
use Rattle.std.proofs.lemmas.Slice.Eq.{bytes_eq-Decides}
use Rattle.std.specs.Prelude.{All, Some}
use Rattle.std.specs.List.{Contains}
use Rattle.std.specs.Str.{bytes_eq}
use Rattle.pg_msg.specs.declared.message.Message.{Message}
use Rattle.pg_msg.specs.declared.message.MessageId.{MessageId}
use Rattle.pg_model.specs.Broker.{Queue, Consumer, Broker, HoldsMessage, consumer_named}
use Rattle.pg_model.specs.Refusals.{HasFlight}
use Rattle.pg_joined.specs.Joined.{Ascends, HasMessage, IsSplit, PagedFlights, PagedMessages}
use Rattle.pg_joined.proofs.Ids.{InOrder, ascending_in_order, has_id, lacks_it}
use Rattle.pg_joined.proofs.Lists.{in_found}

pub in_order : (paged : PagedMessages) (flights : PagedFlights) (s : Broker) → IsSplit paged flights s → (c : Consumer) → Contains s.running.consumers c → InOrder c.in_flight
in_order paged flights s split c there = ascending_in_order c.in_flight (All-contains (λ (c : Consumer). Ascends c.in_flight) s.running.consumers c split.ascending there)

pub held_by : (paged : PagedMessages) (flights : PagedFlights) (s : Broker) → IsSplit paged flights s → (c : Consumer) → Contains s.running.consumers c
    → (id : MessageId) → Contains c.in_flight id → HoldsMessage s.durable.queues c.queue id
held_by paged flights s split c there id its =
    All-contains (λ id. HoldsMessage s.durable.queues c.queue id) c.in_flight id
    (All-contains (λ (c : Consumer). All (λ id. HoldsMessage s.durable.queues c.queue id) c.in_flight) s.running.consumers c split.held there) its

pub paged_by : (paged : PagedMessages) (flights : PagedFlights) (s : Broker) → IsSplit paged flights s → (c : Consumer) → Contains s.running.consumers c
    → (id : MessageId) → Contains (flights c.name) id → HasMessage (paged c.queue) id
paged_by paged flights s split c there id its =
    All-contains (λ id. HasMessage (paged c.queue) id) (flights c.name) id
    (All-contains (λ (c : Consumer). All (λ id. HasMessage (paged c.queue) id) (flights c.name)) s.running.consumers c split.in_pages there) its

pub not_both : (paged : PagedMessages) (flights : PagedFlights) (s : Broker) → IsSplit paged flights s → (q : Queue) → Contains s.durable.queues q
    → (m : Message) → Contains q.messages m → HasMessage (paged q.id) m.id → ⊥
not_both paged flights s split q there m its has =
    All-contains (λ (m : Message). HasMessage (paged q.id) m.id → ⊥) q.messages m
    (All-contains (λ (q : Queue). All (λ (m : Message). HasMessage (paged q.id) m.id → ⊥) q.messages) s.durable.queues q split.apart there) its has

pub not_held_and_paged : (paged : PagedMessages) (flights : PagedFlights) (s : Broker) → IsSplit paged flights s → (queue : ℕ) (id : MessageId)
    → HoldsMessage s.durable.queues queue id → HasMessage (paged queue) id → ⊥
not_held_and_paged paged flights s split queue id h has =
    not_both paged flights s split h.holder h.live h.message h.held
    (subst (λ queue. HasMessage (paged queue) h.message.id) (sym h.is_queue) (subst (HasMessage (paged queue)) (sym h.is_message) has))

pub named : (name other : List ℕ) → bytes_eq name other ≡ true → name ≡ other
named name other is = (bytes_eq-Decides name other).0 is

-- ---- of a message of the broker's queue
-- no consumer of the queue has it in flight in pages
pub not_in_pages : (paged : PagedMessages) (flights : PagedFlights) (s : Broker) → IsSplit paged flights s → (q : Queue) → Contains s.durable.queues q
    → (m : Message) → Contains q.messages m → (c : Consumer) → Contains s.running.consumers c → c.queue ≡ q.id → has_id m.id (flights c.name) ≡ false
not_in_pages paged flights s split q there m its c open_ is =
    lacks_it m.id (flights c.name) (λ flown.
    not_both paged flights s split q there m its (subst (λ queue. HasMessage (paged queue) m.id) is (paged_by paged flights s split c open_ m.id flown)))

-- ---- of a message in pages
-- no consumer of the queue has it in flight with the broker itself
pub not_with_broker : (paged : PagedMessages) (flights : PagedFlights) (s : Broker) → IsSplit paged flights s → (queue : ℕ) (id : MessageId) → HasMessage (paged queue) id
    → (c : Consumer) → Contains s.running.consumers c → c.queue ≡ queue → has_id id c.in_flight ≡ false
not_with_broker paged flights s split queue id has c open_ is =
    lacks_it id c.in_flight (λ flown.
    not_held_and_paged paged flights s split queue id (subst (λ queue. HoldsMessage s.durable.queues queue id) is (held_by paged flights s split c open_ id flown)) has)

-- ---- of a consumer
pub open_by_name : (consumers : List Consumer) (name : List ℕ) (c : Consumer) → consumer_named consumers name ≡ Some c → Contains consumers c × (name ≡ c.name)
open_by_name consumers name c is =
    let at : Contains consumers c × (bytes_eq name c.name ≡ true) = in_found (λ (c : Consumer). bytes_eq name c.name) consumers c is in
    (at.0, named name c.name at.1)

pub flight_held : (paged : PagedMessages) (flights : PagedFlights) (s : Broker) → IsSplit paged flights s → (name : List ℕ) (id : MessageId) → HasFlight s name id
    → (c : Consumer) → consumer_named s.running.consumers name ≡ Some c → HoldsMessage s.durable.queues c.queue id
flight_held paged flights s split name id has c is =
    let same : has.0 ≡ c = cc (has.1, is) in
    let at = open_by_name s.running.consumers name c is in
    held_by paged flights s split c at.0 id (subst (λ (c : Consumer). Contains c.in_flight id) same has.2)

-- what is in flight with the broker itself isn't in flight in pages
pub flight_not_in_pages : (paged : PagedMessages) (flights : PagedFlights) (s : Broker) → IsSplit paged flights s → (name : List ℕ) (id : MessageId) → HasFlight s name id → Contains (flights name) id → ⊥
flight_not_in_pages paged flights s split name id has there =
    let at = open_by_name s.running.consumers name has.0 has.1 in
    not_held_and_paged paged flights s split has.0.queue id (held_by paged flights s split has.0 at.0 id has.2)
    (paged_by paged flights s split has.0 at.0 id (subst (λ name. Contains (flights name) id) at.1 there))
