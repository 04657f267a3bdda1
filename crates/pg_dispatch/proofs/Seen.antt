-- What queues and consumers are seen as, behind each of their own changes.
use Rattle.std.proofs.Common.{◌≡◌, ℕ, ◌≤◌, Bool, true, false, not, ◌&&◌, ◌==◌, List, [], ◌∷◌, ◌++◌, refl, sym, ap, ◌∙◌, subst, inl, inr, arith}
use Rattle.std.proofs.lemmas.Grind.{common_steps}
use Rattle.std.specs.Prelude.{Option, Some, None, is_some, map, filter, length, min, ◌^◌, ◌-◌}
use Rattle.std.specs.List.{AllByRecursion, count_by, list_any, slice_get}
use Rattle.std.specs.Option.{option_map}
use Rattle.std.specs.Str.{bytes_eq}
use Rattle.std.specs.declared.cmp.Ordering.{Ordering}
use Rattle.std.specs.declared.cmp.Ordering.TheVariants.{Less, Equal, Greater}
use Rattle.std.proofs.lemmas.Bool.{and_left, and_right, cases_Bool, or_from}
use Rattle.std.proofs.lemmas.List.{length-map, map-append}
use Rattle.std.proofs.lemmas.Option.{slice_get-map}
use Rattle.pg_msg.specs.declared.message.MessageId.{MessageId}
use Rattle.pg_model.specs.Broker.{Consumer, consumer_named, same_id}
use Rattle.pg_model.specs.Changes.{is_before, with_flights, with_id, without_consumer, without_id}
use Rattle.pg_flight.specs.declared.delivery.Delivery.{Delivery}
use Rattle.pg_flight.specs.Consumers.{OpenConsumer, changed_for, deliveries_to, delivery_to, is_consumed, open_named, without_open}
use Rattle.pg_flight.specs.Deliveries.{delivery_with, with_delivery, without_delivery}
use Rattle.pg_flight.specs.Ids.{id_cmp}
use Rattle.pg_queue.specs.Entries.{Contents, Entry, added, count_of, entry_at, is_same, marked, with_entries, without_entry}
use Rattle.pg_queue.specs.Queues.{changed_at, entries_in, queue_with, without_queue}
use Rattle.pg_dispatch.specs.Dispatch.{flight_from, given_line, has_id, line_of, relieved_line}
use Rattle.pg_dispatch.specs.Matching.{AreMarked, AreTheirs, IsFrom, consumer_seen, consumers_seen, flights_to, ids_in, line_seen, lines_seen}
use Rattle.pg_dispatch.proofs.Counting.{bit, count_cons, is_named}
use Rattle.pg_dispatch.proofs.Marks.{AllMarked, Flies, added_behind, same_entry}

-- the messages of entries
abbrev pub ids_of : List Entry → List MessageId
ids_of entries = map (λ entry. entry.id) entries

-- ---- queues
pub line_found : (queue : ℕ) (queues : List Contents) → line_of queue (lines_seen queues) ≡ option_map line_seen (queue_with queue queues)
line_found queue [] = refl
line_found queue (one ∷ queues) =
    elim (cases_Bool (one.id == queue)) [
      | inl here ↦ grind (arith, common_steps, here)
      | inr there ↦ grind (arith, common_steps, there, line_found queue queues)
    ]

pub ids_found : (queue : ℕ) (queues : List Contents) → ids_in queue (lines_seen queues) ≡ ids_of (entries_in queue queues)
ids_found queue [] = refl
ids_found queue (one ∷ queues) =
    elim (cases_Bool (one.id == queue)) [
      | inl here ↦ grind (arith, common_steps, here)
      | inr there ↦ grind (arith, common_steps, there, ids_found queue queues)
    ]

pub lines_without : (queue : ℕ) (queues : List Contents) → lines_seen (without_queue queue queues) ≡ filter (λ line. not (line.queue == queue)) (lines_seen queues)
lines_without queue [] = refl
lines_without queue (one ∷ queues) =
    elim (cases_Bool (one.id == queue)) [
      | inl gone ↦ grind (arith, common_steps, gone, lines_without queue queues)
      | inr stays ↦ grind (arith, common_steps, stays, lines_without queue queues)
    ]

pub ids_marked : (taken : Bool) (entry : Entry) (entries : List Entry) → ids_of (marked taken entry entries) ≡ ids_of entries
ids_marked taken entry [] = refl
ids_marked taken entry (other ∷ entries) =
    elim (cases_Bool (is_same other entry)) [
      | inl same ↦ grind (arith, common_steps, same, ids_marked taken entry entries)
      | inr apart ↦ grind (arith, common_steps, apart, ids_marked taken entry entries)
    ]

-- marks aren't seen
pub lines_marked : (queue : ℕ) (taken : Bool) (entry : Entry) (queues : List Contents) → lines_seen (changed_at queue (marked taken entry) queues) ≡ lines_seen queues
lines_marked queue taken entry [] = refl
lines_marked queue taken entry (one ∷ queues) =
    elim (cases_Bool (one.id == queue)) [
      | inl here ↦
          let its : line_seen (with_entries (marked taken entry one.entries) one) ≡ line_seen one =
          ap (λ (ids : List MessageId). record { queue = one.id; ids = ids }) (ids_marked taken entry one.entries) in
          grind (arith, common_steps, here, its, lines_marked queue taken entry queues)
      | inr there ↦ grind (arith, common_steps, there, lines_marked queue taken entry queues)
    ]

pub ids_left : (flies : Flies) (queue : ℕ) (id : MessageId) (entries : List Entry) → AllMarked flies queue entries
    → ids_of (without_entry (entry_at id None) entries) ≡ without_id id (ids_of entries)
ids_left flies queue id [] are = refl
ids_left flies queue id (entry ∷ entries) are =
    elim (cases_Bool (same_id entry.id id)) [
      | inl it ↦ grind (arith, common_steps, it, same_entry flies queue entry id are.0, ids_left flies queue id entries are.1)
      | inr another ↦ grind (arith, common_steps, another, same_entry flies queue entry id are.0, ids_left flies queue id entries are.1)
    ]

pub lines_left : (flies : Flies) (queue : ℕ) (id : MessageId) (queues : List Contents) → AreMarked flies queues
    → lines_seen (changed_at queue (without_entry (entry_at id None)) queues) ≡ map (relieved_line queue id) (lines_seen queues)
lines_left flies queue id [] are = refl
lines_left flies queue id (one ∷ queues) are =
    elim (cases_Bool (one.id == queue)) [
      | inl here ↦
          let its : line_seen (with_entries (without_entry (entry_at id None) one.entries) one) ≡ record (line_seen one) { ids = without_id id (ids_of one.entries) } =
          ap (λ (ids : List MessageId). record { queue = one.id; ids = ids }) (ids_left flies one.id id one.entries are.0) in
          grind (arith, common_steps, here, its, lines_left flies queue id queues are.1)
      | inr there ↦ grind (arith, common_steps, there, lines_left flies queue id queues are.1)
    ]

pub ids_added : (flies : Flies) (queue : ℕ) (id : MessageId) (entries : List Entry) → AllMarked flies queue entries → ids_of (added (entry_at id None) entries) ≡ ids_of entries ++ id ∷ []
ids_added flies queue id entries are =
    ap ids_of (added_behind flies queue (entry_at id None) entries are) ∙ map-append (λ (entry : Entry). entry.id) entries (entry_at id None ∷ [])

pub lines_added : (flies : Flies) (queue : ℕ) (id : MessageId) (queues : List Contents) → AreMarked flies queues
    → lines_seen (changed_at queue (added (entry_at id None)) queues) ≡ map (given_line (queue ∷ []) id) (lines_seen queues)
lines_added flies queue id [] are = refl
lines_added flies queue id (one ∷ queues) are =
    elim (cases_Bool (one.id == queue)) [
      | inl here ↦
          let its : line_seen (with_entries (added (entry_at id None) one.entries) one) ≡ record (line_seen one) { ids = ids_of one.entries ++ id ∷ [] } =
          ap (λ (ids : List MessageId). record { queue = one.id; ids = ids }) (ids_added flies one.id id one.entries are.0) in
          grind (arith, common_steps, here, its, lines_added flies queue id queues are.1)
      | inr there ↦ grind (arith, common_steps, there, lines_added flies queue id queues are.1)
    ]

-- ---- consumers
pub named_seen : (name : List ℕ) (consumers : List OpenConsumer) → consumer_named (consumers_seen consumers) name ≡ option_map consumer_seen (open_named name consumers)
named_seen name [] = refl
named_seen name (one ∷ consumers) =
    elim (cases_Bool (bytes_eq name one.name)) [
      | inl here ↦ grind (arith, common_steps, here)
      | inr there ↦ grind (arith, common_steps, there, named_seen name consumers)
    ]

pub consumed_seen : (queue : ℕ) (consumers : List OpenConsumer) → is_consumed queue consumers ≡ list_any (λ consumer. consumer.queue == queue) (consumers_seen consumers)
consumed_seen queue [] = refl
consumed_seen queue (one ∷ consumers) = grind (arith, common_steps, consumed_seen queue consumers)

pub consumers_left : (name : List ℕ) (consumers : List OpenConsumer) → consumers_seen (without_open name consumers) ≡ without_consumer name (consumers_seen consumers)
consumers_left name [] = refl
consumers_left name (one ∷ consumers) =
    elim (cases_Bool (bytes_eq name one.name)) [
      | inl gone ↦ grind (arith, common_steps, gone, consumers_left name consumers)
      | inr stays ↦ grind (arith, common_steps, stays, consumers_left name consumers)
    ]

abbrev pub delivered_ids : List Delivery → List MessageId
delivered_ids deliveries = map (λ delivery. delivery.id) deliveries

pub ids_taken : (id : MessageId) (deliveries : List Delivery) → delivered_ids (without_delivery id deliveries) ≡ without_id id (delivered_ids deliveries)
ids_taken id [] = refl
ids_taken id (delivery ∷ deliveries) =
    elim (cases_Bool (same_id delivery.id id)) [
      | inl it ↦ grind (arith, common_steps, it, ids_taken id deliveries)
      | inr another ↦ grind (arith, common_steps, another, ids_taken id deliveries)
    ]

pub consumers_taken : (name : List ℕ) (id : MessageId) (consumers : List OpenConsumer)
    → consumers_seen (changed_for name (without_delivery id) consumers) ≡ with_flights name (without_id id) (consumers_seen consumers)
consumers_taken name id [] = refl
consumers_taken name id (one ∷ consumers) =
    elim (cases_Bool (bytes_eq name one.name)) [
      | inl here ↦
          let its : consumer_seen (record one { deliveries = without_delivery id one.deliveries }) ≡ record (consumer_seen one) { in_flight = without_id id (delivered_ids one.deliveries) } =
          ap (λ (ids : List MessageId). record { name = one.name; queue = one.queue; in_flight = ids }) (ids_taken id one.deliveries) in
          grind (arith, common_steps, here, its, consumers_taken name id consumers)
      | inr there ↦ grind (arith, common_steps, there, consumers_taken name id consumers)
    ]

-- a delivery of another message stands where its message stands
pub ids_delivered : (delivery : Delivery) (deliveries : List Delivery) → has_id delivery.id (delivered_ids deliveries) ≡ false
    → delivered_ids (with_delivery delivery deliveries) ≡ with_id delivery.id (delivered_ids deliveries)
ids_delivered delivery [] new = refl
ids_delivered delivery (other ∷ deliveries) new = by_order (λ later. ids_delivered delivery deliveries later) (id_cmp delivery.id other.id) refl
  where
    by_order : (has_id delivery.id (delivered_ids deliveries) ≡ false → delivered_ids (with_delivery delivery deliveries) ≡ with_id delivery.id (delivered_ids deliveries))
        → (order : Ordering) → id_cmp delivery.id other.id ≡ order
        → delivered_ids (with_delivery delivery (other ∷ deliveries)) ≡ with_id delivery.id (delivered_ids (other ∷ deliveries))
    by_order rest Less is =
        let before : is_before other.id delivery.id ≡ false = grind (arith, common_steps, is) in
        grind (arith, common_steps, is, before)
    by_order rest Equal is = absurd (grind (arith, common_steps, is, new))
    by_order rest Greater is =
        let behind : is_before other.id delivery.id ≡ true = grind (arith, common_steps, is) in
        let later : has_id delivery.id (delivered_ids deliveries) ≡ false = grind (arith, common_steps, new) in
        grind (arith, common_steps, is, behind, rest later)

pub consumers_delivered : (name : List ℕ) (delivery : Delivery) (consumers : List OpenConsumer)
    → list_any (λ consumer. bytes_eq name consumer.name && has_id delivery.id consumer.in_flight) (consumers_seen consumers) ≡ false
    → consumers_seen (changed_for name (with_delivery delivery) consumers) ≡ with_flights name (with_id delivery.id) (consumers_seen consumers)
consumers_delivered name delivery [] new = refl
consumers_delivered name delivery (one ∷ consumers) new =
    elim (cases_Bool (bytes_eq name one.name)) [
      | inl here ↦
          let free : has_id delivery.id (delivered_ids one.deliveries) ≡ false = grind (arith, common_steps, here, new) in
          let its : consumer_seen (record one { deliveries = with_delivery delivery one.deliveries }) ≡ record (consumer_seen one) { in_flight = with_id delivery.id (delivered_ids one.deliveries) } =
          ap (λ (ids : List MessageId). record { name = one.name; queue = one.queue; in_flight = ids }) (ids_delivered delivery one.deliveries free) in
          grind (arith, common_steps, here, its, consumers_delivered name delivery consumers (grind (arith, common_steps, here, new)))
      | inr there ↦ grind (arith, common_steps, there, consumers_delivered name delivery consumers (grind (arith, common_steps, there, new)))
    ]

-- where the one consumer of the name doesn't have the message, none of that name has it
pub none_named : (name : List ℕ) (id : MessageId) (cs : List Consumer) → count_by (is_named name) cs ≡ 0
    → list_any (λ consumer. bytes_eq name consumer.name && has_id id consumer.in_flight) cs ≡ false
none_named name id [] none = refl
none_named name id (c ∷ cs) none =
    elim (cases_Bool (is_named name c)) [
      | inl here ↦ absurd (omega (arith, none, count_cons (is_named name) c cs, ap bit here))
      | inr there ↦ grind (arith, common_steps, there, none_named name id cs (omega (arith, none, count_cons (is_named name) c cs)))
    ]

pub new_to_name : (name : List ℕ) (id : MessageId) (c : Consumer) (cs : List Consumer) → count_by (is_named name) cs ≤ 1 → consumer_named cs name ≡ Some c → has_id id c.in_flight ≡ false
    → list_any (λ consumer. bytes_eq name consumer.name && has_id id consumer.in_flight) cs ≡ false
new_to_name name id c [] one is free = refl
new_to_name name id c (x ∷ cs) one is free =
    elim (cases_Bool (is_named name x)) [
      | inl here ↦
          let same : x ≡ c = grind (arith, common_steps, here, is) in
          let its : has_id id x.in_flight ≡ false = ap (λ (y : Consumer). has_id id y.in_flight) same ∙ free in
          let rest = none_named name id cs (omega (arith, one, count_cons (is_named name) x cs, ap bit here)) in
          or_from _ _ (and_right (bytes_eq name x.name) _ its) rest
      | inr there ↦
          let rest = new_to_name name id c cs (omega (arith, one, count_cons (is_named name) x cs)) (grind (arith, common_steps, there, is)) free in
          or_from _ _ (and_left _ (has_id id x.in_flight) there) rest
    ]

pub flights_seen : (name : List ℕ) (consumers : List OpenConsumer) → flights_to name (consumers_seen consumers) ≡ delivered_ids (deliveries_to name consumers)
flights_seen name [] = refl
flights_seen name (one ∷ consumers) =
    elim (cases_Bool (bytes_eq name one.name)) [
      | inl here ↦ grind (arith, common_steps, here)
      | inr there ↦ grind (arith, common_steps, there, flights_seen name consumers)
    ]

pub first_seen : (name : List ℕ) (consumers : List OpenConsumer) → slice_get (flights_to name (consumers_seen consumers)) 0 ≡ option_map (λ delivery. delivery.id) (slice_get (deliveries_to name consumers) 0)
first_seen name consumers = ap (λ (ids : List MessageId). slice_get ids 0) (flights_seen name consumers) ∙ slice_get-map (λ (delivery : Delivery). delivery.id) (deliveries_to name consumers) 0

pub count_seen : (queue : ℕ) (queues : List Contents)
    → option_map (λ line. min (length line.ids) (2 ^ 64 - 1)) (line_of queue (lines_seen queues)) ≡ option_map (λ one. count_of one.entries) (queue_with queue queues)
count_seen queue [] = refl
count_seen queue (one ∷ queues) =
    elim (cases_Bool (one.id == queue)) [
      | inl here ↦
          let its : length (ids_of one.entries) ≡ length one.entries = length-map one.entries (λ entry. entry.id) in
          grind (arith, common_steps, here, its)
      | inr there ↦ grind (arith, common_steps, there, count_seen queue queues)
    ]

-- ---- a delivery that is found
pub has_delivery : (id : MessageId) (deliveries : List Delivery) → is_some (delivery_with id deliveries) ≡ has_id id (delivered_ids deliveries)
has_delivery id [] = refl
has_delivery id (delivery ∷ deliveries) =
    elim (cases_Bool (same_id delivery.id id)) [
      | inl it ↦ grind (arith, common_steps, it)
      | inr another ↦ grind (arith, common_steps, another, has_delivery id deliveries)
    ]

pub its_queue : (queue : ℕ) (id : MessageId) (deliveries : List Delivery) (delivery : Delivery) → AllByRecursion (IsFrom queue) deliveries → delivery_with id deliveries ≡ Some delivery
    → delivery.queue ≡ queue
its_queue queue id [] delivery are is = absurd (grind (arith, common_steps, is))
its_queue queue id (one ∷ deliveries) delivery are is =
    elim (cases_Bool (same_id one.id id)) [
      | inl it ↦
          let same : one ≡ delivery = grind (arith, common_steps, it, is) in
          ap (λ (d : Delivery). d.queue) (sym same) ∙ are.0.queue_is
      | inr another ↦ its_queue queue id deliveries delivery are.1 (grind (arith, common_steps, another, is))
    ]

pub theirs_named : (name : List ℕ) (consumers : List OpenConsumer) (one : OpenConsumer) → AreTheirs consumers → open_named name consumers ≡ Some one
    → AllByRecursion (IsFrom one.queue) one.deliveries
theirs_named name [] one are is = absurd (grind (arith, common_steps, is))
theirs_named name (x ∷ consumers) one are is =
    elim (cases_Bool (bytes_eq name x.name)) [
      | inl here ↦
          let same : x ≡ one = grind (arith, common_steps, here, is) in
          subst (λ (o : OpenConsumer). AllByRecursion (IsFrom o.queue) o.deliveries) same are.0
      | inr there ↦ theirs_named name consumers one are.1 (grind (arith, common_steps, there, is))
    ]

-- the consumer of that name has the message of that queue in flight
pub record IsFlight (name : List ℕ) (id : MessageId) (queue : ℕ) (cs : List Consumer) : Type 0 where
  pub one : Consumer
  pub is : consumer_named cs name ≡ Some one
  pub has : has_id id one.in_flight ≡ true
  pub from : one.queue ≡ queue

pub flight_delivered : (name : List ℕ) (id : MessageId) (consumers : List OpenConsumer) (delivery : Delivery) → AreTheirs consumers → delivery_to name id consumers ≡ Some delivery
    → IsFlight name id delivery.queue (consumers_seen consumers)
flight_delivered name id consumers delivery are is = of_found (open_named name consumers) refl
  where
    of_found : (found : Option OpenConsumer) → open_named name consumers ≡ found → IsFlight name id delivery.queue (consumers_seen consumers)
    of_found None none = absurd (grind (arith, common_steps, none, is))
    of_found (Some one) some =
        let its : delivery_with id one.deliveries ≡ Some delivery = grind (arith, common_steps, some, is) in
        record {
          one = consumer_seen one;
          is = named_seen name consumers ∙ ap (option_map consumer_seen) some;
          has = sym (has_delivery id one.deliveries) ∙ ap is_some its;
          from = sym (its_queue one.queue id one.deliveries delivery (theirs_named name consumers one are some) its);
        }

pub flight_is : (name : List ℕ) (id : MessageId) (queue : ℕ) (cs : List Consumer) → IsFlight name id queue cs → flight_from name id cs ≡ Some queue
flight_is name id queue cs flight = grind (arith, common_steps, flight.is, flight.has, flight.from)

-- what is found among the deliveries is what is seen in flight
pub flight_seen : (name : List ℕ) (id : MessageId) (consumers : List OpenConsumer) → AreTheirs consumers
    → flight_from name id (consumers_seen consumers) ≡ option_map (λ delivery. delivery.queue) (delivery_to name id consumers)
flight_seen name id consumers are = of_found (delivery_to name id consumers) refl
  where
    none_in : (found : Option OpenConsumer) → open_named name consumers ≡ found → delivery_to name id consumers ≡ None → flight_from name id (consumers_seen consumers) ≡ None
    none_in None none is =
        let unnamed : consumer_named (consumers_seen consumers) name ≡ None = named_seen name consumers ∙ ap (option_map consumer_seen) none in
        grind (arith, common_steps, unnamed)
    none_in (Some one) some is =
        let named : consumer_named (consumers_seen consumers) name ≡ Some (consumer_seen one) = named_seen name consumers ∙ ap (option_map consumer_seen) some in
        let none : delivery_with id one.deliveries ≡ None = grind (arith, common_steps, some, is) in
        let without : has_id id (delivered_ids one.deliveries) ≡ false = sym (has_delivery id one.deliveries) ∙ ap is_some none in
        grind (arith, common_steps, named, without)

    of_found : (found : Option Delivery) → delivery_to name id consumers ≡ found
        → flight_from name id (consumers_seen consumers) ≡ option_map (λ delivery. delivery.queue) (delivery_to name id consumers)
    of_found None none = none_in (open_named name consumers) refl none ∙ ap (option_map (λ delivery. delivery.queue)) (sym none)
    of_found (Some delivery) some =
        flight_is name id delivery.queue (consumers_seen consumers) (flight_delivered name id consumers delivery are some) ∙ ap (option_map (λ delivery. delivery.queue)) (sym some)

-- ---- deliveries stay those of their consumers' queues
pub from_with : (queue : ℕ) (delivery : Delivery) (deliveries : List Delivery) → IsFrom queue delivery → AllByRecursion (IsFrom queue) deliveries
    → AllByRecursion (IsFrom queue) (with_delivery delivery deliveries)
from_with queue delivery [] it are = (it, tt)
from_with queue delivery (other ∷ deliveries) it are = by_order (from_with queue delivery deliveries it are.1) (id_cmp delivery.id other.id) refl
  where
    by_order : AllByRecursion (IsFrom queue) (with_delivery delivery deliveries) → (order : Ordering) → id_cmp delivery.id other.id ≡ order
        → AllByRecursion (IsFrom queue) (with_delivery delivery (other ∷ deliveries))
    by_order rest Less is = rw is (it, are)
    by_order rest Equal is = rw is (it, are.1)
    by_order rest Greater is = rw is (are.0, rest)

pub from_without : (queue : ℕ) (id : MessageId) (deliveries : List Delivery) → AllByRecursion (IsFrom queue) deliveries → AllByRecursion (IsFrom queue) (without_delivery id deliveries)
from_without queue id [] are = tt
from_without queue id (one ∷ deliveries) are =
    elim (cases_Bool (same_id one.id id)) [
      | inl it ↦ rw it (from_without queue id deliveries are.1)
      | inr another ↦ rw another (are.0, from_without queue id deliveries are.1)
    ]

pub theirs_without : (name : List ℕ) (id : MessageId) (consumers : List OpenConsumer) → AreTheirs consumers → AreTheirs (changed_for name (without_delivery id) consumers)
theirs_without name id [] are = tt
theirs_without name id (one ∷ consumers) are =
    elim (cases_Bool (bytes_eq name one.name)) [
      | inl here ↦ rw here (from_without one.queue id one.deliveries are.0, theirs_without name id consumers are.1)
      | inr there ↦ rw there (are.0, theirs_without name id consumers are.1)
    ]

-- the delivery is of the queue of each consumer of that name
pub theirs_with : (name : List ℕ) (delivery : Delivery) (consumers : List OpenConsumer) → AllByRecursion (λ one. bytes_eq name one.name ≡ true → IsFrom one.queue delivery) consumers
    → AreTheirs consumers → AreTheirs (changed_for name (with_delivery delivery) consumers)
theirs_with name delivery [] fits are = tt
theirs_with name delivery (one ∷ consumers) fits are =
    elim (cases_Bool (bytes_eq name one.name)) [
      | inl here ↦ rw here (from_with one.queue delivery one.deliveries (fits.0 here) are.0, theirs_with name delivery consumers fits.1 are.1)
      | inr there ↦ rw there (are.0, theirs_with name delivery consumers fits.1 are.1)
    ]

pub theirs_opened : (name : List ℕ) (queue : ℕ) (consumers : List OpenConsumer) → AreTheirs consumers
    → AreTheirs (consumers ++ record { name = name; queue = queue; deliveries = [] } ∷ [])
theirs_opened name queue [] are = (tt, tt)
theirs_opened name queue (one ∷ consumers) are = (are.0, theirs_opened name queue consumers are.1)

pub theirs_left : (name : List ℕ) (consumers : List OpenConsumer) → AreTheirs consumers → AreTheirs (without_open name consumers)
theirs_left name [] are = tt
theirs_left name (one ∷ consumers) are =
    elim (cases_Bool (bytes_eq name one.name)) [
      | inl gone ↦ rw gone (theirs_left name consumers are.1)
      | inr stays ↦ rw stays (are.0, theirs_left name consumers are.1)
    ]

pub fits_none : (name : List ℕ) (delivery : Delivery) (consumers : List OpenConsumer) → count_by (is_named name) (consumers_seen consumers) ≡ 0
    → AllByRecursion (λ one. bytes_eq name one.name ≡ true → IsFrom one.queue delivery) consumers
fits_none name delivery [] none = tt
fits_none name delivery (one ∷ consumers) none =
    let counts = count_cons (is_named name) (consumer_seen one) (consumers_seen consumers) in
    (λ here. absurd (omega (arith, none, counts, ap bit here)), fits_none name delivery consumers (omega (arith, none, counts)))

pub fits_named : (name : List ℕ) (delivery : Delivery) (consumers : List OpenConsumer) (c : Consumer) → count_by (is_named name) (consumers_seen consumers) ≤ 1
    → consumer_named (consumers_seen consumers) name ≡ Some c → IsFrom c.queue delivery → AllByRecursion (λ one. bytes_eq name one.name ≡ true → IsFrom one.queue delivery) consumers
fits_named name delivery [] c one_of is from = tt
fits_named name delivery (x ∷ consumers) c one_of is from =
    let counts = count_cons (is_named name) (consumer_seen x) (consumers_seen consumers) in
    elim (cases_Bool (bytes_eq name x.name)) [
      | inl here ↦
          let same : consumer_seen x ≡ c = grind (arith, common_steps, here, is) in
          (λ _. subst (λ (o : Consumer). IsFrom o.queue delivery) (sym same) from, fits_none name delivery consumers (omega (arith, one_of, counts, ap bit here)))
      | inr there ↦
          (λ here. absurd (grind (arith, common_steps, here, there)), fits_named name delivery consumers c (omega (arith, one_of, counts)) (grind (arith, common_steps, there, is)) from)
    ]
