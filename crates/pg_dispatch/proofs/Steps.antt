-- Queues and consumers match behind each call, and are seen as its clause says.
use Rattle.std.proofs.Common.{◌≡◌, ℕ, ◌<◌, true, false, not, ◌&&◌, ◌||◌, ◌==◌, List, [], ◌∷◌, ◌++◌, refl, sym, ap, ap₂, ◌∙◌, subst, inl, inr, arith}
use Rattle.std.proofs.lemmas.Grind.{common_steps}
use Rattle.std.specs.Prelude.{Option, Some, None, Result, Ok, Err, OnOk, OnErr, IfSome, is_some, find, All}
use Rattle.std.specs.List.{list_any}
use Rattle.std.specs.Option.{option_map, option_map_or, option_and_then}
use Rattle.std.proofs.lemmas.Bool.{and_from, cases_Bool, eq-eqb}
use Rattle.std.proofs.lemmas.List.{map-append}
use Rattle.std.proofs.lemmas.Option.{none-some, same_Some}
use Rattle.std.proofs.lemmas.List.Elements.{All-head, All-tail, All-cons, All-nil}
use Rattle.pg_msg.specs.declared.message.MessageId.{MessageId}
use Rattle.pg_model.specs.Broker.{Consumer, consumer_named}
use Rattle.pg_model.specs.Changes.{with_flights, with_id}
use Rattle.pg_model.specs.Steps.{is_in_flight}
use Rattle.pg_flight.specs.declared.delivery.Delivery.{Delivery}
use Rattle.pg_flight.specs.Consumers.{OpenConsumer, changed_for, delivery_to, open_named, without_open}
use Rattle.pg_flight.specs.Deliveries.{with_delivery, without_delivery}
use Rattle.pg_queue.specs.declared.taken.Taken.{Taken}
use Rattle.pg_queue.specs.Entries.{Contents, Entry, added, entry_at, entry_of, first_waiting, has_entry, is_taken, marked, without_entry}
use Rattle.pg_queue.specs.Queues.{changed_at, entries_in, without_queue}
use Rattle.pg_dispatch.specs.Dispatch.{Dispatch, Line, acknowledged, cancelled, closed, first_available, flight_from, given_to, has_id, has_line, line_of, with_consumer, with_line, with_message, without_line}
use Rattle.pg_dispatch.specs.Matching.{AreMarked, AreMatched, AreTheirs, IsWhole, consumer_seen, consumers_seen, flights_to, given_once, holds, ids_in, line_seen, lines_seen, seen}
use Rattle.pg_dispatch.proofs.Counting.{bit, counts_any, is_named, its_bit, none_counts}
use Rattle.pg_dispatch.proofs.Flying.{flies_closed, flies_opened, flies_with, flies_without, is_that}
use Rattle.pg_dispatch.proofs.Marks.{Flies, all_carried, entries_marked, first_free, has_by_id, marks_added, marks_given, marks_left, marks_put_back, marks_with_queue, marks_without_queue, taken_in_flight, waiting_is_free}
use Rattle.pg_dispatch.proofs.Seen.{IsFlight, consumers_delivered, consumers_left, consumers_taken, fits_named, flight_is, flight_seen, ids_found, lines_added, lines_left, lines_marked, lines_without, named_seen, new_to_name, theirs_left, theirs_opened, theirs_with, theirs_without}
use Rattle.pg_dispatch.proofs.WholeLaws.{is_on, opened_one, whole_acknowledged, whole_cancelled, whole_closed, whole_given, whole_new, whole_with_consumer, whole_with_line, whole_with_message, whole_without_line}

-- what follows from the answer of a call either way holds
pub either_way : {T E A B C : Type 0} (result : Result T E) → OnOk result A → OnErr result B → (A → C) → (B → C) → C
either_way (Ok value) ok err of_ok of_err = of_ok ok
either_way (Err error) ok err of_ok of_err = of_err err

pub ok_then : {T E A C : Type 0} (result : Result T E) → OnOk result A → (A → C) → OnOk result C
ok_then (Ok value) ok then = then ok
ok_then (Err error) ok then = tt

pub matched_where : {queues more : List Contents} {consumers others : List OpenConsumer} → more ≡ queues → others ≡ consumers → AreMatched queues consumers → AreMatched more others
matched_where {queues} {more} {consumers} {others} same too are = subst (λ q. AreMatched q others) (sym same) (subst (AreMatched queues) (sym too) are)

pub matched_new : AreMatched [] []
matched_new = record { whole = whole_new; marked = tt; theirs = tt }

-- lines and consumers together
abbrev pub of_both : List Line → List Consumer → Dispatch
of_both lines consumers = record { lines = lines; consumers = consumers }

-- ---- queues
abbrev pub queue_more : ℕ → List Contents → List Contents
queue_more queue queues = queues ++ record { id = queue; entries = [] } ∷ []

pub seen_with_queue : (queue : ℕ) (queues : List Contents) (consumers : List OpenConsumer) → seen (queue_more queue queues) consumers ≡ with_line queue (seen queues consumers)
seen_with_queue queue queues consumers = ap (λ lines. of_both lines (consumers_seen consumers)) (map-append line_seen queues (record { id = queue; entries = [] } ∷ []))

pub matched_with_queue : (queue : ℕ) (queues : List Contents) (consumers : List OpenConsumer) → AreMatched queues consumers → AreMatched (queue_more queue queues) consumers
matched_with_queue queue queues consumers are =
    record {
      whole = subst IsWhole (sym (seen_with_queue queue queues consumers)) (whole_with_line queue (seen queues consumers) are.whole);
      marked = marks_with_queue (is_in_flight (consumers_seen consumers)) queue queues are.marked;
      theirs = are.theirs;
    }

pub seen_without_queue : (queue : ℕ) (queues : List Contents) (consumers : List OpenConsumer) → seen (without_queue queue queues) consumers ≡ without_line queue (seen queues consumers)
seen_without_queue queue queues consumers = ap (λ lines. of_both lines (consumers_seen consumers)) (lines_without queue queues)

pub matched_without_queue : (queue : ℕ) (queues : List Contents) (consumers : List OpenConsumer) → list_any (is_on queue) (consumers_seen consumers) ≡ false → AreMatched queues consumers
    → AreMatched (without_queue queue queues) consumers
matched_without_queue queue queues consumers none are =
    record {
      whole = subst IsWhole (sym (seen_without_queue queue queues consumers)) (whole_without_line queue (seen queues consumers) none are.whole);
      marked = marks_without_queue (is_in_flight (consumers_seen consumers)) queue queues are.marked;
      theirs = are.theirs;
    }

pub all_below : (queue : ℕ) (queues : List Contents) → All (λ line. line.queue < queue) (lines_seen queues) → All (λ one. one.id < queue) queues
all_below queue [] below = All-nil (λ one. one.id < queue)
all_below queue (one ∷ queues) below =
    All-cons (λ one. one.id < queue) one queues (All-head (λ line. line.queue < queue) (line_seen one) (lines_seen queues) below)
    (all_below queue queues (All-tail (λ line. line.queue < queue) (line_seen one) (lines_seen queues) below))

-- ---- a message for a queue
pub has_as_seen : (queue : ℕ) (id : MessageId) (queues : List Contents) (consumers : List OpenConsumer) → AreMatched queues consumers
    → has_entry (entries_in queue queues) (entry_at id None) ≡ has_id id (ids_in queue (lines_seen queues))
has_as_seen queue id queues consumers are =
    has_by_id (is_in_flight (consumers_seen consumers)) queue id (entries_in queue queues) (entries_marked (is_in_flight (consumers_seen consumers)) queue queues are.marked)
    ∙ ap (has_id id) (sym (ids_found queue queues))

-- what its queue doesn't have isn't in flight
pub not_in_flight : (queue : ℕ) (id : MessageId) (d : Dispatch) → IsWhole d → has_id id (ids_in queue d.lines) ≡ false → is_in_flight d.consumers queue id ≡ false
not_in_flight queue id d whole none =
    elim (cases_Bool (is_in_flight d.consumers queue id)) [
      | inl flies ↦ absurd (grind (arith, common_steps, none, whole.held queue id flies))
      | inr free ↦ free
    ]

pub seen_added : (queue : ℕ) (id : MessageId) (queues : List Contents) (consumers : List OpenConsumer) → AreMatched queues consumers
    → seen (changed_at queue (added (entry_at id None)) queues) consumers ≡ with_message (queue ∷ []) id (seen queues consumers)
seen_added queue id queues consumers are =
    ap (λ lines. of_both lines (consumers_seen consumers)) (lines_added (is_in_flight (consumers_seen consumers)) queue id queues are.marked)

pub matched_added : (queue : ℕ) (id : MessageId) (queues : List Contents) (consumers : List OpenConsumer) → AreMatched queues consumers
    → has_id id (ids_in queue (lines_seen queues)) ≡ false → AreMatched (changed_at queue (added (entry_at id None)) queues) consumers
matched_added queue id queues consumers are none =
    record {
      whole = subst IsWhole (sym (seen_added queue id queues consumers are)) (whole_with_message (queue ∷ []) id (seen queues consumers) are.whole);
      marked =
          marks_added (is_in_flight (consumers_seen consumers)) queue id (not_in_flight queue id (seen queues consumers) are.whole none) queues are.marked;
      theirs = are.theirs;
    }

-- the message is put in once
pub once_there : (queue : ℕ) (id : MessageId) (d : Dispatch) → has_id id (ids_in queue d.lines) ≡ true → given_once queue id d ≡ d
once_there queue id d has = grind (arith, common_steps, has)

pub once_new : (queue : ℕ) (id : MessageId) (d : Dispatch) → has_id id (ids_in queue d.lines) ≡ false → given_once queue id d ≡ with_message (queue ∷ []) id d
once_new queue id d none = grind (arith, common_steps, none)

-- ---- a consumer more
abbrev pub consumer_more : List ℕ → ℕ → List OpenConsumer → List OpenConsumer
consumer_more name queue consumers = consumers ++ record { name = name; queue = queue; deliveries = [] } ∷ []

pub consumers_with : (name : List ℕ) (queue : ℕ) (consumers : List OpenConsumer) → consumers_seen (consumer_more name queue consumers) ≡ consumers_seen consumers ++ opened_one name queue ∷ []
consumers_with name queue consumers = map-append consumer_seen consumers (record { name = name; queue = queue; deliveries = [] } ∷ [])

pub seen_opened : (name : List ℕ) (queue : ℕ) (queues : List Contents) (consumers : List OpenConsumer)
    → seen queues (consumer_more name queue consumers) ≡ with_consumer name queue (seen queues consumers)
seen_opened name queue queues consumers = ap (of_both (lines_seen queues)) (consumers_with name queue consumers)

pub matched_opened : (name : List ℕ) (queue : ℕ) (queues : List Contents) (consumers : List OpenConsumer) → consumer_named (consumers_seen consumers) name ≡ None
    → list_any (λ line. line.queue == queue) (lines_seen queues) ≡ true → AreMatched queues consumers → AreMatched queues (consumer_more name queue consumers)
matched_opened name queue queues consumers none there are =
    record {
      whole = subst IsWhole (sym (seen_opened name queue queues consumers)) (whole_with_consumer name queue (seen queues consumers) none there are.whole);
      marked =
          all_carried (is_in_flight (consumers_seen consumers)) (is_in_flight (consumers_seen (consumer_more name queue consumers)))
          (λ other id.
          ap (λ (cs : List Consumer). is_in_flight cs other id) (consumers_with name queue consumers) ∙ flies_opened (consumers_seen consumers) (opened_one name queue) refl other id)
          queues are.marked;
      theirs = theirs_opened name queue consumers are.theirs;
    }

pub not_open : (name : List ℕ) (consumers : List OpenConsumer) → consumer_named (consumers_seen consumers) name ≡ None → open_named name consumers ≡ None
not_open name consumers none = only (open_named name consumers) refl
  where
    only : (found : Option OpenConsumer) → open_named name consumers ≡ found → open_named name consumers ≡ None
    only None is = is
    only (Some one) is = absurd (grind (arith, common_steps, none, named_seen name consumers, is))

-- ---- the queue of a consumer
pub queue_seen : (name : List ℕ) (queues : List Contents) (consumers : List OpenConsumer) (d : Dispatch) → seen queues consumers ≡ d
    → option_map (λ consumer. consumer.queue) (open_named name consumers) ≡ option_map (λ consumer. consumer.queue) (consumer_named d.consumers name)
queue_seen name queues consumers d is = of_found (open_named name consumers) refl ∙ ap (λ (e : Dispatch). option_map (λ (c : Consumer). c.queue) (consumer_named e.consumers name)) is
  where
    of_found : (found : Option OpenConsumer) → open_named name consumers ≡ found
        → option_map (λ consumer. consumer.queue) (open_named name consumers) ≡ option_map (λ consumer. consumer.queue) (consumer_named (consumers_seen consumers) name)
    of_found None none = grind (arith, common_steps, none, named_seen name consumers)
    of_found (Some one) some = grind (arith, common_steps, some, named_seen name consumers)

pub on_its_queue : (name : List ℕ) (queue : ℕ) (cs : List Consumer) → option_map (λ consumer. consumer.queue) (consumer_named cs name) ≡ Some queue → list_any (is_on queue) cs ≡ true
on_its_queue name queue [] is = absurd (grind (arith, common_steps, is))
on_its_queue name queue (c ∷ cs) is =
    elim (cases_Bool (is_named name c)) [
      | inl here ↦
          let its : c.queue ≡ queue = grind (arith, common_steps, here, is) in
          grind (arith, common_steps, its)
      | inr there ↦
          let rest : list_any (is_on queue) cs ≡ true = on_its_queue name queue cs (grind (arith, common_steps, there, is)) in
          grind (arith, common_steps, rest)
    ]

pub queue_live : (name : List ℕ) (queue : Option ℕ) (queues : List Contents) (consumers : List OpenConsumer) (d : Dispatch) → AreMatched queues consumers → seen queues consumers ≡ d
    → queue ≡ option_map (λ consumer. consumer.queue) (open_named name consumers) → IfSome queue (λ q. has_line q d.lines ≡ true)
queue_live name None queues consumers d are is its = tt
queue_live name (Some queue) queues consumers d are is its =
    let on = on_its_queue name queue (consumers_seen consumers) (sym (its ∙ queue_seen name queues consumers (seen queues consumers) refl)) in
    subst (λ (e : Dispatch). has_line queue e.lines ≡ true) is (are.whole.live queue on)

-- ---- a message is given
-- the first message of the consumer's queue that waits, and what is known of it
pub record IsNext (name : List ℕ) (queue : ℕ) (id : MessageId) (queues : List Contents) (consumers : List OpenConsumer) : Type 0 where
  pub one : Consumer
  pub is : consumer_named (consumers_seen consumers) name ≡ Some one
  pub on : one.queue ≡ queue
  pub there : has_id id (ids_in queue (lines_seen queues)) ≡ true
  pub free : is_in_flight (consumers_seen consumers) queue id ≡ false

-- a consumer is open under the name
pub record IsOpen (name : List ℕ) (queue : ℕ) (consumers : List OpenConsumer) : Type 0 where
  pub one : OpenConsumer
  pub open_is : open_named name consumers ≡ Some one
  pub is : consumer_named (consumers_seen consumers) name ≡ Some (consumer_seen one)
  pub on : one.queue ≡ queue

pub open_on : (name : List ℕ) (queue : ℕ) (consumers : List OpenConsumer) → Some queue ≡ option_map (λ consumer. consumer.queue) (open_named name consumers) → IsOpen name queue consumers
open_on name queue consumers is = of_found (open_named name consumers) refl
  where
    of_found : (found : Option OpenConsumer) → open_named name consumers ≡ found → IsOpen name queue consumers
    of_found None none = absurd (grind (arith, common_steps, is, none))
    of_found (Some one) some =
        record {
          one = one;
          open_is = some;
          is = named_seen name consumers ∙ ap (option_map consumer_seen) some;
          on = grind (arith, common_steps, is, some);
        }

pub next_waits : (name : List ℕ) (queue : ℕ) (id : MessageId) (queues : List Contents) (consumers : List OpenConsumer) → AreMatched queues consumers → IsOpen name queue consumers
    → first_waiting (entries_in queue queues) ≡ Some (entry_at id None) → IsNext name queue id queues consumers
next_waits name queue id queues consumers are opened first =
    let flies = is_in_flight (consumers_seen consumers) in
    let free = waiting_is_free flies queue id (entries_in queue queues) (entries_marked flies queue queues are.marked) first in
    record {
      one = consumer_seen opened.one;
      is = opened.is;
      on = opened.on;
      there = ap (has_id id) (ids_found queue queues) ∙ free.there;
      free = free.free;
    }

abbrev pub delivery_of : ℕ → MessageId → Delivery
delivery_of queue id = record { queue = queue; id = id; place = None }

-- what isn't in flight from its queue isn't in flight for one of the queue's consumers
pub not_to_one : (queue : ℕ) (id : MessageId) (name : List ℕ) (one : Consumer) (cs : List Consumer) → consumer_named cs name ≡ Some one → one.queue ≡ queue
    → is_in_flight cs queue id ≡ false → has_id id one.in_flight ≡ false
not_to_one queue id name one cs is on free =
    elim (cases_Bool (has_id id one.in_flight)) [
      | inl has ↦
          let holding : holds queue id one ≡ true = and_from _ _ (eq-eqb one.queue queue on) has in
          absurd (omega (arith, its_bit (holds queue id) name cs one is, ap bit holding, none_counts (holds queue id) cs free))
      | inr none ↦ none
    ]

pub consumers_given : (name : List ℕ) (queue : ℕ) (id : MessageId) (queues : List Contents) (consumers : List OpenConsumer) → AreMatched queues consumers → IsNext name queue id queues consumers
    → consumers_seen (changed_for name (with_delivery (delivery_of queue id)) consumers) ≡ with_flights name (with_id id) (consumers_seen consumers)
consumers_given name queue id queues consumers are next =
    consumers_delivered name (delivery_of queue id) consumers
    (new_to_name name id next.one (consumers_seen consumers) (are.whole.named name) next.is (not_to_one queue id name next.one (consumers_seen consumers) next.is next.on next.free))

pub seen_given : (name : List ℕ) (queue : ℕ) (id : MessageId) (queues : List Contents) (consumers : List OpenConsumer) → AreMatched queues consumers → IsNext name queue id queues consumers
    → seen (changed_at queue (marked true (entry_at id None)) queues) (changed_for name (with_delivery (delivery_of queue id)) consumers) ≡ given_to name (Some id) (seen queues consumers)
seen_given name queue id queues consumers are next = ap₂ of_both (lines_marked queue true (entry_at id None) queues) (consumers_given name queue id queues consumers are next)

pub flown_given : (name : List ℕ) (queue : ℕ) (id : MessageId) (queues : List Contents) (consumers : List OpenConsumer) → AreMatched queues consumers → IsNext name queue id queues consumers
    → (other : ℕ) (message : MessageId)
    → is_in_flight (consumers_seen (changed_for name (with_delivery (delivery_of queue id)) consumers)) other message ≡ (is_that queue id other message || is_in_flight (consumers_seen consumers) other message)
flown_given name queue id queues consumers are next other message =
    let cs = consumers_seen consumers in
    ap (λ (changed : List Consumer). is_in_flight changed other message) (consumers_given name queue id queues consumers are next)
    ∙ flies_with name id cs next.one (are.whole.named name) next.is (subst (λ q. is_in_flight cs q id ≡ false) (sym next.on) next.free) other message
    ∙ ap (λ q. is_that q id other message || is_in_flight cs other message) next.on

pub matched_given : (name : List ℕ) (queue : ℕ) (id : MessageId) (queues : List Contents) (consumers : List OpenConsumer) → AreMatched queues consumers → IsNext name queue id queues consumers
    → AreMatched (changed_at queue (marked true (entry_at id None)) queues) (changed_for name (with_delivery (delivery_of queue id)) consumers)
matched_given name queue id queues consumers are next =
    let cs = consumers_seen consumers in
    let there = subst (λ q. has_id id (ids_in q (lines_seen queues)) ≡ true) (sym next.on) next.there in
    let free = subst (λ q. is_in_flight cs q id ≡ false) (sym next.on) next.free in
    record {
      whole = subst IsWhole (sym (seen_given name queue id queues consumers are next)) (whole_given name id next.one (seen queues consumers) next.is there free are.whole);
      marked =
          marks_given (is_in_flight cs) (is_in_flight (consumers_seen (changed_for name (with_delivery (delivery_of queue id)) consumers))) queue id
          (flown_given name queue id queues consumers are next) queues are.marked;
      theirs =
          theirs_with name (delivery_of queue id) consumers
          (fits_named name (delivery_of queue id) consumers next.one (are.whole.named name) next.is (record { queue_is = sym next.on; place = refl })) are.theirs;
    }

-- what the queue gives is what was looked at
pub received : (queue : ℕ) (id : MessageId) (result : Option Taken) (queues new : List Contents) → option_map entry_of result ≡ first_waiting (entries_in queue queues)
    → first_waiting (entries_in queue queues) ≡ Some (entry_at id None) → IfSome result (λ given. new ≡ changed_at queue (marked true (entry_of given)) queues)
    → new ≡ changed_at queue (marked true (entry_at id None)) queues
received queue id None queues new first is taken = absurd (grind (arith, common_steps, first, is))
received queue id (Some given) queues new first is taken =
    let same : entry_of given ≡ entry_at id None = grind (arith, common_steps, first, is) in
    taken ∙ ap (λ (entry : Entry). changed_at queue (marked true entry) queues) same

-- what is available is what waits
pub available_in : (flies : Flies) (queue : ℕ) (queues : List Contents) → AreMarked flies queues
    → option_and_then (λ line. find (λ id. not (flies line.queue id)) line.ids) (line_of queue (lines_seen queues)) ≡ option_map (λ entry. entry.id) (first_waiting (entries_in queue queues))
available_in flies queue [] are = refl
available_in flies queue (one ∷ queues) are =
    elim (cases_Bool (one.id == queue)) [
      | inl here ↦ rw here (sym (first_free flies one.id one.entries are.0))
      | inr there ↦ rw there (available_in flies queue queues are.1)
    ]

-- for each number that is the queue's, as far as the consumer tells
pub available_to : (name : List ℕ) (queue other : ℕ) (queues : List Contents) (consumers : List OpenConsumer) (d : Dispatch) → AreMatched queues consumers → seen queues consumers ≡ d
    → Some queue ≡ option_map (λ consumer. consumer.queue) (open_named name consumers) → option_map (λ consumer. consumer.queue) (consumer_named d.consumers name) ≡ Some other
    → first_available other d ≡ option_map (λ entry. entry.id) (first_waiting (entries_in queue queues))
available_to name queue other queues consumers d are is its asked =
    let same : queue ≡ other = same_Some queue other (its ∙ queue_seen name queues consumers d is ∙ asked) in
    ap (first_available other) (sym is)
    ∙ ap (λ q. first_available q (seen queues consumers)) (sym same)
    ∙ available_in (is_in_flight (consumers_seen consumers)) queue queues are.marked

-- where no consumer is open, none has a queue
pub no_queue : (name : List ℕ) (other : ℕ) (queues : List Contents) (consumers : List OpenConsumer) (d : Dispatch) → seen queues consumers ≡ d
    → None ≡ option_map (λ consumer. consumer.queue) (open_named name consumers) → option_map (λ consumer. consumer.queue) (consumer_named d.consumers name) ≡ Some other → ⊥
no_queue name other queues consumers d is its asked = none-some other (its ∙ queue_seen name queues consumers d is ∙ asked)

pub none_open : (name : List ℕ) (queue : ℕ) (queues : List Contents) (consumers : List OpenConsumer) (d : Dispatch) → seen queues consumers ≡ d
    → Some queue ≡ option_map (λ consumer. consumer.queue) (open_named name consumers) → consumer_named d.consumers name ≡ None → ⊥
none_open name queue queues consumers d is its none =
    none-some queue (sym (its ∙ queue_seen name queues consumers d is ∙ ap (option_map (λ (c : Consumer). c.queue)) none))

-- ---- a flight ends
-- what is seen in flight is found
pub is_found : (name : List ℕ) (id : MessageId) (queues : List Contents) (consumers : List OpenConsumer) (d : Dispatch) → AreTheirs consumers → seen queues consumers ≡ d
    → is_some (flight_from name id d.consumers) ≡ true → None ≡ delivery_to name id consumers → ⊥
is_found name id queues consumers d are is flies none =
    let found : is_some (flight_from name id (consumers_seen consumers)) ≡ true = subst (λ (e : Dispatch). is_some (flight_from name id e.consumers) ≡ true) (sym is) flies in
    grind (arith, common_steps, found, flight_seen name id consumers are, none)

-- and is from the queue of the delivery that is found
pub same_from : (name : List ℕ) (id : MessageId) (queue other : ℕ) (queues : List Contents) (consumers : List OpenConsumer) (d : Dispatch) → seen queues consumers ≡ d
    → IsFlight name id queue (consumers_seen consumers) → flight_from name id d.consumers ≡ Some other → queue ≡ other
same_from name id queue other queues consumers d is flight asked =
    same_Some queue other (sym (flight_is name id queue (consumers_seen consumers) flight) ∙ ap (λ (e : Dispatch). flight_from name id e.consumers) is ∙ asked)

pub is_flown : (name : List ℕ) (id : MessageId) (queue : ℕ) (cs : List Consumer) → IsFlight name id queue cs → is_in_flight cs queue id ≡ true
is_flown name id queue cs flight =
    let holding : holds queue id flight.one ≡ true = and_from _ _ (eq-eqb flight.one.queue queue flight.from) flight.has in
    counts_any (holds queue id) cs (omega (arith, its_bit (holds queue id) name cs flight.one flight.is, ap bit holding))

pub its_entry_taken : (name : List ℕ) (id : MessageId) (queue : ℕ) (queues : List Contents) (consumers : List OpenConsumer) → AreMatched queues consumers
    → IsFlight name id queue (consumers_seen consumers) → is_taken (entries_in queue queues) (entry_at id None) ≡ true
its_entry_taken name id queue queues consumers are flight =
    let flies = is_in_flight (consumers_seen consumers) in
    let flown = is_flown name id queue (consumers_seen consumers) flight in
    taken_in_flight flies queue id (entries_in queue queues) (entries_marked flies queue queues are.marked)
    (ap (has_id id) (sym (ids_found queue queues)) ∙ are.whole.held queue id flown) flown

pub flown_ended : (name : List ℕ) (id : MessageId) (queue : ℕ) (queues : List Contents) (consumers : List OpenConsumer) → AreMatched queues consumers
    → IsFlight name id queue (consumers_seen consumers) → (other : ℕ) (message : MessageId)
    → is_in_flight (consumers_seen (changed_for name (without_delivery id) consumers)) other message ≡ (not (is_that queue id other message) && is_in_flight (consumers_seen consumers) other message)
flown_ended name id queue queues consumers are flight other message =
    let cs = consumers_seen consumers in
    ap (λ (changed : List Consumer). is_in_flight changed other message) (consumers_taken name id consumers)
    ∙ flies_without name id cs flight.one (are.whole.named name) flight.is flight.has (are.whole.once flight.one.queue id) other message
    ∙ ap (λ q. not (is_that q id other message) && is_in_flight cs other message) flight.from

pub seen_cancelled : (name : List ℕ) (id : MessageId) (queue : ℕ) (queues : List Contents) (consumers : List OpenConsumer)
    → seen (changed_at queue (marked false (entry_at id None)) queues) (changed_for name (without_delivery id) consumers) ≡ cancelled name id (seen queues consumers)
seen_cancelled name id queue queues consumers = ap₂ of_both (lines_marked queue false (entry_at id None) queues) (consumers_taken name id consumers)

pub matched_cancelled : (name : List ℕ) (id : MessageId) (queue : ℕ) (queues : List Contents) (consumers : List OpenConsumer) → AreMatched queues consumers
    → IsFlight name id queue (consumers_seen consumers)
    → AreMatched (changed_at queue (marked false (entry_at id None)) queues) (changed_for name (without_delivery id) consumers)
matched_cancelled name id queue queues consumers are flight =
    record {
      whole =
          subst IsWhole (sym (seen_cancelled name id queue queues consumers)) (whole_cancelled name id flight.one (seen queues consumers) flight.is flight.has are.whole);
      marked =
          marks_put_back (is_in_flight (consumers_seen consumers)) (is_in_flight (consumers_seen (changed_for name (without_delivery id) consumers))) queue id
          (flown_ended name id queue queues consumers are flight) queues are.marked;
      theirs = theirs_without name id consumers are.theirs;
    }

pub seen_acknowledged : (name : List ℕ) (id : MessageId) (queue : ℕ) (queues : List Contents) (consumers : List OpenConsumer) → AreMatched queues consumers
    → seen (changed_at queue (without_entry (entry_at id None)) queues) (changed_for name (without_delivery id) consumers) ≡ acknowledged name queue id (seen queues consumers)
seen_acknowledged name id queue queues consumers are =
    ap₂ of_both (lines_left (is_in_flight (consumers_seen consumers)) queue id queues are.marked) (consumers_taken name id consumers)

pub matched_acknowledged : (name : List ℕ) (id : MessageId) (queue : ℕ) (queues : List Contents) (consumers : List OpenConsumer) → AreMatched queues consumers
    → IsFlight name id queue (consumers_seen consumers)
    → AreMatched (changed_at queue (without_entry (entry_at id None)) queues) (changed_for name (without_delivery id) consumers)
matched_acknowledged name id queue queues consumers are flight =
    let whole = whole_acknowledged name id flight.one (seen queues consumers) flight.is flight.has are.whole in
    record {
      whole =
          subst IsWhole (sym (seen_acknowledged name id queue queues consumers are)) (subst (λ q. IsWhole (acknowledged name q id (seen queues consumers))) flight.from whole);
      marked =
          marks_left (is_in_flight (consumers_seen consumers)) (is_in_flight (consumers_seen (changed_for name (without_delivery id) consumers))) queue id
          (flown_ended name id queue queues consumers are flight) queues are.marked;
      theirs = theirs_without name id consumers are.theirs;
    }

-- ---- a consumer with nothing in flight is closed
pub seen_closed : (name : List ℕ) (queues : List Contents) (consumers : List OpenConsumer) → seen queues (without_open name consumers) ≡ closed name (seen queues consumers)
seen_closed name queues consumers = ap (of_both (lines_seen queues)) (consumers_left name consumers)

pub matched_closed : (name : List ℕ) (one : Consumer) (queues : List Contents) (consumers : List OpenConsumer) → AreMatched queues consumers
    → consumer_named (consumers_seen consumers) name ≡ Some one → one.in_flight ≡ [] → AreMatched queues (without_open name consumers)
matched_closed name one queues consumers are is none =
    let cs = consumers_seen consumers in
    record {
      whole = subst IsWhole (sym (seen_closed name queues consumers)) (whole_closed name one (seen queues consumers) is none are.whole);
      marked =
          all_carried (is_in_flight cs) (is_in_flight (consumers_seen (without_open name consumers)))
          (λ other id.
          ap (λ (changed : List Consumer). is_in_flight changed other id) (consumers_left name consumers) ∙ flies_closed name cs one (are.whole.named name) is none other id)
          queues are.marked;
      theirs = theirs_left name consumers are.theirs;
    }

pub matched_emptied : (name : List ℕ) (queues : List Contents) (consumers : List OpenConsumer) (d : Dispatch) → AreMatched queues consumers → seen queues consumers ≡ d
    → is_some (consumer_named d.consumers name) ≡ true → flights_to name d.consumers ≡ [] → AreMatched queues (without_open name consumers)
matched_emptied name queues consumers d are is open_is none = of_found (consumer_named (consumers_seen consumers) name) refl
  where
    among : is_some (consumer_named (consumers_seen consumers) name) ≡ true
    among = subst (λ (e : Dispatch). is_some (consumer_named e.consumers name) ≡ true) (sym is) open_is

    nothing : flights_to name (consumers_seen consumers) ≡ []
    nothing = subst (λ (e : Dispatch). flights_to name e.consumers ≡ []) (sym is) none

    of_found : (found : Option Consumer) → consumer_named (consumers_seen consumers) name ≡ found → AreMatched queues (without_open name consumers)
    of_found None absent = absurd (grind (arith, common_steps, absent, among))
    of_found (Some one) some =
        matched_closed name one queues consumers are some (ap (λ (c : Option Consumer). option_map_or (λ x. x.in_flight) c []) (sym some) ∙ nothing)
