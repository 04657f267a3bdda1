-- Parts that fit together behind a step that changes what stands in pages.
use Rattle.std.proofs.Common.{◌≡◌, ℕ, ◌==◌, ◌⊎◌, cond, Bool, true, false, not, List, refl, sym, ap, subst, ◌∙◌, inl, inr}
use Rattle.std.proofs.lemmas.Bool.{cond_both, eqb-true}
use Rattle.std.proofs.lemmas.List.Elements.{All-contains}
use Rattle.std.specs.Prelude.{Option, Some, None}
use Rattle.std.specs.List.{Contains}
use Rattle.std.specs.Str.{bytes_eq}
use Rattle.pg_msg.specs.declared.message.Message.{Message}
use Rattle.pg_msg.specs.declared.message.MessageId.{MessageId}
use Rattle.pg_msg.specs.declared.reply.Refusal.{Refusal}
use Rattle.pg_msg.specs.declared.reply.Reply.{Reply}
use Rattle.pg_msg.specs.declared.reply.Reply.TheVariants as answer
use Rattle.pg_model.specs.Actions.{DropQueue, Close}
use Rattle.pg_model.specs.Broker.{Queue, Consumer, Broker, HoldsMessage, IsValid, queue_named, queue_with, consumer_named, same_id}
use Rattle.pg_model.specs.Changes.{with_durable, with_queues, without_queue, with_id, without_id, without_consumer}
use Rattle.pg_model.specs.Refusals.{View}
use Rattle.pg_model.specs.Steps.{IsDone, Answers, Acts}
use Rattle.pg_joined.specs.Joined.{Ascends, HasMessage, IsSplit, PagedFlights, PagedMessages, joined, joined_consumer, joined_consumers}
use Rattle.pg_joined.proofs.Keeping.{Fits, held_apart, in_mapped, split_by}
use Rattle.pg_joined.proofs.Lists.{from_filtered, in_found, matched, nothing_in}
use Rattle.pg_joined.proofs.Parting.{held_by, named, not_held_and_paged, open_by_name, paged_by}
use Rattle.pg_model.specs.Changes.{without_message}
use Rattle.pg_joined.specs.Joined.{nothing, paged_available, is_in_paged_flight, with_drawn, with_flights_at, with_messages_at, with_paged}
use Rattle.pg_joined.proofs.KeptSteps.{by_consumers, in_put, one_named}

-- ---- what stands in pages becomes less
less_flights : (flying : PagedFlights) (name : List ℕ) (change : List MessageId → List MessageId) → ((ids : List MessageId) (id : MessageId) → Contains (change ids) id → Contains ids id)
    → (other : List ℕ) (id : MessageId) → Contains (with_flights_at name change flying other) id → Contains (flying other) id
less_flights flying name change fewer other id =
    cond_both (bytes_eq name other) (change (flying other)) (flying other) (λ ids. Contains ids id → Contains (flying other) id) (λ _ its. fewer (flying other) id its) (λ _ its. its)

less_messages : (paged : PagedMessages) (queue : ℕ) (change : List Message → List Message) → ((messages : List Message) (m : Message) → Contains (change messages) m → Contains messages m)
    → (other : ℕ) (id : MessageId) → HasMessage (with_messages_at queue change paged other) id → HasMessage (paged other) id
less_messages paged queue change fewer other id =
    cond_both (other == queue) (change (paged other)) (paged other) (λ messages. HasMessage messages id → HasMessage (paged other) id) (λ _ has. (has.0, fewer (paged other) has.0 has.1, has.2)) (λ _ has. has)

none_of : {X : Type 0} (xs : List X) (x : X) → Contains (nothing xs) x → Contains xs x
none_of xs x its = absurd (nothing_in x its)

ids_left : (id : MessageId) (ids : List MessageId) (other : MessageId) → Contains (without_id id ids) other → Contains ids other
ids_left id ids other its = (from_filtered (λ other. not (same_id other id)) ids other its).0

messages_left : (id : MessageId) (messages : List Message) (m : Message) → Contains (without_message id messages) m → Contains messages m
messages_left id messages m its = (from_filtered (λ (m : Message). not (same_id m.id id)) messages m its).0

-- where the broker holds no more than before, and in pages there is no more
fits_within : (paged more : PagedMessages) (flying also : PagedFlights) (s t : Broker) → IsSplit more also s → ((queue : ℕ) (id : MessageId) → HasMessage (paged queue) id → HasMessage (more queue) id)
    → ((name : List ℕ) (id : MessageId) → Contains (flying name) id → Contains (also name) id) → ((queue : ℕ) (id : MessageId) → HoldsMessage t.durable.queues queue id → HoldsMessage s.durable.queues queue id)
    → (c : Consumer) → Contains s.running.consumers c → Fits paged flying t c
fits_within paged more flying also s t split messages ids held c there = record {
  ascends = All-contains (λ (c : Consumer). Ascends c.in_flight) s.running.consumers c split.ascending there;
  out_of_pages = λ id its has. not_held_and_paged more also s split c.queue id (held_by more also s split c there id its) (messages c.queue id has);
  out_of_broker = λ id its holds. not_held_and_paged more also s split c.queue id (held c.queue id holds) (paged_by more also s split c there id (ids c.name id its));
}

pub cancel_kept : (s : Broker) (paged : PagedMessages) (flying : PagedFlights) (name : List ℕ) (id : MessageId) → IsSplit paged flying s
    → IsValid (joined paged (with_flights_at name (without_id id) flying) s) → IsSplit paged (with_flights_at name (without_id id) flying) s
cancel_kept s paged flying name id split valid =
    split_by paged (with_flights_at name (without_id id) flying) s valid
    (fits_within paged paged (with_flights_at name (without_id id) flying) flying s s split (λ queue other has. has) (less_flights flying name (without_id id) (ids_left id)) (λ queue other holds. holds))

pub acknowledge_kept : (s : Broker) (paged : PagedMessages) (flying : PagedFlights) (name : List ℕ) (id : MessageId) (queue : ℕ) → IsSplit paged flying s
    → IsValid (joined (with_messages_at queue (without_message id) paged) (with_flights_at name (without_id id) flying) s)
    → IsSplit (with_messages_at queue (without_message id) paged) (with_flights_at name (without_id id) flying) s
acknowledge_kept s paged flying name id queue split valid =
    split_by (with_messages_at queue (without_message id) paged) (with_flights_at name (without_id id) flying) s valid
    (fits_within (with_messages_at queue (without_message id) paged) paged (with_flights_at name (without_id id) flying) flying s s split
    (less_messages paged queue (without_message id) (messages_left id)) (less_flights flying name (without_id id) (ids_left id)) (λ queue other holds. holds))

pub drop_queue_kept : (view : View) (s t : Broker) (paged : PagedMessages) (flying : PagedFlights) (name : List ℕ) (q : Queue) → IsSplit paged flying s
    → IsValid (joined (with_messages_at q.id nothing paged) flying t) → queue_named s.durable.queues name ≡ Some q → Acts view s (DropQueue name) answer.Done t
    → IsSplit (with_messages_at q.id nothing paged) flying t
drop_queue_kept view s t paged flying name q split valid found acts = dropped acts.refusal acts.answers
  where
    by_parts : t.running.consumers ≡ s.running.consumers → ((queue : ℕ) (id : MessageId) → HoldsMessage t.durable.queues queue id → HoldsMessage s.durable.queues queue id)
        → IsSplit (with_messages_at q.id nothing paged) flying t
    by_parts is held =
        by_consumers (with_messages_at q.id nothing paged) flying t s.running.consumers valid is
        (fits_within (with_messages_at q.id nothing paged) paged flying flying s t split (less_messages paged q.id nothing none_of) (λ name id its. its) held)

    dropped : (o : Option Refusal) → Answers s (DropQueue name) o answer.Done t → IsSplit (with_messages_at q.id nothing paged) flying t
    dropped (Some refusal) answers = let is : answer.Done ≡ answer.No refusal = answers.0 in absurd (cc)
    dropped None answers =
        let at = matched (queue_named s.durable.queues name) (λ q. IsDone answer.Done t (with_durable s (with_queues s.durable (without_queue q.id s.durable.queues)))) answers in
        by_parts (ap (λ (t : Broker). t.running.consumers) at.2.1)
        (λ queue id holds.
        let h : HoldsMessage (without_queue at.0.id s.durable.queues) queue id = subst (λ (t : Broker). HoldsMessage t.durable.queues queue id) at.2.1 holds in
        record { holder = h.holder; live = (from_filtered (λ (q : Queue). not (q.id == at.0.id)) s.durable.queues h.holder h.live).0; is_queue = h.is_queue; message = h.message; held = h.held; is_message = h.is_message })

pub close_kept : (view : View) (s t : Broker) (paged : PagedMessages) (flying : PagedFlights) (reply : Reply) (consumer : List ℕ) → IsSplit paged flying s
    → IsValid (joined paged (with_flights_at consumer nothing flying) t) → Acts view s (Close consumer) reply t → IsSplit paged (with_flights_at consumer nothing flying) t
close_kept view s t paged flying reply consumer split valid acts = closed acts.refusal acts.answers
  where
    fits : t.durable.queues ≡ s.durable.queues → (c : Consumer) → Contains s.running.consumers c → Fits paged (with_flights_at consumer nothing flying) t c
    fits is =
        fits_within paged paged (with_flights_at consumer nothing flying) flying s t split (λ queue id has. has) (less_flights flying consumer nothing none_of)
        (λ queue id holds. subst (λ queues. HoldsMessage queues queue id) is holds)

    closed : (o : Option Refusal) → Answers s (Close consumer) o reply t → IsSplit paged (with_flights_at consumer nothing flying) t
    closed (Some refusal) answers =
        by_consumers paged (with_flights_at consumer nothing flying) t s.running.consumers valid (ap (λ (t : Broker). t.running.consumers) answers.1) (fits (ap (λ (t : Broker). t.durable.queues) answers.1))
    closed None answers =
        by_consumers paged (with_flights_at consumer nothing flying) t (without_consumer consumer s.running.consumers) valid (ap (λ (t : Broker). t.running.consumers) answers.1)
        (λ c there. fits (ap (λ (t : Broker). t.durable.queues) answers.1) c (from_filtered (λ (c : Consumer). not (bytes_eq consumer c.name)) s.running.consumers c there).0)

-- ---- what stands in pages becomes more
pub send_kept : (s : Broker) (paged : PagedMessages) (flying : PagedFlights) (numbers : List ℕ) (m : Message) → IsSplit paged flying s
    → IsValid (joined (with_paged numbers m paged) flying (with_drawn s)) → IsSplit (with_paged numbers m paged) flying (with_drawn s)
send_kept s paged flying numbers m split valid =
    split_by (with_paged numbers m paged) flying (with_drawn s) valid
    (λ c there. record {
      ascends = All-contains (λ (c : Consumer). Ascends c.in_flight) s.running.consumers c split.ascending there;
      out_of_pages = λ id its has. held_apart (with_paged numbers m paged) flying (with_drawn s) valid c.queue id (held_by paged flying s split c there id its) has;
      out_of_broker = λ id its holds. not_held_and_paged paged flying s split c.queue id holds (paged_by paged flying s split c there id its);
    })

pub receive_kept : (s : Broker) (paged : PagedMessages) (flying : PagedFlights) (name : List ℕ) (c : Consumer) (q : Queue) (m : Message) → IsSplit paged flying s
    → IsValid (joined paged (with_flights_at name (with_id m.id) flying) s) → consumer_named s.running.consumers name ≡ Some c → queue_with s.durable.queues c.queue ≡ Some q
    → paged_available paged flying s q ≡ Some m → IsSplit paged (with_flights_at name (with_id m.id) flying) s
receive_kept s paged flying name c q m split valid found of first =
    split_by paged more s valid
    (λ d there. record {
      ascends = All-contains (λ (c : Consumer). Ascends c.in_flight) s.running.consumers d split.ascending there;
      out_of_pages = λ id its. not_held_and_paged paged flying s split d.queue id (held_by paged flying s split d there id its);
      out_of_broker = λ id its holds. not_held_and_paged paged flying s split d.queue id holds (in_page d there id (bytes_eq name d.name) refl its);
    })
  where
    more : PagedFlights
    more = with_flights_at name (with_id m.id) flying

    live : Contains s.durable.queues q × (q.id == c.queue ≡ true)
    live = in_found (λ (q : Queue). q.id == c.queue) s.durable.queues q of

    there_is : Contains (paged q.id) m
    there_is = (in_found (λ (m : Message). not (is_in_paged_flight flying s.running.consumers q.id m.id)) (paged q.id) m first).0

    here : (d : Consumer) → Contains s.running.consumers d → bytes_eq name d.name ≡ true → q.id ≡ d.queue
    here d there is =
        let at = open_by_name s.running.consumers name c found in
        let same : joined_consumer more c ≡ joined_consumer more d =
        one_named (joined_consumers more s.running.consumers) (joined_consumer more c) (joined_consumer more d) valid.consumers
        (in_mapped (joined_consumer more) s.running.consumers c at.0) (in_mapped (joined_consumer more) s.running.consumers d there) (sym at.1 ∙ named name d.name is) in
        eqb-true q.id c.queue live.1 ∙ ap (λ (c : Consumer). c.queue) same

    put : (d : Consumer) → Contains s.running.consumers d → bytes_eq name d.name ≡ true → (id : MessageId) → (m.id ≡ id) ⊎ Contains (flying d.name) id → HasMessage (paged d.queue) id
    put d there is id (inl it) = subst (λ queue. HasMessage (paged queue) id) (here d there is) (m, there_is, it)
    put d there is id (inr its) = paged_by paged flying s split d there id its

    in_page : (d : Consumer) → Contains s.running.consumers d → (id : MessageId) → (b : Bool) → bytes_eq name d.name ≡ b → Contains (cond b (with_id m.id (flying d.name)) (flying d.name)) id → HasMessage (paged d.queue) id
    in_page d there id true is its = put d there is id (in_put m.id id (flying d.name) its)
    in_page d there id false is its = paged_by paged flying s split d there id its
