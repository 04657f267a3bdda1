-- Steps of the broker alone with its consumers, as steps of the whole.
use Rattle.std.proofs.Common.{◌≡◌, ◌≢◌, ℕ, ◌==◌, ◌||◌, Bool, true, false, List, [], ◌∷◌, ◌++◌, refl, sym, ap, ap₂, subst, ◌∙◌, inl, inr}
use Rattle.std.proofs.lemmas.Bool.{cases_Bool, eqb-true, false≢true}
use Rattle.std.specs.Prelude.{Option, Some, None, is_some, MatchOption}
use Rattle.std.specs.Option.{option_map, option_or}
use Rattle.std.specs.List.{Contains}
use Rattle.std.specs.Str.{bytes_eq}
use Rattle.pg_msg.specs.declared.message.Message.{Message}
use Rattle.pg_msg.specs.declared.message.MessageId.{MessageId}
use Rattle.pg_msg.specs.declared.reply.Refusal.{Refusal}
use Rattle.pg_msg.specs.declared.reply.Refusal.TheVariants as refusal
use Rattle.pg_msg.specs.declared.reply.Reply.{Reply}
use Rattle.pg_msg.specs.declared.reply.Reply.TheVariants as answer
use Rattle.pg_model.specs.Actions.{Open, Receive, Acknowledge, Cancel, Close}
use Rattle.pg_model.specs.Broker.{Queue, Consumer, Broker, queue_named, queue_with, consumer_named, same_id}
use Rattle.pg_model.specs.Causes.{IsFirst}
use Rattle.pg_model.specs.Changes.{with_durable, with_consumers, with_queues, acknowledged, with_id, without_id, with_flights}
use Rattle.pg_model.specs.Refusals.{View, HasConsumer, HasFlight, causes}
use Rattle.pg_model.specs.Steps.{Gives, IsDone, Does, Answers, Acts, available}
use Rattle.pg_joined.specs.Joined.{HasMessage, IsNotInPages, IsSplit, PagedFlights, PagedMessages, joined, joined_consumer, joined_consumers, joined_queue, joined_queues, merged, nothing, paged_available, with_flights_at}
use Rattle.pg_joined.proofs.Causing.{consumer_found, first_alike, has_consumer, queue_found, AreAlike}
use Rattle.pg_joined.proofs.Consumers.{broker_changed, closed, first_available, opened, others_alone}
use Rattle.pg_joined.proofs.Ids.{contains_it, has_id, has_it, has_merged, merged_put, one_id, taken_behind}
use Rattle.pg_joined.proofs.Lists.{found_mapped, from_mapped, in_found, is_matched, matched, not_found}
use Rattle.pg_joined.proofs.Parting.{flight_held, flight_not_in_pages, in_order, named, not_held_and_paged, open_by_name}
use Rattle.pg_joined.proofs.Queues.{gone_from_broker}
use Rattle.pg_joined.proofs.Lifting.{lifted, lifted_same, rebuilt}

-- ---- a consumer comes or goes
pub open_consumer : (view : View) (s t : Broker) (paged : PagedMessages) (flights : PagedFlights) (reply : Reply) (name queue : List ℕ)
    → (reply ≡ answer.Done → flights name ≡ []) → Acts view s (Open name queue) reply t
    → Acts view (joined paged flights s) (Open name queue) reply (joined paged flights t)
open_consumer view s t paged flights reply name queue none acts = lifted_same view s t paged flights (Open name queue) reply tt lift acts
  where
    lift : Does s (Open name queue) reply t → Does (joined paged flights s) (Open name queue) reply (joined paged flights t)
    lift does =
        let at = matched (queue_named s.durable.queues queue) (λ q. IsDone reply t (with_consumers s (s.running.consumers ++ (record { name = name; queue = q.id; in_flight = [] } ∷ [])))) does in
        is_matched (queue_named (joined_queues paged s.durable.queues) queue)
        (λ q. IsDone reply (joined paged flights t) (with_consumers (joined paged flights s) (joined_consumers flights s.running.consumers ++ (record { name = name; queue = q.id; in_flight = [] } ∷ []))))
        (joined_queue paged at.0) (queue_found paged s.durable.queues queue ∙ ap (option_map (joined_queue paged)) at.1) (
          at.2.0,
          ap (joined paged flights) at.2.1
              ∙ ap (rebuilt s (joined_queues paged s.durable.queues)) (opened flights name at.0.id s.running.consumers (none at.2.0)),
        )

pub close : (view : View) (s t : Broker) (paged : PagedMessages) (flights : PagedFlights) (reply : Reply) (consumer : List ℕ)
    → Acts view s (Close consumer) reply t → Acts view (joined paged flights s) (Close consumer) reply (joined paged (with_flights_at consumer nothing flights) t)
close view s t paged flights reply consumer acts =
    lifted view s t (joined paged (with_flights_at consumer nothing flights) t) paged flights (Close consumer) reply tt
    (λ does. (does.0, ap (joined paged (with_flights_at consumer nothing flights)) does.1 ∙ ap (rebuilt s (joined_queues paged s.durable.queues)) (closed flights consumer s.running.consumers)))
    (λ refused is first same. ap (joined paged (with_flights_at consumer nothing flights)) same ∙ ap (rebuilt s (joined_queues paged s.durable.queues)) (others_alone flights consumer nothing s.running.consumers (nobody refused first)))
    acts
  where
    nobody : (refused : Refusal) → IsFirst (causes view s (Close consumer)) (Some refused) → (c : Consumer) → Contains s.running.consumers c → bytes_eq consumer c.name ≡ false
    nobody refused (inl none) = not_found (λ (c : Consumer). bytes_eq consumer c.name) s.running.consumers none.0
    nobody refused (inr rest) = let is : Some refused ≡ None = rest.1 in absurd (cc)

-- ---- a consumer gets a message
pub receive : (view : View) (s t : Broker) (paged : PagedMessages) (flights : PagedFlights) (reply : Reply) (consumer : List ℕ)
    → IsSplit paged flights s → reply ≢ answer.Empty → Acts view s (Receive consumer) reply t
    → Acts view (joined paged flights s) (Receive consumer) reply (joined paged flights t)
receive view s t paged flights reply consumer split some acts = lifted_same view s t paged flights (Receive consumer) reply tt lift acts
  where
    gives : (here behind : Option Message) → Gives s consumer here reply t → Gives (joined paged flights s) consumer (option_or here behind) reply (joined paged flights t)
    gives None behind given = absurd (some given.0)
    gives (Some m) behind given = (
      given.0,
      ap (joined paged flights) given.1
          ∙ ap (rebuilt s (joined_queues paged s.durable.queues))
          (broker_changed flights consumer (with_id m.id) s.running.consumers (λ c there is. sym (merged_put m.id (flights c.name) c.in_flight))),
    )

    lift : Does s (Receive consumer) reply t → Does (joined paged flights s) (Receive consumer) reply (joined paged flights t)
    lift does =
        let at = matched (consumer_named s.running.consumers consumer) (λ c. MatchOption (queue_with s.durable.queues c.queue) ⊥ (λ q. Gives s consumer (available s q) reply t)) does in
        let of = matched (queue_with s.durable.queues at.0.queue) (λ q. Gives s consumer (available s q) reply t) at.2 in
        let live = (in_found (λ (q : Queue). q.id == at.0.queue) s.durable.queues of.0 of.1).0 in
        is_matched (consumer_named (joined_consumers flights s.running.consumers) consumer)
        (λ c. MatchOption (queue_with (joined_queues paged s.durable.queues) c.queue) ⊥ (λ q. Gives (joined paged flights s) consumer (available (joined paged flights s) q) reply (joined paged flights t)))
        (joined_consumer flights at.0) (consumer_found flights s.running.consumers consumer ∙ ap (option_map (joined_consumer flights)) at.1)
        (is_matched (queue_with (joined_queues paged s.durable.queues) at.0.queue)
        (λ q. Gives (joined paged flights s) consumer (available (joined paged flights s) q) reply (joined paged flights t))
        (joined_queue paged of.0) (found_mapped (λ (q : Queue). q.id == at.0.queue) (joined_queue paged) (λ q. refl) s.durable.queues ∙ ap (option_map (joined_queue paged)) of.1)
        (subst (λ o. Gives (joined paged flights s) consumer o reply (joined paged flights t)) (sym (first_available paged flights s split of.0 live))
        (gives (available s of.0) (paged_available paged flights s of.0) of.2)))

-- ---- a consumer gives a message up
flight_to : (s : Broker) (paged : PagedMessages) (flights : PagedFlights) (name : List ℕ) (id : MessageId) → HasFlight s name id → HasFlight (joined paged flights s) name id
flight_to s paged flights name id has = (
  joined_consumer flights has.0,
  consumer_found flights s.running.consumers name ∙ ap (option_map (joined_consumer flights)) has.1,
  contains_it id (merged (flights has.0.name) has.0.in_flight)
      (has_merged id (flights has.0.name) has.0.in_flight ∙ later (has_id id (flights has.0.name)) (has_it id has.0.in_flight has.2)),
)
  where
    later : (b : Bool) → has_id id has.0.in_flight ≡ true → (b || has_id id has.0.in_flight) ≡ true
    later true its = refl
    later false its = its

flight_from : (s : Broker) (paged : PagedMessages) (flights : PagedFlights) (name : List ℕ) (id : MessageId) → (HasConsumer s name → has_id id (flights name) ≡ false)
    → HasFlight (joined paged flights s) name id → HasFlight s name id
flight_from s paged flights name id lacks has =
    let at : (c : Consumer) × (consumer_named s.running.consumers name ≡ Some c) × (joined_consumer flights c ≡ has.0) =
    from_mapped (joined_consumer flights) (consumer_named s.running.consumers name) has.0 (sym (consumer_found flights s.running.consumers name) ∙ has.1) in
    let here = open_by_name s.running.consumers name at.0 at.1 in
    let its : Contains (merged (flights at.0.name) at.0.in_flight) id = subst (λ (c : Consumer). Contains c.in_flight id) (sym at.2) has.2 in
    let none : has_id id (flights at.0.name) ≡ false = ap (λ other. has_id id (flights other)) (sym here.1) ∙ lacks (ap is_some at.1) in
    let left : has_id id at.0.in_flight ≡ true = ap (λ b. b || has_id id at.0.in_flight) (sym none) ∙ (sym (has_merged id (flights at.0.name) at.0.in_flight) ∙ has_it id (merged (flights at.0.name) at.0.in_flight) its) in
    (at.0, at.1, contains_it id at.0.in_flight left)

lacking : (s : Broker) (paged : PagedMessages) (flights : PagedFlights) (name : List ℕ) (id : MessageId) → IsSplit paged flights s → IsNotInPages flights s name id
    → HasConsumer s name → has_id id (flights name) ≡ false
lacking s paged flights name id split aside open_ =
    elim (cases_Bool (has_id id (flights name))) [
      | inl has ↦ absurd (never aside (contains_it id (flights name) has))
      | inr lacks ↦ lacks
    ]
  where
    never : IsNotInPages flights s name id → Contains (flights name) id → ⊥
    never (inl closed) there = closed open_
    never (inr (inl flight)) there = flight_not_in_pages paged flights s split name id flight there
    never (inr (inr none)) there = none there

alike : (view : View) (s : Broker) (paged : PagedMessages) (flights : PagedFlights) (name : List ℕ) (id : MessageId) → IsSplit paged flights s → IsNotInPages flights s name id
    → AreAlike (causes view s (Cancel name id)) (causes view (joined paged flights s) (Cancel name id))
alike view s paged flights name id split aside = (
  (λ none held. none (sym (has_consumer paged flights s name) ∙ held)),
  (λ none held. none (has_consumer paged flights s name ∙ held)),
  (λ held. refl),
  (λ held. refl),
  (
    (λ none held. none (flight_from s paged flights name id (lacking s paged flights name id split aside) held)),
    (λ none held. none (flight_to s paged flights name id held)),
    (λ held. refl),
    (λ held. refl),
    tt,
  ),
)

-- what isn't refused: a consumer is open
flying_consumer : (view : View) (s : Broker) (name : List ℕ) (id : MessageId) → IsFirst (causes view s (Cancel name id)) None → ((HasConsumer s name → ⊥) → ⊥) × ((HasFlight s name id → ⊥) → ⊥)
flying_consumer view s name id (inl refused) = let is : None ≡ Some refusal.Consumer = refused.1 in absurd (cc)
flying_consumer view s name id (inr (no_consumer, inl refused)) = let is : None ≡ Some refusal.Delivery = refused.1 in absurd (cc)
flying_consumer view s name id (inr (some_consumer, inr rest)) = (some_consumer, rest.0)

is_there : (o : Option Consumer) → ((is_some o ≡ true → ⊥) → ⊥) → is_some o ≡ true
is_there None some = absurd (some (λ is. false≢true is))
is_there (Some c) some = refl

-- the consumers without the message
consumers_without : (s : Broker) (paged : PagedMessages) (flights : PagedFlights) (name : List ℕ) (id : MessageId) → IsSplit paged flights s → has_id id (flights name) ≡ false
    → joined_consumers flights (with_flights name (without_id id) s.running.consumers) ≡ with_flights name (without_id id) (joined_consumers flights s.running.consumers)
consumers_without s paged flights name id split lacks =
    broker_changed flights name (without_id id) s.running.consumers
    (λ c there is. taken_behind id (flights c.name) c.in_flight (ap (λ other. has_id id (flights other)) (sym (named name c.name is)) ∙ lacks) (in_order paged flights s split c there))

pub cancel : (view : View) (s t : Broker) (paged : PagedMessages) (flights : PagedFlights) (reply : Reply) (consumer : List ℕ) (id : MessageId)
    → IsSplit paged flights s → IsNotInPages flights s consumer id → Acts view s (Cancel consumer id) reply t
    → Acts view (joined paged flights s) (Cancel consumer id) reply (joined paged flights t)
cancel view s t paged flights reply consumer id split aside acts = record {
  refusal = acts.refusal;
  first = first_alike (causes view s (Cancel consumer id)) (causes view (joined paged flights s) (Cancel consumer id)) acts.refusal (alike view s paged flights consumer id split aside) acts.first;
  answers = each acts.refusal acts.first acts.answers;
}
  where
    each : (o : Option Refusal) → IsFirst (causes view s (Cancel consumer id)) o → Answers s (Cancel consumer id) o reply t
        → Answers (joined paged flights s) (Cancel consumer id) o reply (joined paged flights t)
    each (Some refused) first answers = (answers.0, ap (joined paged flights) answers.1)
    each None first answers =
        let open_ = is_there (consumer_named s.running.consumers consumer) (flying_consumer view s consumer id first).0 in (
          answers.0,
          ap (joined paged flights) answers.1
              ∙ ap (rebuilt s (joined_queues paged s.durable.queues)) (consumers_without s paged flights consumer id split (lacking s paged flights consumer id split aside open_)),
        )

pub acknowledge : (view : View) (s t : Broker) (paged : PagedMessages) (flights : PagedFlights) (reply : Reply) (consumer : List ℕ) (id : MessageId)
    → IsSplit paged flights s → IsNotInPages flights s consumer id → Acts view s (Acknowledge consumer id) reply t
    → Acts view (joined paged flights s) (Acknowledge consumer id) reply (joined paged flights t)
acknowledge view s t paged flights reply consumer id split aside acts = record {
  refusal = acts.refusal;
  first = first_alike (causes view s (Acknowledge consumer id)) (causes view (joined paged flights s) (Acknowledge consumer id)) acts.refusal (alike view s paged flights consumer id split aside) acts.first;
  answers = each acts.refusal acts.first acts.answers;
}
  where
    apart : ((HasFlight s consumer id → ⊥) → ⊥) → (c : Consumer) → consumer_named s.running.consumers consumer ≡ Some c
        → (q : Queue) → q.id == c.queue ≡ true → (m : Message) → Contains (paged q.id) m → same_id m.id id ≡ false
    apart flying c found q is m its =
        elim (cases_Bool (same_id m.id id)) [
          | inl same ↦ absurd (flying (λ has. not_held_and_paged paged flights s split c.queue id (flight_held paged flights s split consumer id has c found)
              (subst (λ queue. HasMessage (paged queue) id) (eqb-true q.id c.queue is) (m, its, one_id m.id id same))))
          | inr differs ↦ differs
        ]

    each : (o : Option Refusal) → IsFirst (causes view s (Acknowledge consumer id)) o → Answers s (Acknowledge consumer id) o reply t
        → Answers (joined paged flights s) (Acknowledge consumer id) o reply (joined paged flights t)
    each (Some refused) first answers = (answers.0, ap (joined paged flights) answers.1)
    each None first answers =
        let known = flying_consumer view s consumer id first in
        let open_ = is_there (consumer_named s.running.consumers consumer) known.0 in
        let at = matched (consumer_named s.running.consumers consumer)
        (λ c. IsDone reply t (with_durable (with_consumers s (with_flights consumer (without_id id) s.running.consumers)) (with_queues s.durable (acknowledged c.queue id s.durable.queues)))) answers in
        is_matched (consumer_named (joined_consumers flights s.running.consumers) consumer)
        (λ c. IsDone reply (joined paged flights t)
        (with_durable (with_consumers (joined paged flights s) (with_flights consumer (without_id id) (joined_consumers flights s.running.consumers))) (with_queues s.durable (acknowledged c.queue id (joined_queues paged s.durable.queues)))))
        (joined_consumer flights at.0) (consumer_found flights s.running.consumers consumer ∙ ap (option_map (joined_consumer flights)) at.1) (
          at.2.0,
          ap (joined paged flights) at.2.1
              ∙ ap₂ (rebuilt s) (gone_from_broker paged at.0.queue id s.durable.queues (λ q there is m its. apart known.1 at.0 at.1 q is m its))
              (consumers_without s paged flights consumer id split (lacking s paged flights consumer id split aside open_)),
        )
