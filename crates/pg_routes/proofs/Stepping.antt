-- From a valid state each line has a step.
use Rattle.std.proofs.Common.{◌≡◌, ◌≢◌, ◌≤◌, ◌-◌, ◌==◌, ◌⊎◌, ℕ, Bool, true, cond, List, [], ◌∷◌, ◌++◌, length, Option, Some, None, refl, sym, ap, subst, ◌∙◌, inl, inr, arith}
use Rattle.std.proofs.lemmas.Bool.{cases_Bool, cases_lt, both_ways, eq-eqb, false≢true}
use Rattle.std.proofs.lemmas.List.Elements.{All-contains}
use Rattle.std.specs.Prelude.{MatchOption, find, is_some, slice_get}
use Rattle.std.specs.List.{Contains, list_any}
use Rattle.std.specs.Str.{bytes_eq}
use Rattle.pg_msg.specs.declared.limits.TheConstants.{MOST_ADDRESSES, MOST_QUEUES, WEIGHT_LIMIT}
use Rattle.pg_msg.specs.declared.message.Message.{Message}
use Rattle.pg_msg.specs.declared.message.MessageId.{MessageId}
use Rattle.pg_msg.specs.declared.properties.Property.{Property}
use Rattle.pg_msg.specs.declared.reply.Refusal.{Refusal}
use Rattle.pg_msg.specs.declared.reply.Refusal.TheVariants as refusal
use Rattle.pg_msg.specs.declared.reply.Reply.{Reply}
use Rattle.pg_msg.specs.declared.reply.Reply.TheVariants as answer
use Rattle.pg_msg.specs.Messages.{weight_of}
use Rattle.pg_model.specs.Actions.{Action, MakeAddress, MakeQueue, DropQueue, Send, Open, Receive, Acknowledge, Cancel, Close, Count}
use Rattle.pg_model.specs.Broker.{Queue, Consumer, Broker, IsLive, IsValid, address_named, queue_named, queue_with, consumer_named, same_id}
use Rattle.pg_model.specs.Causes.{Cause, IsFirst}
use Rattle.pg_model.specs.Changes.{with_durable, with_consumers, with_queues, with_address, with_queue, without_queue, acknowledged, with_id, without_id, with_flights, without_consumer, next_id, message_of, with_message}
use Rattle.pg_model.specs.Refusals.{View, HasFlight, WouldPage, causes, unreadable}
use Rattle.pg_model.specs.Routing.{HasReading, HasTaker, IsRouted, queues_of, text_of}
use Rattle.pg_model.specs.Steps.{Sends, Gives, IsDone, Does, Acts, Takes, available}
use Rattle.pg_parse.proofs.FilterLaws.{filter_either}
use Rattle.pg_model.proofs.RoutingLaws.{goes_once, routed_somewhere}
use Rattle.pg_routes.specs.Laws.{IsDecided, IsDecidedFilter}
use Rattle.pg_routes.proofs.Members.{nothing_in, in_cases, in_found, is_matched}
use Rattle.pg_routes.proofs.Validity.{some_is, none_is}

-- it holds, or it doesn't
abbrev pub Either : Type 0 → Type 0
Either P = P ⊎ (P → ⊥)

abbrev pub AllEither : {Answer : Type 0} → List (Cause Answer) → Type 0
AllEither [] = Unit {0}
AllEither (cause ∷ others) = Either cause.holds × AllEither others

-- one of the causes is the first, or none holds
first_one : {Answer : Type 0} (causes : List (Cause Answer)) → AllEither causes → (o : Option Answer) × IsFirst causes o
first_one [] all = (None, refl)
first_one (cause ∷ others) all =
    let rest : (o : Option _) × IsFirst others o = first_one others all.1 in
    elim all.0 [
      | inl holds ↦ (Some (cause.tells holds), inl (holds, refl))
      | inr fails ↦ (rest.0, inr (fails, rest.1))
    ]

either_true : (b : Bool) → Either (b ≡ true)
either_true b = elim (cases_Bool b) [ inl is ↦ inl is | inr fails ↦ inr (λ is. both_ways b fails is) ]

either_not : {P : Type 0} → Either P → Either (P → ⊥)
either_not (inl holds) = inr (λ fails. fails holds)
either_not (inr fails) = inl fails

either_le : (a b : ℕ) → Either (a ≤ b)
either_le a b = elim (cases_lt b a) [ inl less ↦ inr (λ is. omega arith) | inr is ↦ inl is ]

either_filled : (xs : List ℕ) → Either (xs ≢ [])
either_filled [] = inr (λ filled. filled refl)
either_filled (x ∷ xs) = inl (λ is. cc)

same_some : {X : Type 0} (x y : X) → Some x ≡ Some y → x ≡ y
same_some x y is = cc

no_some : {X : Type 0} (x : X) → None ≡ Some x → ⊥
no_some x is = cc

either_some : {X : Type 0} (o : Option X) (P : X → Type 0) → ((x : X) → Either (P x)) → Either ((x : X) × (o ≡ Some x) × P x)
either_some None P each = inr (λ is. no_some is.0 is.1)
either_some (Some x) P each =
    elim (each x) [
      | inl holds ↦ inl (x, refl, holds)
      | inr fails ↦ inr (λ is. fails (subst P (same_some is.0 x (sym is.1)) is.2))
    ]

either_some_both : {X : Type 0} (o : Option X) (P Q : X → Type 0) → ((x : X) → Either (P x)) → ((x : X) → Either (Q x)) → Either ((x : X) × (o ≡ Some x) × P x × Q x)
either_some_both None P Q each other = inr (λ is. no_some is.0 is.1)
either_some_both (Some x) P Q each other =
    elim (each x) [
      | inl first ↦ elim (other x) [
        | inl second ↦ inl (x, refl, first, second)
        | inr fails ↦ inr (λ is. fails (subst Q (same_some is.0 x (sym is.1)) is.3))
      ]
      | inr fails ↦ inr (λ is. fails (subst P (same_some is.0 x (sym is.1)) is.2))
    ]

either_or : {P Q : Type 0} → Either P → Either Q → Either (P ⊎ Q)
either_or (inl first) other = inl (inl first)
either_or (inr fails) (inl second) = inl (inr second)
either_or {P} {Q} (inr fails) (inr fails_too) = inr none
  where
    none : P ⊎ Q → ⊥
    none (inl first) = fails first
    none (inr second) = fails_too second

either_in : (id : MessageId) (ids : List MessageId) → Either (Contains ids id)
either_in id ids = elim (cases_Bool (list_any (λ other. same_id other id) ids)) [ inl some ↦ inl (some_is id ids some) | inr none ↦ inr (none_is id ids none) ]

either_flight : (s : Broker) (consumer : List ℕ) (id : MessageId) → Either (HasFlight s consumer id)
either_flight s consumer id = either_some (consumer_named s.running.consumers consumer) (λ c. Contains c.in_flight id) (λ c. either_in id c.in_flight)

either_paged : (view : View) (s : Broker) (address : ℕ) → Either (WouldPage view s address)
either_paged view s address =
    either_or (either_true (view address).is_paging)
    (either_some (slice_get s.durable.addresses (address - 1)) (λ a. a.settings.max ≤ (view address).resident) (λ a. either_le a.settings.max (view address).resident))

-- whether a message has a queue to go to is told by the one list of those that it goes to
taker_by : (s : Broker) (address : ℕ) (properties : List Property) (ids : List ℕ) → IsRouted s address properties ids → Either (ids ≢ []) → Either (HasTaker s address properties)
taker_by s address properties ids routed (inl filled) = inl (ids, routed, filled)
taker_by s address properties ids routed (inr empty) =
    inr (λ taker. empty (subst (λ (others : List ℕ). others ≢ []) (goes_once properties (queues_of address s.durable.queues) taker.0 ids taker.1 routed) taker.2))

either_taker : (s : Broker) (address : ℕ) (properties : List Property) → IsValid s → Either (HasTaker s address properties)
either_taker s address properties valid =
    let routed : (ids : List ℕ) × IsRouted s address properties ids = routed_somewhere s address properties valid in
    taker_by s address properties routed.0 routed.1 (either_filled routed.0)

either_read : (filter : Option (List ℕ)) → IsDecidedFilter filter → AllEither (unreadable filter)
either_read None decided = tt
either_read (Some text) (inl reading) = (inr (λ bad. filter_either text reading.0 bad.0 reading.1 bad.1), tt)
either_read (Some text) (inr bad) = (inl bad, tt)

all_either : (view : View) (s : Broker) (action : Action) → IsValid s → IsDecided action → AllEither (causes view s action)
all_either view s (MakeAddress name settings) valid decided = (either_true _, (either_le MOST_ADDRESSES (length s.durable.addresses), tt))
all_either view s (MakeQueue name address filter) valid decided = (
  either_true _,
  (
    either_not (either_true _),
    (
      either_some (address_named s.durable.addresses address) (λ id. MOST_QUEUES ≤ length (queues_of id s.durable.queues)) (λ id. either_le MOST_QUEUES (length (queues_of id s.durable.queues))),
      either_read filter decided,
    ),
  ),
)
all_either view s (DropQueue name) valid decided =
    (either_not (either_true _), (either_some (queue_named s.durable.queues name) (λ q. list_any (λ (c : Consumer). c.queue == q.id) s.running.consumers ≡ true) (λ q. either_true _), tt))
all_either view s (Send address properties body) valid decided = (
  either_not (either_true _),
  (
    either_le WEIGHT_LIMIT (weight_of (message_of (next_id s) properties body)),
    (
      either_some_both (address_named s.durable.addresses address) (λ id. HasTaker s id properties) (λ id. s.ids ≤ s.running.drawn) (λ id. either_taker s id properties valid) (λ id. either_le s.ids s.running.drawn),
      (either_some_both (address_named s.durable.addresses address) (λ id. HasTaker s id properties) (λ id. WouldPage view s id) (λ id. either_taker s id properties valid) (λ id. either_paged view s id), tt),
    ),
  ),
)
all_either view s (Open name queue) valid decided = (either_true _, (either_not (either_true _), tt))
all_either view s (Receive consumer) valid decided = (either_not (either_true _), tt)
all_either view s (Acknowledge consumer id) valid decided = (either_not (either_true _), (either_not (either_flight s consumer id), tt))
all_either view s (Cancel consumer id) valid decided = (either_not (either_true _), (either_not (either_flight s consumer id), tt))
all_either view s (Close consumer) valid decided = (either_not (either_true _), tt)
all_either view s (Count queue) valid decided = (either_not (either_true _), tt)

-- ---- what isn't refused is done
there : {X : Type 0} (o : Option X) → ((is_some o ≡ true → ⊥) → ⊥) → (x : X) × (o ≡ Some x)
there None some = absurd (some (λ is. false≢true is))
there (Some x) some = (x, refl)

found_in : {X : Type 0} (p : X → Bool) (xs : List X) (x : X) → Contains xs x → p x ≡ true → is_some (find p xs) ≡ true
found_in p [] x within passes = absurd (nothing_in x within)
found_in p (y ∷ xs) x within passes =
    elim (cases_Bool (p y)) [
      | inl here ↦ subst (λ b. is_some (cond b (Some y) (find p xs)) ≡ true) (sym here) refl
      | inr other ↦ subst (λ b. is_some (cond b (Some y) (find p xs)) ≡ true) (sym other)
          (elim (in_cases x y xs within) [
            | inl is ↦ absurd (both_ways (p y) other (ap p is ∙ passes))
            | inr rest ↦ found_in p xs x rest passes
          ])
    ]

-- where each line leads
pub record Leads (Goes : Reply → Broker → Type 0) : Type 0 where
  pub reply : Reply
  pub state : Broker
  pub goes : Goes reply state

send_leads : (s : Broker) (numbers : List ℕ) (properties : List Property) (body : List ℕ) → Leads (Sends s numbers properties body)
send_leads s [] properties body = record { reply = answer.Unrouted; state = s; goes = (refl, refl) }
send_leads s (number ∷ numbers) properties body = record { reply = answer.Sent (next_id s); state = with_message s (number ∷ numbers) (message_of (next_id s) properties body); goes = (refl, refl) }

give_leads : (s : Broker) (consumer : List ℕ) (o : Option Message) → Leads (Gives s consumer o)
give_leads s consumer None = record { reply = answer.Empty; state = s; goes = (refl, refl) }
give_leads s consumer (Some m) = record { reply = answer.Given m; state = with_consumers s (with_flights consumer (with_id m.id) s.running.consumers); goes = (refl, refl) }

leads_on : {X : Type 0} (o : Option X) (Goes : X → Reply → Broker → Type 0) (x : X) → o ≡ Some x → Leads (Goes x) → Leads (λ reply t. MatchOption o ⊥ (λ x. Goes x reply t))
leads_on o Goes x is leads = record { reply = leads.reply; state = leads.state; goes = is_matched o (λ x. Goes x leads.reply leads.state) x is leads.goes }

next_cause : {A B X : Type 0} {x : X} → (A × (None ≡ Some x)) ⊎ ((A → ⊥) × B) → (A → ⊥) × B
next_cause (inl refused) = absurd (no_some _ refused.1)
next_cause (inr rest) = rest

-- what isn't refused for its filter has a reading
reading_of : (filter : Option (List ℕ)) → IsDecidedFilter filter → IsFirst (unreadable filter) None → HasReading filter
reading_of None decided first = tt
reading_of (Some text) (inl reading) first = reading
reading_of (Some text) (inr bad) (inl refused) = absurd (no_some (refusal.Filter refused.0.0) refused.1)
reading_of (Some text) (inr bad) (inr rest) = absurd (rest.0 bad)

does_lead : (view : View) (s : Broker) (action : Action) → IsValid s → IsDecided action → IsFirst (causes view s action) None → Leads (Does s action)
does_lead view s (MakeAddress name settings) valid decided first = record { reply = answer.Done; state = with_durable s (with_address s.durable name settings); goes = (refl, refl) }
does_lead view s (MakeQueue name address filter) valid decided first =
    let at : (id : ℕ) × (address_named s.durable.addresses address ≡ Some id) = there (address_named s.durable.addresses address) (next_cause (next_cause first).1).0 in
    let made : Leads (λ reply t. MatchOption (address_named s.durable.addresses address) ⊥ (λ id. IsDone reply t (with_durable s (with_queue s.durable name id (text_of filter))))) =
    leads_on (address_named s.durable.addresses address) (λ id reply t. IsDone reply t (with_durable s (with_queue s.durable name id (text_of filter)))) at.0 at.1
    (record { reply = answer.Done; state = with_durable s (with_queue s.durable name at.0 (text_of filter)); goes = (refl, refl) }) in
    let reading : HasReading filter = reading_of filter decided (next_cause (next_cause (next_cause first).1).1).1 in
    record { reply = made.reply; state = made.state; goes = (reading, made.goes) }
does_lead view s (DropQueue name) valid decided first =
    let at : (q : Queue) × (queue_named s.durable.queues name ≡ Some q) = there (queue_named s.durable.queues name) (next_cause first).0 in
    leads_on (queue_named s.durable.queues name) (λ q reply t. IsDone reply t (with_durable s (with_queues s.durable (without_queue q.id s.durable.queues)))) at.0 at.1
    (record { reply = answer.Done; state = with_durable s (with_queues s.durable (without_queue at.0.id s.durable.queues)); goes = (refl, refl) })
does_lead view s (Send address properties body) valid decided first =
    let at : (id : ℕ) × (address_named s.durable.addresses address ≡ Some id) = there (address_named s.durable.addresses address) (next_cause first).0 in
    let routed : (ids : List ℕ) × IsRouted s at.0 properties ids = routed_somewhere s at.0 properties valid in
    let sent : Leads (Sends s routed.0 properties body) = send_leads s routed.0 properties body in
    leads_on (address_named s.durable.addresses address) (λ id reply t. (numbers : List ℕ) × IsRouted s id properties numbers × Sends s numbers properties body reply t) at.0 at.1
    (record { reply = sent.reply; state = sent.state; goes = (routed.0, routed.1, sent.goes) })
does_lead view s (Open name queue) valid decided first =
    let at : (q : Queue) × (queue_named s.durable.queues queue ≡ Some q) = there (queue_named s.durable.queues queue) (next_cause (next_cause first).1).0 in
    leads_on (queue_named s.durable.queues queue) (λ q reply t. IsDone reply t (with_consumers s (s.running.consumers ++ (record { name = name; queue = q.id; in_flight = [] } ∷ [])))) at.0 at.1
    (record { reply = answer.Done; state = with_consumers s (s.running.consumers ++ (record { name = name; queue = at.0.id; in_flight = [] } ∷ [])); goes = (refl, refl) })
does_lead view s (Receive consumer) valid decided first =
    let at : (c : Consumer) × (consumer_named s.running.consumers consumer ≡ Some c) = there (consumer_named s.running.consumers consumer) (next_cause first).0 in
    let open_ : Contains s.running.consumers at.0 = (in_found (λ (c : Consumer). bytes_eq consumer c.name) s.running.consumers at.0 at.1).0 in
    let live : IsLive s.durable.queues at.0.queue = All-contains (λ (c : Consumer). IsLive s.durable.queues c.queue) s.running.consumers at.0 valid.live open_ in
    let is : is_some (queue_with s.durable.queues at.0.queue) ≡ true = found_in (λ (q : Queue). q.id == at.0.queue) s.durable.queues live.one live.live (eq-eqb live.one.id at.0.queue live.is_queue) in
    let of : (q : Queue) × (queue_with s.durable.queues at.0.queue ≡ Some q) = there (queue_with s.durable.queues at.0.queue) (λ none. none is) in
    leads_on (consumer_named s.running.consumers consumer) (λ c reply t. MatchOption (queue_with s.durable.queues c.queue) ⊥ (λ q. Gives s consumer (available s q) reply t)) at.0 at.1
    (leads_on (queue_with s.durable.queues at.0.queue) (λ q reply t. Gives s consumer (available s q) reply t) of.0 of.1 (give_leads s consumer (available s of.0)))
does_lead view s (Acknowledge consumer id) valid decided first =
    let at : (c : Consumer) × (consumer_named s.running.consumers consumer ≡ Some c) = there (consumer_named s.running.consumers consumer) (next_cause first).0 in
    leads_on (consumer_named s.running.consumers consumer)
    (λ c reply t. IsDone reply t (with_durable (with_consumers s (with_flights consumer (without_id id) s.running.consumers)) (with_queues s.durable (acknowledged c.queue id s.durable.queues)))) at.0 at.1
    (record { reply = answer.Done; state = with_durable (with_consumers s (with_flights consumer (without_id id) s.running.consumers)) (with_queues s.durable (acknowledged at.0.queue id s.durable.queues)); goes = (refl, refl) })
does_lead view s (Cancel consumer id) valid decided first = record { reply = answer.Done; state = with_consumers s (with_flights consumer (without_id id) s.running.consumers); goes = (refl, refl) }
does_lead view s (Close consumer) valid decided first = record { reply = answer.Done; state = with_consumers s (without_consumer consumer s.running.consumers); goes = (refl, refl) }
does_lead view s (Count queue) valid decided first =
    let at : (q : Queue) × (queue_named s.durable.queues queue ≡ Some q) = there (queue_named s.durable.queues queue) (next_cause first).0 in
    leads_on (queue_named s.durable.queues queue) (λ q reply t. (reply ≡ answer.Count (length q.messages)) × (t ≡ s)) at.0 at.1
    (record { reply = answer.Count (length at.0.messages); state = s; goes = (refl, refl) })

act_leads : (view : View) (s : Broker) (action : Action) (o : Option Refusal) → IsValid s → IsDecided action → IsFirst (causes view s action) o → Leads (Acts view s action)
act_leads view s action None valid decided first =
    let leads : Leads (Does s action) = does_lead view s action valid decided first in
    record { reply = leads.reply; state = leads.state; goes = record { refusal = None; first = first; answers = leads.goes } }
act_leads view s action (Some refused) valid decided first =
    record { reply = answer.No refused; state = s; goes = record { refusal = Some refused; first = first; answers = (refl, refl) } }

pub acts_lead : (view : View) (s : Broker) (action : Action) → IsValid s → IsDecided action → Leads (Acts view s action)
acts_lead view s action valid decided =
    let first : (o : Option Refusal) × IsFirst (causes view s action) o = first_one (causes view s action) (all_either view s action valid decided) in
    act_leads view s action first.0 valid decided first.1

pub takes_lead : (view : View) (s : Broker) (asked : Option Action) → IsValid s → ((action : Action) → asked ≡ Some action → IsDecided action) → Leads (Takes view s asked)
takes_lead view s None valid decided = record { reply = answer.No refusal.Line; state = s; goes = (refl, refl) }
takes_lead view s (Some action) valid decided = acts_lead view s action valid (decided action refl)
