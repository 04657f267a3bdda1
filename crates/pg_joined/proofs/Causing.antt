-- What an action is refused for, in the whole and in the broker alone.
use Rattle.std.proofs.Common.{◌≡◌, ◌≤◌, ◌==◌, ℕ, true, List, [], ◌∷◌, length, refl, sym, ap, subst, ◌∙◌, inl, inr}
use Rattle.std.proofs.lemmas.List.{length-map}
use Rattle.std.specs.Prelude.{Option, Some, is_some}
use Rattle.std.specs.Option.{option_map}
use Rattle.std.specs.List.{list_any}
use Rattle.std.specs.Str.{bytes_eq}
use Rattle.pg_msg.specs.declared.limits.TheConstants.{MOST_QUEUES}
use Rattle.pg_msg.specs.declared.properties.Property.{Property}
use Rattle.pg_msg.specs.declared.reply.Refusal.{Refusal}
use Rattle.pg_model.specs.Actions.{Action, MakeAddress, MakeQueue, DropQueue, Send, Open, Receive, Acknowledge, Cancel, Close, Count}
use Rattle.pg_model.specs.Broker.{Queue, Consumer, Broker, queue_named, consumer_named}
use Rattle.pg_model.specs.Causes.{Cause, IsFirst}
use Rattle.pg_model.specs.Refusals.{View, HasMostQueues, IsConsumed, causes, unreadable}
use Rattle.pg_model.specs.Routing.{GoesTo, HasTaker, IsRouted, queues_of}
use Rattle.pg_joined.specs.Joined.{AsksNoFlight, PagedFlights, PagedMessages, joined, joined_consumer, joined_consumers, joined_queue, joined_queues}
use Rattle.pg_joined.proofs.Lists.{any_mapped, filter_mapped, found_mapped, from_mapped, some_mapped}

-- ---- causes that hold alike and have the same answers
abbrev pub AreAlike : List (Cause Refusal) → List (Cause Refusal) → Type 0
AreAlike [] [] = Unit {0}
AreAlike (a ∷ causes) (b ∷ others) =
    (to : a.holds → b.holds) × (from : b.holds → a.holds) × ((held : a.holds) → a.tells held ≡ b.tells (to held))
    × ((held : b.holds) → b.tells held ≡ a.tells (from held)) × AreAlike causes others
AreAlike _ _ = ⊥

pub first_alike : (causes others : List (Cause Refusal)) (o : Option Refusal) → AreAlike causes others → IsFirst causes o → IsFirst others o
first_alike [] [] o alike first = first
first_alike (a ∷ causes) (b ∷ others) o alike (inl held) = inl (alike.0 held.0, held.1 ∙ ap Some (alike.2 held.0))
first_alike (a ∷ causes) (b ∷ others) o alike (inr rest) = inr ((λ held. rest.0 (alike.1 held)), first_alike causes others o alike.4 rest.1)
first_alike [] (b ∷ others) o alike first = absurd alike
first_alike (a ∷ causes) [] o alike first = absurd alike

pub turned : (causes others : List (Cause Refusal)) → AreAlike causes others → AreAlike others causes
turned [] [] alike = tt
turned (a ∷ causes) (b ∷ others) alike = (alike.1, alike.0, alike.3, alike.2, turned causes others alike.4)
turned [] (b ∷ others) alike = absurd alike
turned (a ∷ causes) [] alike = absurd alike

pub unchanged : (causes : List (Cause Refusal)) → AreAlike causes causes
unchanged [] = tt
unchanged (a ∷ causes) = ((λ held. held), (λ held. held), (λ held. refl), (λ held. refl), unchanged causes)

-- ---- what is found
pub queue_found : (paged : PagedMessages) (queues : List Queue) (name : List ℕ) → queue_named (joined_queues paged queues) name ≡ option_map (joined_queue paged) (queue_named queues name)
queue_found paged queues name = found_mapped (λ (q : Queue). bytes_eq name q.name) (joined_queue paged) (λ q. refl) queues

pub consumer_found : (flights : PagedFlights) (consumers : List Consumer) (name : List ℕ)
    → consumer_named (joined_consumers flights consumers) name ≡ option_map (joined_consumer flights) (consumer_named consumers name)
consumer_found flights consumers name = found_mapped (λ (c : Consumer). bytes_eq name c.name) (joined_consumer flights) (λ c. refl) consumers

pub has_queue : (paged : PagedMessages) (flights : PagedFlights) (s : Broker) (name : List ℕ)
    → is_some (queue_named (joined paged flights s).durable.queues name) ≡ is_some (queue_named s.durable.queues name)
has_queue paged flights s name = ap is_some (queue_found paged s.durable.queues name) ∙ some_mapped (joined_queue paged) (queue_named s.durable.queues name)

pub has_consumer : (paged : PagedMessages) (flights : PagedFlights) (s : Broker) (name : List ℕ)
    → is_some (consumer_named (joined paged flights s).running.consumers name) ≡ is_some (consumer_named s.running.consumers name)
has_consumer paged flights s name = ap is_some (consumer_found flights s.running.consumers name) ∙ some_mapped (joined_consumer flights) (consumer_named s.running.consumers name)

pub queues_at : (paged : PagedMessages) (address : ℕ) (queues : List Queue) → queues_of address (joined_queues paged queues) ≡ joined_queues paged (queues_of address queues)
queues_at paged address queues = filter_mapped (λ (q : Queue). q.address == address) (joined_queue paged) (λ q. refl) queues

pub as_many_queues : (paged : PagedMessages) (address : ℕ) (queues : List Queue) → length (queues_of address (joined_queues paged queues)) ≡ length (queues_of address queues)
as_many_queues paged address queues = ap length (queues_at paged address queues) ∙ length-map (queues_of address queues) (joined_queue paged)

pub as_consumed : (flights : PagedFlights) (queue : ℕ) (consumers : List Consumer)
    → list_any (λ (c : Consumer). c.queue == queue) (joined_consumers flights consumers) ≡ list_any (λ (c : Consumer). c.queue == queue) consumers
as_consumed flights queue consumers = any_mapped (λ (c : Consumer). c.queue == queue) (joined_consumer flights) consumers

-- ---- routes
goes_to : (paged : PagedMessages) (properties : List Property) (queues : List Queue) (ids : List ℕ) → GoesTo properties queues ids → GoesTo properties (joined_queues paged queues) ids
goes_to paged properties [] ids goes = goes
goes_to paged properties (q ∷ queues) ids goes = (goes.0, goes.1, goes.2, goes_to paged properties queues goes.1 goes.3, goes.4)

goes_from : (paged : PagedMessages) (properties : List Property) (queues : List Queue) (ids : List ℕ) → GoesTo properties (joined_queues paged queues) ids → GoesTo properties queues ids
goes_from paged properties [] ids goes = goes
goes_from paged properties (q ∷ queues) ids goes = (goes.0, goes.1, goes.2, goes_from paged properties queues goes.1 goes.3, goes.4)

pub routed_to : (paged : PagedMessages) (flights : PagedFlights) (s : Broker) (address : ℕ) (properties : List Property) (ids : List ℕ)
    → IsRouted s address properties ids → IsRouted (joined paged flights s) address properties ids
routed_to paged flights s address properties ids routed =
    subst (λ queues. GoesTo properties queues ids) (sym (queues_at paged address s.durable.queues)) (goes_to paged properties (queues_of address s.durable.queues) ids routed)

pub routed_from : (paged : PagedMessages) (flights : PagedFlights) (s : Broker) (address : ℕ) (properties : List Property) (ids : List ℕ)
    → IsRouted (joined paged flights s) address properties ids → IsRouted s address properties ids
routed_from paged flights s address properties ids routed =
    goes_from paged properties (queues_of address s.durable.queues) ids (subst (λ queues. GoesTo properties queues ids) (queues_at paged address s.durable.queues) routed)

-- ---- each cause
most_queues : (paged : PagedMessages) (flights : PagedFlights) (s : Broker) (name : List ℕ) → HasMostQueues s name → HasMostQueues (joined paged flights s) name
most_queues paged flights s name held = (held.0, held.1, subst (λ n. MOST_QUEUES ≤ n) (sym (as_many_queues paged held.0 s.durable.queues)) held.2)

most_queues_back : (paged : PagedMessages) (flights : PagedFlights) (s : Broker) (name : List ℕ) → HasMostQueues (joined paged flights s) name → HasMostQueues s name
most_queues_back paged flights s name held = (held.0, held.1, subst (λ n. MOST_QUEUES ≤ n) (as_many_queues paged held.0 s.durable.queues) held.2)

consumed : (paged : PagedMessages) (flights : PagedFlights) (s : Broker) (name : List ℕ) → IsConsumed s name → IsConsumed (joined paged flights s) name
consumed paged flights s name held = (
  joined_queue paged held.0,
  queue_found paged s.durable.queues name ∙ ap (option_map (joined_queue paged)) held.1,
  as_consumed flights held.0.id s.running.consumers ∙ held.2,
)

consumed_back : (paged : PagedMessages) (flights : PagedFlights) (s : Broker) (name : List ℕ) → IsConsumed (joined paged flights s) name → IsConsumed s name
consumed_back paged flights s name held =
    let at : (q : Queue) × (queue_named s.durable.queues name ≡ Some q) × (joined_queue paged q ≡ held.0) =
    from_mapped (joined_queue paged) (queue_named s.durable.queues name) held.0 (sym (queue_found paged s.durable.queues name) ∙ held.1) in
    let same : at.0.id ≡ held.0.id = ap (λ (q : Queue). q.id) at.2 in
    (at.0, at.1, subst (λ id. list_any (λ (c : Consumer). c.queue == id) s.running.consumers ≡ true) (sym same) (sym (as_consumed flights held.0.id s.running.consumers) ∙ held.2))

taker : (paged : PagedMessages) (flights : PagedFlights) (s : Broker) (address : ℕ) (properties : List Property) → HasTaker s address properties → HasTaker (joined paged flights s) address properties
taker paged flights s address properties has = (has.0, routed_to paged flights s address properties has.0 has.1, has.2)

taker_back : (paged : PagedMessages) (flights : PagedFlights) (s : Broker) (address : ℕ) (properties : List Property) → HasTaker (joined paged flights s) address properties → HasTaker s address properties
taker_back paged flights s address properties has = (has.0, routed_from paged flights s address properties has.0 has.1, has.2)

-- ---- the causes of each action
pub all_alike : (view : View) (paged : PagedMessages) (flights : PagedFlights) (s : Broker) (action : Action) → AsksNoFlight action
    → AreAlike (causes view s action) (causes view (joined paged flights s) action)
all_alike view paged flights s (MakeAddress name settings) asks = unchanged (causes view s (MakeAddress name settings))
all_alike view paged flights s (MakeQueue name address filter) asks = (
  (λ held. has_queue paged flights s name ∙ held),
  (λ held. sym (has_queue paged flights s name) ∙ held),
  (λ held. refl),
  (λ held. refl),
  (
    (λ held. held),
    (λ held. held),
    (λ held. refl),
    (λ held. refl),
    (most_queues paged flights s address, most_queues_back paged flights s address, (λ held. refl), (λ held. refl), unchanged (unreadable filter)),
  ),
)
all_alike view paged flights s (DropQueue name) asks = (
  (λ none held. none (sym (has_queue paged flights s name) ∙ held)),
  (λ none held. none (has_queue paged flights s name ∙ held)),
  (λ held. refl),
  (λ held. refl),
  (consumed paged flights s name, consumed_back paged flights s name, (λ held. refl), (λ held. refl), tt),
)
all_alike view paged flights s (Send address properties body) asks = (
  (λ held. held),
  (λ held. held),
  (λ held. refl),
  (λ held. refl),
  (
    (λ held. held),
    (λ held. held),
    (λ held. refl),
    (λ held. refl),
    (
      (λ held. (held.0, held.1, taker paged flights s held.0 properties held.2, held.3)),
      (λ held. (held.0, held.1, taker_back paged flights s held.0 properties held.2, held.3)),
      (λ held. refl),
      (λ held. refl),
      (
        (λ held. (held.0, held.1, taker paged flights s held.0 properties held.2, held.3)),
        (λ held. (held.0, held.1, taker_back paged flights s held.0 properties held.2, held.3)),
        (λ held. refl),
        (λ held. refl),
        tt,
      ),
    ),
  ),
)
all_alike view paged flights s (Open name queue) asks = (
  (λ held. has_consumer paged flights s name ∙ held),
  (λ held. sym (has_consumer paged flights s name) ∙ held),
  (λ held. refl),
  (λ held. refl),
  ((λ none held. none (sym (has_queue paged flights s queue) ∙ held)), (λ none held. none (has_queue paged flights s queue ∙ held)), (λ held. refl), (λ held. refl), tt),
)
all_alike view paged flights s (Receive consumer) asks =
    ((λ none held. none (sym (has_consumer paged flights s consumer) ∙ held)), (λ none held. none (has_consumer paged flights s consumer ∙ held)), (λ held. refl), (λ held. refl), tt)
all_alike view paged flights s (Acknowledge consumer id) asks = absurd asks
all_alike view paged flights s (Cancel consumer id) asks = absurd asks
all_alike view paged flights s (Close consumer) asks =
    ((λ none held. none (sym (has_consumer paged flights s consumer) ∙ held)), (λ none held. none (has_consumer paged flights s consumer ∙ held)), (λ held. refl), (λ held. refl), tt)
all_alike view paged flights s (Count queue) asks =
    ((λ none held. none (sym (has_queue paged flights s queue) ∙ held)), (λ none held. none (has_queue paged flights s queue ∙ held)), (λ held. refl), (λ held. refl), tt)

pub first_whole : (view : View) (paged : PagedMessages) (flights : PagedFlights) (s : Broker) (action : Action) (o : Option Refusal) → AsksNoFlight action
    → IsFirst (causes view s action) o → IsFirst (causes view (joined paged flights s) action) o
first_whole view paged flights s action o asks first = first_alike (causes view s action) (causes view (joined paged flights s) action) o (all_alike view paged flights s action asks) first

pub first_broker : (view : View) (paged : PagedMessages) (flights : PagedFlights) (s : Broker) (action : Action) (o : Option Refusal) → AsksNoFlight action
    → IsFirst (causes view (joined paged flights s) action) o → IsFirst (causes view s action) o
first_broker view paged flights s action o asks first =
    first_alike (causes view (joined paged flights s) action) (causes view s action) o
    (turned (causes view s action) (causes view (joined paged flights s) action) (all_alike view paged flights s action asks)) first
