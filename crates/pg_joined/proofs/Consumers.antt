-- The consumers of the whole, as what is in flight changes.
use Rattle.std.proofs.Common.{◌≡◌, ℕ, ◌==◌, cond, Bool, true, false, not, ◌&&◌, ◌||◌, List, [], ◌∷◌, ◌++◌, refl, sym, ap, ap₂, ◌∙◌}
use Rattle.std.proofs.lemmas.Bool.{eqb-true, false≢true}
use Rattle.std.proofs.lemmas.List.{map-append}
use Rattle.std.proofs.lemmas.List.Folds.{find-append}
use Rattle.std.specs.Option.{option_or}
use Rattle.std.specs.List.{Contains, list_any}
use Rattle.std.specs.Str.{bytes_eq}
use Rattle.pg_msg.specs.declared.message.Message.{Message}
use Rattle.pg_msg.specs.declared.message.MessageId.{MessageId}
use Rattle.pg_model.specs.Broker.{Queue, Consumer, Broker, same_id}
use Rattle.pg_model.specs.Changes.{with_flights, without_consumer}
use Rattle.pg_model.specs.Steps.{available, is_in_flight}
use Rattle.pg_joined.specs.Joined.{IsSplit, PagedFlights, PagedMessages, is_in_paged_flight, joined, joined_consumer, joined_consumers, joined_queue, merged, nothing, paged_available, with_flights_at}
use Rattle.pg_joined.proofs.Ids.{has_id, has_merged}
use Rattle.pg_joined.proofs.Lists.{any_alike, any_mapped, filter_mapped, find_alike, from_filtered, maps_alike, twice_mapped}
use Rattle.pg_joined.proofs.Parting.{not_in_pages, not_with_broker}

-- ---- a change of what the broker has in flight
pub broker_changed : (flights : PagedFlights) (name : List ℕ) (change : List MessageId → List MessageId) (consumers : List Consumer)
    → ((c : Consumer) → Contains consumers c → bytes_eq name c.name ≡ true → change (merged (flights c.name) c.in_flight) ≡ merged (flights c.name) (change c.in_flight))
    → joined_consumers flights (with_flights name change consumers) ≡ with_flights name change (joined_consumers flights consumers)
broker_changed flights name change consumers same =
    twice_mapped (joined_consumer flights) changed consumers
    ∙ (maps_alike (λ c. joined_consumer flights (changed c)) (λ c. changed (joined_consumer flights c)) consumers (λ c there. one c (bytes_eq name c.name) (same c there))
    ∙ sym (twice_mapped changed (joined_consumer flights) consumers))
  where
    changed : Consumer → Consumer
    changed c = cond (bytes_eq name c.name) (record c { in_flight = change c.in_flight }) c

    one : (c : Consumer) (b : Bool) → (b ≡ true → change (merged (flights c.name) c.in_flight) ≡ merged (flights c.name) (change c.in_flight))
        → joined_consumer flights (cond b (record c { in_flight = change c.in_flight }) c) ≡ cond b (record c { in_flight = change (merged (flights c.name) c.in_flight) }) (joined_consumer flights c)
    one c true same = ap (λ ids. let d : Consumer = record c { in_flight = ids } in d) (sym (same refl))
    one c false same = refl

-- ---- a change of what is in flight in pages
pub pages_changed : (flights : PagedFlights) (name : List ℕ) (change : List MessageId → List MessageId) (consumers : List Consumer)
    → ((c : Consumer) → Contains consumers c → bytes_eq name c.name ≡ true → merged (change (flights c.name)) c.in_flight ≡ change (merged (flights c.name) c.in_flight))
    → joined_consumers (with_flights_at name change flights) consumers ≡ with_flights name change (joined_consumers flights consumers)
pages_changed flights name change consumers same =
    maps_alike (joined_consumer (with_flights_at name change flights)) (λ c. changed (joined_consumer flights c)) consumers (λ c there. one c (bytes_eq name c.name) (same c there))
    ∙ sym (twice_mapped changed (joined_consumer flights) consumers)
  where
    changed : Consumer → Consumer
    changed c = cond (bytes_eq name c.name) (record c { in_flight = change c.in_flight }) c

    one : (c : Consumer) (b : Bool) → (b ≡ true → merged (change (flights c.name)) c.in_flight ≡ change (merged (flights c.name) c.in_flight))
        → (let d : Consumer = record c { in_flight = merged (cond b (change (flights c.name)) (flights c.name)) c.in_flight } in d)
        ≡ cond b (record c { in_flight = change (merged (flights c.name) c.in_flight) }) (joined_consumer flights c)
    one c true same = ap (λ ids. let d : Consumer = record c { in_flight = ids } in d) (same refl)
    one c false same = refl

-- what is in flight in pages for a name that no consumer has
pub others_alone : (flights : PagedFlights) (name : List ℕ) (change : List MessageId → List MessageId) (consumers : List Consumer)
    → ((c : Consumer) → Contains consumers c → bytes_eq name c.name ≡ false) → joined_consumers (with_flights_at name change flights) consumers ≡ joined_consumers flights consumers
others_alone flights name change consumers apart =
    maps_alike (joined_consumer (with_flights_at name change flights)) (joined_consumer flights) consumers
    (λ c there. ap (λ b. let d : Consumer = record c { in_flight = merged (cond b (change (flights c.name)) (flights c.name)) c.in_flight } in d) (apart c there))

pub closed : (flights : PagedFlights) (name : List ℕ) (consumers : List Consumer)
    → joined_consumers (with_flights_at name nothing flights) (without_consumer name consumers) ≡ without_consumer name (joined_consumers flights consumers)
closed flights name consumers =
    others_alone flights name nothing (without_consumer name consumers)
    (λ c there. is_false (bytes_eq name c.name) (from_filtered (λ (c : Consumer). not (bytes_eq name c.name)) consumers c there).1)
    ∙ sym (filter_mapped (λ (c : Consumer). not (bytes_eq name c.name)) (joined_consumer flights) (λ c. refl) consumers)
  where
    is_false : (b : Bool) → not b ≡ true → b ≡ false
    is_false true not_so = absurd (false≢true not_so)
    is_false false not_so = refl

pub opened : (flights : PagedFlights) (name : List ℕ) (queue : ℕ) (consumers : List Consumer) → flights name ≡ []
    → joined_consumers flights (consumers ++ (record { name = name; queue = queue; in_flight = [] } ∷ [])) ≡ joined_consumers flights consumers ++ (record { name = name; queue = queue; in_flight = [] } ∷ [])
opened flights name queue consumers none =
    map-append (joined_consumer flights) consumers (record { name = name; queue = queue; in_flight = [] } ∷ [])
    ∙ ap (λ ids. joined_consumers flights consumers ++ (record { name = name; queue = queue; in_flight = merged ids [] } ∷ [])) none

-- ---- what is in flight
flown : (flights : PagedFlights) (consumers : List Consumer) (queue : ℕ) (id : MessageId)
    → is_in_flight (joined_consumers flights consumers) queue id ≡ list_any (λ (c : Consumer). (c.queue == queue) && has_id id (merged (flights c.name) c.in_flight)) consumers
flown flights consumers queue id = any_mapped (λ (c : Consumer). (c.queue == queue) && list_any (λ other. same_id other id) c.in_flight) (joined_consumer flights) consumers

either_none : (here a b : Bool) → (here ≡ true → a ≡ false) → (here && (a || b)) ≡ (here && b)
either_none true a b none = ap (λ a. a || b) (none refl)
either_none false a b none = refl

or_none : (here a b : Bool) → (here ≡ true → b ≡ false) → (here && (a || b)) ≡ (here && a)
or_none true true b none = refl
or_none true false b none = none refl
or_none false a b none = refl

pub flown_with_broker : (flights : PagedFlights) (consumers : List Consumer) (queue : ℕ) (id : MessageId)
    → ((c : Consumer) → Contains consumers c → c.queue ≡ queue → has_id id (flights c.name) ≡ false)
    → is_in_flight (joined_consumers flights consumers) queue id ≡ is_in_flight consumers queue id
flown_with_broker flights consumers queue id none =
    flown flights consumers queue id
    ∙ any_alike (λ (c : Consumer). (c.queue == queue) && has_id id (merged (flights c.name) c.in_flight)) (λ (c : Consumer). (c.queue == queue) && has_id id c.in_flight) consumers
    (λ c there. ap (λ b. (c.queue == queue) && b) (has_merged id (flights c.name) c.in_flight)
    ∙ either_none (c.queue == queue) (has_id id (flights c.name)) (has_id id c.in_flight) (λ here. none c there (eqb-true c.queue queue here)))

pub flown_in_pages : (flights : PagedFlights) (consumers : List Consumer) (queue : ℕ) (id : MessageId)
    → ((c : Consumer) → Contains consumers c → c.queue ≡ queue → has_id id c.in_flight ≡ false)
    → is_in_flight (joined_consumers flights consumers) queue id ≡ is_in_paged_flight flights consumers queue id
flown_in_pages flights consumers queue id none =
    flown flights consumers queue id
    ∙ any_alike (λ (c : Consumer). (c.queue == queue) && has_id id (merged (flights c.name) c.in_flight)) (λ (c : Consumer). (c.queue == queue) && has_id id (flights c.name)) consumers
    (λ c there. ap (λ b. (c.queue == queue) && b) (has_merged id (flights c.name) c.in_flight)
    ∙ or_none (c.queue == queue) (has_id id (flights c.name)) (has_id id c.in_flight) (λ here. none c there (eqb-true c.queue queue here)))

-- the first of the whole that isn't in flight: one of the broker's, or one in pages where there is none
pub first_available : (paged : PagedMessages) (flights : PagedFlights) (s : Broker) → IsSplit paged flights s → (q : Queue) → Contains s.durable.queues q
    → available (joined paged flights s) (joined_queue paged q) ≡ option_or (available s q) (paged_available paged flights s q)
first_available paged flights s split q there =
    find-append free q.messages (paged q.id)
    ∙ ap₂ option_or
    (find_alike free (λ (m : Message). not (is_in_flight s.running.consumers q.id m.id)) q.messages (λ m its. ap not (flown_with_broker flights s.running.consumers q.id m.id (not_in_pages paged flights s split q there m its))))
    (find_alike free (λ (m : Message). not (is_in_paged_flight flights s.running.consumers q.id m.id)) (paged q.id)
    (λ m its. ap not (flown_in_pages flights s.running.consumers q.id m.id (not_with_broker paged flights s split q.id m.id (m, its, refl)))))
  where
    free : Message → Bool
    free m = not (is_in_flight (joined_consumers flights s.running.consumers) q.id m.id)
