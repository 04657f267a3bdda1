-- Parts that fit together behind a step.
use Rattle.std.proofs.Common.{◌≡◌, ◌≢◌, ℕ, suc, ◌⊎◌, ◌||◌, Bool, true, false, List, [], ◌∷◌, ◌++◌, get_or, map, refl, sym, ap, subst, ◌∙◌, inl, inr, arith}
use Rattle.std.proofs.lemmas.List.Elements.{All-contains, All-contains_itself, Contains-append_cases, Contains-append_left, Contains-append_right}
use Rattle.std.specs.Prelude.{All, AllPairs}
use Rattle.std.specs.List.{Contains}
use Rattle.pg_msg.specs.declared.message.Message.{Message}
use Rattle.pg_msg.specs.declared.message.MessageId.{MessageId}
use Rattle.pg_model.specs.Broker.{Queue, Consumer, Broker, AreHeld, HoldsMessage, IsValid, flights, flights_of}
use Rattle.pg_joined.specs.Joined.{Ascends, HasMessage, IsSplit, PagedFlights, PagedMessages, joined, joined_consumer, joined_consumers, joined_queue, joined_queues, merged}
use Rattle.pg_joined.proofs.Ids.{contains_it, has_id, has_it, has_merged}
use Rattle.pg_joined.proofs.Lists.{in_cases, in_first, in_rest, nothing_in}

pub all_by : {X : Type 0} (P : X → Type 0) (xs : List X) → ((x : X) → Contains xs x → P x) → All P xs
all_by P xs each = λ k d within. each (get_or xs k d) (All-contains_itself xs k d within)

pub across : {X : Type 0} (R : X → X → Type 0) (xs ys : List X) (x y : X) → AllPairs R (xs ++ ys) → Contains xs x → Contains ys y → R x y
across R [] ys x y pairs before behind = absurd (nothing_in x before)
across R (z ∷ xs) ys x y pairs before behind =
    elim (in_cases x z xs before) [
      | inl is ↦
          let at : Contains (xs ++ ys) y = Contains-append_right xs ys y behind in
          subst (λ x. R x y) is (subst (R z) at.2 (pairs 0 (suc at.0) y (omega arith) (omega (arith, at.1))))
      | inr rest ↦ across R xs ys x y (λ i j d less within. pairs (suc i) (suc j) d (omega (arith, less)) (omega (arith, within))) rest behind
    ]

pub in_mapped : {X Y : Type 0} (f : X → Y) (xs : List X) (x : X) → Contains xs x → Contains (map f xs) (f x)
in_mapped f [] x there = absurd (nothing_in x there)
in_mapped f (y ∷ xs) x there =
    elim (in_cases x y xs there) [
      | inl is ↦ subst (λ z. Contains (map f (y ∷ xs)) (f z)) is (in_first (f y) (map f xs))
      | inr rest ↦ in_rest (f x) (f y) (map f xs) (in_mapped f xs x rest)
    ]

pub before_mapped : {X Y : Type 0} (f : X → Y) (xs : List X) (y : Y) → Contains (map f xs) y → (x : X) × Contains xs x × (f x ≡ y)
before_mapped f [] y there = absurd (nothing_in y there)
before_mapped f (x ∷ xs) y there =
    elim (in_cases y (f x) (map f xs) there) [
      | inl is ↦ (x, in_first x xs, is)
      | inr rest ↦
          let before : (z : _) × Contains xs z × (f z ≡ y) = before_mapped f xs y rest in
          (before.0, in_rest before.0 x xs before.1, before.2)
    ]

in_flights : (consumers : List Consumer) (c : Consumer) (id : MessageId) → Contains consumers c → Contains c.in_flight id → Contains (flights consumers) (c.queue, id)
in_flights [] c id there its = absurd (nothing_in c there)
in_flights (d ∷ consumers) c id there its =
    elim (in_cases c d consumers there) [
      | inl is ↦ Contains-append_left (flights_of d) (flights consumers) (c.queue, id)
          (subst (λ (e : Consumer). Contains (flights_of e) (c.queue, id)) (sym is) (in_mapped (λ (other : MessageId). (c.queue, other)) c.in_flight id its))
      | inr rest ↦ Contains-append_right (flights_of d) (flights consumers) (c.queue, id) (in_flights consumers c id rest its)
    ]

-- ---- where the whole is valid
-- no message is on both sides of a queue
valid_apart : (paged : PagedMessages) (flying : PagedFlights) (s : Broker) → IsValid (joined paged flying s) → (q : Queue) → Contains s.durable.queues q
    → (m : Message) → Contains q.messages m → HasMessage (paged q.id) m.id → ⊥
valid_apart paged flying s valid q there m its has =
    let kept : AreHeld s.durable.epoch s.running.drawn (q.messages ++ paged q.id) =
    All-contains (λ (q : Queue). AreHeld s.durable.epoch s.running.drawn q.messages) (joined_queues paged s.durable.queues) (joined_queue paged q) valid.held (in_mapped (joined_queue paged) s.durable.queues q there) in
    across (λ (m other : Message). m.id ≢ other.id) q.messages (paged q.id) m has.0 kept.distinct its has.1 (sym has.2)

pub held_apart : (paged : PagedMessages) (flying : PagedFlights) (s : Broker) → IsValid (joined paged flying s) → (queue : ℕ) (id : MessageId)
    → HoldsMessage s.durable.queues queue id → HasMessage (paged queue) id → ⊥
held_apart paged flying s valid queue id h has =
    valid_apart paged flying s valid h.holder h.live h.message h.held
    (subst (λ queue. HasMessage (paged queue) h.message.id) (sym h.is_queue) (subst (HasMessage (paged queue)) (sym h.is_message) has))

-- what is in flight is on one of them
on_one_side : (paged : PagedMessages) (flying : PagedFlights) (s : Broker) → IsValid (joined paged flying s) → (c : Consumer) → Contains s.running.consumers c → (id : MessageId)
    → has_id id (merged (flying c.name) c.in_flight) ≡ true → HoldsMessage s.durable.queues c.queue id ⊎ HasMessage (paged c.queue) id
on_one_side paged flying s valid c there id has =
    let whole : Contains (flights (joined_consumers flying s.running.consumers)) (c.queue, id) =
    in_flights (joined_consumers flying s.running.consumers) (joined_consumer flying c) id (in_mapped (joined_consumer flying) s.running.consumers c there) (contains_it id (merged (flying c.name) c.in_flight) has) in
    let h : HoldsMessage (joined_queues paged s.durable.queues) c.queue id =
    All-contains (λ (flight : ℕ × MessageId). HoldsMessage (joined_queues paged s.durable.queues) flight.0 flight.1) (flights (joined_consumers flying s.running.consumers)) (c.queue, id) valid.there whole in
    let at = before_mapped (joined_queue paged) s.durable.queues h.holder h.live in
    let same : at.0.id ≡ c.queue = ap (λ (q : Queue). q.id) at.2 ∙ h.is_queue in
    elim (Contains-append_cases at.0.messages (paged at.0.id) h.message (subst (λ (q : Queue). Contains q.messages h.message) (sym at.2) h.held)) [
      | inl held ↦ inl (record { holder = at.0; live = at.1; is_queue = same; message = h.message; held = held; is_message = h.is_message })
      | inr in_page ↦ inr (subst (λ queue. HasMessage (paged queue) id) same (h.message, in_page, h.is_message))
    ]

-- what is asked of a consumer
pub record Fits (paged : PagedMessages) (flying : PagedFlights) (s : Broker) (c : Consumer) : Type 0 where
  pub ascends : Ascends c.in_flight
  pub out_of_pages : (id : MessageId) → Contains c.in_flight id → HasMessage (paged c.queue) id → ⊥
  pub out_of_broker : (id : MessageId) → Contains (flying c.name) id → HoldsMessage s.durable.queues c.queue id → ⊥

pub split_by : (paged : PagedMessages) (flying : PagedFlights) (s : Broker) → IsValid (joined paged flying s) → ((c : Consumer) → Contains s.running.consumers c → Fits paged flying s c) → IsSplit paged flying s
split_by paged flying s valid fits = record {
  ascending = all_by (λ (c : Consumer). Ascends c.in_flight) s.running.consumers (λ c there. (fits c there).ascends);
  held =
      all_by (λ (c : Consumer). All (λ id. HoldsMessage s.durable.queues c.queue id) c.in_flight) s.running.consumers
      (λ c there. all_by (λ id. HoldsMessage s.durable.queues c.queue id) c.in_flight (λ id its. is_held c there id its (on_one_side paged flying s valid c there id (later c id its))));
  in_pages =
      all_by (λ (c : Consumer). All (λ id. HasMessage (paged c.queue) id) (flying c.name)) s.running.consumers
      (λ c there. all_by (λ id. HasMessage (paged c.queue) id) (flying c.name) (λ id its. is_paged c there id its (on_one_side paged flying s valid c there id (earlier c id its))));
  apart =
      all_by (λ (q : Queue). All (λ (m : Message). HasMessage (paged q.id) m.id → ⊥) q.messages) s.durable.queues
      (λ q there. all_by (λ (m : Message). HasMessage (paged q.id) m.id → ⊥) q.messages (λ m its. valid_apart paged flying s valid q there m its));
}
  where
    or_later : (a b : Bool) → b ≡ true → (a || b) ≡ true
    or_later true b is = refl
    or_later false b is = is

    later : (c : Consumer) (id : MessageId) → Contains c.in_flight id → has_id id (merged (flying c.name) c.in_flight) ≡ true
    later c id its = has_merged id (flying c.name) c.in_flight ∙ or_later (has_id id (flying c.name)) (has_id id c.in_flight) (has_it id c.in_flight its)

    earlier : (c : Consumer) (id : MessageId) → Contains (flying c.name) id → has_id id (merged (flying c.name) c.in_flight) ≡ true
    earlier c id its = has_merged id (flying c.name) c.in_flight ∙ ap (λ b. b || has_id id c.in_flight) (has_it id (flying c.name) its)

    is_held : (c : Consumer) → Contains s.running.consumers c → (id : MessageId) → Contains c.in_flight id
        → HoldsMessage s.durable.queues c.queue id ⊎ HasMessage (paged c.queue) id → HoldsMessage s.durable.queues c.queue id
    is_held c there id its (inl held) = held
    is_held c there id its (inr in_page) = absurd ((fits c there).out_of_pages id its in_page)

    is_paged : (c : Consumer) → Contains s.running.consumers c → (id : MessageId) → Contains (flying c.name) id
        → HoldsMessage s.durable.queues c.queue id ⊎ HasMessage (paged c.queue) id → HasMessage (paged c.queue) id
    is_paged c there id its (inl held) = absurd ((fits c there).out_of_broker id its held)
    is_paged c there id its (inr in_page) = in_page

pub where_valid : (s : Broker) (paged : PagedMessages) (flying : PagedFlights) → IsValid (joined paged flying s) → All (λ (c : Consumer). Ascends c.in_flight) s.running.consumers
    → All (λ (c : Consumer). All (λ id. HasMessage (paged c.queue) id → ⊥) c.in_flight) s.running.consumers
    → All (λ (c : Consumer). All (λ id. HoldsMessage s.durable.queues c.queue id → ⊥) (flying c.name)) s.running.consumers → IsSplit paged flying s
where_valid s paged flying valid ascend out_of_pages out_of_broker =
    split_by paged flying s valid (λ c there. record {
      ascends = All-contains (λ (c : Consumer). Ascends c.in_flight) s.running.consumers c ascend there;
      out_of_pages = λ id its. All-contains (λ id. HasMessage (paged c.queue) id → ⊥) c.in_flight id
          (All-contains (λ (c : Consumer). All (λ id. HasMessage (paged c.queue) id → ⊥) c.in_flight) s.running.consumers c out_of_pages there) its;
      out_of_broker = λ id its. All-contains (λ id. HoldsMessage s.durable.queues c.queue id → ⊥) (flying c.name) id
          (All-contains (λ (c : Consumer). All (λ id. HoldsMessage s.durable.queues c.queue id → ⊥) (flying c.name)) s.running.consumers c out_of_broker there) its;
    })
