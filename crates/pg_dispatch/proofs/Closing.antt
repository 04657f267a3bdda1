-- A consumer whose flights end one after the other.
use Rattle.std.proofs.Common.{◌≡◌, ℕ, ◌≤◌, ◌<◌, true, List, [], ◌∷◌, refl, sym, ap, ◌∙◌, subst, inl, inr, length, arith}
use Rattle.std.proofs.lemmas.Grind.{common_steps}
use Rattle.std.specs.Prelude.{Some, None, is_some, slice_get}
use Rattle.std.proofs.lemmas.Bool.{cases_Bool}
use Rattle.pg_msg.specs.declared.message.MessageId.{MessageId}
use Rattle.pg_model.specs.Broker.{Consumer, consumer_named, same_id}
use Rattle.pg_model.specs.Changes.{with_flights, without_consumer, without_id}
use Rattle.pg_dispatch.specs.Dispatch.{Dispatch, cancelled, closed, flight_from, has_id}
use Rattle.pg_dispatch.specs.Matching.{flights_to}
use Rattle.pg_dispatch.proofs.Counting.{is_named}
use Rattle.pg_dispatch.proofs.Flying.{same_itself}

-- the consumer that leaves may have had anything in flight
pub gone_either_way : (name : List ℕ) (change : List MessageId → List MessageId) (cs : List Consumer) → without_consumer name (with_flights name change cs) ≡ without_consumer name cs
gone_either_way name change [] = refl
gone_either_way name change (c ∷ cs) =
    elim (cases_Bool (is_named name c)) [
      | inl gone ↦ grind (arith, common_steps, gone, gone_either_way name change cs)
      | inr stays ↦ grind (arith, common_steps, stays, gone_either_way name change cs)
    ]

pub still_open : (name : List ℕ) (change : List MessageId → List MessageId) (cs : List Consumer) → is_some (consumer_named (with_flights name change cs) name) ≡ is_some (consumer_named cs name)
still_open name change [] = refl
still_open name change (c ∷ cs) =
    elim (cases_Bool (is_named name c)) [
      | inl here ↦ grind (arith, common_steps, here)
      | inr there ↦ grind (arith, common_steps, there, still_open name change cs)
    ]

pub flights_changed : (name : List ℕ) (change : List MessageId → List MessageId) (cs : List Consumer) → is_some (consumer_named cs name) ≡ true
    → flights_to name (with_flights name change cs) ≡ change (flights_to name cs)
flights_changed name change [] open_is = absurd (grind (arith, common_steps, open_is))
flights_changed name change (c ∷ cs) open_is =
    elim (cases_Bool (is_named name c)) [
      | inl here ↦ grind (arith, common_steps, here)
      | inr there ↦ grind (arith, common_steps, there, flights_changed name change cs (grind (arith, common_steps, there, open_is)))
    ]

pub no_more : (id : MessageId) (ids : List MessageId) → length (without_id id ids) ≤ length ids
no_more id [] = omega arith
no_more id (other ∷ ids) =
    elim (cases_Bool (same_id other id)) [
      | inl gone ↦ grind (arith, common_steps, gone, no_more id ids)
      | inr stays ↦ grind (arith, common_steps, stays, no_more id ids)
    ]

pub one_less : (id : MessageId) (ids : List MessageId) → Some id ≡ slice_get ids 0 → length (without_id id ids) < length ids
one_less id [] first = absurd (grind (arith, common_steps, first))
one_less id (other ∷ ids) first =
    let same : other ≡ id = grind (arith, common_steps, first) in
    let gone : same_id other id ≡ true = ap (λ (x : MessageId). same_id x id) same ∙ same_itself id in
    grind (arith, common_steps, gone, no_more id ids)

pub none_left : (ids : List MessageId) → None ≡ slice_get ids 0 → ids ≡ []
none_left [] none = refl
none_left (id ∷ ids) none = absurd (grind (arith, common_steps, none))

pub flies_first : (name : List ℕ) (id : MessageId) (cs : List Consumer) → Some id ≡ slice_get (flights_to name cs) 0 → is_some (flight_from name id cs) ≡ true
flies_first name id [] first = absurd (grind (arith, common_steps, first))
flies_first name id (c ∷ cs) first =
    elim (cases_Bool (is_named name c)) [
      | inl here ↦
          let has : has_id id c.in_flight ≡ true = first_is_there c.in_flight (grind (arith, common_steps, here, first)) in
          grind (arith, common_steps, here, has)
      | inr there ↦
          let rest : is_some (flight_from name id cs) ≡ true = flies_first name id cs (grind (arith, common_steps, there, first)) in
          grind (arith, common_steps, there, rest)
    ]
  where
    first_is_there : (ids : List MessageId) → Some id ≡ slice_get ids 0 → has_id id ids ≡ true
    first_is_there [] is = absurd (grind (arith, common_steps, is))
    first_is_there (other ∷ ids) is =
        let same : other ≡ id = grind (arith, common_steps, is) in
        let it : same_id other id ≡ true = ap (λ (x : MessageId). same_id x id) same ∙ same_itself id in
        grind (arith, common_steps, it)

-- ---- one flight less, in the loop
-- the consumer is open, and nothing but its flights may have changed
abbrev pub IsClosing : List ℕ → Dispatch → Dispatch → Type 0
IsClosing name old now = (is_some (consumer_named now.consumers name) ≡ true) × (closed name now ≡ closed name old)

pub closing_on : (name : List ℕ) (id : MessageId) (old now new : Dispatch) → IsClosing name old now → new ≡ cancelled name id now → IsClosing name old new
closing_on name id old now new are is =
    subst (IsClosing name old) (sym is)
    (still_open name (without_id id) now.consumers ∙ are.0, ap (λ (cs : List Consumer). record now { consumers = cs }) (gone_either_way name (without_id id) now.consumers) ∙ are.1)

pub fewer : (name : List ℕ) (id : MessageId) (now new : Dispatch) → is_some (consumer_named now.consumers name) ≡ true → Some id ≡ slice_get (flights_to name now.consumers) 0
    → new ≡ cancelled name id now → length (flights_to name new.consumers) < length (flights_to name now.consumers)
fewer name id now new open_is first is =
    subst (λ (d : Dispatch). length (flights_to name d.consumers) < length (flights_to name now.consumers)) (sym is)
    (subst (λ (ids : List MessageId). length ids < length (flights_to name now.consumers)) (sym (flights_changed name (without_id id) now.consumers open_is)) (one_less id (flights_to name now.consumers) first))
