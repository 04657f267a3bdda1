-- What is in flight, as consumers get messages and give them up.
use Rattle.std.proofs.Common.{◌≡◌, ◌==◌, ◌⊎◌, ℕ, false, not, cond, ◌&&◌, List, [], ◌∷◌, ◌++◌, map, Some, None, refl, sym, ap, ap₂, subst, ◌∙◌, inl, inr}
use Rattle.std.proofs.lemmas.Bool.{cases_Bool, cond_both, and_cases, or_parts, eq-eqb, false≢true}
use Rattle.std.proofs.lemmas.List.Elements.{Contains-append_left, Contains-append_right}
use Rattle.std.proofs.lemmas.Slice.Eq.{bytes_eq-Decides}
use Rattle.std.specs.Prelude.{find}
use Rattle.std.specs.List.{AllByRecursion, Contains, list_any}
use Rattle.std.specs.Str.{bytes_eq}
use Rattle.pg_msg.specs.declared.message.MessageId.{MessageId}
use Rattle.pg_model.specs.Broker.{Consumer, consumer_named, flights, flights_of, same_id}
use Rattle.pg_model.specs.Changes.{is_before, with_id, without_id, with_flights, without_consumer}
use Rattle.pg_model.specs.Steps.{is_in_flight}
use Rattle.pg_routes.specs.Laws.{IsPart}
use Rattle.pg_routes.proofs.Members.{nothing_in, in_cases, in_mapped, each_in, in_found, none_any}
use Rattle.pg_routes.proofs.Parts.{Pairs, IsPut, here, behind, each_weaker, each_appended, each_mapped, pairs_across, pairs_behind, part_each, part_whole, part_none, part_appended, part_mapped, part_filter, put_mapped, put_before, put_after}
use Rattle.pg_routes.proofs.Queues.{same_ids, other_ids}

-- a message in flight, with the id of its queue
abbrev pub Flight : Type 0
Flight = ℕ × MessageId

abbrev pub flight : Consumer → MessageId → Flight
flight c id = (c.queue, id)

-- the consumer as it is changed, if it has the name
abbrev pub changed : List ℕ → (List MessageId → List MessageId) → Consumer → Consumer
changed name change c = cond (bytes_eq name c.name) (record c { in_flight = change c.in_flight }) c

pub changed_name : (name : List ℕ) (change : List MessageId → List MessageId) (c : Consumer) → (changed name change c).name ≡ c.name
changed_name name change c = cond_both (bytes_eq name c.name) (record c { in_flight = change c.in_flight }) c (λ (other : Consumer). other.name ≡ c.name) (λ _. refl) (λ _. refl)

pub changed_queue : (name : List ℕ) (change : List MessageId → List MessageId) (c : Consumer) → (changed name change c).queue ≡ c.queue
changed_queue name change c = cond_both (bytes_eq name c.name) (record c { in_flight = change c.in_flight }) c (λ (other : Consumer). other.queue ≡ c.queue) (λ _. refl) (λ _. refl)

-- ---- all flights
pub flights_each : (P : Flight → Type 0) (consumers : List Consumer) → AllByRecursion (λ c. (id : MessageId) → P (c.queue, id)) consumers → AllByRecursion P (flights consumers)
flights_each P [] all = tt
flights_each P (c ∷ consumers) all =
    each_appended P (flights_of c) (flights consumers) (each_mapped P (flight c) c.in_flight (always c.in_flight)) (flights_each P consumers all.1)
  where
    always : (ids : List MessageId) → AllByRecursion (λ id. P (c.queue, id)) ids
    always [] = tt
    always (id ∷ ids) = (all.0 id, always ids)

pub in_flights : (consumers : List Consumer) (c : Consumer) (id : MessageId) → Contains consumers c → Contains c.in_flight id → Contains (flights consumers) (c.queue, id)
in_flights [] c id there its = absurd (nothing_in c there)
in_flights (d ∷ consumers) c id there its =
    elim (in_cases c d consumers there) [
      | inl is ↦ Contains-append_left (flights_of d) (flights consumers) (c.queue, id) (subst (λ (e : Consumer). Contains (flights_of e) (c.queue, id)) (sym is) (in_mapped (flight c) c.in_flight id its))
      | inr rest ↦ Contains-append_right (flights_of d) (flights consumers) (c.queue, id) (in_flights consumers c id rest its)
    ]

pub flights_opened : (name : List ℕ) (queue : ℕ) (consumers : List Consumer) → flights (consumers ++ (record { name = name; queue = queue; in_flight = [] } ∷ [])) ≡ flights consumers
flights_opened name queue [] = refl
flights_opened name queue (c ∷ consumers) = ap (λ (rest : List Flight). flights_of c ++ rest) (flights_opened name queue consumers)

-- ---- fewer
pub flights_without : (name : List ℕ) (id : MessageId) (consumers : List Consumer) → IsPart (flights (with_flights name (without_id id) consumers)) (flights consumers)
flights_without name id [] = part_whole []
flights_without name id (c ∷ consumers) =
    part_appended
    (cond_both (bytes_eq name c.name) (record c { in_flight = without_id id c.in_flight }) c (λ (other : Consumer). IsPart (flights_of other) (flights_of c))
    (λ _. part_mapped (flight c) (part_filter (λ other. not (same_id other id)) c.in_flight)) (λ _. part_whole (flights_of c)))
    (flights_without name id consumers)

pub flights_closed : (name : List ℕ) (consumers : List Consumer) → IsPart (flights (without_consumer name consumers)) (flights consumers)
flights_closed name [] = part_whole []
flights_closed name (c ∷ consumers) =
    cond_both (not (bytes_eq name c.name)) (c ∷ without_consumer name consumers) (without_consumer name consumers) (λ (kept : List Consumer). IsPart (flights kept) (flights_of c ++ flights consumers))
    (λ _. part_appended (part_whole (flights_of c)) (flights_closed name consumers))
    (λ _. part_appended (part_none (flights_of c)) (flights_closed name consumers))

-- ---- one less
each_apart : (queue : ℕ) (id : MessageId) (ids : List MessageId) → AllByRecursion (λ (f : Flight). f ≡ (queue, id) → ⊥) (map (λ (other : MessageId). (queue, other)) (without_id id ids))
each_apart queue id [] = tt
each_apart queue id (other ∷ ids) =
    cond_both (not (same_id other id)) (other ∷ without_id id ids) (without_id id ids) (λ (kept : List MessageId). AllByRecursion (λ (f : Flight). f ≡ (queue, id) → ⊥) (map (λ (other : MessageId). (queue, other)) kept))
    (λ differs. ((λ is. other_ids other id differs (ap (λ (f : Flight). f.1) is)), each_apart queue id ids))
    (λ _. each_apart queue id ids)

pub flights_given_up : (name : List ℕ) (id : MessageId) (consumers : List Consumer) (c : Consumer) → consumer_named consumers name ≡ Some c → Contains c.in_flight id
    → Pairs (λ (f other : Flight). f ≡ other → ⊥) (flights consumers) → AllByRecursion (λ (f : Flight). f ≡ (c.queue, id) → ⊥) (flights (with_flights name (without_id id) consumers))
flights_given_up name id [] c found its once = tt
flights_given_up name id (d ∷ consumers) c found its once =
    let across : AllByRecursion (λ (f : Flight). AllByRecursion (λ other. f ≡ other → ⊥) (flights consumers)) (flights_of d) = pairs_across (λ (f other : Flight). f ≡ other → ⊥) (flights_of d) (flights consumers) once in
    elim (cases_Bool (bytes_eq name d.name)) [
      | inl is ↦
          let found_here : Some d ≡ Some c = subst (λ b. cond b (Some d) (find (λ (other : Consumer). bytes_eq name other.name) consumers) ≡ Some c) is found in
          let same : c ≡ d = cc in
          let others : AllByRecursion (λ other. (c.queue, id) ≡ other → ⊥) (flights consumers) = subst (λ (e : Consumer). AllByRecursion (λ other. (e.queue, id) ≡ other → ⊥) (flights consumers)) (sym same)
          (each_in (λ (f : Flight). AllByRecursion (λ other. f ≡ other → ⊥) (flights consumers)) (flights_of d) (d.queue, id) across
          (in_mapped (flight d) d.in_flight id (subst (λ (e : Consumer). Contains e.in_flight id) same its))) in
          let rest : AllByRecursion (λ (f : Flight). f ≡ (c.queue, id) → ⊥) (flights (with_flights name (without_id id) consumers)) =
          part_each (λ (f : Flight). f ≡ (c.queue, id) → ⊥) (flights_without name id consumers)
          (each_weaker (λ other. (c.queue, id) ≡ other → ⊥) (λ (f : Flight). f ≡ (c.queue, id) → ⊥) (flights consumers) (λ f apart is. apart (sym is)) others) in
          let first : AllByRecursion (λ (f : Flight). f ≡ (c.queue, id) → ⊥) (flights_of (record d { in_flight = without_id id d.in_flight })) =
          subst (λ (e : Consumer). AllByRecursion (λ (f : Flight). f ≡ (e.queue, id) → ⊥) (flights_of (record d { in_flight = without_id id d.in_flight }))) (sym same) (each_apart d.queue id d.in_flight) in
          subst (λ b. AllByRecursion (λ (f : Flight). f ≡ (c.queue, id) → ⊥) (flights_of (cond b (record d { in_flight = without_id id d.in_flight }) d) ++ flights (with_flights name (without_id id) consumers))) (sym is)
          (each_appended (λ (f : Flight). f ≡ (c.queue, id) → ⊥) (flights_of (record d { in_flight = without_id id d.in_flight })) (flights (with_flights name (without_id id) consumers)) first rest)
      | inr other ↦
          let found_there : consumer_named consumers name ≡ Some c = subst (λ b. cond b (Some d) (find (λ (other : Consumer). bytes_eq name other.name) consumers) ≡ Some c) other found in
          let there : Contains (flights consumers) (c.queue, id) = in_flights consumers c id (in_found (λ (other : Consumer). bytes_eq name other.name) consumers c found_there).0 its in
          let first : AllByRecursion (λ (f : Flight). f ≡ (c.queue, id) → ⊥) (flights_of d) =
          each_weaker (λ (f : Flight). AllByRecursion (λ other. f ≡ other → ⊥) (flights consumers)) (λ f. f ≡ (c.queue, id) → ⊥) (flights_of d)
          (λ f all. each_in (λ other. f ≡ other → ⊥) (flights consumers) (c.queue, id) all there) across in
          let rest : AllByRecursion (λ (f : Flight). f ≡ (c.queue, id) → ⊥) (flights (with_flights name (without_id id) consumers)) =
          flights_given_up name id consumers c found_there its (pairs_behind (λ (f other : Flight). f ≡ other → ⊥) (flights_of d) (flights consumers) once) in
          subst (λ b. AllByRecursion (λ (f : Flight). f ≡ (c.queue, id) → ⊥) (flights_of (cond b (record d { in_flight = without_id id d.in_flight }) d) ++ flights (with_flights name (without_id id) consumers))) (sym other)
          (each_appended (λ (f : Flight). f ≡ (c.queue, id) → ⊥) (flights_of d) (flights (with_flights name (without_id id) consumers)) first rest)
    ]

-- ---- one more
no_consumer : {c : Consumer} → None ≡ Some c → ⊥
no_consumer is = cc

pub put_id : (id : MessageId) (ids : List MessageId) → IsPut id ids (with_id id ids)
put_id id [] = here
put_id id (other ∷ ids) =
    cond_both (is_before other id) (other ∷ with_id id ids) (id ∷ other ∷ ids) (λ (put : List MessageId). IsPut id (other ∷ ids) put) (λ _. behind (put_id id ids)) (λ _. here)

none_changed : (name : List ℕ) (change : List MessageId → List MessageId) (consumers : List Consumer) → AllByRecursion (λ c. bytes_eq name c.name ≡ false) consumers → with_flights name change consumers ≡ consumers
none_changed name change [] all = refl
none_changed name change (c ∷ consumers) all =
    ap₂ (λ (d : Consumer) (rest : List Consumer). d ∷ rest)
    (ap (λ b. cond b (record c { in_flight = change c.in_flight }) c) all.0)
    (none_changed name change consumers all.1)

other_name : (name : List ℕ) (c : Consumer) (consumers : List Consumer) → name ≡ c.name → AllByRecursion (λ (other : Consumer). c.name ≡ other.name → ⊥) consumers → AllByRecursion (λ d. bytes_eq name d.name ≡ false) consumers
other_name name c consumers is apart =
    each_weaker (λ (other : Consumer). c.name ≡ other.name → ⊥) (λ d. bytes_eq name d.name ≡ false) consumers
    (λ d differ. elim (cases_Bool (bytes_eq name d.name)) [
      | inl same ↦ absurd (differ (sym is ∙ (bytes_eq-Decides name d.name).0 same))
      | inr differs ↦ differs
    ]) apart

pub flights_put : (name : List ℕ) (id : MessageId) (consumers : List Consumer) (c : Consumer) → consumer_named consumers name ≡ Some c
    → Pairs (λ (c other : Consumer). c.name ≡ other.name → ⊥) consumers → IsPut (c.queue, id) (flights consumers) (flights (with_flights name (with_id id) consumers))
flights_put name id [] c found names = absurd (no_consumer found)
flights_put name id (d ∷ consumers) c found names =
    elim (cases_Bool (bytes_eq name d.name)) [
      | inl is ↦
          let found_here : Some d ≡ Some c = subst (λ b. cond b (Some d) (find (λ (other : Consumer). bytes_eq name other.name) consumers) ≡ Some c) is found in
          let same : d ≡ c = cc in
          let rest : with_flights name (with_id id) consumers ≡ consumers = none_changed name (with_id id) consumers (other_name name d consumers ((bytes_eq-Decides name d.name).0 is) names.0) in
          let first : IsPut (d.queue, id) (flights_of d) (flights_of (record d { in_flight = with_id id d.in_flight })) = put_mapped (flight d) (put_id id d.in_flight) in
          let whole : IsPut (d.queue, id) (flights_of d ++ flights consumers) (flights_of (record d { in_flight = with_id id d.in_flight }) ++ flights consumers) = put_before (flights consumers) first in
          let all : IsPut (d.queue, id) (flights_of d ++ flights consumers) (flights_of (record d { in_flight = with_id id d.in_flight }) ++ flights (with_flights name (with_id id) consumers)) =
          subst (λ (cs : List Consumer). IsPut (d.queue, id) (flights_of d ++ flights consumers) (flights_of (record d { in_flight = with_id id d.in_flight }) ++ flights cs)) (sym rest) whole in
          subst (λ b. IsPut (c.queue, id) (flights_of d ++ flights consumers) (flights_of (cond b (record d { in_flight = with_id id d.in_flight }) d) ++ flights (with_flights name (with_id id) consumers))) (sym is)
          (subst (λ (e : Consumer). IsPut (e.queue, id) (flights_of d ++ flights consumers) (flights_of (record d { in_flight = with_id id d.in_flight }) ++ flights (with_flights name (with_id id) consumers))) same all)
      | inr other ↦
          let found_there : consumer_named consumers name ≡ Some c = subst (λ b. cond b (Some d) (find (λ (other : Consumer). bytes_eq name other.name) consumers) ≡ Some c) other found in
          subst (λ b. IsPut (c.queue, id) (flights_of d ++ flights consumers) (flights_of (cond b (record d { in_flight = with_id id d.in_flight }) d) ++ flights (with_flights name (with_id id) consumers))) (sym other)
          (put_after (flights_of d) (flights_put name id consumers c found_there names.1))
    ]

-- ---- what isn't in flight
pub none_in_flight : (consumers : List Consumer) (queue : ℕ) (id : MessageId) → is_in_flight consumers queue id ≡ false → AllByRecursion (λ (f : Flight). (queue, id) ≡ f → ⊥) (flights consumers)
none_in_flight [] queue id none = tt
none_in_flight (c ∷ consumers) queue id none =
    let parts = or_parts ((c.queue == queue) && list_any (λ other. same_id other id) c.in_flight) (is_in_flight consumers queue id) none in
    each_appended (λ (f : Flight). (queue, id) ≡ f → ⊥) (flights_of c) (flights consumers) (its (and_cases (c.queue == queue) (list_any (λ other. same_id other id) c.in_flight) parts.0)) (none_in_flight consumers queue id parts.1)
  where
    elsewhere : (c.queue == queue) ≡ false → (ids : List MessageId) → AllByRecursion (λ (f : Flight). (queue, id) ≡ f → ⊥) (map (flight c) ids)
    elsewhere differs [] = tt
    elsewhere differs (other ∷ ids) = ((λ is. false≢true (sym differs ∙ eq-eqb c.queue queue (sym (ap (λ (f : Flight). f.0) is)))), elsewhere differs ids)

    apart : (ids : List MessageId) → AllByRecursion (λ other. same_id other id ≡ false) ids → AllByRecursion (λ (f : Flight). (queue, id) ≡ f → ⊥) (map (flight c) ids)
    apart [] all = tt
    apart (other ∷ ids) all = ((λ is. false≢true (sym all.0 ∙ same_ids other id (sym (ap (λ (f : Flight). f.1) is)))), apart ids all.1)

    its : ((c.queue == queue) ≡ false) ⊎ (list_any (λ other. same_id other id) c.in_flight ≡ false) → AllByRecursion (λ (f : Flight). (queue, id) ≡ f → ⊥) (flights_of c)
    its (inl differs) = elsewhere differs c.in_flight
    its (inr none_here) = apart c.in_flight (none_any (λ other. same_id other id) c.in_flight none_here)
