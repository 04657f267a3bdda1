-- Which messages are in flight behind each change of the consumers.
use Rattle.std.proofs.Common.{◌≡◌, ℕ, ◌≤◌, Bool, true, false, not, ◌&&◌, ◌||◌, ◌==◌, List, [], ◌∷◌, ◌++◌, refl, sym, ap, ◌∙◌, subst, inl, inr, ◌⊎◌, arith}
use Rattle.std.proofs.lemmas.Grind.{common_steps}
use Rattle.std.specs.Prelude.{Some}
use Rattle.std.specs.List.{count_by}
use Rattle.std.proofs.lemmas.Bool.{and_from, and_left, and_parts, and_right, cases_Bool, eq-eqb, eqb-true, or_left}
use Rattle.pg_msg.specs.declared.message.MessageId.{MessageId}
use Rattle.pg_model.specs.Broker.{Consumer, consumer_named, same_id}
use Rattle.pg_model.specs.Changes.{is_before, with_flights, with_id, without_consumer, without_id}
use Rattle.pg_model.specs.Steps.{is_in_flight}
use Rattle.pg_dispatch.specs.Dispatch.{has_id}
use Rattle.pg_dispatch.specs.Matching.{holds}
use Rattle.pg_dispatch.proofs.Counting.{bit, changed_count, changed_one, count_push, counts_any, counts_none, is_named, its_bit, left_count, none_counts, same_answer}

-- ---- ids
pub same_ids : (a b : MessageId) → same_id a b ≡ true → a ≡ b
same_ids a b same = grind (arith, common_steps, same)

pub same_itself : (a : MessageId) → same_id a a ≡ true
same_itself a = grind (arith, common_steps)

pub same_either : (a b : MessageId) → same_id a b ≡ same_id b a
same_either a b =
    elim (cases_Bool (same_id a b)) [
      | inl same ↦ subst (λ x. same_id a x ≡ same_id x a) (same_ids a b same) refl
      | inr differ ↦
          elim (cases_Bool (same_id b a)) [
            | inl same ↦ subst (λ x. same_id a x ≡ same_id x a) (sym (same_ids b a same)) refl
            | inr too ↦ differ ∙ sym too
          ]
    ]

pub has_with : (id other : MessageId) (ids : List MessageId) → has_id other (with_id id ids) ≡ (same_id id other || has_id other ids)
has_with id other [] = refl
has_with id other (x ∷ ids) =
    elim (cases_Bool (is_before x id)) [
      | inl before ↦ grind (arith, common_steps, before, has_with id other ids)
      | inr behind ↦ grind (arith, common_steps, behind)
    ]

pub has_without : (id other : MessageId) (ids : List MessageId) → has_id other (without_id id ids) ≡ (not (same_id id other) && has_id other ids)
has_without id other [] = grind (arith, common_steps)
has_without id other (x ∷ ids) =
    elim (cases_Bool (same_id x id)) [
      | inl same ↦
          let its : x ≡ id = same_ids x id same in
          grind (arith, common_steps, same, its, has_without id other ids)
      | inr apart ↦ kept apart (cases_Bool (same_id id other)) (has_without id other ids)
    ]
  where
    kept : same_id x id ≡ false → (same_id id other ≡ true) ⊎ (same_id id other ≡ false) → has_id other (without_id id ids) ≡ (not (same_id id other) && has_id other ids)
        → has_id other (without_id id (x ∷ ids)) ≡ (not (same_id id other) && has_id other (x ∷ ids))
    kept apart (inl same) rest = let its : id ≡ other = same_ids id other same in grind (arith, common_steps, apart, same, its, rest)
    kept apart (inr differ) rest = grind (arith, common_steps, apart, differ, rest)

-- the message of that queue is this one
abbrev pub is_that : ℕ → MessageId → ℕ → MessageId → Bool
is_that queue id other message = (queue == other) && same_id id message

pub that_one : (queue : ℕ) (id : MessageId) (other : ℕ) (message : MessageId) → is_that queue id other message ≡ true → (queue ≡ other) × (id ≡ message)
that_one queue id other message is =
    let parts = and_parts (queue == other) (same_id id message) is in
    (eqb-true queue other parts.0, same_ids id message parts.1)

-- a message that isn't that one is had with it and without it as before
pub holds_with : (c : Consumer) (id : MessageId) (queue : ℕ) (other : MessageId) → is_that c.queue id queue other ≡ false
    → holds queue other (changed_one (with_id id) c) ≡ holds queue other c
holds_with c id queue other apart =
    elim (cases_Bool (c.queue == queue)) [
      | inl here ↦
          let differ : same_id id other ≡ false = grind (arith, common_steps, apart, here) in
          ap (λ b. (c.queue == queue) && b) (has_with id other c.in_flight ∙ ap (λ b. b || has_id other c.in_flight) differ)
      | inr there ↦ and_left _ _ there ∙ sym (and_left _ _ there)
    ]

pub holds_without : (c : Consumer) (id : MessageId) (queue : ℕ) (other : MessageId) → is_that c.queue id queue other ≡ false
    → holds queue other (changed_one (without_id id) c) ≡ holds queue other c
holds_without c id queue other apart =
    elim (cases_Bool (c.queue == queue)) [
      | inl here ↦
          let differ : same_id id other ≡ false = grind (arith, common_steps, apart, here) in
          ap (λ b. (c.queue == queue) && b) (has_without id other c.in_flight ∙ ap (λ b. not b && has_id other c.in_flight) differ)
      | inr there ↦ and_left _ _ there ∙ sym (and_left _ _ there)
    ]

-- ---- in flight for one more
pub count_itself_with : (name : List ℕ) (id : MessageId) (cs : List Consumer) (c : Consumer) → count_by (is_named name) cs ≤ 1 → consumer_named cs name ≡ Some c
    → is_in_flight cs c.queue id ≡ false → count_by (holds c.queue id) (with_flights name (with_id id) cs) ≡ 1
count_itself_with name id cs c one is free =
    let counts = changed_count (holds c.queue id) name (with_id id) cs c one is in
    let had : count_by (holds c.queue id) cs ≡ 0 = none_counts (holds c.queue id) cs free in
    let its : bit (holds c.queue id c) ≤ count_by (holds c.queue id) cs = its_bit (holds c.queue id) name cs c is in
    let has : holds c.queue id (changed_one (with_id id) c) ≡ true = and_from _ _ (eq-eqb c.queue c.queue refl) (has_with id id c.in_flight ∙ ap (λ b. b || has_id id c.in_flight) (same_itself id)) in
    omega (arith, counts, had, its, ap bit has)

pub count_others_with : (name : List ℕ) (id : MessageId) (cs : List Consumer) (c : Consumer) → count_by (is_named name) cs ≤ 1 → consumer_named cs name ≡ Some c
    → (queue : ℕ) (other : MessageId) → is_that c.queue id queue other ≡ false
    → count_by (holds queue other) (with_flights name (with_id id) cs) ≡ count_by (holds queue other) cs
count_others_with name id cs c one is queue other apart =
    omega (arith, changed_count (holds queue other) name (with_id id) cs c one is, ap bit (holds_with c id queue other apart))

pub flies_with : (name : List ℕ) (id : MessageId) (cs : List Consumer) (c : Consumer) → count_by (is_named name) cs ≤ 1 → consumer_named cs name ≡ Some c
    → is_in_flight cs c.queue id ≡ false → (queue : ℕ) (other : MessageId)
    → is_in_flight (with_flights name (with_id id) cs) queue other ≡ (is_that c.queue id queue other || is_in_flight cs queue other)
flies_with name id cs c one is free queue other =
    elim (cases_Bool (is_that c.queue id queue other)) [
      | inl here ↦
          let both = that_one c.queue id queue other here in
          let its : is_in_flight (with_flights name (with_id id) cs) c.queue id ≡ true =
          counts_any (holds c.queue id) (with_flights name (with_id id) cs) (omega (arith, count_itself_with name id cs c one is free)) in
          subst (λ q. is_in_flight (with_flights name (with_id id) cs) q other ≡ true) both.0 (subst (λ i. is_in_flight (with_flights name (with_id id) cs) c.queue i ≡ true) both.1 its)
          ∙ sym (or_left _ _ here)
      | inr apart ↦
          same_answer (holds queue other) (holds queue other) (with_flights name (with_id id) cs) cs (count_others_with name id cs c one is queue other apart)
          ∙ ap (λ b. b || is_in_flight cs queue other) (sym apart)
    ]

-- ---- in flight for one less
pub count_itself_without : (name : List ℕ) (id : MessageId) (cs : List Consumer) (c : Consumer) → count_by (is_named name) cs ≤ 1 → consumer_named cs name ≡ Some c
    → has_id id c.in_flight ≡ true → count_by (holds c.queue id) cs ≤ 1 → count_by (holds c.queue id) (with_flights name (without_id id) cs) ≡ 0
count_itself_without name id cs c one is has once =
    let counts = changed_count (holds c.queue id) name (without_id id) cs c one is in
    let had : holds c.queue id c ≡ true = and_from _ _ (eq-eqb c.queue c.queue refl) has in
    let lost : holds c.queue id (changed_one (without_id id) c) ≡ false =
    and_right (c.queue == c.queue) _ (has_without id id c.in_flight ∙ ap (λ b. not b && has_id id c.in_flight) (same_itself id)) in
    omega (arith, counts, once, ap bit had, ap bit lost)

pub count_others_without : (name : List ℕ) (id : MessageId) (cs : List Consumer) (c : Consumer) → count_by (is_named name) cs ≤ 1 → consumer_named cs name ≡ Some c
    → (queue : ℕ) (other : MessageId) → is_that c.queue id queue other ≡ false
    → count_by (holds queue other) (with_flights name (without_id id) cs) ≡ count_by (holds queue other) cs
count_others_without name id cs c one is queue other apart =
    omega (arith, changed_count (holds queue other) name (without_id id) cs c one is, ap bit (holds_without c id queue other apart))

pub flies_without : (name : List ℕ) (id : MessageId) (cs : List Consumer) (c : Consumer) → count_by (is_named name) cs ≤ 1 → consumer_named cs name ≡ Some c
    → has_id id c.in_flight ≡ true → count_by (holds c.queue id) cs ≤ 1 → (queue : ℕ) (other : MessageId)
    → is_in_flight (with_flights name (without_id id) cs) queue other ≡ (not (is_that c.queue id queue other) && is_in_flight cs queue other)
flies_without name id cs c one is has once queue other =
    elim (cases_Bool (is_that c.queue id queue other)) [
      | inl here ↦
          let both = that_one c.queue id queue other here in
          let its : is_in_flight (with_flights name (without_id id) cs) c.queue id ≡ false =
          counts_none (holds c.queue id) (with_flights name (without_id id) cs) (count_itself_without name id cs c one is has once) in
          subst (λ q. is_in_flight (with_flights name (without_id id) cs) q other ≡ false) both.0 (subst (λ i. is_in_flight (with_flights name (without_id id) cs) c.queue i ≡ false) both.1 its)
          ∙ ap (λ b. not b && is_in_flight cs queue other) (sym here)
      | inr apart ↦
          same_answer (holds queue other) (holds queue other) (with_flights name (without_id id) cs) cs (count_others_without name id cs c one is queue other apart)
          ∙ ap (λ b. not b && is_in_flight cs queue other) (sym apart)
    ]

-- ---- a consumer that has nothing in flight comes or goes
pub flies_opened : (cs : List Consumer) (c : Consumer) → c.in_flight ≡ [] → (queue : ℕ) (other : MessageId) → is_in_flight (cs ++ c ∷ []) queue other ≡ is_in_flight cs queue other
flies_opened cs c none queue other =
    let nothing : holds queue other c ≡ false = and_right (c.queue == queue) _ (ap (has_id other) none) in
    same_answer (holds queue other) (holds queue other) (cs ++ c ∷ []) cs (omega (arith, count_push (holds queue other) cs c, ap bit nothing))

pub flies_closed : (name : List ℕ) (cs : List Consumer) (c : Consumer) → count_by (is_named name) cs ≤ 1 → consumer_named cs name ≡ Some c → c.in_flight ≡ []
    → (queue : ℕ) (other : MessageId) → is_in_flight (without_consumer name cs) queue other ≡ is_in_flight cs queue other
flies_closed name cs c one is none queue other =
    let nothing : holds queue other c ≡ false = and_right (c.queue == queue) _ (ap (has_id other) none) in
    same_answer (holds queue other) (holds queue other) (without_consumer name cs) cs (omega (arith, left_count (holds queue other) name cs c one is, ap bit nothing))
