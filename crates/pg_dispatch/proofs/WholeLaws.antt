-- Lines and consumers stay whole through each change.
use Rattle.std.proofs.Common.{◌≡◌, ℕ, ◌≤◌, Bool, true, false, not, ◌&&◌, ◌==◌, List, [], ◌∷◌, ◌++◌, refl, sym, ap, ap₂, ◌∙◌, subst, inl, inr, ◌⊎◌, arith}
use Rattle.std.proofs.lemmas.Grind.{common_steps}
use Rattle.std.specs.Prelude.{Some, None}
use Rattle.std.specs.List.{list_any, count_by}
use Rattle.std.specs.Str.{bytes_eq}
use Rattle.std.proofs.lemmas.Bool.{and_parts, cases_Bool, eqb-true, or_cases}
use Rattle.std.proofs.lemmas.Slice.Eq.{bytes_eq-Decides}
use Rattle.pg_msg.specs.declared.message.MessageId.{MessageId}
use Rattle.pg_model.specs.Broker.{Consumer, consumer_named}
use Rattle.pg_model.specs.Changes.{with_flights, with_id, without_consumer, without_id}
use Rattle.pg_model.specs.Steps.{is_in_flight}
use Rattle.pg_dispatch.specs.Dispatch.{Dispatch, acknowledged, cancelled, closed, given_to, has_id, has_line, with_consumer, with_line, with_message, without_line}
use Rattle.pg_dispatch.specs.Matching.{IsWhole, holds, ids_in}
use Rattle.pg_dispatch.proofs.Counting.{bit, changed_count, count_cons, count_push, is_named, left_count, same_answer}
use Rattle.pg_dispatch.proofs.Flying.{count_itself_with, count_itself_without, count_others_with, count_others_without, flies_closed, flies_opened, flies_with, flies_without, is_that, that_one}
use Rattle.pg_dispatch.proofs.LineLaws.{id_given, id_relieved, ids_with_line, ids_without_line, line_given, line_left, line_relieved, line_stays}

-- the consumer is on that queue
abbrev pub is_on : ℕ → Consumer → Bool
is_on queue c = c.queue == queue

-- ---- nothing yet, and the lines alone
pub whole_new : IsWhole (record { lines = []; consumers = [] })
whole_new =
    record {
      live = λ queue on. absurd (grind (arith, common_steps, on));
      held = λ queue id flies. absurd (grind (arith, common_steps, flies));
      named = λ name. omega arith;
      once = λ queue id. omega arith;
    }

pub whole_with_line : (queue : ℕ) (d : Dispatch) → IsWhole d → IsWhole (with_line queue d)
whole_with_line queue d whole =
    record {
      live = λ other on. line_stays other d.lines (record { queue = queue; ids = [] }) (whole.live other on);
      held = λ other id flies. ap (has_id id) (ids_with_line queue other d.lines) ∙ whole.held other id flies;
      named = whole.named;
      once = whole.once;
    }

-- what is in flight from a queue has a consumer on it
pub flown_on : (queue : ℕ) (id : MessageId) (cs : List Consumer) → is_in_flight cs queue id ≡ true → list_any (is_on queue) cs ≡ true
flown_on queue id [] flies = flies
flown_on queue id (c ∷ cs) flies =
    elim (cases_Bool (is_on queue c)) [
      | inl here ↦ grind (arith, common_steps, here)
      | inr there ↦
          let rest : list_any (is_on queue) cs ≡ true = flown_on queue id cs (grind (arith, common_steps, there, flies)) in
          grind (arith, common_steps, there, rest)
    ]

-- a queue with a consumer isn't one without
pub on_another : (queue other : ℕ) (cs : List Consumer) → list_any (is_on queue) cs ≡ false → list_any (is_on other) cs ≡ true → (other == queue) ≡ false
on_another queue other cs none on =
    elim (cases_Bool (other == queue)) [
      | inl same ↦
          let too : list_any (is_on queue) cs ≡ true = subst (λ q. list_any (is_on q) cs ≡ true) (eqb-true other queue same) on in
          absurd (grind (arith, common_steps, none, too))
      | inr apart ↦ apart
    ]

pub whole_without_line : (queue : ℕ) (d : Dispatch) → list_any (is_on queue) d.consumers ≡ false → IsWhole d → IsWhole (without_line queue d)
whole_without_line queue d none whole =
    record {
      live = λ other on. line_left queue other d.lines (on_another queue other d.consumers none on) ∙ whole.live other on;
      held = λ other id flies.
          ap (has_id id) (ids_without_line queue other d.lines (on_another queue other d.consumers none (flown_on other id d.consumers flies))) ∙ whole.held other id flies;
      named = whole.named;
      once = whole.once;
    }

pub whole_with_message : (queues : List ℕ) (id : MessageId) (d : Dispatch) → IsWhole d → IsWhole (with_message queues id d)
whole_with_message queues id d whole =
    record {
      live = λ other on. line_given queues id other d.lines ∙ whole.live other on;
      held = λ other message flies. id_given queues id other message d.lines (whole.held other message flies);
      named = whole.named;
      once = whole.once;
    }

-- ---- a further consumer
pub unnamed : (name : List ℕ) (cs : List Consumer) → consumer_named cs name ≡ None → count_by (is_named name) cs ≡ 0
unnamed name [] none = refl
unnamed name (c ∷ cs) none =
    elim (cases_Bool (is_named name c)) [
      | inl here ↦ absurd (grind (arith, common_steps, here, none))
      | inr there ↦
          let rest : count_by (is_named name) cs ≡ 0 = unnamed name cs (grind (arith, common_steps, there, none)) in
          omega (arith, count_cons (is_named name) c cs, rest, ap bit there)
    ]

abbrev pub opened_one : List ℕ → ℕ → Consumer
opened_one name queue = record { name = name; queue = queue; in_flight = [] }

pub named_once_more : (name : List ℕ) (queue : ℕ) (cs : List Consumer) (other : List ℕ) → consumer_named cs name ≡ None → count_by (is_named other) cs ≤ 1
    → count_by (is_named other) (cs ++ opened_one name queue ∷ []) ≤ 1
named_once_more name queue cs other none one =
    elim (cases_Bool (bytes_eq other name)) [
      | inl same ↦
          let equal : other ≡ name = (bytes_eq-Decides other name).0 same in
          let zero_of : count_by (is_named other) cs ≡ 0 = unnamed other cs (subst (λ n. consumer_named cs n ≡ None) (sym equal) none) in
          omega (arith, count_push (is_named other) cs (opened_one name queue), zero_of, ap bit same)
      | inr apart ↦ omega (arith, count_push (is_named other) cs (opened_one name queue), one, ap bit apart)
    ]

pub on_pushed : (queue other : ℕ) (name : List ℕ) (cs : List Consumer) → list_any (is_on other) (cs ++ opened_one name queue ∷ []) ≡ true
    → (list_any (is_on other) cs ≡ true) ⊎ (queue ≡ other)
on_pushed queue other name [] on = elim (cases_Bool (queue == other)) [ inl same ↦ inr (eqb-true queue other same) | inr apart ↦ absurd (grind (arith, common_steps, on, apart)) ]
on_pushed queue other name (c ∷ cs) on =
    elim (cases_Bool (is_on other c)) [
      | inl here ↦ inl (grind (arith, common_steps, here))
      | inr there ↦
          elim (on_pushed queue other name cs (grind (arith, common_steps, there, on))) [
            | inl rest ↦ inl (grind (arith, common_steps, there, rest))
            | inr same ↦ inr same
          ]
    ]

pub whole_with_consumer : (name : List ℕ) (queue : ℕ) (d : Dispatch) → consumer_named d.consumers name ≡ None → has_line queue d.lines ≡ true → IsWhole d
    → IsWhole (with_consumer name queue d)
whole_with_consumer name queue d none there whole =
    record {
      live = λ other on.
          elim (on_pushed queue other name d.consumers on) [
            | inl before ↦ whole.live other before
            | inr same ↦ subst (λ q. has_line q d.lines ≡ true) same there
          ];
      held = λ other id flies. whole.held other id (sym (flies_opened d.consumers (opened_one name queue) refl other id) ∙ flies);
      named = λ other. named_once_more name queue d.consumers other none (whole.named other);
      once = λ other id.
          let nothing : holds other id (opened_one name queue) ≡ false = grind (arith, common_steps) in
          omega (arith, count_push (holds other id) d.consumers (opened_one name queue), whole.once other id, ap bit nothing);
    }

-- ---- what is in flight for a consumer changes
pub named_still : (name : List ℕ) (change : List MessageId → List MessageId) (cs : List Consumer) (c : Consumer) (other : List ℕ) → ((n : List ℕ) → count_by (is_named n) cs ≤ 1)
    → consumer_named cs name ≡ Some c → count_by (is_named other) (with_flights name change cs) ≤ 1
named_still name change cs c other named is = omega (arith, changed_count (is_named other) name change cs c (named name) is, named other)

pub on_still : (name : List ℕ) (change : List MessageId → List MessageId) (cs : List Consumer) (c : Consumer) (queue : ℕ) → count_by (is_named name) cs ≤ 1
    → consumer_named cs name ≡ Some c → list_any (is_on queue) (with_flights name change cs) ≡ list_any (is_on queue) cs
on_still name change cs c queue one is =
    same_answer (is_on queue) (is_on queue) (with_flights name change cs) cs (omega (arith, changed_count (is_on queue) name change cs c one is))

pub whole_given : (name : List ℕ) (id : MessageId) (c : Consumer) (d : Dispatch) → consumer_named d.consumers name ≡ Some c → has_id id (ids_in c.queue d.lines) ≡ true
    → is_in_flight d.consumers c.queue id ≡ false → IsWhole d → IsWhole (given_to name (Some id) d)
whole_given name id c d is there free whole =
    record {
      live = λ queue on. whole.live queue (sym (on_still name (with_id id) d.consumers c queue (whole.named name) is) ∙ on);
      held = λ queue other flies.
          elim (or_cases (is_that c.queue id queue other) (is_in_flight d.consumers queue other) (sym (flies_with name id d.consumers c (whole.named name) is free queue other) ∙ flies)) [
            | inl here ↦
                let both = that_one c.queue id queue other here in
                subst (λ q. has_id other (ids_in q d.lines) ≡ true) both.0 (subst (λ i. has_id i (ids_in c.queue d.lines) ≡ true) both.1 there)
            | inr before ↦ whole.held queue other before
          ];
      named = λ other. named_still name (with_id id) d.consumers c other whole.named is;
      once = λ queue other.
          elim (cases_Bool (is_that c.queue id queue other)) [
            | inl here ↦
                let both = that_one c.queue id queue other here in
                let one : count_by (holds c.queue id) (with_flights name (with_id id) d.consumers) ≤ 1 =
                omega (arith, count_itself_with name id d.consumers c (whole.named name) is free) in
                subst (λ q. count_by (holds q other) (with_flights name (with_id id) d.consumers) ≤ 1) both.0
                (subst (λ i. count_by (holds c.queue i) (with_flights name (with_id id) d.consumers) ≤ 1) both.1 one)
            | inr apart ↦ omega (arith, count_others_with name id d.consumers c (whole.named name) is queue other apart, whole.once queue other)
          ];
    }

-- what was in flight and is another one stays so
pub flown_before : (name : List ℕ) (id : MessageId) (cs : List Consumer) (c : Consumer) → count_by (is_named name) cs ≤ 1 → consumer_named cs name ≡ Some c → has_id id c.in_flight ≡ true
    → count_by (holds c.queue id) cs ≤ 1 → (queue : ℕ) (other : MessageId) → is_in_flight (with_flights name (without_id id) cs) queue other ≡ true
    → (not (is_that c.queue id queue other) ≡ true) × (is_in_flight cs queue other ≡ true)
flown_before name id cs c one is has once queue other flies =
    and_parts (not (is_that c.queue id queue other)) (is_in_flight cs queue other) (sym (flies_without name id cs c one is has once queue other) ∙ flies)

pub once_without : (name : List ℕ) (id : MessageId) (cs : List Consumer) (c : Consumer) → ((n : List ℕ) → count_by (is_named n) cs ≤ 1) → consumer_named cs name ≡ Some c → has_id id c.in_flight ≡ true
    → ((queue : ℕ) (other : MessageId) → count_by (holds queue other) cs ≤ 1) → (queue : ℕ) (other : MessageId) → count_by (holds queue other) (with_flights name (without_id id) cs) ≤ 1
once_without name id cs c named is has once queue other =
    elim (cases_Bool (is_that c.queue id queue other)) [
      | inl here ↦
          let both = that_one c.queue id queue other here in
          let one : count_by (holds c.queue id) (with_flights name (without_id id) cs) ≤ 1 =
          omega (arith, count_itself_without name id cs c (named name) is has (once c.queue id)) in
          subst (λ q. count_by (holds q other) (with_flights name (without_id id) cs) ≤ 1) both.0
          (subst (λ i. count_by (holds c.queue i) (with_flights name (without_id id) cs) ≤ 1) both.1 one)
      | inr apart ↦ omega (arith, count_others_without name id cs c (named name) is queue other apart, once queue other)
    ]

pub whole_cancelled : (name : List ℕ) (id : MessageId) (c : Consumer) (d : Dispatch) → consumer_named d.consumers name ≡ Some c → has_id id c.in_flight ≡ true → IsWhole d
    → IsWhole (cancelled name id d)
whole_cancelled name id c d is has whole =
    record {
      live = λ queue on. whole.live queue (sym (on_still name (without_id id) d.consumers c queue (whole.named name) is) ∙ on);
      held = λ queue other flies. whole.held queue other (flown_before name id d.consumers c (whole.named name) is has (whole.once c.queue id) queue other flies).1;
      named = λ other. named_still name (without_id id) d.consumers c other whole.named is;
      once = once_without name id d.consumers c whole.named is has whole.once;
    }

pub whole_acknowledged : (name : List ℕ) (id : MessageId) (c : Consumer) (d : Dispatch) → consumer_named d.consumers name ≡ Some c → has_id id c.in_flight ≡ true → IsWhole d
    → IsWhole (acknowledged name c.queue id d)
whole_acknowledged name id c d is has whole =
    record {
      live = λ queue on. line_relieved c.queue id queue d.lines ∙ whole.live queue (sym (on_still name (without_id id) d.consumers c queue (whole.named name) is) ∙ on);
      held = λ queue other flies.
          let before = flown_before name id d.consumers c (whole.named name) is has (whole.once c.queue id) queue other flies in
          id_relieved c.queue id queue other d.lines ∙ ap₂ (λ (a b : Bool). a && b) before.0 (whole.held queue other before.1);
      named = λ other. named_still name (without_id id) d.consumers c other whole.named is;
      once = once_without name id d.consumers c whole.named is has whole.once;
    }

-- ---- a consumer with nothing in flight is closed
pub on_before : (queue : ℕ) (name : List ℕ) (cs : List Consumer) → list_any (is_on queue) (without_consumer name cs) ≡ true → list_any (is_on queue) cs ≡ true
on_before queue name [] on = on
on_before queue name (c ∷ cs) on =
    elim (cases_Bool (is_on queue c)) [
      | inl here ↦ grind (arith, common_steps, here)
      | inr there ↦
          let rest : list_any (is_on queue) cs ≡ true =
          on_before queue name cs (elim (cases_Bool (is_named name c)) [ inl gone ↦ grind (arith, common_steps, gone, on) | inr stays ↦ grind (arith, common_steps, there, stays, on) ]) in
          grind (arith, common_steps, there, rest)
    ]

pub whole_closed : (name : List ℕ) (c : Consumer) (d : Dispatch) → consumer_named d.consumers name ≡ Some c → c.in_flight ≡ [] → IsWhole d → IsWhole (closed name d)
whole_closed name c d is none whole =
    record {
      live = λ queue on. whole.live queue (on_before queue name d.consumers on);
      held = λ queue id flies. whole.held queue id (sym (flies_closed name d.consumers c (whole.named name) is none queue id) ∙ flies);
      named = λ other. omega (arith, left_count (is_named other) name d.consumers c (whole.named name) is, whole.named other);
      once = λ queue id. omega (arith, left_count (holds queue id) name d.consumers c (whole.named name) is, whole.once queue id);
    }
