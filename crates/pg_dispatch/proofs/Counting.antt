-- How many consumers pass a test, where one of them is changed or leaves.
use Rattle.std.proofs.Common.{◌≡◌, ℕ, ◌+◌, ◌≤◌, ◌<◌, Bool, true, false, cond, List, [], ◌∷◌, ◌++◌, refl, sym, ap, ◌∙◌, inl, inr, arith}
use Rattle.std.proofs.lemmas.Grind.{common_steps}
use Rattle.std.specs.Prelude.{Some}
use Rattle.std.specs.List.{list_any, count_by}
use Rattle.std.specs.Str.{bytes_eq}
use Rattle.std.proofs.lemmas.Bool.{cases_Bool}
use Rattle.std.proofs.lemmas.List.Sums.{sum_by-cons, sum_by_push}
use Rattle.pg_msg.specs.declared.message.MessageId.{MessageId}
use Rattle.pg_model.specs.Broker.{Consumer, consumer_named}
use Rattle.pg_model.specs.Changes.{with_flights, without_consumer}

-- one for a consumer that passes
abbrev pub bit : Bool → ℕ
bit b = cond b 1 0

-- the consumer has that name
abbrev pub is_named : List ℕ → Consumer → Bool
is_named name c = bytes_eq name c.name

pub count_cons : (test : Consumer → Bool) (c : Consumer) (cs : List Consumer) → count_by test (c ∷ cs) ≡ bit (test c) + count_by test cs
count_cons test c cs = sum_by-cons (λ x. cond (test x) 1 0) c cs

pub count_push : (test : Consumer → Bool) (cs : List Consumer) (c : Consumer) → count_by test (cs ++ c ∷ []) ≡ count_by test cs + bit (test c)
count_push test cs c = sum_by_push (λ x. cond (test x) 1 0) cs c

-- some passes exactly where their count isn't 0
pub any_counts : (test : Consumer → Bool) (cs : List Consumer) → list_any test cs ≡ true → 0 < count_by test cs
any_counts test [] is = absurd (grind (arith, common_steps, is))
any_counts test (c ∷ cs) is =
    elim (cases_Bool (test c)) [
      | inl passes ↦ rw (count_cons test c cs) (rw (ap bit passes) (omega arith))
      | inr fails ↦
          let rest : 0 < count_by test cs = any_counts test cs (grind (arith, common_steps, fails, is)) in
          rw (count_cons test c cs) (omega arith)
    ]

pub none_counts : (test : Consumer → Bool) (cs : List Consumer) → list_any test cs ≡ false → count_by test cs ≡ 0
none_counts test [] is = refl
none_counts test (c ∷ cs) is =
    elim (cases_Bool (test c)) [
      | inl passes ↦ absurd (grind (arith, common_steps, passes, is))
      | inr fails ↦
          let rest : count_by test cs ≡ 0 = none_counts test cs (grind (arith, common_steps, fails, is)) in
          rw (count_cons test c cs) (rw (ap bit fails) (omega (arith, rest)))
    ]

pub counts_any : (test : Consumer → Bool) (cs : List Consumer) → 0 < count_by test cs → list_any test cs ≡ true
counts_any test cs some =
    elim (cases_Bool (list_any test cs)) [
      | inl is ↦ is
      | inr none ↦ absurd (omega (arith, some, none_counts test cs none))
    ]

pub counts_none : (test : Consumer → Bool) (cs : List Consumer) → count_by test cs ≡ 0 → list_any test cs ≡ false
counts_none test cs none =
    elim (cases_Bool (list_any test cs)) [
      | inl is ↦ absurd (omega (arith, none, any_counts test cs is))
      | inr is ↦ is
    ]

-- the two tests of two lists are answered alike where their counts are the same
pub same_answer : (test other : Consumer → Bool) (cs ds : List Consumer) → count_by test cs ≡ count_by other ds → list_any test cs ≡ list_any other ds
same_answer test other cs ds same =
    elim (cases_Bool (list_any test cs)) [
      | inl some ↦
          elim (cases_Bool (list_any other ds)) [
            | inl too ↦ some ∙ sym too
            | inr none ↦ absurd (omega (arith, same, any_counts test cs some, none_counts other ds none))
          ]
      | inr none ↦
          elim (cases_Bool (list_any other ds)) [
            | inl some ↦ absurd (omega (arith, same, any_counts other ds some, none_counts test cs none))
            | inr too ↦ none ∙ sym too
          ]
    ]

-- ---- the consumer of a name
pub its_bit : (test : Consumer → Bool) (name : List ℕ) (cs : List Consumer) (c : Consumer) → consumer_named cs name ≡ Some c → bit (test c) ≤ count_by test cs
its_bit test name [] c is = absurd (grind (arith, common_steps, is))
its_bit test name (x ∷ cs) c is =
    elim (cases_Bool (is_named name x)) [
      | inl here ↦
          let same : x ≡ c = grind (arith, common_steps, here, is) in
          rw (count_cons test x cs) (rw same (omega arith))
      | inr not_here ↦
          let rest : bit (test c) ≤ count_by test cs = its_bit test name cs c (grind (arith, common_steps, not_here, is)) in
          rw (count_cons test x cs) (omega arith)
    ]

-- where no other has its name, nothing else changes with it
pub untouched : (name : List ℕ) (change : List MessageId → List MessageId) (cs : List Consumer) → count_by (is_named name) cs ≡ 0 → with_flights name change cs ≡ cs
untouched name change [] none = refl
untouched name change (x ∷ cs) none =
    elim (cases_Bool (is_named name x)) [
      | inl here ↦ absurd (omega (arith, none, count_cons (is_named name) x cs, ap bit here))
      | inr not_here ↦
          let rest : with_flights name change cs ≡ cs = untouched name change cs (omega (arith, none, count_cons (is_named name) x cs)) in
          grind (arith, common_steps, not_here, rest)
    ]

pub unmoved : (name : List ℕ) (cs : List Consumer) → count_by (is_named name) cs ≡ 0 → without_consumer name cs ≡ cs
unmoved name [] none = refl
unmoved name (x ∷ cs) none =
    elim (cases_Bool (is_named name x)) [
      | inl here ↦ absurd (omega (arith, none, count_cons (is_named name) x cs, ap bit here))
      | inr not_here ↦
          let rest : without_consumer name cs ≡ cs = unmoved name cs (omega (arith, none, count_cons (is_named name) x cs)) in
          grind (arith, common_steps, not_here, rest)
    ]

-- the consumer with other messages in flight
abbrev pub changed_one : (List MessageId → List MessageId) → Consumer → Consumer
changed_one change c = record c { in_flight = change c.in_flight }

pub changed_count : (test : Consumer → Bool) (name : List ℕ) (change : List MessageId → List MessageId) (cs : List Consumer) (c : Consumer)
    → count_by (is_named name) cs ≤ 1 → consumer_named cs name ≡ Some c
    → count_by test (with_flights name change cs) + bit (test c) ≡ count_by test cs + bit (test (changed_one change c))
changed_count test name change [] c one is = absurd (grind (arith, common_steps, is))
changed_count test name change (x ∷ cs) c one is =
    elim (cases_Bool (is_named name x)) [
      | inl here ↦
          let same : x ≡ c = grind (arith, common_steps, here, is) in
          let rest : with_flights name change cs ≡ cs = untouched name change cs (omega (arith, one, count_cons (is_named name) x cs, ap bit here)) in
          let all : with_flights name change (x ∷ cs) ≡ changed_one change c ∷ cs = grind (arith, common_steps, here, rest, same) in
          rw all (rw (count_cons test (changed_one change c) cs) (rw (count_cons test x cs) (rw same (omega arith))))
      | inr not_here ↦
          let rest : count_by test (with_flights name change cs) + bit (test c) ≡ count_by test cs + bit (test (changed_one change c)) =
          changed_count test name change cs c (omega (arith, one, count_cons (is_named name) x cs)) (grind (arith, common_steps, not_here, is)) in
          let all : with_flights name change (x ∷ cs) ≡ x ∷ with_flights name change cs = grind (arith, common_steps, not_here) in
          rw all (rw (count_cons test x (with_flights name change cs)) (rw (count_cons test x cs) (omega (arith, rest))))
    ]

pub left_count : (test : Consumer → Bool) (name : List ℕ) (cs : List Consumer) (c : Consumer) → count_by (is_named name) cs ≤ 1 → consumer_named cs name ≡ Some c
    → count_by test (without_consumer name cs) + bit (test c) ≡ count_by test cs
left_count test name [] c one is = absurd (grind (arith, common_steps, is))
left_count test name (x ∷ cs) c one is =
    elim (cases_Bool (is_named name x)) [
      | inl here ↦
          let same : x ≡ c = grind (arith, common_steps, here, is) in
          let rest : without_consumer name cs ≡ cs = unmoved name cs (omega (arith, one, count_cons (is_named name) x cs, ap bit here)) in
          let all : without_consumer name (x ∷ cs) ≡ cs = grind (arith, common_steps, here, rest) in
          rw all (rw (count_cons test x cs) (rw same (omega arith)))
      | inr not_here ↦
          let rest : count_by test (without_consumer name cs) + bit (test c) ≡ count_by test cs =
          left_count test name cs c (omega (arith, one, count_cons (is_named name) x cs)) (grind (arith, common_steps, not_here, is)) in
          let all : without_consumer name (x ∷ cs) ≡ x ∷ without_consumer name cs = grind (arith, common_steps, not_here) in
          rw all (rw (count_cons test x (without_consumer name cs)) (rw (count_cons test x cs) (omega (arith, rest))))
    ]
