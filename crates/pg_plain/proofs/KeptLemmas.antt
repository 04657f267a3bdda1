-- Each consumer's queue stays live.
use Rattle.std.proofs.Common.{◌≡◌, refl, sym, ap, ap₂, ◌∙◌, ℕ, Bool, true, false, not, cond, eqb, ◌||◌, ◌==◌, List, [], ◌∷◌, ◌++◌, map, filter, find, Some, inl, inr}
use Rattle.std.specs.List.{list_all, list_any}
use Rattle.std.specs.Str.{bytes_eq}
use Rattle.std.proofs.lemmas.Bool.{cases_Bool, and_from, and_parts, or_left, or_right, or_parts, eqb-true, eq-eqb, both_ways}
use Rattle.std.proofs.lemmas.List.Folds.{list_all-append, list_any-append}
use Rattle.std.proofs.lemmas.Option.{none-some, same_Some}
use Rattle.pg_msg.specs.declared.message.Message.{Message}
use Rattle.pg_msg.specs.declared.message.MessageId.{MessageId}
use Rattle.pg_model.specs.Broker.{Queue, Consumer, consumer_named, queue_named, queue_with}
use Rattle.pg_model.specs.Changes.{acknowledged, given, given_to, has_number, relieved, with_flights, without_queue}
use Rattle.pg_plain.specs.Kept.{are_live, is_live}

-- one that was found passes any test that it passes
found_any : {X : Type 0} (test other : X → Bool) (xs : List X) (x : X) → find test xs ≡ Some x → other x ≡ true → list_any other xs ≡ true
found_any test other [] x none is = absurd (none-some x none)
found_any test other (y ∷ xs) x found is =
    elim (cases_Bool (test y)) [
      | inl here ↦
          let same : y ≡ x = same_Some y x (sym (ap (λ b. cond b (Some y) (find test xs)) here) ∙ found) in
          or_left _ _ (ap other same ∙ is)
      | inr elsewhere ↦ or_right _ _ (found_any test other xs x (sym (ap (λ b. cond b (Some y) (find test xs)) elsewhere) ∙ found) is)
    ]

-- one that was found passes the test, and one that all pass
found_all : {X : Type 0} (test other : X → Bool) (xs : List X) (x : X) → find test xs ≡ Some x → list_all other xs ≡ true → other x ≡ true
found_all test other [] x none all = absurd (none-some x none)
found_all test other (y ∷ xs) x found all =
    let parts = and_parts (other y) (list_all other xs) all in
    elim (cases_Bool (test y)) [
      | inl here ↦
          let same : y ≡ x = same_Some y x (sym (ap (λ b. cond b (Some y) (find test xs)) here) ∙ found) in
          sym (ap other same) ∙ parts.0
      | inr elsewhere ↦ found_all test other xs x (sym (ap (λ b. cond b (Some y) (find test xs)) elsewhere) ∙ found) parts.1
    ]

-- where one passes, one is found
pub any_found : {X : Type 0} (test : X → Bool) (xs : List X) → list_any test xs ≡ true → (x : X) × (find test xs ≡ Some x)
any_found test [] is = cc
any_found test (x ∷ xs) is = by (test x) is (any_found test xs)
  where
    by : (b : Bool) → (b || list_any test xs) ≡ true → (list_any test xs ≡ true → (y : _) × (find test xs ≡ Some y)) → (y : _) × (cond b (Some x) (find test xs) ≡ Some y)
    by true is rest = (x, refl)
    by false is rest = rest is

pub named_live : (queues : List Queue) (name : List ℕ) (q : Queue) → queue_named queues name ≡ Some q → is_live queues q.id ≡ true
named_live queues name q found = found_any (λ (a : Queue). bytes_eq name a.name) (λ (a : Queue). a.id == q.id) queues q found (eq-eqb q.id q.id refl)

pub consumed_live : (queues : List Queue) (consumers : List Consumer) (name : List ℕ) (c : Consumer) → are_live queues consumers ≡ true → consumer_named consumers name ≡ Some c → (q : Queue) × (queue_with queues c.queue ≡ Some q)
consumed_live queues consumers name c live found =
    any_found (λ (q : Queue). q.id == c.queue) queues (found_all (λ (a : Consumer). bytes_eq name a.name) (λ (a : Consumer). is_live queues a.queue) consumers c found live)

-- ---- what keeps it
pub live_made : (queues : List Queue) (q : Queue) (consumers : List Consumer) → are_live queues consumers ≡ true → are_live (queues ++ q ∷ []) consumers ≡ true
live_made queues q [] live = refl
live_made queues q (c ∷ consumers) live =
    let parts = and_parts (is_live queues c.queue) (are_live queues consumers) live in
    and_from _ _ (list_any-append (λ (a : Queue). a.id == c.queue) queues (q ∷ []) ∙ or_left _ _ parts.0) (live_made queues q consumers parts.1)

pub live_opened : (queues : List Queue) (consumers : List Consumer) (c : Consumer) → are_live queues consumers ≡ true → is_live queues c.queue ≡ true → are_live queues (consumers ++ c ∷ []) ≡ true
live_opened queues consumers c live is =
    list_all-append (λ (a : Consumer). is_live queues a.queue) consumers (c ∷ []) ∙ and_from _ _ live (and_from _ _ is refl)

pub live_closed : (test : Consumer → Bool) (queues : List Queue) (consumers : List Consumer) → are_live queues consumers ≡ true → are_live queues (filter test consumers) ≡ true
live_closed test queues [] live = refl
live_closed test queues (c ∷ consumers) live =
    let parts = and_parts (is_live queues c.queue) (are_live queues consumers) live in
    by (test c) parts.0 (live_closed test queues consumers parts.1)
  where
    by : (b : Bool) → is_live queues c.queue ≡ true → are_live queues (filter test consumers) ≡ true → are_live queues (cond b (c ∷ filter test consumers) (filter test consumers)) ≡ true
    by true first others = and_from _ _ first others
    by false first others = others

-- queues are changed, and their ids stay
same_live : (change : Queue → Queue) → ((q : Queue) → (change q).id ≡ q.id) → (queues : List Queue) (id : ℕ) → is_live (map change queues) id ≡ is_live queues id
same_live change same [] id = refl
same_live change same (q ∷ queues) id = ap₂ (λ (n : ℕ) (b : Bool). eqb n id || b) (same q) (same_live change same queues id)

live_changed : (change : Queue → Queue) → ((q : Queue) → (change q).id ≡ q.id) → (queues : List Queue) (consumers : List Consumer) → are_live queues consumers ≡ true → are_live (map change queues) consumers ≡ true
live_changed change same queues [] live = refl
live_changed change same queues (c ∷ consumers) live =
    let parts = and_parts (is_live queues c.queue) (are_live queues consumers) live in
    and_from _ _ (same_live change same queues c.queue ∙ parts.0) (live_changed change same queues consumers parts.1)

pub live_given : (numbers : List ℕ) (m : Message) (queues : List Queue) (consumers : List Consumer) → are_live queues consumers ≡ true → are_live (given numbers m queues) consumers ≡ true
live_given numbers m queues consumers live = live_changed (given_to numbers m) same queues consumers live
  where
    same : (q : Queue) → (given_to numbers m q).id ≡ q.id
    same q = by (has_number numbers q.id)
      where
        by : (b : Bool) → (cond b (record q { messages = q.messages ++ (m ∷ []) }) q).id ≡ q.id
        by true = refl
        by false = refl

pub live_acknowledged : (number : ℕ) (id : MessageId) (queues : List Queue) (consumers : List Consumer) → are_live queues consumers ≡ true → are_live (acknowledged number id queues) consumers ≡ true
live_acknowledged number id queues consumers live = live_changed (relieved number id) same queues consumers live
  where
    same : (q : Queue) → (relieved number id q).id ≡ q.id
    same q = by (q.id == number) _
      where
        by : (b : Bool) (l : List Message) → (cond b (record q { messages = l }) q).id ≡ q.id
        by true l = refl
        by false l = refl

pub live_flights : (name : List ℕ) (change : List MessageId → List MessageId) (queues : List Queue) (consumers : List Consumer) → are_live queues consumers ≡ true → are_live queues (with_flights name change consumers) ≡ true
live_flights name change queues [] live = refl
live_flights name change queues (c ∷ consumers) live =
    let parts = and_parts (is_live queues c.queue) (are_live queues consumers) live in
    and_from _ _ (by (bytes_eq name c.name) parts.0) (live_flights name change queues consumers parts.1)
  where
    by : (b : Bool) → is_live queues c.queue ≡ true → is_live queues (cond b (record c { in_flight = change c.in_flight }) c).queue ≡ true
    by true first = first
    by false first = first

-- a queue on which no consumer is open is dropped
still : (id other : ℕ) → eqb other id ≡ false → (queues : List Queue) → is_live queues other ≡ true → is_live (without_queue id queues) other ≡ true
still id other unlike [] is = is
still id other unlike (q ∷ queues) is =
    elim (cases_Bool (eqb q.id id)) [
      | inl gone ↦
          let here : eqb q.id other ≡ false = by_false (eqb q.id other) (λ same. both_ways (eqb other id) unlike (ap (λ (n : ℕ). eqb n id) (sym (eqb-true q.id other same)) ∙ gone)) in
          ap (λ b. is_live (cond (not b) (q ∷ without_queue id queues) (without_queue id queues)) other) gone
          ∙ still id other unlike queues (sym (ap (λ b. b || is_live queues other) here) ∙ is)
      | inr stays ↦
          ap (λ b. is_live (cond (not b) (q ∷ without_queue id queues) (without_queue id queues)) other) stays
          ∙ further (eqb q.id other) is (still id other unlike queues)
    ]
  where
    by_false : (b : Bool) → (b ≡ true → ⊥) → b ≡ false
    by_false true never = absurd (never refl)
    by_false false never = refl

    further : (b : Bool) → (b || is_live queues other) ≡ true → (is_live queues other ≡ true → is_live (without_queue id queues) other ≡ true) → (b || is_live (without_queue id queues) other) ≡ true
    further true is rest = refl
    further false is rest = rest is

pub live_dropped : (id : ℕ) (queues : List Queue) (consumers : List Consumer) → list_any (λ (c : Consumer). c.queue == id) consumers ≡ false → are_live queues consumers ≡ true → are_live (without_queue id queues) consumers ≡ true
live_dropped id queues [] none live = refl
live_dropped id queues (c ∷ consumers) none live =
    let parts = and_parts (is_live queues c.queue) (are_live queues consumers) live in
    let unlike = or_parts (eqb c.queue id) (list_any (λ (a : Consumer). a.queue == id) consumers) none in
    and_from _ _ (still id c.queue unlike.0 queues parts.0) (live_dropped id queues consumers unlike.1 parts.1)
