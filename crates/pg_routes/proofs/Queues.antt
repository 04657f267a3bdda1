-- What the queues hold after they get a message, give one up, or one of them is dropped.
use Rattle.std.proofs.Common.{◌≡◌, ◌+◌, ◌==◌, ◌⊎◌, ℕ, true, false, not, List, [], ◌∷◌, ◌++◌, refl, sym, ap, ap₂, subst, ◌∙◌, inl, inr, arith}
use Rattle.std.proofs.lemmas.Bool.{cases_Bool, cond_both, and_parts, and_from, eqb-true, eq-eqb, false≢true}
use Rattle.std.proofs.lemmas.List.Elements.{Contains-append_left, Contains-push_cases}
use Rattle.std.specs.List.{Contains}
use Rattle.pg_msg.specs.declared.message.Message.{Message}
use Rattle.pg_msg.specs.declared.message.MessageId.{MessageId}
use Rattle.pg_model.specs.Broker.{Queue, Broker, HoldsMessage, IsDrawn, same_id}
use Rattle.pg_model.specs.Changes.{given_to, given, has_number, relieved, acknowledged, without_message, without_queue, next_id}
use Rattle.pg_routes.specs.Laws.{IsIn, IsOut}
use Rattle.pg_routes.proofs.Members.{nothing_in, in_mapped, from_mapped, in_filtered, from_filtered}

-- ---- ids
pub one_id : (a b : MessageId) → same_id a b ≡ true → a ≡ b
one_id a b same =
    let parts = and_parts (a.epoch == b.epoch) (a.number == b.number) same in
    ap₂ (λ (epoch number : ℕ). let id : MessageId = record { epoch = epoch; number = number } in id) (eqb-true a.epoch b.epoch parts.0) (eqb-true a.number b.number parts.1)

pub same_ids : (a b : MessageId) → a ≡ b → same_id a b ≡ true
same_ids a b is =
    and_from (a.epoch == b.epoch) (a.number == b.number) (eq-eqb a.epoch b.epoch (ap (λ (id : MessageId). id.epoch) is)) (eq-eqb a.number b.number (ap (λ (id : MessageId). id.number) is))

pub other_ids : (a b : MessageId) → not (same_id a b) ≡ true → a ≡ b → ⊥
other_ids a b other is = false≢true (ap not (sym (same_ids a b is)) ∙ other)

-- the id that is drawn next was drawn by nobody
pub next_is_new : (s : Broker) (id : MessageId) → IsDrawn s.durable.epoch s.running.drawn id → next_id s ≡ id → ⊥
next_is_new s id (inl earlier) is = omega (arith, ap (λ (id : MessageId). id.epoch) is)
next_is_new s id (inr now) is = omega (arith, now.1, ap (λ (id : MessageId). id.number) is)

pub still_drawn : (epoch drawn : ℕ) (id : MessageId) → IsDrawn epoch drawn id → IsDrawn epoch (drawn + 1) id
still_drawn epoch drawn id (inl earlier) = inl earlier
still_drawn epoch drawn id (inr now) = inr (now.0, omega (arith, now.1))

pub drawn_before : (epoch drawn : ℕ) (id : MessageId) → IsDrawn epoch drawn id → IsDrawn (epoch + 1) 0 id
drawn_before epoch drawn id (inl earlier) = inl (omega (arith, earlier))
drawn_before epoch drawn id (inr now) = inl (omega (arith, now.0))

-- ---- a queue that gets a message
pub given_id : (numbers : List ℕ) (m : Message) (q : Queue) → (given_to numbers m q).id ≡ q.id
given_id numbers m q = cond_both (has_number numbers q.id) (record q { messages = q.messages ++ (m ∷ []) }) q (λ (other : Queue). other.id ≡ q.id) (λ _. refl) (λ _. refl)

pub given_name : (numbers : List ℕ) (m : Message) (q : Queue) → (given_to numbers m q).name ≡ q.name
given_name numbers m q = cond_both (has_number numbers q.id) (record q { messages = q.messages ++ (m ∷ []) }) q (λ (other : Queue). other.name ≡ q.name) (λ _. refl) (λ _. refl)

pub given_filter : (numbers : List ℕ) (m : Message) (q : Queue) → (given_to numbers m q).filter ≡ q.filter
given_filter numbers m q = cond_both (has_number numbers q.id) (record q { messages = q.messages ++ (m ∷ []) }) q (λ (other : Queue). other.filter ≡ q.filter) (λ _. refl) (λ _. refl)

pub given_keeps : (numbers : List ℕ) (m : Message) (q : Queue) (x : Message) → Contains q.messages x → Contains (given_to numbers m q).messages x
given_keeps numbers m q x held =
    cond_both (has_number numbers q.id) (record q { messages = q.messages ++ (m ∷ []) }) q (λ (other : Queue). Contains other.messages x)
    (λ _. Contains-append_left q.messages (m ∷ []) x held) (λ _. held)

pub given_from : (numbers : List ℕ) (m : Message) (q : Queue) (x : Message) → Contains (given_to numbers m q).messages x → Contains q.messages x ⊎ (m ≡ x)
given_from numbers m q x held =
    cond_both (has_number numbers q.id) (record q { messages = q.messages ++ (m ∷ []) }) q (λ (other : Queue). Contains other.messages x → Contains q.messages x ⊎ (m ≡ x))
    (λ _ within. Contains-push_cases q.messages m x within) (λ _ within. inl within) held

-- ---- a queue that gives a message up
pub relieved_id : (queue : ℕ) (id : MessageId) (q : Queue) → (relieved queue id q).id ≡ q.id
relieved_id queue id q = cond_both (q.id == queue) (record q { messages = without_message id q.messages }) q (λ (other : Queue). other.id ≡ q.id) (λ _. refl) (λ _. refl)

pub relieved_name : (queue : ℕ) (id : MessageId) (q : Queue) → (relieved queue id q).name ≡ q.name
relieved_name queue id q = cond_both (q.id == queue) (record q { messages = without_message id q.messages }) q (λ (other : Queue). other.name ≡ q.name) (λ _. refl) (λ _. refl)

pub relieved_filter : (queue : ℕ) (id : MessageId) (q : Queue) → (relieved queue id q).filter ≡ q.filter
relieved_filter queue id q = cond_both (q.id == queue) (record q { messages = without_message id q.messages }) q (λ (other : Queue). other.filter ≡ q.filter) (λ _. refl) (λ _. refl)

pub relieved_from : (queue : ℕ) (id : MessageId) (q : Queue) (x : Message) → Contains (relieved queue id q).messages x → Contains q.messages x
relieved_from queue id q x held =
    cond_both (q.id == queue) (record q { messages = without_message id q.messages }) q (λ (other : Queue). Contains other.messages x → Contains q.messages x)
    (λ _ within. (from_filtered (λ m. not (same_id m.id id)) q.messages x within).0) (λ _ within. within) held

pub relieved_keeps : (queue : ℕ) (id : MessageId) (q : Queue) (x : Message) → Contains q.messages x → (q.id ≡ queue → x.id ≡ id → ⊥) → Contains (relieved queue id q).messages x
relieved_keeps queue id q x held other =
    cond_both (q.id == queue) (record q { messages = without_message id q.messages }) q (λ (one : Queue). Contains one.messages x)
    (λ here. in_filtered (λ m. not (same_id m.id id)) q.messages x (apart (cases_Bool (same_id x.id id)) (other (eqb-true q.id queue here))) held) (λ _. held)
  where
    apart : (same_id x.id id ≡ true) ⊎ (same_id x.id id ≡ false) → (x.id ≡ id → ⊥) → not (same_id x.id id) ≡ true
    apart (inl same) differ = absurd (differ (one_id x.id id same))
    apart (inr differs) differ = ap not differs

-- ---- what stays in a queue, and what stays out of it
pub in_given : (numbers : List ℕ) (m : Message) (queues : List Queue) (queue : ℕ) (x : Message) → IsIn queues queue x → IsIn (given numbers m queues) queue x
in_given numbers m queues queue x is = record {
  holder = given_to numbers m is.holder;
  live = in_mapped (given_to numbers m) queues is.holder is.live;
  is_queue = given_id numbers m is.holder ∙ is.is_queue;
  held = given_keeps numbers m is.holder x is.held;
}

pub in_acknowledged : (from : ℕ) (id : MessageId) (queues : List Queue) (queue : ℕ) (x : Message) → IsIn queues queue x → (queue ≡ from → x.id ≡ id → ⊥)
    → IsIn (acknowledged from id queues) queue x
in_acknowledged from id queues queue x is other = record {
  holder = relieved from id is.holder;
  live = in_mapped (relieved from id) queues is.holder is.live;
  is_queue = relieved_id from id is.holder ∙ is.is_queue;
  held = relieved_keeps from id is.holder x is.held (λ here. other (sym is.is_queue ∙ here));
}

pub in_left : (dropped : ℕ) (queues : List Queue) (queue : ℕ) (x : Message) → IsIn queues queue x → (queue ≡ dropped → ⊥) → IsIn (without_queue dropped queues) queue x
in_left dropped queues queue x is other = record {
  holder = is.holder;
  live = in_filtered (λ q. not (q.id == dropped)) queues is.holder (apart (cases_Bool (is.holder.id == dropped))) is.live;
  is_queue = is.is_queue;
  held = is.held;
}
  where
    apart : (is.holder.id == dropped ≡ true) ⊎ (is.holder.id == dropped ≡ false) → not (is.holder.id == dropped) ≡ true
    apart (inl same) = absurd (other (sym is.is_queue ∙ eqb-true is.holder.id dropped same))
    apart (inr differs) = ap not differs

pub in_more : (new : Queue) (queues : List Queue) (queue : ℕ) (x : Message) → IsIn queues queue x → IsIn (queues ++ (new ∷ [])) queue x
in_more new queues queue x is = record {
  holder = is.holder;
  live = Contains-append_left queues (new ∷ []) is.holder is.live;
  is_queue = is.is_queue;
  held = is.held;
}

-- the same in terms of ids
pub holds : (queues : List Queue) (queue : ℕ) (m : Message) → IsIn queues queue m → HoldsMessage queues queue m.id
holds queues queue m is = record { holder = is.holder; live = is.live; is_queue = is.is_queue; message = m; held = is.held; is_message = refl }

pub holds_in : (queues : List Queue) (queue : ℕ) (id : MessageId) → (h : HoldsMessage queues queue id) → IsIn queues queue h.message
holds_in queues queue id h = record { holder = h.holder; live = h.live; is_queue = h.is_queue; held = h.held }

pub held_as : (queues : List Queue) (queue : ℕ) (m : Message) (id : MessageId) → IsIn queues queue m → m.id ≡ id → HoldsMessage queues queue id
held_as queues queue m id is same = record { holder = is.holder; live = is.live; is_queue = is.is_queue; message = m; held = is.held; is_message = same }

pub out_of_given : (numbers : List ℕ) (m : Message) (queues : List Queue) (queue : ℕ) (id : MessageId) → (m.id ≡ id → ⊥) → IsOut queues queue id → IsOut (given numbers m queues) queue id
out_of_given numbers m queues queue id other out h =
    let before : (q : Queue) × Contains queues q × (given_to numbers m q ≡ h.holder) = from_mapped (given_to numbers m) queues h.holder h.live in
    let within : Contains (given_to numbers m before.0).messages h.message = subst (λ (q : Queue). Contains q.messages h.message) (sym before.2) h.held in
    let same : before.0.id ≡ queue = sym (given_id numbers m before.0) ∙ ap (λ (q : Queue). q.id) before.2 ∙ h.is_queue in
    elim (given_from numbers m before.0 h.message within) [
      | inl held ↦ out (record { holder = before.0; live = before.1; is_queue = same; message = h.message; held = held; is_message = h.is_message })
      | inr is ↦ other (ap (λ (m : Message). m.id) is ∙ h.is_message)
    ]

pub out_of_acknowledged : (from : ℕ) (acked : MessageId) (queues : List Queue) (queue : ℕ) (id : MessageId) → IsOut queues queue id → IsOut (acknowledged from acked queues) queue id
out_of_acknowledged from acked queues queue id out h =
    let before : (q : Queue) × Contains queues q × (relieved from acked q ≡ h.holder) = from_mapped (relieved from acked) queues h.holder h.live in
    let within : Contains (relieved from acked before.0).messages h.message = subst (λ (q : Queue). Contains q.messages h.message) (sym before.2) h.held in
    let same : before.0.id ≡ queue = sym (relieved_id from acked before.0) ∙ ap (λ (q : Queue). q.id) before.2 ∙ h.is_queue in
    out (record { holder = before.0; live = before.1; is_queue = same; message = h.message; held = relieved_from from acked before.0 h.message within; is_message = h.is_message })

pub out_of_left : (dropped : ℕ) (queues : List Queue) (queue : ℕ) (id : MessageId) → IsOut queues queue id → IsOut (without_queue dropped queues) queue id
out_of_left dropped queues queue id out h =
    out (record { holder = h.holder; live = (from_filtered (λ q. not (q.id == dropped)) queues h.holder h.live).0; is_queue = h.is_queue; message = h.message; held = h.held; is_message = h.is_message })

pub out_of_more : (new : Queue) (queues : List Queue) (queue : ℕ) (id : MessageId) → new.messages ≡ [] → IsOut queues queue id → IsOut (queues ++ (new ∷ [])) queue id
out_of_more new queues queue id empty out h =
    elim (Contains-push_cases queues new h.holder h.live) [
      | inl live ↦ out (record { holder = h.holder; live = live; is_queue = h.is_queue; message = h.message; held = h.held; is_message = h.is_message })
      | inr is ↦ nothing_in h.message (subst (λ (ms : List Message). Contains ms h.message) (ap (λ (q : Queue). q.messages) (sym is) ∙ empty) h.held)
    ]
