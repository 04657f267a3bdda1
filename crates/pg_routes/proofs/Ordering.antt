-- The messages of a queue keep their order, and what comes stands behind them.
use Rattle.std.proofs.Common.{◌≡◌, ◌≢◌, ◌<◌, ◌==◌, ℕ, not, List, [], ◌∷◌, ◌++◌, length, map, Option, Some, None, refl, sym, ap, subst, ◌∙◌, inl, inr, arith}
use Rattle.std.proofs.lemmas.Bool.{cond_both}
use Rattle.std.proofs.lemmas.List.{append-nil}
use Rattle.std.proofs.lemmas.List.Elements.{All-contains, Contains-push_cases}
use Rattle.std.specs.Prelude.{AllPairs, MatchOption}
use Rattle.std.specs.List.{Contains}
use Rattle.pg_msg.specs.declared.message.Message.{Message}
use Rattle.pg_msg.specs.declared.message.MessageId.{MessageId}
use Rattle.pg_msg.specs.declared.properties.Property.{Property}
use Rattle.pg_msg.specs.declared.reply.Refusal.{Refusal}
use Rattle.pg_msg.specs.declared.reply.Reply.{Reply}
use Rattle.pg_msg.specs.declared.reply.Reply.TheVariants as answer
use Rattle.pg_model.specs.Actions.{Action, MakeAddress, MakeQueue, DropQueue, Send, Open, Receive, Acknowledge, Cancel, Close, Count}
use Rattle.pg_model.specs.Broker.{Queue, Broker, IsValid, queue_named, queue_with, consumer_named, same_id}
use Rattle.pg_model.specs.Changes.{with_durable, with_consumers, with_queues, with_queue, without_queue, given_to, has_number, relieved, acknowledged, without_message, without_id, with_flights, next_id, message_of}
use Rattle.pg_model.specs.Refusals.{View}
use Rattle.pg_model.specs.Routing.{text_of}
use Rattle.pg_model.specs.Steps.{Sends, Gives, IsDone, Does, Answers, Acts, Takes, available}
use Rattle.pg_routes.specs.Laws.{GoesOn}
use Rattle.pg_routes.proofs.Done.{QueueMade, queue_made, MessageSent, message_sent}
use Rattle.pg_routes.proofs.Members.{nothing_in, in_cases, each_in, matched, from_mapped, from_filtered}
use Rattle.pg_routes.proofs.Parts.{Pairs, from_pairs, part_whole, part_filter}
use Rattle.pg_routes.proofs.Queues.{given_id, relieved_id}

-- ---- a queue by its id
one_of : (queues : List Queue) (q r : Queue) → Pairs (λ (q other : Queue). q.id ≢ other.id) queues → Contains queues q → Contains queues r → r.id ≡ q.id → r ≡ q
one_of [] q r pairs first second same = absurd (nothing_in q first)
one_of (one ∷ queues) q r pairs first second same =
    elim (in_cases q one queues first) [
      | inl is_q ↦ elim (in_cases r one queues second) [
        | inl is_r ↦ sym is_r ∙ is_q
        | inr rest_r ↦ absurd (each_in (λ (other : Queue). one.id ≢ other.id) queues r pairs.0 rest_r (ap (λ (q : Queue). q.id) is_q ∙ sym same))
      ]
      | inr rest_q ↦ elim (in_cases r one queues second) [
        | inl is_r ↦ absurd (each_in (λ (other : Queue). one.id ≢ other.id) queues q pairs.0 rest_q (ap (λ (q : Queue). q.id) is_r ∙ same))
        | inr rest_r ↦ one_of queues q r pairs.1 rest_q rest_r same
      ]
    ]

all_left : (messages : List Message) → GoesOn messages messages
all_left messages = record { left = messages; more = []; part = part_whole messages; is = sym (append-nil messages) }

-- the same queues
on_same : (queues : List Queue) (q r : Queue) → AllPairs (λ (q other : Queue). q.id ≢ other.id) queues → Contains queues q → Contains queues r → r.id ≡ q.id → GoesOn q.messages r.messages
on_same queues q r ids first second same =
    subst (λ (other : Queue). GoesOn q.messages other.messages) (sym (one_of queues q r (from_pairs (λ (q other : Queue). q.id ≢ other.id) queues ids) first second same)) (all_left q.messages)

-- queues that are changed one by one
on_mapped : (f : Queue → Queue) → ((q : Queue) → (f q).id ≡ q.id) → ((q : Queue) → GoesOn q.messages (f q).messages) → (queues : List Queue) (q r : Queue)
    → AllPairs (λ (q other : Queue). q.id ≢ other.id) queues → Contains queues q → Contains (map f queues) r → r.id ≡ q.id → GoesOn q.messages r.messages
on_mapped f kept each queues q r ids first second same =
    let before : (p : Queue) × Contains queues p × (f p ≡ r) = from_mapped f queues r second in
    let is : before.0 ≡ q = one_of queues q before.0 (from_pairs (λ (q other : Queue). q.id ≢ other.id) queues ids) first before.1 (sym (kept before.0) ∙ ap (λ (q : Queue). q.id) before.2 ∙ same) in
    subst (λ (other : Queue). GoesOn q.messages other.messages) before.2 (subst (λ (p : Queue). GoesOn p.messages (f before.0).messages) is (each before.0))

on_given : (numbers : List ℕ) (m : Message) (q : Queue) → GoesOn q.messages (given_to numbers m q).messages
on_given numbers m q =
    cond_both (has_number numbers q.id) (record q { messages = q.messages ++ (m ∷ []) }) q (λ (other : Queue). GoesOn q.messages other.messages)
    (λ _. record { left = q.messages; more = m ∷ []; part = part_whole q.messages; is = refl }) (λ _. all_left q.messages)

on_relieved : (queue : ℕ) (id : MessageId) (q : Queue) → GoesOn q.messages (relieved queue id q).messages
on_relieved queue id q =
    cond_both (q.id == queue) (record q { messages = without_message id q.messages }) q (λ (other : Queue). GoesOn q.messages other.messages)
    (λ _. record { left = without_message id q.messages; more = []; part = part_filter (λ m. not (same_id m.id id)) q.messages; is = sym (append-nil (without_message id q.messages)) }) (λ _. all_left q.messages)

-- ---- each action
-- what is owed of the state behind it
abbrev pub AllGoOn : Broker → Broker → Type 0
AllGoOn s t = (q r : Queue) → Contains s.durable.queues q → Contains t.durable.queues r → r.id ≡ q.id → GoesOn q.messages r.messages

on_rest : (s : Broker) → IsValid s → AllGoOn s s
on_rest s valid = λ q r first second same. on_same s.durable.queues q r valid.ids first second same

on_send : (s t : Broker) (numbers : List ℕ) (properties : List Property) (body : List ℕ) (reply : Reply) → IsValid s → Sends s numbers properties body reply t → AllGoOn s t
on_send s t [] properties body reply valid sends = subst (λ u. AllGoOn s u) (sym sends.1) (on_rest s valid)
on_send s t (number ∷ numbers) properties body reply valid sends =
    let m : Message = message_of (next_id s) properties body in
    subst (λ u. AllGoOn s u) (sym sends.1) (λ q r first second same. on_mapped (given_to (number ∷ numbers) m) (given_id (number ∷ numbers) m) (on_given (number ∷ numbers) m) s.durable.queues q r valid.ids first second same)

on_give : (s t : Broker) (consumer : List ℕ) (o : Option Message) (reply : Reply) → IsValid s → Gives s consumer o reply t → AllGoOn s t
on_give s t consumer None reply valid gives = subst (λ u. AllGoOn s u) (sym gives.1) (on_rest s valid)
on_give s t consumer (Some m) reply valid gives = subst (λ u. AllGoOn s u) (sym gives.1) (on_rest s valid)

on_drop : (s : Broker) (dropped : ℕ) → IsValid s → AllGoOn s (with_durable s (with_queues s.durable (without_queue dropped s.durable.queues)))
on_drop s dropped valid = λ q r first second same. on_same s.durable.queues q r valid.ids first (from_filtered (λ q. not (q.id == dropped)) s.durable.queues r second).0 same

on_queue : (s : Broker) (name : List ℕ) (address : ℕ) (text : List ℕ) → IsValid s → AllGoOn s (with_durable s (with_queue s.durable name address text))
on_queue s name address text valid = λ q r first second same.
    elim (Contains-push_cases s.durable.queues (record { id = s.durable.next; name = name; address = address; filter = text; messages = [] }) r second) [
      | inl old ↦ on_same s.durable.queues q r valid.ids first old same
      | inr new ↦ absurd (omega (arith, same, ap (λ (q : Queue). q.id) new, All-contains (λ (q : Queue). q.id < s.durable.next) s.durable.queues q valid.below first))
    ]

on_does : (s t : Broker) (action : Action) (reply : Reply) → IsValid s → Does s action reply t → AllGoOn s t
on_does s t (MakeAddress name settings) reply valid does = subst (λ u. AllGoOn s u) (sym does.1) (on_rest s valid)
on_does s t (MakeQueue name address filter) reply valid does =
    let made : QueueMade s t name address filter reply = queue_made s t name address filter reply does in
    subst (λ u. AllGoOn s u) (sym made.is) (on_queue s name made.at (text_of filter) valid)
on_does s t (DropQueue name) reply valid does =
    let at = matched (queue_named s.durable.queues name) (λ q. IsDone reply t (with_durable s (with_queues s.durable (without_queue q.id s.durable.queues)))) does in
    subst (λ u. AllGoOn s u) (sym at.2.1) (on_drop s at.0.id valid)
on_does s t (Send address properties body) reply valid does =
    let sent : MessageSent s t address properties body reply = message_sent s t address properties body reply does in
    on_send s t sent.numbers properties body reply valid sent.sends
on_does s t (Open name on) reply valid does =
    let at = matched (queue_named s.durable.queues on) (λ q. IsDone reply t (with_consumers s (s.running.consumers ++ (record { name = name; queue = q.id; in_flight = [] } ∷ [])))) does in
    subst (λ u. AllGoOn s u) (sym at.2.1) (on_rest s valid)
on_does s t (Receive consumer) reply valid does =
    let at = matched (consumer_named s.running.consumers consumer) (λ c. MatchOption (queue_with s.durable.queues c.queue) ⊥ (λ q. Gives s consumer (available s q) reply t)) does in
    let of = matched (queue_with s.durable.queues at.0.queue) (λ q. Gives s consumer (available s q) reply t) at.2 in
    on_give s t consumer (available s of.0) reply valid of.2
on_does s t (Acknowledge consumer acked) reply valid does =
    let at = matched (consumer_named s.running.consumers consumer) (λ c. IsDone reply t (with_durable (with_consumers s (with_flights consumer (without_id acked) s.running.consumers)) (with_queues s.durable (acknowledged c.queue acked s.durable.queues)))) does in
    subst (λ u. AllGoOn s u) (sym at.2.1) (λ q r first second same. on_mapped (relieved at.0.queue acked) (relieved_id at.0.queue acked) (on_relieved at.0.queue acked) s.durable.queues q r valid.ids first second same)
on_does s t (Cancel consumer cancelled) reply valid does = subst (λ u. AllGoOn s u) (sym does.1) (on_rest s valid)
on_does s t (Close consumer) reply valid does = subst (λ u. AllGoOn s u) (sym does.1) (on_rest s valid)
on_does s t (Count of) reply valid does =
    let at = matched (queue_named s.durable.queues of) (λ q. (reply ≡ answer.Count (length q.messages)) × (t ≡ s)) does in
    subst (λ u. AllGoOn s u) (sym at.2.1) (on_rest s valid)

on_answers : (s t : Broker) (action : Action) (refusal : Option Refusal) (reply : Reply) → IsValid s → Answers s action refusal reply t → AllGoOn s t
on_answers s t action None reply valid answers = on_does s t action reply valid answers
on_answers s t action (Some refusal) reply valid answers = subst (λ u. AllGoOn s u) (sym answers.1) (on_rest s valid)

pub acts_go_on : (view : View) (s t : Broker) (action : Action) (reply : Reply) → IsValid s → Acts view s action reply t → AllGoOn s t
acts_go_on view s t action reply valid acts = on_answers s t action acts.refusal reply valid acts.answers

pub takes_go_on : (view : View) (s t : Broker) (asked : Option Action) (reply : Reply) → IsValid s → Takes view s asked reply t → AllGoOn s t
takes_go_on view s t None reply valid takes = subst (λ u. AllGoOn s u) (sym takes.1) (on_rest s valid)
takes_go_on view s t (Some action) reply valid takes = acts_go_on view s t action reply valid takes
