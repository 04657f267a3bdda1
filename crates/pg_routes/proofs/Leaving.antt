-- What stays in the list of a queue, and what stays out of it.
use Rattle.std.proofs.Common.{◌≡◌, ◌⊎◌, ℕ, List, [], ◌∷◌, ◌++◌, length, Option, Some, None, refl, sym, ap, ap₂, subst, inl, inr}
use Rattle.std.proofs.lemmas.Bool.{cases_eq}
use Rattle.std.proofs.lemmas.List.Elements.{All-nil, All-cons}
use Rattle.std.specs.Prelude.{All, MatchOption}
use Rattle.pg_msg.specs.declared.command.Command.{Command}
use Rattle.pg_msg.specs.declared.message.Message.{Message}
use Rattle.pg_msg.specs.declared.message.MessageId.{MessageId}
use Rattle.pg_msg.specs.declared.properties.Property.{Property}
use Rattle.pg_msg.specs.declared.reply.Refusal.{Refusal}
use Rattle.pg_msg.specs.declared.reply.Reply.{Reply}
use Rattle.pg_msg.specs.declared.reply.Reply.TheVariants as answer
use Rattle.pg_model.specs.Actions.{Action, MakeAddress, MakeQueue, DropQueue, Send, Open, Receive, Acknowledge, Cancel, Close, Count}
use Rattle.pg_model.specs.Broker.{Queue, Consumer, Broker, IsDrawn, queue_named, queue_with, consumer_named, opened_from}
use Rattle.pg_model.specs.Changes.{with_durable, with_consumers, with_queues, without_queue, acknowledged, without_id, with_flights, next_id, message_of}
use Rattle.pg_model.specs.Refusals.{View}
use Rattle.pg_model.specs.Routing.{text_of}
use Rattle.pg_model.specs.Steps.{Sends, Gives, IsDone, Does, Answers, Acts, Takes, Run, available, asked}
use Rattle.pg_routes.specs.Laws.{IsIn, IsOut, TakesOut, IsLater, itself, after_line, after_opening, any_view}
use Rattle.pg_routes.proofs.Done.{QueueMade, queue_made, MessageSent, message_sent}
use Rattle.pg_routes.proofs.Members.{matched, is_matched}
use Rattle.pg_routes.proofs.Queues.{next_is_new, still_drawn, drawn_before, in_given, in_acknowledged, in_left, in_more, out_of_given, out_of_acknowledged, out_of_left, out_of_more}

-- ---- out of a queue, and drawn
pub record IsPast (s : Broker) (queue : ℕ) (id : MessageId) : Type 0 where
  pub drawn : IsDrawn s.durable.epoch s.running.drawn id
  pub out : IsOut s.durable.queues queue id

past_send : (s t : Broker) (numbers : List ℕ) (properties : List Property) (body : List ℕ) (reply : Reply) (queue : ℕ) (id : MessageId)
    → Sends s numbers properties body reply t → IsPast s queue id → IsPast t queue id
past_send s t [] properties body reply queue id sends past = subst (λ u. IsPast u queue id) (sym sends.1) past
past_send s t (number ∷ numbers) properties body reply queue id sends past =
    subst (λ u. IsPast u queue id) (sym sends.1) (record {
      drawn = still_drawn s.durable.epoch s.running.drawn id past.drawn;
      out = out_of_given (number ∷ numbers) (message_of (next_id s) properties body) s.durable.queues queue id (next_is_new s id past.drawn) past.out;
    })

past_give : (s t : Broker) (consumer : List ℕ) (o : Option Message) (reply : Reply) (queue : ℕ) (id : MessageId) → Gives s consumer o reply t → IsPast s queue id → IsPast t queue id
past_give s t consumer None reply queue id gives past = subst (λ u. IsPast u queue id) (sym gives.1) past
past_give s t consumer (Some m) reply queue id gives past = subst (λ u. IsPast u queue id) (sym gives.1) (record { drawn = past.drawn; out = past.out })

past_does : (s t : Broker) (action : Action) (reply : Reply) (queue : ℕ) (id : MessageId) → Does s action reply t → IsPast s queue id → IsPast t queue id
past_does s t (MakeAddress name settings) reply queue id does past =
    subst (λ u. IsPast u queue id) (sym does.1) (record { drawn = past.drawn; out = past.out })
past_does s t (MakeQueue name address filter) reply queue id does past =
    let made : QueueMade s t name address filter reply = queue_made s t name address filter reply does in
    subst (λ u. IsPast u queue id) (sym made.is) (record {
      drawn = past.drawn;
      out = out_of_more (record { id = s.durable.next; name = name; address = made.at; filter = text_of filter; messages = [] }) s.durable.queues queue id refl past.out;
    })
past_does s t (DropQueue name) reply queue id does past =
    let at = matched (queue_named s.durable.queues name) (λ q. IsDone reply t (with_durable s (with_queues s.durable (without_queue q.id s.durable.queues)))) does in
    subst (λ u. IsPast u queue id) (sym at.2.1) (record { drawn = past.drawn; out = out_of_left at.0.id s.durable.queues queue id past.out })
past_does s t (Send address properties body) reply queue id does past =
    let sent : MessageSent s t address properties body reply = message_sent s t address properties body reply does in
    past_send s t sent.numbers properties body reply queue id sent.sends past
past_does s t (Open name on) reply queue id does past =
    let at = matched (queue_named s.durable.queues on) (λ q. IsDone reply t (with_consumers s (s.running.consumers ++ (record { name = name; queue = q.id; in_flight = [] } ∷ [])))) does in
    subst (λ u. IsPast u queue id) (sym at.2.1) (record { drawn = past.drawn; out = past.out })
past_does s t (Receive consumer) reply queue id does past =
    let at = matched (consumer_named s.running.consumers consumer) (λ c. MatchOption (queue_with s.durable.queues c.queue) ⊥ (λ q. Gives s consumer (available s q) reply t)) does in
    let of = matched (queue_with s.durable.queues at.0.queue) (λ q. Gives s consumer (available s q) reply t) at.2 in
    past_give s t consumer (available s of.0) reply queue id of.2 past
past_does s t (Acknowledge consumer acked) reply queue id does past =
    let at = matched (consumer_named s.running.consumers consumer) (λ c. IsDone reply t (with_durable (with_consumers s (with_flights consumer (without_id acked) s.running.consumers)) (with_queues s.durable (acknowledged c.queue acked s.durable.queues)))) does in
    subst (λ u. IsPast u queue id) (sym at.2.1) (record { drawn = past.drawn; out = out_of_acknowledged at.0.queue acked s.durable.queues queue id past.out })
past_does s t (Cancel consumer cancelled) reply queue id does past =
    subst (λ u. IsPast u queue id) (sym does.1) (record { drawn = past.drawn; out = past.out })
past_does s t (Close consumer) reply queue id does past =
    subst (λ u. IsPast u queue id) (sym does.1) (record { drawn = past.drawn; out = past.out })
past_does s t (Count of) reply queue id does past =
    let at = matched (queue_named s.durable.queues of) (λ q. (reply ≡ answer.Count (length q.messages)) × (t ≡ s)) does in
    subst (λ u. IsPast u queue id) (sym at.2.1) past

past_answers : (s t : Broker) (action : Action) (refusal : Option Refusal) (reply : Reply) (queue : ℕ) (id : MessageId) → Answers s action refusal reply t → IsPast s queue id → IsPast t queue id
past_answers s t action None reply queue id answers past = past_does s t action reply queue id answers past
past_answers s t action (Some refusal) reply queue id answers past = subst (λ u. IsPast u queue id) (sym answers.1) past

past_takes : (view : View) (s t : Broker) (asked : Option Action) (reply : Reply) (queue : ℕ) (id : MessageId) → Takes view s asked reply t → IsPast s queue id → IsPast t queue id
past_takes view s t None reply queue id takes past = subst (λ u. IsPast u queue id) (sym takes.1) past
past_takes view s t (Some action) reply queue id takes past = past_answers s t action takes.refusal reply queue id takes.answers past

pub past_opened : (s : Broker) (ids : ℕ) (queue : ℕ) (id : MessageId) → IsPast s queue id → IsPast (opened_from ids s.durable) queue id
past_opened s ids queue id past = record { drawn = drawn_before s.durable.epoch s.running.drawn id past.drawn; out = past.out }

pub past_run : (s : Broker) (items : List (Option Command)) (replies : List Reply) (states : List Broker) (queue : ℕ) (id : MessageId)
    → IsPast s queue id → Run any_view s items replies states → All (λ t. IsOut t.durable.queues queue id) states
past_run s [] [] [] queue id past run = All-nil (λ (t : Broker). IsOut t.durable.queues queue id)
past_run s [] [] (t ∷ states) queue id past run = absurd run
past_run s [] (reply ∷ replies) [] queue id past run = absurd run
past_run s [] (reply ∷ replies) (t ∷ states) queue id past run = absurd run
past_run s (item ∷ items) [] [] queue id past run = absurd run
past_run s (item ∷ items) [] (t ∷ states) queue id past run = absurd run
past_run s (item ∷ items) (reply ∷ replies) [] queue id past run = absurd run
past_run s (item ∷ items) (reply ∷ replies) (t ∷ states) queue id past run =
    let now : IsPast t queue id = past_takes run.0.0 s t (asked item) reply queue id run.0.2 past in
    All-cons (λ (t : Broker). IsOut t.durable.queues queue id) t states now.out (past_run t items replies states queue id now run.1)

pub past_later : (queue : ℕ) (id : MessageId) {s t : Broker} → IsLater s t → IsPast s queue id → IsPast t queue id
past_later queue id (itself s) past = past
past_later queue id (after_line s t u item reply step later) past = past_later queue id later (past_takes step.0 s t (asked item) reply queue id step.2 past)
past_later queue id (after_opening s u ids later) past = past_later queue id later (past_opened s ids queue id past)

-- ---- in a queue
abbrev pub IsStaying : Broker → Broker → Action → ℕ → Message → Type 0
IsStaying s t action queue m = IsIn t.durable.queues queue m ⊎ TakesOut s action queue m.id

stays_send : (s t : Broker) (numbers : List ℕ) (properties : List Property) (body : List ℕ) (reply : Reply) (queue : ℕ) (m : Message)
    → Sends s numbers properties body reply t → IsIn s.durable.queues queue m → IsIn t.durable.queues queue m
stays_send s t [] properties body reply queue m sends is = subst (λ (u : Broker). IsIn u.durable.queues queue m) (sym sends.1) is
stays_send s t (number ∷ numbers) properties body reply queue m sends is =
    subst (λ (u : Broker). IsIn u.durable.queues queue m) (sym sends.1) (in_given (number ∷ numbers) (message_of (next_id s) properties body) s.durable.queues queue m is)

stays_give : (s t : Broker) (consumer : List ℕ) (o : Option Message) (reply : Reply) (queue : ℕ) (m : Message) → Gives s consumer o reply t → IsIn s.durable.queues queue m → IsIn t.durable.queues queue m
stays_give s t consumer None reply queue m gives is = subst (λ (u : Broker). IsIn u.durable.queues queue m) (sym gives.1) is
stays_give s t consumer (Some given) reply queue m gives is = subst (λ (u : Broker). IsIn u.durable.queues queue m) (sym gives.1) is

stays_drop : (s t : Broker) (name : List ℕ) (q : Queue) (queue : ℕ) (m : Message) → queue_named s.durable.queues name ≡ Some q
    → t ≡ with_durable s (with_queues s.durable (without_queue q.id s.durable.queues)) → IsIn s.durable.queues queue m
    → (queue ≡ q.id) ⊎ (queue ≡ q.id → ⊥) → IsStaying s t (DropQueue name) queue m
stays_drop s t name q queue m named ends is (inl same) = inr (is_matched (queue_named s.durable.queues name) (λ q. q.id ≡ queue) q named (sym same))
stays_drop s t name q queue m named ends is (inr other) =
    inl (subst (λ (u : Broker). IsIn u.durable.queues queue m) (sym ends) (in_left q.id s.durable.queues queue m is other))

id_cases : (a b : MessageId) → (a ≡ b) ⊎ (a ≡ b → ⊥)
id_cases a b =
    elim (cases_eq a.epoch b.epoch) [
      | inl epochs ↦ elim (cases_eq a.number b.number) [
        | inl numbers ↦ inl (ap₂ (λ (epoch number : ℕ). let id : MessageId = record { epoch = epoch; number = number } in id) epochs numbers)
        | inr differ ↦ inr (λ is. differ (ap (λ (id : MessageId). id.number) is))
      ]
      | inr differ ↦ inr (λ is. differ (ap (λ (id : MessageId). id.epoch) is))
    ]

stays_ack : (s t : Broker) (consumer : List ℕ) (c : Consumer) (acked : MessageId) (queue : ℕ) (m : Message) → consumer_named s.running.consumers consumer ≡ Some c
    → t ≡ with_durable (with_consumers s (with_flights consumer (without_id acked) s.running.consumers)) (with_queues s.durable (acknowledged c.queue acked s.durable.queues))
    → IsIn s.durable.queues queue m → (queue ≡ c.queue) ⊎ (queue ≡ c.queue → ⊥) → (m.id ≡ acked) ⊎ (m.id ≡ acked → ⊥) → IsStaying s t (Acknowledge consumer acked) queue m
stays_ack s t consumer c acked queue m named ends is (inl here) (inl same) =
    inr (sym same, is_matched (consumer_named s.running.consumers consumer) (λ c. c.queue ≡ queue) c named (sym here))
stays_ack s t consumer c acked queue m named ends is (inl here) (inr other) =
    inl (subst (λ (u : Broker). IsIn u.durable.queues queue m) (sym ends) (in_acknowledged c.queue acked s.durable.queues queue m is (λ _ same. other same)))
stays_ack s t consumer c acked queue m named ends is (inr elsewhere) either =
    inl (subst (λ (u : Broker). IsIn u.durable.queues queue m) (sym ends) (in_acknowledged c.queue acked s.durable.queues queue m is (λ here _. elsewhere here)))

stays_does : (s t : Broker) (action : Action) (reply : Reply) (queue : ℕ) (m : Message) → Does s action reply t → IsIn s.durable.queues queue m → IsStaying s t action queue m
stays_does s t (MakeAddress name settings) reply queue m does is = inl (subst (λ (u : Broker). IsIn u.durable.queues queue m) (sym does.1) is)
stays_does s t (MakeQueue name address filter) reply queue m does is =
    let made : QueueMade s t name address filter reply = queue_made s t name address filter reply does in
    inl (subst (λ (u : Broker). IsIn u.durable.queues queue m) (sym made.is) (in_more (record { id = s.durable.next; name = name; address = made.at; filter = text_of filter; messages = [] }) s.durable.queues queue m is))
stays_does s t (DropQueue name) reply queue m does is =
    let at = matched (queue_named s.durable.queues name) (λ q. IsDone reply t (with_durable s (with_queues s.durable (without_queue q.id s.durable.queues)))) does in
    stays_drop s t name at.0 queue m at.1 at.2.1 is (cases_eq queue at.0.id)
stays_does s t (Send address properties body) reply queue m does is =
    let sent : MessageSent s t address properties body reply = message_sent s t address properties body reply does in
    inl (stays_send s t sent.numbers properties body reply queue m sent.sends is)
stays_does s t (Open name on) reply queue m does is =
    let at = matched (queue_named s.durable.queues on) (λ q. IsDone reply t (with_consumers s (s.running.consumers ++ (record { name = name; queue = q.id; in_flight = [] } ∷ [])))) does in
    inl (subst (λ (u : Broker). IsIn u.durable.queues queue m) (sym at.2.1) is)
stays_does s t (Receive consumer) reply queue m does is =
    let at = matched (consumer_named s.running.consumers consumer) (λ c. MatchOption (queue_with s.durable.queues c.queue) ⊥ (λ q. Gives s consumer (available s q) reply t)) does in
    let of = matched (queue_with s.durable.queues at.0.queue) (λ q. Gives s consumer (available s q) reply t) at.2 in
    inl (stays_give s t consumer (available s of.0) reply queue m of.2 is)
stays_does s t (Acknowledge consumer acked) reply queue m does is =
    let at = matched (consumer_named s.running.consumers consumer) (λ c. IsDone reply t (with_durable (with_consumers s (with_flights consumer (without_id acked) s.running.consumers)) (with_queues s.durable (acknowledged c.queue acked s.durable.queues)))) does in
    stays_ack s t consumer at.0 acked queue m at.1 at.2.1 is (cases_eq queue at.0.queue) (id_cases m.id acked)
stays_does s t (Cancel consumer cancelled) reply queue m does is = inl (subst (λ (u : Broker). IsIn u.durable.queues queue m) (sym does.1) is)
stays_does s t (Close consumer) reply queue m does is = inl (subst (λ (u : Broker). IsIn u.durable.queues queue m) (sym does.1) is)
stays_does s t (Count of) reply queue m does is =
    let at = matched (queue_named s.durable.queues of) (λ q. (reply ≡ answer.Count (length q.messages)) × (t ≡ s)) does in
    inl (subst (λ (u : Broker). IsIn u.durable.queues queue m) (sym at.2.1) is)

stays_answers : (s t : Broker) (action : Action) (refusal : Option Refusal) (reply : Reply) (queue : ℕ) (m : Message) → Answers s action refusal reply t → IsIn s.durable.queues queue m → IsStaying s t action queue m
stays_answers s t action None reply queue m answers is = stays_does s t action reply queue m answers is
stays_answers s t action (Some refusal) reply queue m answers is = inl (subst (λ (u : Broker). IsIn u.durable.queues queue m) (sym answers.1) is)

pub stays_acts : (view : View) (s t : Broker) (action : Action) (reply : Reply) (queue : ℕ) (m : Message) → Acts view s action reply t → IsIn s.durable.queues queue m → IsStaying s t action queue m
stays_acts view s t action reply queue m acts is = stays_answers s t action acts.refusal reply queue m acts.answers is

pub stays_takes : (view : View) (s t : Broker) (asked : Option Action) (reply : Reply) (queue : ℕ) (m : Message) → Takes view s asked reply t → IsIn s.durable.queues queue m
    → IsIn t.durable.queues queue m ⊎ ((action : Action) × (asked ≡ Some action) × TakesOut s action queue m.id)
stays_takes view s t None reply queue m takes is = inl (subst (λ (u : Broker). IsIn u.durable.queues queue m) (sym takes.1) is)
stays_takes view s t (Some action) reply queue m takes is =
    elim (stays_acts view s t action reply queue m takes is) [
      | inl stays ↦ inl stays
      | inr out ↦ inr (action, refl, out)
    ]
