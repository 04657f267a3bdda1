-- The id of a queue isn't given again.
use Rattle.std.proofs.Common.{◌≡◌, ◌<◌, ◌==◌, ℕ, not, List, [], ◌∷◌, ◌++◌, length, map, Option, Some, None, sym, ap, subst, ◌∙◌, inl, inr, arith}
use Rattle.std.proofs.lemmas.List.Elements.{All-contains, Contains-push_cases}
use Rattle.std.specs.Prelude.{MatchOption}
use Rattle.std.specs.List.{Contains}
use Rattle.pg_msg.specs.declared.message.Message.{Message}
use Rattle.pg_msg.specs.declared.properties.Property.{Property}
use Rattle.pg_msg.specs.declared.reply.Refusal.{Refusal}
use Rattle.pg_msg.specs.declared.reply.Reply.{Reply}
use Rattle.pg_msg.specs.declared.reply.Reply.TheVariants as answer
use Rattle.pg_model.specs.Actions.{Action, MakeAddress, MakeQueue, DropQueue, Send, Open, Receive, Acknowledge, Cancel, Close, Count}
use Rattle.pg_model.specs.Broker.{Queue, Broker, IsLive, IsValid, queue_named, queue_with, consumer_named}
use Rattle.pg_model.specs.Changes.{with_durable, with_consumers, with_queues, without_queue, given_to, relieved, acknowledged, without_id, with_flights, next_id, message_of}
use Rattle.pg_model.specs.Refusals.{View}
use Rattle.pg_model.specs.Routing.{text_of}
use Rattle.pg_model.specs.Steps.{Sends, Gives, IsDone, Does, Answers, Takes, available, asked}
use Rattle.pg_routes.specs.Laws.{IsLater, itself, after_line, after_opening}
use Rattle.pg_routes.proofs.Done.{QueueMade, queue_made, MessageSent, message_sent}
use Rattle.pg_routes.proofs.Members.{matched, from_mapped, from_filtered}
use Rattle.pg_routes.proofs.Queues.{given_id, relieved_id}

-- the id was given to a queue, and no live queue has it
pub record IsOver (s : Broker) (queue : ℕ) : Type 0 where
  pub below : queue < s.durable.next
  pub gone : IsLive s.durable.queues queue → ⊥

gone_mapped : (f : Queue → Queue) → ((q : Queue) → (f q).id ≡ q.id) → (queues : List Queue) (queue : ℕ) → (IsLive queues queue → ⊥) → IsLive (map f queues) queue → ⊥
gone_mapped f same queues queue gone is =
    let before : (q : Queue) × Contains queues q × (f q ≡ is.one) = from_mapped f queues is.one is.live in
    gone (record { one = before.0; live = before.1; is_queue = sym (same before.0) ∙ ap (λ (q : Queue). q.id) before.2 ∙ is.is_queue })

gone_left : (dropped : ℕ) (queues : List Queue) (queue : ℕ) → (IsLive queues queue → ⊥) → IsLive (without_queue dropped queues) queue → ⊥
gone_left dropped queues queue gone is =
    gone (record { one = is.one; live = (from_filtered (λ q. not (q.id == dropped)) queues is.one is.live).0; is_queue = is.is_queue })

gone_more : (new : Queue) (queues : List Queue) (queue : ℕ) → queue < new.id → (IsLive queues queue → ⊥) → IsLive (queues ++ (new ∷ [])) queue → ⊥
gone_more new queues queue below gone is =
    elim (Contains-push_cases queues new is.one is.live) [
      | inl live ↦ gone (record { one = is.one; live = live; is_queue = is.is_queue })
      | inr same ↦ omega (arith, is.is_queue, ap (λ (q : Queue). q.id) same)
    ]

over_send : (s t : Broker) (numbers : List ℕ) (properties : List Property) (body : List ℕ) (reply : Reply) (queue : ℕ) → Sends s numbers properties body reply t → IsOver s queue → IsOver t queue
over_send s t [] properties body reply queue sends over = subst (λ u. IsOver u queue) (sym sends.1) over
over_send s t (number ∷ numbers) properties body reply queue sends over =
    let m : Message = message_of (next_id s) properties body in
    subst (λ u. IsOver u queue) (sym sends.1) (record { below = over.below; gone = gone_mapped (given_to (number ∷ numbers) m) (given_id (number ∷ numbers) m) s.durable.queues queue over.gone })

over_give : (s t : Broker) (consumer : List ℕ) (o : Option Message) (reply : Reply) (queue : ℕ) → Gives s consumer o reply t → IsOver s queue → IsOver t queue
over_give s t consumer None reply queue gives over = subst (λ u. IsOver u queue) (sym gives.1) over
over_give s t consumer (Some m) reply queue gives over = subst (λ u. IsOver u queue) (sym gives.1) (record { below = over.below; gone = over.gone })

over_does : (s t : Broker) (action : Action) (reply : Reply) (queue : ℕ) → Does s action reply t → IsOver s queue → IsOver t queue
over_does s t (MakeAddress name settings) reply queue does over = subst (λ u. IsOver u queue) (sym does.1) (record { below = over.below; gone = over.gone })
over_does s t (MakeQueue name address filter) reply queue does over =
    let made : QueueMade s t name address filter reply = queue_made s t name address filter reply does in
    subst (λ u. IsOver u queue) (sym made.is) (record {
      below = omega (arith, over.below);
      gone = gone_more (record { id = s.durable.next; name = name; address = made.at; filter = text_of filter; messages = [] }) s.durable.queues queue over.below over.gone;
    })
over_does s t (DropQueue name) reply queue does over =
    let at = matched (queue_named s.durable.queues name) (λ q. IsDone reply t (with_durable s (with_queues s.durable (without_queue q.id s.durable.queues)))) does in
    subst (λ u. IsOver u queue) (sym at.2.1) (record { below = over.below; gone = gone_left at.0.id s.durable.queues queue over.gone })
over_does s t (Send address properties body) reply queue does over =
    let sent : MessageSent s t address properties body reply = message_sent s t address properties body reply does in
    over_send s t sent.numbers properties body reply queue sent.sends over
over_does s t (Open name on) reply queue does over =
    let at = matched (queue_named s.durable.queues on) (λ q. IsDone reply t (with_consumers s (s.running.consumers ++ (record { name = name; queue = q.id; in_flight = [] } ∷ [])))) does in
    subst (λ u. IsOver u queue) (sym at.2.1) (record { below = over.below; gone = over.gone })
over_does s t (Receive consumer) reply queue does over =
    let at = matched (consumer_named s.running.consumers consumer) (λ c. MatchOption (queue_with s.durable.queues c.queue) ⊥ (λ q. Gives s consumer (available s q) reply t)) does in
    let of = matched (queue_with s.durable.queues at.0.queue) (λ q. Gives s consumer (available s q) reply t) at.2 in
    over_give s t consumer (available s of.0) reply queue of.2 over
over_does s t (Acknowledge consumer acked) reply queue does over =
    let at = matched (consumer_named s.running.consumers consumer) (λ c. IsDone reply t (with_durable (with_consumers s (with_flights consumer (without_id acked) s.running.consumers)) (with_queues s.durable (acknowledged c.queue acked s.durable.queues)))) does in
    subst (λ u. IsOver u queue) (sym at.2.1) (record { below = over.below; gone = gone_mapped (relieved at.0.queue acked) (relieved_id at.0.queue acked) s.durable.queues queue over.gone })
over_does s t (Cancel consumer cancelled) reply queue does over = subst (λ u. IsOver u queue) (sym does.1) (record { below = over.below; gone = over.gone })
over_does s t (Close consumer) reply queue does over = subst (λ u. IsOver u queue) (sym does.1) (record { below = over.below; gone = over.gone })
over_does s t (Count of) reply queue does over =
    let at = matched (queue_named s.durable.queues of) (λ q. (reply ≡ answer.Count (length q.messages)) × (t ≡ s)) does in
    subst (λ u. IsOver u queue) (sym at.2.1) over

over_answers : (s t : Broker) (action : Action) (refusal : Option Refusal) (reply : Reply) (queue : ℕ) → Answers s action refusal reply t → IsOver s queue → IsOver t queue
over_answers s t action None reply queue answers over = over_does s t action reply queue answers over
over_answers s t action (Some refusal) reply queue answers over = subst (λ u. IsOver u queue) (sym answers.1) over

over_takes : (view : View) (s t : Broker) (asked : Option Action) (reply : Reply) (queue : ℕ) → Takes view s asked reply t → IsOver s queue → IsOver t queue
over_takes view s t None reply queue takes over = subst (λ u. IsOver u queue) (sym takes.1) over
over_takes view s t (Some action) reply queue takes over = over_answers s t action takes.refusal reply queue takes.answers over

pub over_later : (queue : ℕ) {s t : Broker} → IsLater s t → IsOver s queue → IsOver t queue
over_later queue (itself s) over = over
over_later queue (after_line s t u item reply step later) over = over_later queue later (over_takes step.0 s t (asked item) reply queue step.2 over)
over_later queue (after_opening s u ids later) over = over_later queue later (record { below = over.below; gone = over.gone })

-- ---- the id that the next queue gets doesn't fall
pub record IsGiven (s : Broker) (queue : ℕ) : Type 0 where
  pub below : queue < s.durable.next

given_send : (s t : Broker) (numbers : List ℕ) (properties : List Property) (body : List ℕ) (reply : Reply) (queue : ℕ) → Sends s numbers properties body reply t → IsGiven s queue → IsGiven t queue
given_send s t [] properties body reply queue sends was = subst (λ u. IsGiven u queue) (sym sends.1) was
given_send s t (number ∷ numbers) properties body reply queue sends was = subst (λ u. IsGiven u queue) (sym sends.1) (record { below = was.below })

given_give : (s t : Broker) (consumer : List ℕ) (o : Option Message) (reply : Reply) (queue : ℕ) → Gives s consumer o reply t → IsGiven s queue → IsGiven t queue
given_give s t consumer None reply queue gives was = subst (λ u. IsGiven u queue) (sym gives.1) was
given_give s t consumer (Some m) reply queue gives was = subst (λ u. IsGiven u queue) (sym gives.1) (record { below = was.below })

given_does : (s t : Broker) (action : Action) (reply : Reply) (queue : ℕ) → Does s action reply t → IsGiven s queue → IsGiven t queue
given_does s t (MakeAddress name settings) reply queue does was = subst (λ u. IsGiven u queue) (sym does.1) (record { below = was.below })
given_does s t (MakeQueue name address filter) reply queue does was =
    let made : QueueMade s t name address filter reply = queue_made s t name address filter reply does in
    subst (λ u. IsGiven u queue) (sym made.is) (record { below = omega (arith, was.below) })
given_does s t (DropQueue name) reply queue does was =
    let at = matched (queue_named s.durable.queues name) (λ q. IsDone reply t (with_durable s (with_queues s.durable (without_queue q.id s.durable.queues)))) does in
    subst (λ u. IsGiven u queue) (sym at.2.1) (record { below = was.below })
given_does s t (Send address properties body) reply queue does was =
    let sent : MessageSent s t address properties body reply = message_sent s t address properties body reply does in
    given_send s t sent.numbers properties body reply queue sent.sends was
given_does s t (Open name on) reply queue does was =
    let at = matched (queue_named s.durable.queues on) (λ q. IsDone reply t (with_consumers s (s.running.consumers ++ (record { name = name; queue = q.id; in_flight = [] } ∷ [])))) does in
    subst (λ u. IsGiven u queue) (sym at.2.1) (record { below = was.below })
given_does s t (Receive consumer) reply queue does was =
    let at = matched (consumer_named s.running.consumers consumer) (λ c. MatchOption (queue_with s.durable.queues c.queue) ⊥ (λ q. Gives s consumer (available s q) reply t)) does in
    let of = matched (queue_with s.durable.queues at.0.queue) (λ q. Gives s consumer (available s q) reply t) at.2 in
    given_give s t consumer (available s of.0) reply queue of.2 was
given_does s t (Acknowledge consumer acked) reply queue does was =
    let at = matched (consumer_named s.running.consumers consumer) (λ c. IsDone reply t (with_durable (with_consumers s (with_flights consumer (without_id acked) s.running.consumers)) (with_queues s.durable (acknowledged c.queue acked s.durable.queues)))) does in
    subst (λ u. IsGiven u queue) (sym at.2.1) (record { below = was.below })
given_does s t (Cancel consumer cancelled) reply queue does was = subst (λ u. IsGiven u queue) (sym does.1) (record { below = was.below })
given_does s t (Close consumer) reply queue does was = subst (λ u. IsGiven u queue) (sym does.1) (record { below = was.below })
given_does s t (Count of) reply queue does was =
    let at = matched (queue_named s.durable.queues of) (λ q. (reply ≡ answer.Count (length q.messages)) × (t ≡ s)) does in
    subst (λ u. IsGiven u queue) (sym at.2.1) was

given_answers : (s t : Broker) (action : Action) (refusal : Option Refusal) (reply : Reply) (queue : ℕ) → Answers s action refusal reply t → IsGiven s queue → IsGiven t queue
given_answers s t action None reply queue answers was = given_does s t action reply queue answers was
given_answers s t action (Some refusal) reply queue answers was = subst (λ u. IsGiven u queue) (sym answers.1) was

given_takes : (view : View) (s t : Broker) (asked : Option Action) (reply : Reply) (queue : ℕ) → Takes view s asked reply t → IsGiven s queue → IsGiven t queue
given_takes view s t None reply queue takes was = subst (λ u. IsGiven u queue) (sym takes.1) was
given_takes view s t (Some action) reply queue takes was = given_answers s t action takes.refusal reply queue takes.answers was

pub given_later : (queue : ℕ) {s t : Broker} → IsLater s t → IsGiven s queue → IsGiven t queue
given_later queue (itself s) was = was
given_later queue (after_line s t u item reply step later) was = given_later queue later (given_takes step.0 s t (asked item) reply queue step.2 was)
given_later queue (after_opening s u ids later) was = given_later queue later (record { below = was.below })

-- the id of a live queue of a valid state was given
pub live_given : (s : Broker) (queue : ℕ) → IsValid s → IsLive s.durable.queues queue → IsGiven s queue
live_given s queue valid is = record { below = omega (arith, is.is_queue, All-contains (λ (q : Queue). q.id < s.durable.next) s.durable.queues is.one valid.below is.live) }
