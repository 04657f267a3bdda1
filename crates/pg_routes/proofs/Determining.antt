-- What a line does is determined by the state, the view and the line.
use Rattle.std.proofs.Common.{◌≡◌, ℕ, List, [], ◌∷◌, ◌++◌, length, Option, Some, None, sym, subst, ◌∙◌}
use Rattle.std.specs.Prelude.{MatchOption}
use Rattle.pg_msg.specs.declared.message.Message.{Message}
use Rattle.pg_msg.specs.declared.properties.Property.{Property}
use Rattle.pg_msg.specs.declared.reply.Refusal.{Refusal}
use Rattle.pg_msg.specs.declared.reply.Reply.{Reply}
use Rattle.pg_msg.specs.declared.reply.Reply.TheVariants as answer
use Rattle.pg_model.specs.Actions.{Action, MakeAddress, MakeQueue, DropQueue, Send, Open, Receive, Acknowledge, Cancel, Close, Count}
use Rattle.pg_model.specs.Broker.{Broker, address_named, queue_named, queue_with, consumer_named}
use Rattle.pg_model.specs.Changes.{with_durable, with_consumers, with_queues, with_queue, without_queue, acknowledged, without_id, with_flights}
use Rattle.pg_model.specs.Refusals.{View}
use Rattle.pg_model.specs.Routing.{IsRouted, queues_of, text_of}
use Rattle.pg_model.specs.Steps.{Sends, Gives, IsDone, Does, Answers, Acts, Takes, available}
use Rattle.pg_model.proofs.CauseLaws.{refused_once}
use Rattle.pg_model.proofs.RoutingLaws.{goes_once}

-- one reply and one state
pub record AreOne (reply other : Reply) (t u : Broker) : Type 0 where
  pub replies : reply ≡ other
  pub states : t ≡ u

both : {X : Type 0} (o : Option X) (P Q : X → Type 0) → MatchOption o ⊥ P → MatchOption o ⊥ Q → (x : X) × P x × Q x
both None P Q this that = absurd this
both (Some x) P Q this that = (x, this, that)

same_end : {reply other is : Reply} {t u end : Broker} → (reply ≡ is) × (t ≡ end) → (other ≡ is) × (u ≡ end) → AreOne reply other t u
same_end this that = record { replies = this.0 ∙ sym that.0; states = this.1 ∙ sym that.1 }

send_once : (s t u : Broker) (numbers : List ℕ) (properties : List Property) (body : List ℕ) (reply other : Reply)
    → Sends s numbers properties body reply t → Sends s numbers properties body other u → AreOne reply other t u
send_once s t u [] properties body reply other this that = same_end this that
send_once s t u (number ∷ numbers) properties body reply other this that = same_end this that

-- a message that comes to the address of this id
abbrev pub SentFrom : Broker → Broker → List Property → List ℕ → Reply → ℕ → Type 0
SentFrom s t properties body reply address = (numbers : List ℕ) × IsRouted s address properties numbers × Sends s numbers properties body reply t

sent_once : (s t u : Broker) (address : ℕ) (properties : List Property) (body : List ℕ) (reply other : Reply)
    → SentFrom s t properties body reply address → SentFrom s u properties body other address → AreOne reply other t u
sent_once s t u address properties body reply other this that =
    let same : that.0 ≡ this.0 = goes_once properties (queues_of address s.durable.queues) that.0 this.0 that.1 this.1 in
    send_once s t u this.0 properties body reply other this.2 (subst (λ numbers. Sends s numbers properties body other u) same that.2)

give_once : (s t u : Broker) (consumer : List ℕ) (o : Option Message) (reply other : Reply) → Gives s consumer o reply t → Gives s consumer o other u → AreOne reply other t u
give_once s t u consumer None reply other this that = same_end this that
give_once s t u consumer (Some m) reply other this that = same_end this that

does_once : (s t u : Broker) (action : Action) (reply other : Reply) → Does s action reply t → Does s action other u → AreOne reply other t u
does_once s t u (MakeAddress name settings) reply other this that = same_end this that
does_once s t u (MakeQueue name address filter) reply other this that =
    let at = both (address_named s.durable.addresses address) (λ id. IsDone reply t (with_durable s (with_queue s.durable name id (text_of filter))))
    (λ id. IsDone other u (with_durable s (with_queue s.durable name id (text_of filter)))) this.1 that.1 in
    same_end at.1 at.2
does_once s t u (DropQueue name) reply other this that =
    let at = both (queue_named s.durable.queues name) (λ q. IsDone reply t (with_durable s (with_queues s.durable (without_queue q.id s.durable.queues))))
    (λ q. IsDone other u (with_durable s (with_queues s.durable (without_queue q.id s.durable.queues)))) this that in
    same_end at.1 at.2
does_once s t u (Send address properties body) reply other this that =
    let at = both (address_named s.durable.addresses address) (SentFrom s t properties body reply) (SentFrom s u properties body other) this that in
    sent_once s t u at.0 properties body reply other at.1 at.2
does_once s t u (Open name on) reply other this that =
    let at = both (queue_named s.durable.queues on) (λ q. IsDone reply t (with_consumers s (s.running.consumers ++ (record { name = name; queue = q.id; in_flight = [] } ∷ []))))
    (λ q. IsDone other u (with_consumers s (s.running.consumers ++ (record { name = name; queue = q.id; in_flight = [] } ∷ [])))) this that in
    same_end at.1 at.2
does_once s t u (Receive consumer) reply other this that =
    let at = both (consumer_named s.running.consumers consumer) (λ c. MatchOption (queue_with s.durable.queues c.queue) ⊥ (λ q. Gives s consumer (available s q) reply t))
    (λ c. MatchOption (queue_with s.durable.queues c.queue) ⊥ (λ q. Gives s consumer (available s q) other u)) this that in
    let of = both (queue_with s.durable.queues at.0.queue) (λ q. Gives s consumer (available s q) reply t) (λ q. Gives s consumer (available s q) other u) at.1 at.2 in
    give_once s t u consumer (available s of.0) reply other of.1 of.2
does_once s t u (Acknowledge consumer id) reply other this that =
    let at = both (consumer_named s.running.consumers consumer)
    (λ c. IsDone reply t (with_durable (with_consumers s (with_flights consumer (without_id id) s.running.consumers)) (with_queues s.durable (acknowledged c.queue id s.durable.queues))))
    (λ c. IsDone other u (with_durable (with_consumers s (with_flights consumer (without_id id) s.running.consumers)) (with_queues s.durable (acknowledged c.queue id s.durable.queues)))) this that in
    same_end at.1 at.2
does_once s t u (Cancel consumer id) reply other this that = same_end this that
does_once s t u (Close consumer) reply other this that = same_end this that
does_once s t u (Count queue) reply other this that =
    let at = both (queue_named s.durable.queues queue) (λ q. (reply ≡ answer.Count (length q.messages)) × (t ≡ s)) (λ q. (other ≡ answer.Count (length q.messages)) × (u ≡ s)) this that in
    same_end at.1 at.2

answers_once : (s t u : Broker) (action : Action) (refusal : Option Refusal) (reply other : Reply) → Answers s action refusal reply t → Answers s action refusal other u → AreOne reply other t u
answers_once s t u action None reply other this that = does_once s t u action reply other this that
answers_once s t u action (Some refusal) reply other this that = same_end this that

pub acts_once : (view : View) (s t u : Broker) (action : Action) (reply other : Reply) → Acts view s action reply t → Acts view s action other u → AreOne reply other t u
acts_once view s t u action reply other this that =
    answers_once s t u action this.refusal reply other this.answers
    (subst (λ refusal. Answers s action refusal other u) (refused_once view s action that.refusal this.refusal that.first this.first) that.answers)

pub takes_once : (view : View) (s t u : Broker) (asked : Option Action) (reply other : Reply) → Takes view s asked reply t → Takes view s asked other u → AreOne reply other t u
takes_once view s t u None reply other this that = same_end this that
takes_once view s t u (Some action) reply other this that = acts_once view s t u action reply other this that
