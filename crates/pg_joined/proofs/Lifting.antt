-- Steps of the broker alone, as steps of the whole.
use Rattle.std.proofs.Common.{◌≡◌, ℕ, ◌+◌, List, [], ◌∷◌, ◌++◌, length, map, refl, sym, ap, ap₂, subst, ◌∙◌}
use Rattle.std.proofs.lemmas.List.{append-nil, length-append}
use Rattle.std.specs.Prelude.{Option, Some, None, MatchOption}
use Rattle.std.specs.Option.{option_map}
use Rattle.pg_msg.specs.declared.message.Message.{Message}
use Rattle.pg_msg.specs.declared.properties.Property.{Property}
use Rattle.pg_msg.specs.declared.reply.Refusal.{Refusal}
use Rattle.pg_msg.specs.declared.reply.Reply.{Reply}
use Rattle.pg_msg.specs.declared.reply.Reply.TheVariants as answer
use Rattle.pg_model.specs.Actions.{Action, MakeAddress, MakeQueue, DropQueue, Send, Open, Receive, Acknowledge, Cancel, Close, Count}
use Rattle.pg_model.specs.Broker.{Settings, Queue, Consumer, Broker, address_named, queue_named, queue_with, consumer_named}
use Rattle.pg_model.specs.Causes.{IsFirst}
use Rattle.pg_model.specs.Changes.{with_durable, with_consumers, with_queues, with_queue, without_queue, next_id, acknowledged, without_id, with_flights}
use Rattle.pg_model.specs.Refusals.{View, causes}
use Rattle.pg_model.specs.Routing.{IsRouted, text_of}
use Rattle.pg_model.specs.Steps.{Sends, Gives, IsDone, Does, Answers, Acts, available}
use Rattle.pg_joined.specs.Joined.{AsksNoFlight, PagedFlights, PagedMessages, joined, joined_consumer, joined_consumers, joined_queue, joined_queues, merged, nothing, with_messages_at}
use Rattle.pg_joined.proofs.Causing.{first_whole, queue_found}
use Rattle.pg_joined.proofs.Lists.{is_matched, matched}
use Rattle.pg_joined.proofs.Queues.{dropped, dropped_with_pages, made}

-- the broker with these queues and consumers
abbrev pub rebuilt : Broker → List Queue → List Consumer → Broker
rebuilt s queues consumers =
    record { durable = with_queues s.durable queues; running = record { drawn = s.running.drawn; consumers = consumers }; ids = s.ids }

abbrev pub Refusing : View → Broker → Broker → Broker → PagedMessages → PagedFlights → Action → Reply → Type 0
Refusing view s t u paged flights action reply =
    (refusal : Refusal) → reply ≡ answer.No refusal → IsFirst (causes view s action) (Some refusal) → t ≡ s → u ≡ joined paged flights s

answered : (view : View) (s t u : Broker) (paged : PagedMessages) (flights : PagedFlights) (action : Action) (reply : Reply)
    → (Does s action reply t → Does (joined paged flights s) action reply u) → Refusing view s t u paged flights action reply
    → (o : Option Refusal) → IsFirst (causes view s action) o → Answers s action o reply t → Answers (joined paged flights s) action o reply u
answered view s t u paged flights action reply does refuses None first answers = does answers
answered view s t u paged flights action reply does refuses (Some refusal) first answers = (answers.0, refuses refusal answers.0 first answers.1)

-- an action is lifted as what it does is
pub lifted : (view : View) (s t u : Broker) (paged : PagedMessages) (flights : PagedFlights) (action : Action) (reply : Reply) → AsksNoFlight action
    → (Does s action reply t → Does (joined paged flights s) action reply u) → Refusing view s t u paged flights action reply
    → Acts view s action reply t → Acts view (joined paged flights s) action reply u
lifted view s t u paged flights action reply asks does refuses acts = record {
  refusal = acts.refusal;
  first = first_whole view paged flights s action acts.refusal asks acts.first;
  answers = answered view s t u paged flights action reply does refuses acts.refusal acts.first acts.answers;
}

pub lifted_same : (view : View) (s t : Broker) (paged : PagedMessages) (flights : PagedFlights) (action : Action) (reply : Reply) → AsksNoFlight action
    → (Does s action reply t → Does (joined paged flights s) action reply (joined paged flights t))
    → Acts view s action reply t → Acts view (joined paged flights s) action reply (joined paged flights t)
lifted_same view s t paged flights action reply asks does acts =
    lifted view s t (joined paged flights t) paged flights action reply asks does (λ refusal is first same. ap (joined paged flights) same) acts

-- ---- refused
pub refused : (view : View) (s t : Broker) (paged : PagedMessages) (flights : PagedFlights) (action : Action) (refusal : Refusal) → AsksNoFlight action
    → Acts view s action (answer.No refusal) t → Acts view (joined paged flights s) action (answer.No refusal) (joined paged flights t)
refused view s t paged flights action refusal asks acts = record {
  refusal = acts.refusal;
  first = first_whole view paged flights s action acts.refusal asks acts.first;
  answers = still action acts.refusal acts.answers;
}
  where
    done_no : answer.No refusal ≡ answer.Done → ⊥
    done_no is = cc

    sends_no : (properties : List Property) (body : List ℕ) (numbers : List ℕ) → Sends s numbers properties body (answer.No refusal) t → ⊥
    sends_no properties body [] sends = let is : answer.No refusal ≡ answer.Unrouted = sends.0 in cc
    sends_no properties body (number ∷ numbers) sends = let is : answer.No refusal ≡ answer.Sent (next_id s) = sends.0 in cc

    gives_no : (consumer : List ℕ) (o : Option Message) → Gives s consumer o (answer.No refusal) t → ⊥
    gives_no consumer None gives = let is : answer.No refusal ≡ answer.Empty = gives.0 in cc
    gives_no consumer (Some m) gives = let is : answer.No refusal ≡ answer.Given m = gives.0 in cc

    does_no : (action : Action) → Does s action (answer.No refusal) t → ⊥
    does_no (MakeAddress name settings) does = done_no does.0
    does_no (MakeQueue name address filter) does =
        done_no (matched (address_named s.durable.addresses address) (λ id. IsDone (answer.No refusal) t (with_durable s (with_queue s.durable name id (text_of filter)))) does.1).2.0
    does_no (DropQueue name) does =
        done_no (matched (queue_named s.durable.queues name) (λ q. IsDone (answer.No refusal) t (with_durable s (with_queues s.durable (without_queue q.id s.durable.queues)))) does).2.0
    does_no (Send address properties body) does =
        let at = matched (address_named s.durable.addresses address) (λ id. (numbers : List ℕ) × IsRouted s id properties numbers × Sends s numbers properties body (answer.No refusal) t) does in
        sends_no properties body at.2.0 at.2.2
    does_no (Open name queue) does =
        done_no (matched (queue_named s.durable.queues queue) (λ q. IsDone (answer.No refusal) t (with_consumers s (s.running.consumers ++ (record { name = name; queue = q.id; in_flight = [] } ∷ [])))) does).2.0
    does_no (Receive consumer) does =
        let at = matched (consumer_named s.running.consumers consumer) (λ c. MatchOption (queue_with s.durable.queues c.queue) ⊥ (λ q. Gives s consumer (available s q) (answer.No refusal) t)) does in
        let of = matched (queue_with s.durable.queues at.0.queue) (λ q. Gives s consumer (available s q) (answer.No refusal) t) at.2 in
        gives_no consumer (available s of.0) of.2
    does_no (Acknowledge consumer id) does =
        done_no (matched (consumer_named s.running.consumers consumer)
        (λ c. IsDone (answer.No refusal) t (with_durable (with_consumers s (with_flights consumer (without_id id) s.running.consumers)) (with_queues s.durable (acknowledged c.queue id s.durable.queues)))) does).2.0
    does_no (Cancel consumer id) does = done_no does.0
    does_no (Close consumer) does = done_no does.0
    does_no (Count queue) does =
        let at = matched (queue_named s.durable.queues queue) (λ q. (answer.No refusal ≡ answer.Count (length q.messages)) × (t ≡ s)) does in
        let is : answer.No refusal ≡ answer.Count (length at.0.messages) = at.2.0 in
        absurd (cc)

    still : (action : Action) (o : Option Refusal) → Answers s action o (answer.No refusal) t → Answers (joined paged flights s) action o (answer.No refusal) (joined paged flights t)
    still action None answers = absurd (does_no action answers)
    still action (Some other) answers = (answers.0, ap (joined paged flights) answers.1)

-- ---- addresses and queues
pub make_address : (view : View) (s t : Broker) (paged : PagedMessages) (flights : PagedFlights) (reply : Reply) (name : List ℕ) (settings : Settings)
    → Acts view s (MakeAddress name settings) reply t → Acts view (joined paged flights s) (MakeAddress name settings) reply (joined paged flights t)
make_address view s t paged flights reply name settings acts =
    lifted_same view s t paged flights (MakeAddress name settings) reply tt (λ does. (does.0, ap (joined paged flights) does.1)) acts

pub make_queue : (view : View) (s t : Broker) (paged : PagedMessages) (flights : PagedFlights) (reply : Reply) (name address : List ℕ) (filter : Option (List ℕ))
    → (reply ≡ answer.Done → paged s.durable.next ≡ []) → Acts view s (MakeQueue name address filter) reply t
    → Acts view (joined paged flights s) (MakeQueue name address filter) reply (joined paged flights t)
make_queue view s t paged flights reply name address filter none acts = lifted_same view s t paged flights (MakeQueue name address filter) reply tt lift acts
  where
    new : ℕ → Queue
    new id = record { id = s.durable.next; name = name; address = id; filter = text_of filter; messages = [] }

    lift : Does s (MakeQueue name address filter) reply t → Does (joined paged flights s) (MakeQueue name address filter) reply (joined paged flights t)
    lift does =
        let at = matched (address_named s.durable.addresses address) (λ id. IsDone reply t (with_durable s (with_queue s.durable name id (text_of filter)))) does.1 in (
          does.0,
          is_matched (address_named s.durable.addresses address)
              (λ id. IsDone reply (joined paged flights t) (with_durable (joined paged flights s) (with_queue (joined paged flights s).durable name id (text_of filter)))) at.0 at.1 (
                at.2.0,
                ap (joined paged flights) at.2.1
                    ∙ ap (λ queues. let r : Broker = record {
                      durable = record { epoch = s.durable.epoch; next = s.durable.next + 1; addresses = s.durable.addresses; queues = queues };
                      running = record { drawn = s.running.drawn; consumers = joined_consumers flights s.running.consumers };
                      ids = s.ids;
                    } in r) (made paged (new at.0) s.durable.queues refl (none at.2.0)),
              ),
        )

pub drop_queue : (view : View) (s t : Broker) (paged : PagedMessages) (flights : PagedFlights) (reply : Reply) (name : List ℕ)
    → Acts view s (DropQueue name) reply t → Acts view (joined paged flights s) (DropQueue name) reply (joined paged flights t)
drop_queue view s t paged flights reply name acts = lifted_same view s t paged flights (DropQueue name) reply tt lift acts
  where
    lift : Does s (DropQueue name) reply t → Does (joined paged flights s) (DropQueue name) reply (joined paged flights t)
    lift does =
        let at = matched (queue_named s.durable.queues name) (λ q. IsDone reply t (with_durable s (with_queues s.durable (without_queue q.id s.durable.queues)))) does in
        is_matched (queue_named (joined_queues paged s.durable.queues) name)
        (λ q. IsDone reply (joined paged flights t) (with_durable (joined paged flights s) (with_queues s.durable (without_queue q.id (joined_queues paged s.durable.queues)))))
        (joined_queue paged at.0) (queue_found paged s.durable.queues name ∙ ap (option_map (joined_queue paged)) at.1) (
          at.2.0,
          ap (joined paged flights) at.2.1
              ∙ ap (λ queues. rebuilt s queues (joined_consumers flights s.running.consumers)) (dropped paged at.0.id s.durable.queues),
        )

pub drop_queue_and_pages : (view : View) (s t : Broker) (paged : PagedMessages) (flights : PagedFlights) (name : List ℕ) (q : Queue) → queue_named s.durable.queues name ≡ Some q
    → Acts view s (DropQueue name) answer.Done t
    → Acts view (joined paged flights s) (DropQueue name) answer.Done (joined (with_messages_at q.id nothing paged) flights t)
drop_queue_and_pages view s t paged flights name q found acts =
    lifted view s t (joined (with_messages_at q.id nothing paged) flights t) paged flights (DropQueue name) answer.Done tt lift (λ refusal is first same. absurd (cc)) acts
  where
    lift : Does s (DropQueue name) answer.Done t → Does (joined paged flights s) (DropQueue name) answer.Done (joined (with_messages_at q.id nothing paged) flights t)
    lift does =
        let at = matched (queue_named s.durable.queues name) (λ q. IsDone answer.Done t (with_durable s (with_queues s.durable (without_queue q.id s.durable.queues)))) does in
        let same : at.0 ≡ q = cc (at.1, found) in
        let is : t ≡ with_durable s (with_queues s.durable (without_queue q.id s.durable.queues)) =
        at.2.1 ∙ ap (λ (q : Queue). with_durable s (with_queues s.durable (without_queue q.id s.durable.queues))) same in
        is_matched (queue_named (joined_queues paged s.durable.queues) name)
        (λ other. IsDone answer.Done (joined (with_messages_at q.id nothing paged) flights t) (with_durable (joined paged flights s) (with_queues s.durable (without_queue other.id (joined_queues paged s.durable.queues)))))
        (joined_queue paged q) (queue_found paged s.durable.queues name ∙ ap (option_map (joined_queue paged)) found) (
          refl,
          ap (joined (with_messages_at q.id nothing paged) flights) is
              ∙ ap (λ queues. rebuilt s queues (joined_consumers flights s.running.consumers)) (dropped_with_pages paged q.id nothing s.durable.queues),
        )

pub count : (view : View) (s t : Broker) (paged : PagedMessages) (flights : PagedFlights) (name : List ℕ) (q : Queue) (n : ℕ) → queue_named s.durable.queues name ≡ Some q
    → Acts view s (Count name) (answer.Count n) t → Acts view (joined paged flights s) (Count name) (answer.Count (n + length (paged q.id))) (joined paged flights t)
count view s t paged flights name q n found acts = record {
  refusal = acts.refusal;
  first = first_whole view paged flights s (Count name) acts.refusal tt acts.first;
  answers = more acts.refusal acts.answers;
}
  where
    more : (o : Option Refusal) → Answers s (Count name) o (answer.Count n) t → Answers (joined paged flights s) (Count name) o (answer.Count (n + length (paged q.id))) (joined paged flights t)
    more (Some refusal) answers = let is : answer.Count n ≡ answer.No refusal = answers.0 in absurd (cc)
    more None answers =
        let at = matched (queue_named s.durable.queues name) (λ q. (answer.Count n ≡ answer.Count (length q.messages)) × (t ≡ s)) answers in
        let same : at.0 ≡ q = cc (at.1, found) in
        let counted : answer.Count n ≡ answer.Count (length q.messages) = subst (λ (q : Queue). answer.Count n ≡ answer.Count (length q.messages)) same at.2.0 in
        let is : n ≡ length q.messages = cc in
        is_matched (queue_named (joined_queues paged s.durable.queues) name)
        (λ other. (answer.Count (n + length (paged q.id)) ≡ answer.Count (length other.messages)) × (joined paged flights t ≡ joined paged flights s))
        (joined_queue paged q) (queue_found paged s.durable.queues name ∙ ap (option_map (joined_queue paged)) found) (
          ap answer.Count (ap (λ k. k + length (paged q.id)) is ∙ sym (length-append q.messages (paged q.id))),
          ap (joined paged flights) at.2.1,
        )

-- ---- nothing in pages
stay : {X : Type 0} (f : X → X) (xs : List X) → ((x : X) → f x ≡ x) → map f xs ≡ xs
stay f [] same = refl
stay f (x ∷ xs) same = ap₂ (λ y ys. y ∷ ys) (same x) (stay f xs same)

pub alone : (s : Broker) (paged : PagedMessages) (flights : PagedFlights) → ((queue : ℕ) → paged queue ≡ []) → ((name : List ℕ) → flights name ≡ []) → joined paged flights s ≡ s
alone s paged flights no_messages no_flights =
    ap₂ (rebuilt s)
    (stay (joined_queue paged) s.durable.queues
    (λ q. ap (λ messages. let other : Queue = record q { messages = messages } in other) (ap (λ behind. q.messages ++ behind) (no_messages q.id) ∙ append-nil q.messages)))
    (stay (joined_consumer flights) s.running.consumers (λ c. ap (λ ids. let other : Consumer = record c { in_flight = merged ids c.in_flight } in other) (no_flights c.name)))
