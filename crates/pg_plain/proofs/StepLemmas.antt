-- Each refusal, and what needs more than a case.
use Rattle.std.proofs.Common.{◌≡◌, ◌≢◌, refl, sym, ap, subst, ◌∙◌, ℕ, ◌<◌, ◌≤◌, true, false, eqb, ◌==◌, List, [], ◌∷◌, length, Option, Some, None, option_map, is_some, MatchOption, inl, inr, arith}
use Rattle.std.specs.Prelude.{Result, Ok, Err, IfOk}
use Rattle.std.specs.List.{list_any}
use Rattle.std.specs.Option.{option_and_then}
use Rattle.std.proofs.lemmas.Bool.{eqb-true, eqb-false, false≢true}
use Rattle.std.proofs.lemmas.List.{length-append}
use Rattle.std.proofs.lemmas.Option.{none-some, same_Some}
use Rattle.pg_msg.specs.declared.limits.TheConstants.{MOST_ADDRESSES, MOST_QUEUES, WEIGHT_LIMIT}
use Rattle.pg_msg.specs.declared.message.Message.{Message}
use Rattle.pg_msg.specs.declared.message.MessageId.{MessageId}
use Rattle.pg_msg.specs.declared.properties.Property.{Property}
use Rattle.pg_msg.specs.declared.reply.Refusal.{Refusal}
use Rattle.pg_msg.specs.declared.reply.Refusal.TheVariants as refusal
use Rattle.pg_msg.specs.declared.reply.Reply.{Reply}
use Rattle.pg_msg.specs.declared.reply.Reply.TheVariants as answer
use Rattle.pg_msg.specs.Messages.{weight_of}
use Rattle.pg_parse.specs.declared.refusal.FilterError.TheVariants as errors
use Rattle.pg_parse.proofs.FilterLaws.{filter_either}
use Rattle.pg_model.specs.Actions.{MakeAddress, MakeQueue, DropQueue, Send, Open, Receive, Acknowledge, Cancel, Close, Count}
use Rattle.pg_model.specs.Broker.{Settings, Queue, Consumer, Broker, address_named, queue_named, queue_with, consumer_named}
use Rattle.pg_model.specs.Changes.{message_of, next_id, with_consumers, with_durable, with_flights, with_id, with_message, with_queue}
use Rattle.pg_model.specs.Causes.{IsFirst}
use Rattle.pg_model.specs.Refusals.{HasFlight, HasMostQueues, IsHeavy, WantsNumber, unreadable}
use Rattle.pg_model.specs.Routing.{HasReading, HasTaker, IsRouted, queues_of, text_of}
use Rattle.pg_model.specs.Steps.{Does, Gives, IsDone, Sends, available}
use Rattle.pg_model.proofs.RoutingLaws.{goes_once}
use Rattle.pg_plain.specs.Filtering.{IsUnread}
use Rattle.pg_plain.specs.Kept.{are_live}
use Rattle.pg_plain.specs.Unpaged.{ActsUnpaged, unpaged_causes}
use Rattle.pg_plain.proofs.KeptLemmas.{consumed_live}

-- ---- options
absent : {A : Type 0} (o : Option A) → o ≡ None → is_some o ≡ true → ⊥
absent o none some = false≢true (sym (ap is_some none) ∙ some)

there : {A : Type 0} (o : Option A) (x : A) → o ≡ Some x → is_some o ≡ true
there o x is = ap is_some is

pub none_of : {A B : Type 0} (f : A → B) (o : Option A) → option_map f o ≡ None → o ≡ None
none_of f None is = refl
none_of f (Some x) is = absurd (none-some (f x) (sym is))

pub some_of : {A B : Type 0} (f : A → B) (o : Option A) (y : B) → option_map f o ≡ Some y → (x : A) × (o ≡ Some x) × (f x ≡ y)
some_of f None y is = absurd (none-some y is)
some_of f (Some x) y is = (x, refl, same_Some (f x) y is)

pub is_none_of : {A : Type 0} (o : Option A) → is_some o ≡ false → o ≡ None
is_none_of None is = refl
is_none_of (Some x) is = absurd (false≢true (sym is))

pub is_some_of : {A : Type 0} (o : Option A) → is_some o ≡ true → (x : A) × (o ≡ Some x)
is_some_of None is = absurd (false≢true is)
is_some_of (Some x) is = (x, refl)

pub some_named : {A B : Type 0} (f : A → B) (o : Option A) (r : Option B) → r ≡ option_map f o → is_some r ≡ true → (x : A) × (o ≡ Some x)
some_named f None r same is = absurd (false≢true (sym (ap is_some same) ∙ is))
some_named f (Some x) r same is = (x, refl)

pub none_named : {A B : Type 0} (f : A → B) (o : Option A) (r : Option B) → r ≡ option_map f o → is_some r ≡ false → o ≡ None
none_named f None r same is = refl
none_named f (Some x) r same is = absurd (false≢true (sym is ∙ ap is_some same))

-- ---- refusals
pub address_taken : (s : Broker) (name : List ℕ) (settings : Settings) (id : ℕ) → address_named s.durable.addresses name ≡ Some id → ActsUnpaged s (MakeAddress name settings) (answer.No refusal.Name) s
address_taken s name settings id is = record { refusal = Some refusal.Name; first = inl (there _ id is, refl); answers = (refl, refl) }

pub address_many : (s : Broker) (name : List ℕ) (settings : Settings) → address_named s.durable.addresses name ≡ None → MOST_ADDRESSES ≤ length s.durable.addresses → ActsUnpaged s (MakeAddress name settings) (answer.No refusal.Room) s
address_many s name settings none many = record { refusal = Some refusal.Room; first = inr (absent _ none, inl (many, refl)); answers = (refl, refl) }

pub queue_taken : (s : Broker) (name address : List ℕ) (filter : Option (List ℕ)) (q : Queue) → queue_named s.durable.queues name ≡ Some q → ActsUnpaged s (MakeQueue name address filter) (answer.No refusal.Name) s
queue_taken s name address filter q is = record { refusal = Some refusal.Name; first = inl (there _ q is, refl); answers = (refl, refl) }

pub queue_nowhere : (s : Broker) (name address : List ℕ) (filter : Option (List ℕ)) → queue_named s.durable.queues name ≡ None → address_named s.durable.addresses address ≡ None → ActsUnpaged s (MakeQueue name address filter) (answer.No refusal.Address) s
queue_nowhere s name address filter new none = record { refusal = Some refusal.Address; first = inr (absent _ new, inl (absent _ none, refl)); answers = (refl, refl) }

pub queue_full : (s : Broker) (name address : List ℕ) (filter : Option (List ℕ)) (id : ℕ) → queue_named s.durable.queues name ≡ None → address_named s.durable.addresses address ≡ Some id → MOST_QUEUES ≤ length (queues_of id s.durable.queues)
    → ActsUnpaged s (MakeQueue name address filter) (answer.No refusal.Room) s
queue_full s name address filter id new is many = record { refusal = Some refusal.Room; first = inr (absent _ new, inr ((λ never. never (there _ id is)), inl ((id, is, many), refl))); answers = (refl, refl) }

-- no queue has the name, the address is there, and it has room
record MayMake (s : Broker) (name address : List ℕ) (id : ℕ) : Type 0 where
  new : queue_named s.durable.queues name ≡ None
  is : address_named s.durable.addresses address ≡ Some id
  room : length (queues_of id s.durable.queues) < MOST_QUEUES

not_full : (s : Broker) (name address : List ℕ) (id : ℕ) → MayMake s name address id → HasMostQueues s address → ⊥
not_full s name address id may full =
    omega (arith, may.room, subst (λ (n : ℕ). MOST_QUEUES ≤ length (queues_of n s.durable.queues)) (same_Some _ _ (sym full.1 ∙ may.is)) full.2)

-- the causes before the last one don't hold
last_cause : (s : Broker) (name address : List ℕ) (filter : Option (List ℕ)) (id : ℕ) (o : Option Refusal) → MayMake s name address id → IsFirst (unreadable filter) o → IsFirst (unpaged_causes s (MakeQueue name address filter)) o
last_cause s name address filter id o may first = inr (absent _ may.new, inr ((λ never. never (there _ id may.is)), inr (not_full s name address id may, first)))

pub queue_unread : (s : Broker) (name address : List ℕ) (filter : Option (List ℕ)) (id at : ℕ) → queue_named s.durable.queues name ≡ None → address_named s.durable.addresses address ≡ Some id → length (queues_of id s.durable.queues) < MOST_QUEUES
    → IsUnread filter (errors.BadFilter at) → ActsUnpaged s (MakeQueue name address filter) (answer.No (refusal.Filter at)) s
queue_unread s name address None id at new is room bad = absurd bad
queue_unread s name address (Some text) id at new is room bad =
    record {
      refusal = Some (refusal.Filter at);
      first = last_cause s name address (Some text) id (Some (refusal.Filter at)) (record { new = new; is = is; room = room }) (inl ((at, bad), refl));
      answers = (refl, refl);
    }

read_first : (filter : Option (List ℕ)) → HasReading filter → IsFirst (unreadable filter) None
read_first None reading = refl
read_first (Some text) reading = inr ((λ bad. filter_either text reading.0 bad.0 reading.1 bad.1), refl)

pub queue_made : (s : Broker) (name address : List ℕ) (filter : Option (List ℕ)) (id : ℕ) → queue_named s.durable.queues name ≡ None → address_named s.durable.addresses address ≡ Some id → length (queues_of id s.durable.queues) < MOST_QUEUES → HasReading filter
    → ActsUnpaged s (MakeQueue name address filter) answer.Done (with_durable s (with_queue s.durable name id (text_of filter)))
queue_made s name address filter id new is room reading =
    let t : Broker = with_durable s (with_queue s.durable name id (text_of filter)) in
    record {
      refusal = None;
      first = last_cause s name address filter id None (record { new = new; is = is; room = room }) (read_first filter reading);
      answers = (reading, subst (λ (o : Option ℕ). MatchOption o ⊥ (λ n. IsDone answer.Done t (with_durable s (with_queue s.durable name n (text_of filter))))) (sym is) (refl, refl));
    }

pub drop_nowhere : (s : Broker) (name : List ℕ) → queue_named s.durable.queues name ≡ None → ActsUnpaged s (DropQueue name) (answer.No refusal.Queue) s
drop_nowhere s name none = record { refusal = Some refusal.Queue; first = inl (absent _ none, refl); answers = (refl, refl) }

pub drop_consumed : (s : Broker) (name : List ℕ) (q : Queue) (id : ℕ) → queue_named s.durable.queues name ≡ Some q → q.id ≡ id → list_any (λ (c : Consumer). c.queue == id) s.running.consumers ≡ true → ActsUnpaged s (DropQueue name) (answer.No refusal.ConsumerOpen) s
drop_consumed s name q id is same used =
    record {
      refusal = Some refusal.ConsumerOpen;
      first = inr ((λ never. never (there _ q is)), inl ((q, is, ap (λ (n : ℕ). list_any (λ (c : Consumer). c.queue == n) s.running.consumers) same ∙ used), refl));
      answers = (refl, refl);
    }

pub count_nowhere : (s : Broker) (name : List ℕ) → queue_named s.durable.queues name ≡ None → ActsUnpaged s (Count name) (answer.No refusal.Queue) s
count_nowhere s name none = record { refusal = Some refusal.Queue; first = inl (absent _ none, refl); answers = (refl, refl) }

pub open_taken : (s : Broker) (name queue : List ℕ) (c : Consumer) → consumer_named s.running.consumers name ≡ Some c → ActsUnpaged s (Open name queue) (answer.No refusal.Name) s
open_taken s name queue c is = record { refusal = Some refusal.Name; first = inl (there _ c is, refl); answers = (refl, refl) }

pub open_nowhere : (s : Broker) (name queue : List ℕ) → consumer_named s.running.consumers name ≡ None → queue_named s.durable.queues queue ≡ None → ActsUnpaged s (Open name queue) (answer.No refusal.Queue) s
open_nowhere s name queue new none = record { refusal = Some refusal.Queue; first = inr (absent _ new, inl (absent _ none, refl)); answers = (refl, refl) }

pub receive_nowhere : (s : Broker) (name : List ℕ) → consumer_named s.running.consumers name ≡ None → ActsUnpaged s (Receive name) (answer.No refusal.Consumer) s
receive_nowhere s name none = record { refusal = Some refusal.Consumer; first = inl (absent _ none, refl); answers = (refl, refl) }

pub ack_nowhere : (s : Broker) (name : List ℕ) (id : MessageId) → consumer_named s.running.consumers name ≡ None → ActsUnpaged s (Acknowledge name id) (answer.No refusal.Consumer) s
ack_nowhere s name id none = record { refusal = Some refusal.Consumer; first = inl (absent _ none, refl); answers = (refl, refl) }

pub ack_undelivered : (s : Broker) (name : List ℕ) (id : MessageId) (c : Consumer) → consumer_named s.running.consumers name ≡ Some c → (HasFlight s name id → ⊥) → ActsUnpaged s (Acknowledge name id) (answer.No refusal.Delivery) s
ack_undelivered s name id c is none = record { refusal = Some refusal.Delivery; first = inr ((λ never. never (there _ c is)), inl (none, refl)); answers = (refl, refl) }

pub cancel_nowhere : (s : Broker) (name : List ℕ) (id : MessageId) → consumer_named s.running.consumers name ≡ None → ActsUnpaged s (Cancel name id) (answer.No refusal.Consumer) s
cancel_nowhere s name id none = record { refusal = Some refusal.Consumer; first = inl (absent _ none, refl); answers = (refl, refl) }

pub cancel_undelivered : (s : Broker) (name : List ℕ) (id : MessageId) (c : Consumer) → consumer_named s.running.consumers name ≡ Some c → (HasFlight s name id → ⊥) → ActsUnpaged s (Cancel name id) (answer.No refusal.Delivery) s
cancel_undelivered s name id c is none = record { refusal = Some refusal.Delivery; first = inr ((λ never. never (there _ c is)), inl (none, refl)); answers = (refl, refl) }

pub close_nowhere : (s : Broker) (name : List ℕ) → consumer_named s.running.consumers name ≡ None → ActsUnpaged s (Close name) (answer.No refusal.Consumer) s
close_nowhere s name none = record { refusal = Some refusal.Consumer; first = inl (absent _ none, refl); answers = (refl, refl) }

-- ---- what is received
received : (s : Broker) (name : List ℕ) (c : Consumer) → are_live s.durable.queues s.running.consumers ≡ true → consumer_named s.running.consumers name ≡ Some c
    → (o : Option Message) → o ≡ option_and_then (available s) (queue_with s.durable.queues c.queue)
    → (reply : _) (t : Broker) → Gives s name o reply t → ActsUnpaged s (Receive name) reply t
received s name c live is o first reply t gives =
    let q = consumed_live s.durable.queues s.running.consumers name c live is in
    let found : o ≡ available s q.0 = first ∙ ap (option_and_then (available s)) q.1 in
    record {
      refusal = None;
      first = inr ((λ never. never (there _ c is)), refl);
      answers =
          subst (λ (x : Option Consumer). MatchOption x ⊥ (λ c. MatchOption (queue_with s.durable.queues c.queue) ⊥ (λ q. Gives s name (available s q) reply t))) (sym is)
          (subst (λ (x : Option Queue). MatchOption x ⊥ (λ q. Gives s name (available s q) reply t)) (sym q.1)
          (subst (λ (x : Option Message). Gives s name x reply t) found gives));
    }

pub receive_empty : (s : Broker) (name : List ℕ) (queue : ℕ) → are_live s.durable.queues s.running.consumers ≡ true → option_map (λ (c : Consumer). c.queue) (consumer_named s.running.consumers name) ≡ Some queue
    → None ≡ option_and_then (available s) (queue_with s.durable.queues queue) → ActsUnpaged s (Receive name) answer.Empty s
receive_empty s name queue live is none =
    let c = some_of (λ (c : Consumer). c.queue) _ queue is in
    received s name c.0 live c.1 None (none ∙ ap (λ (n : ℕ). option_and_then (available s) (queue_with s.durable.queues n)) (sym c.2)) answer.Empty s (refl, refl)

pub receive_given : (s : Broker) (name : List ℕ) (queue : ℕ) (m : Message) → are_live s.durable.queues s.running.consumers ≡ true → option_map (λ (c : Consumer). c.queue) (consumer_named s.running.consumers name) ≡ Some queue
    → Some m ≡ option_and_then (available s) (queue_with s.durable.queues queue)
    → ActsUnpaged s (Receive name) (answer.Given m) (with_consumers s (with_flights name (with_id m.id) s.running.consumers))
receive_given s name queue m live is some =
    let c = some_of (λ (c : Consumer). c.queue) _ queue is in
    received s name c.0 live c.1 (Some m) (some ∙ ap (λ (n : ℕ). option_and_then (available s) (queue_with s.durable.queues n)) (sym c.2)) (answer.Given m) _ (refl, refl)

-- ---- what is sent
-- a message weighs what it does with any id, and no less than its body
pub weight_any : (a b : MessageId) (properties : List Property) (body : List ℕ) → weight_of (message_of a properties body) ≡ weight_of (message_of b properties body)
weight_any a b properties body = grind (arith, length-append)

pub body_within : (id : MessageId) (properties : List Property) (body : List ℕ) → length body ≤ weight_of (message_of id properties body)
body_within id properties body = grind (arith, length-append)

pub none_in : (numbers : List ℕ) (n : ℕ) → n ≡ length numbers → eqb n 0 ≡ true → numbers ≡ []
none_in [] n same is = refl
none_in (m ∷ numbers) n same is = absurd (omega (arith, eqb-true n 0 is, same))

pub some_in : (numbers : List ℕ) (n : ℕ) → n ≡ length numbers → eqb n 0 ≡ false → numbers ≢ []
some_in numbers n same is none = eqb-false n 0 is (same ∙ ap length none)

pub send_nowhere : (s : Broker) (address : List ℕ) (properties : List Property) (body : List ℕ) → address_named s.durable.addresses address ≡ None → ActsUnpaged s (Send address properties body) (answer.No refusal.Address) s
send_nowhere s address properties body none = record { refusal = Some refusal.Address; first = inl (absent _ none, refl); answers = (refl, refl) }

pub send_heavy : (s : Broker) (address : List ℕ) (properties : List Property) (body : List ℕ) (id : ℕ) → address_named s.durable.addresses address ≡ Some id → IsHeavy s properties body → ActsUnpaged s (Send address properties body) (answer.No refusal.Size) s
send_heavy s address properties body id is heavy = record { refusal = Some refusal.Size; first = inr ((λ never. never (there _ id is)), inl (heavy, refl)); answers = (refl, refl) }

sends : (s : Broker) (address : List ℕ) (properties : List Property) (body : List ℕ) (id : ℕ) (numbers : List ℕ) → address_named s.durable.addresses address ≡ Some id → IsRouted s id properties numbers
    → (reply : _) (t : Broker) → Sends s numbers properties body reply t → Does s (Send address properties body) reply t
sends s address properties body id numbers is routed reply t does =
    subst (λ (o : Option ℕ). MatchOption o ⊥ (λ n. (others : List ℕ) × IsRouted s n properties others × Sends s others properties body reply t)) (sym is) (numbers, routed, does)

-- where a message goes to no queue, it has none to go to
none_takes : (s : Broker) (address : List ℕ) (properties : List Property) (id : ℕ) → address_named s.durable.addresses address ≡ Some id → IsRouted s id properties [] → WantsNumber s address properties → ⊥
none_takes s address properties id is routed wants =
    let taker : HasTaker s id properties = subst (λ (n : ℕ). HasTaker s n properties) (same_Some _ _ (sym wants.1 ∙ is)) wants.2 in
    taker.2 (goes_once properties (queues_of id s.durable.queues) taker.0 [] taker.1 routed)

pub send_unrouted : (s : Broker) (address : List ℕ) (properties : List Property) (body : List ℕ) (id : ℕ) → address_named s.durable.addresses address ≡ Some id → (IsHeavy s properties body → ⊥) → IsRouted s id properties [] → ActsUnpaged s (Send address properties body) answer.Unrouted s
send_unrouted s address properties body id is light routed =
    record {
      refusal = None;
      first = inr ((λ never. never (there _ id is)), inr (light, inr (none_takes s address properties id is routed, refl)));
      answers = sends s address properties body id [] is routed answer.Unrouted s (refl, refl);
    }

pub send_numberless : (s : Broker) (address : List ℕ) (properties : List Property) (body : List ℕ) (id : ℕ) (numbers : List ℕ) → address_named s.durable.addresses address ≡ Some id → (IsHeavy s properties body → ⊥) → IsRouted s id properties numbers → numbers ≢ [] → s.ids ≤ s.running.drawn
    → ActsUnpaged s (Send address properties body) (answer.No refusal.Ids) s
send_numberless s address properties body id numbers is light routed some spent =
    record { refusal = Some refusal.Ids; first = inr ((λ never. never (there _ id is)), inr (light, inl ((id, is, (numbers, routed, some), spent), refl))); answers = (refl, refl) }

sent_to : (s : Broker) (numbers : List ℕ) (properties : List Property) (body : List ℕ) → numbers ≢ [] → Sends s numbers properties body (answer.Sent (next_id s)) (with_message s numbers (message_of (next_id s) properties body))
sent_to s [] properties body some = absurd (some refl)
sent_to s (n ∷ numbers) properties body some = (refl, refl)

pub send_made : (s : Broker) (address : List ℕ) (properties : List Property) (body : List ℕ) (id : ℕ) (numbers : List ℕ) → address_named s.durable.addresses address ≡ Some id → (IsHeavy s properties body → ⊥) → IsRouted s id properties numbers → numbers ≢ [] → s.running.drawn < s.ids
    → ActsUnpaged s (Send address properties body) (answer.Sent (next_id s)) (with_message s numbers (message_of (next_id s) properties body))
send_made s address properties body id numbers is light routed some left =
    record {
      refusal = None;
      first = inr ((λ never. never (there _ id is)), inr (light, inr ((λ wants. let spent = wants.3 in omega (arith, spent, left)), refl)));
      answers = sends s address properties body id numbers is routed _ _ (sent_to s numbers properties body some);
    }

abbrev stand_in : MessageId
stand_in = record { epoch = 1; number = 1 }

pub heavy_by : (s : Broker) (properties : List Property) (body : List ℕ) (m : Message) → m ≡ message_of stand_in properties body → WEIGHT_LIMIT ≤ weight_of m → IsHeavy s properties body
heavy_by s properties body m is heavy =
    let same = weight_any stand_in (next_id s) properties body in
    omega (arith, same, heavy, ap weight_of is)

pub light_by : (s : Broker) (properties : List Property) (body : List ℕ) (m : Message) → m ≡ message_of stand_in properties body → (WEIGHT_LIMIT ≤ weight_of m → ⊥) → IsHeavy s properties body → ⊥
light_by s properties body m is light heavy =
    let same = weight_any stand_in (next_id s) properties body in
    light (omega (arith, same, heavy, ap weight_of is))

-- what is delivered to the queues that the message goes to
pub delivered : {E : Type 0} (s : Broker) (address : List ℕ) (properties : List Property) (body : List ℕ) (id : ℕ) (numbers : List ℕ) (m : Message) (r : Result (Broker × Reply) E) → address_named s.durable.addresses address ≡ Some id
    → (IsHeavy s properties body → ⊥) → IsRouted s id properties numbers → numbers ≢ [] → s.running.drawn < s.ids → m ≡ message_of stand_in properties body
    → IfOk r (λ done. done.1 ≡ answer.Sent (next_id s)) → IfOk r (λ done. done.0 ≡ with_message s numbers (record m { id = next_id s })) → IfOk r (λ done. ActsUnpaged s (Send address properties body) done.1 done.0)
delivered s address properties body id numbers m (Ok done) is light routed some left same reply state =
    let made = send_made s address properties body id numbers is light routed some left in
    subst (λ (other : Reply). ActsUnpaged s (Send address properties body) other done.0) (sym reply)
    (subst (λ (t : Broker). ActsUnpaged s (Send address properties body) (answer.Sent (next_id s)) t) (sym (state ∙ ap (λ (m : Message). with_message s numbers (record m { id = next_id s })) same)) made)
delivered s address properties body id numbers m (Err e) is light routed some left same reply state = tt
