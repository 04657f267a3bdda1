-- Each action leads from a valid state to a valid one.
use Rattle.std.proofs.Common.{◌≡◌, ◌≢◌, ◌<◌, ◌+◌, ◌==◌, ◌⊎◌, ℕ, true, false, not, List, [], ◌∷◌, ◌++◌, length, map, Option, Some, None, refl, sym, ap, ap₂, subst, ◌∙◌, inl, inr, arith}
use Rattle.std.proofs.lemmas.Bool.{cases_Bool, cond_both, or_cases, not-true, eqb-true, eq-eqb, false≢true}
use Rattle.std.proofs.lemmas.List.Elements.{All-nil, All-cons, All-push, All-weaker, All-filter, All-map, All-contains, All-from_recursion, recursion_from_All, Contains-append_left}
use Rattle.std.proofs.lemmas.List.Kept.{AllPairs-filter}
use Rattle.std.proofs.lemmas.List.Quantifiers.{all_pairs_push}
use Rattle.std.proofs.lemmas.Slice.Eq.{bytes_eq-Decides}
use Rattle.std.specs.Prelude.{All, AllPairs, MatchOption}
use Rattle.std.specs.List.{AllByRecursion, Contains, list_any}
use Rattle.std.specs.Str.{bytes_eq}
use Rattle.pg_msg.specs.declared.command.Command.{Command}
use Rattle.pg_msg.specs.declared.message.Message.{Message}
use Rattle.pg_msg.specs.declared.message.MessageId.{MessageId}
use Rattle.pg_msg.specs.declared.properties.Property.{Property}
use Rattle.pg_msg.specs.declared.reply.Refusal.{Refusal}
use Rattle.pg_msg.specs.declared.reply.Reply.{Reply}
use Rattle.pg_msg.specs.declared.reply.Reply.TheVariants as answer
use Rattle.pg_parse.specs.FilterTexts.{IsReadable}
use Rattle.pg_model.specs.Actions.{Action, MakeAddress, MakeQueue, DropQueue, Send, Open, Receive, Acknowledge, Cancel, Close, Count}
use Rattle.pg_model.specs.Broker.{Settings, Address, Queue, Consumer, Broker, Durable, same_id, AreHeld, HoldsMessage, IsDrawn, IsLive, IsValid, queue_named, queue_with, consumer_named, flights, fresh, opened_from}
use Rattle.pg_model.specs.Causes.{IsFirst}
use Rattle.pg_model.specs.Changes.{with_durable, with_consumers, with_queues, with_address, with_queue, without_queue, given_to, given, has_number, relieved, acknowledged, with_id, without_id, without_message, with_flights, without_consumer, next_id, message_of, with_message}
use Rattle.pg_model.specs.Refusals.{View, HasAddress, HasQueue, HasConsumer, HasFlight, IsConsumed, causes}
use Rattle.pg_model.specs.Routing.{text_of}
use Rattle.pg_model.specs.Steps.{Sends, Gives, IsDone, Does, Answers, Acts, Takes, Run, available, asked, is_in_flight}
use Rattle.pg_routes.specs.Laws.{IsPart, IsOut, MayOpen, IsLater, itself, after_line, after_opening, any_view}
use Rattle.pg_routes.proofs.Flights.{Flight, changed, changed_name, changed_queue, flights_each, flights_opened, flights_without, flights_closed, flights_given_up, flights_put, none_in_flight}
use Rattle.pg_routes.proofs.Done.{QueueMade, queue_made, MessageSent, message_sent, readable_text}
use Rattle.pg_routes.proofs.Members.{matched, goes_on, each_in, in_first, in_rest, in_found, in_mapped, in_filtered, not_found, not_placed, none_any}
use Rattle.pg_routes.proofs.Parts.{Pairs, IsPut, from_pairs, to_pairs, pairs_mapped, each_weaker, part_each, part_pairs, put_each, put_pairs}
use Rattle.pg_routes.proofs.Queues.{next_is_new, still_drawn, given_id, given_name, given_filter, relieved_id, relieved_name, relieved_filter, in_given, in_acknowledged, in_left, in_more, holds_in, held_as, one_id, same_ids}

-- ---- names
other_name : (name other : List ℕ) → bytes_eq name other ≡ false → other ≡ name → ⊥
other_name name other differ is = false≢true (sym differ ∙ (bytes_eq-Decides name other).1 (sym is))

-- names that differ still do, with one more that nobody has
names_more : {X : Type 0} (name_of : X → List ℕ) (new : X) (xs : List X) → AllByRecursion (λ x. bytes_eq (name_of new) (name_of x) ≡ false) xs
    → AllPairs (λ x other. name_of x ≢ name_of other) xs → AllPairs (λ x other. name_of x ≢ name_of other) (xs ++ (new ∷ []))
names_more {X} name_of new xs none pairs =
    all_pairs_push (λ x other. name_of x ≢ name_of other) xs new pairs
    (All-from_recursion (λ x. name_of x ≢ name_of new) xs (each_weaker (λ (x : X). bytes_eq (name_of new) (name_of x) ≡ false) (λ x. name_of x ≢ name_of new) xs (λ x. other_name (name_of new) (name_of x)) none))

-- what differs still does, where what differs isn't changed
keys_kept : {X K : Type 0} (key : X → K) (f : X → X) → ((x : X) → key (f x) ≡ key x) → (xs : List X) → AllPairs (λ x other. key x ≢ key other) xs → AllPairs (λ x other. key x ≢ key other) (map f xs)
keys_kept key f same xs pairs =
    to_pairs (λ x other. key x ≢ key other) (map f xs) (pairs_mapped key f same xs (from_pairs (λ x other. key x ≢ key other) xs pairs))

-- ---- addresses and queues
valid_address : (s : Broker) (name : List ℕ) (settings : Settings) → IsValid s → (HasAddress s name → ⊥) → IsValid (with_durable s (with_address s.durable name settings))
valid_address s name settings valid new = record {
  addresses = names_more (λ (a : Address). a.name) (record { name = name; settings = settings }) s.durable.addresses (not_placed (λ (a : Address). bytes_eq name a.name) s.durable.addresses new) valid.addresses;
  names = valid.names;
  ids = valid.ids;
  below = valid.below;
  readable = valid.readable;
  held = valid.held;
  consumers = valid.consumers;
  live = valid.live;
  there = valid.there;
  once = valid.once;
}

live_more : (new : Queue) (queues : List Queue) (queue : ℕ) → IsLive queues queue → IsLive (queues ++ (new ∷ [])) queue
live_more new queues queue is = record { one = is.one; live = Contains-append_left queues (new ∷ []) is.one is.live; is_queue = is.is_queue }

holds_more : (new : Queue) (queues : List Queue) (queue : ℕ) (id : MessageId) → HoldsMessage queues queue id → HoldsMessage (queues ++ (new ∷ [])) queue id
holds_more new queues queue id h = held_as (queues ++ (new ∷ [])) queue h.message id (in_more new queues queue h.message (holds_in queues queue id h)) h.is_message

valid_queue : (s : Broker) (name : List ℕ) (address : ℕ) (text : List ℕ) → IsReadable text → IsValid s → (HasQueue s name → ⊥) → IsValid (with_durable s (with_queue s.durable name address text))
valid_queue s name address text readable valid new =
    let one : Queue = record { id = s.durable.next; name = name; address = address; filter = text; messages = [] } in
    record {
      addresses = valid.addresses;
      names = names_more (λ (q : Queue). q.name) one s.durable.queues (not_found (λ (q : Queue). bytes_eq name q.name) s.durable.queues new) valid.names;
      ids = all_pairs_push (λ (q other : Queue). q.id ≢ other.id) s.durable.queues one valid.ids (λ k q within is. omega (arith, is, valid.below k q within));
      below = All-push (λ (q : Queue). q.id < s.durable.next + 1) s.durable.queues one (λ k q within. omega (arith, valid.below k q within)) (omega arith);
      readable = All-push (λ (q : Queue). IsReadable q.filter) s.durable.queues one valid.readable readable;
      held = All-push (λ (q : Queue). AreHeld s.durable.epoch s.running.drawn q.messages) s.durable.queues one valid.held
          (record { distinct = λ i j m before within. absurd (omega arith); were_drawn = λ k m within. absurd (omega arith) });
      consumers = valid.consumers;
      live = All-weaker (λ (c : Consumer). IsLive s.durable.queues c.queue) (λ c. IsLive (s.durable.queues ++ (one ∷ [])) c.queue) (λ c. live_more one s.durable.queues c.queue) s.running.consumers valid.live;
      there = All-weaker (λ (f : Flight). HoldsMessage s.durable.queues f.0 f.1) (λ f. HoldsMessage (s.durable.queues ++ (one ∷ [])) f.0 f.1) (λ f. holds_more one s.durable.queues f.0 f.1) (flights s.running.consumers) valid.there;
      once = valid.once;
    }

live_left : (dropped : ℕ) (queues : List Queue) (queue : ℕ) → (queue ≡ dropped → ⊥) → IsLive queues queue → IsLive (without_queue dropped queues) queue
live_left dropped queues queue other is =
    record { one = is.one; live = in_filtered (λ q. not (q.id == dropped)) queues is.one (apart (cases_Bool (is.one.id == dropped))) is.live; is_queue = is.is_queue }
  where
    apart : (is.one.id == dropped ≡ true) ⊎ (is.one.id == dropped ≡ false) → not (is.one.id == dropped) ≡ true
    apart (inl same) = absurd (other (sym is.is_queue ∙ eqb-true is.one.id dropped same))
    apart (inr differs) = ap not differs

holds_left : (dropped : ℕ) (queues : List Queue) (queue : ℕ) (id : MessageId) → (queue ≡ dropped → ⊥) → HoldsMessage queues queue id → HoldsMessage (without_queue dropped queues) queue id
holds_left dropped queues queue id other h = held_as (without_queue dropped queues) queue h.message id (in_left dropped queues queue h.message (holds_in queues queue id h) other) h.is_message

-- both of each element
each_both : {X : Type 0} (P Q R : X → Type 0) (xs : List X) → ((x : X) → P x → Q x → R x) → AllByRecursion P xs → AllByRecursion Q xs → All R xs
each_both P Q R xs both left right = All-from_recursion R xs (each xs left right)
  where
    each : (ys : List _) → AllByRecursion P ys → AllByRecursion Q ys → AllByRecursion R ys
    each [] left right = tt
    each (y ∷ ys) left right = (both y left.0 right.0, each ys left.1 right.1)

valid_drop : (s : Broker) (dropped : ℕ) → IsValid s → AllByRecursion (λ (c : Consumer). c.queue ≡ dropped → ⊥) s.running.consumers → IsValid (with_durable s (with_queues s.durable (without_queue dropped s.durable.queues)))
valid_drop s dropped valid free = record {
  addresses = valid.addresses;
  names = AllPairs-filter (λ (q other : Queue). q.name ≢ other.name) (λ q. not (q.id == dropped)) s.durable.queues valid.names;
  ids = AllPairs-filter (λ (q other : Queue). q.id ≢ other.id) (λ q. not (q.id == dropped)) s.durable.queues valid.ids;
  below = All-filter (λ (q : Queue). not (q.id == dropped)) (λ q. q.id < s.durable.next) s.durable.queues valid.below;
  readable = All-filter (λ (q : Queue). not (q.id == dropped)) (λ q. IsReadable q.filter) s.durable.queues valid.readable;
  held = All-filter (λ (q : Queue). not (q.id == dropped)) (λ q. AreHeld s.durable.epoch s.running.drawn q.messages) s.durable.queues valid.held;
  consumers = valid.consumers;
  live = each_both (λ (c : Consumer). c.queue ≡ dropped → ⊥) (λ c. IsLive s.durable.queues c.queue) (λ c. IsLive (without_queue dropped s.durable.queues) c.queue) s.running.consumers
      (λ c other is. live_left dropped s.durable.queues c.queue other is) free (recursion_from_All (λ c. IsLive s.durable.queues c.queue) s.running.consumers valid.live);
  there = each_both (λ (f : Flight). f.0 ≡ dropped → ⊥) (λ f. HoldsMessage s.durable.queues f.0 f.1) (λ f. HoldsMessage (without_queue dropped s.durable.queues) f.0 f.1) (flights s.running.consumers)
      (λ f other h. holds_left dropped s.durable.queues f.0 f.1 other h)
      (flights_each (λ (f : Flight). f.0 ≡ dropped → ⊥) s.running.consumers (each_weaker (λ (c : Consumer). c.queue ≡ dropped → ⊥) (λ c. MessageId → c.queue ≡ dropped → ⊥) s.running.consumers (λ c other id. other) free))
      (recursion_from_All (λ f. HoldsMessage s.durable.queues f.0 f.1) (flights s.running.consumers) valid.there);
  once = valid.once;
}

-- ---- messages
-- filters are readable still, where no queue's filter is changed
readable_mapped : (f : Queue → Queue) → ((q : Queue) → (f q).filter ≡ q.filter) → (queues : List Queue) → All (λ (q : Queue). IsReadable q.filter) queues → All (λ (q : Queue). IsReadable q.filter) (map f queues)
readable_mapped f same queues readable =
    All-map (λ (q : Queue). IsReadable q.filter) f queues
    (All-weaker (λ (q : Queue). IsReadable q.filter) (λ q. IsReadable (f q).filter) (λ q is. subst IsReadable (sym (same q)) is) queues readable)

live_mapped : (f : Queue → Queue) → ((q : Queue) → (f q).id ≡ q.id) → (queues : List Queue) (queue : ℕ) → IsLive queues queue → IsLive (map f queues) queue
live_mapped f same queues queue is = record { one = f is.one; live = in_mapped f queues is.one is.live; is_queue = same is.one ∙ is.is_queue }

held_given : (s : Broker) (numbers : List ℕ) (m : Message) (q : Queue) → m.id ≡ next_id s → AreHeld s.durable.epoch s.running.drawn q.messages → AreHeld s.durable.epoch (s.running.drawn + 1) (given_to numbers m q).messages
held_given s numbers m q new held =
    let more : All (λ (m : Message). IsDrawn s.durable.epoch (s.running.drawn + 1) m.id) q.messages =
    All-weaker (λ (m : Message). IsDrawn s.durable.epoch s.running.drawn m.id) (λ m. IsDrawn s.durable.epoch (s.running.drawn + 1) m.id) (λ m. still_drawn s.durable.epoch s.running.drawn m.id) q.messages held.were_drawn in
    let drawn : IsDrawn s.durable.epoch (s.running.drawn + 1) m.id = subst (λ (id : MessageId). IsDrawn s.durable.epoch (s.running.drawn + 1) id) (sym new) (inr (refl, omega arith)) in
    cond_both (has_number numbers q.id) (record q { messages = q.messages ++ (m ∷ []) }) q (λ (other : Queue). AreHeld s.durable.epoch (s.running.drawn + 1) other.messages)
    (λ _. record {
      distinct = all_pairs_push (λ (m other : Message). m.id ≢ other.id) q.messages m held.distinct (λ k x within is. next_is_new s _ (held.were_drawn k x within) (sym new ∙ sym is));
      were_drawn = All-push (λ (m : Message). IsDrawn s.durable.epoch (s.running.drawn + 1) m.id) q.messages m more drawn;
    })
    (λ _. record { distinct = held.distinct; were_drawn = more })

holds_given : (numbers : List ℕ) (m : Message) (queues : List Queue) (queue : ℕ) (id : MessageId) → HoldsMessage queues queue id → HoldsMessage (given numbers m queues) queue id
holds_given numbers m queues queue id h = held_as (given numbers m queues) queue h.message id (in_given numbers m queues queue h.message (holds_in queues queue id h)) h.is_message

valid_given : (s : Broker) (numbers : List ℕ) (m : Message) → m.id ≡ next_id s → IsValid s → IsValid (with_message s numbers m)
valid_given s numbers m new valid = record {
  addresses = valid.addresses;
  names = keys_kept (λ (q : Queue). q.name) (given_to numbers m) (given_name numbers m) s.durable.queues valid.names;
  ids = keys_kept (λ (q : Queue). q.id) (given_to numbers m) (given_id numbers m) s.durable.queues valid.ids;
  below = All-map (λ (q : Queue). q.id < s.durable.next) (given_to numbers m) s.durable.queues
      (All-weaker (λ (q : Queue). q.id < s.durable.next) (λ q. (given_to numbers m q).id < s.durable.next) (λ q below. omega (arith, below, given_id numbers m q)) s.durable.queues valid.below);
  readable = readable_mapped (given_to numbers m) (given_filter numbers m) s.durable.queues valid.readable;
  held = All-map (λ (q : Queue). AreHeld s.durable.epoch (s.running.drawn + 1) q.messages) (given_to numbers m) s.durable.queues
      (All-weaker (λ (q : Queue). AreHeld s.durable.epoch s.running.drawn q.messages) (λ q. AreHeld s.durable.epoch (s.running.drawn + 1) (given_to numbers m q).messages) (λ q. held_given s numbers m q new) s.durable.queues valid.held);
  consumers = valid.consumers;
  live = All-weaker (λ (c : Consumer). IsLive s.durable.queues c.queue) (λ c. IsLive (given numbers m s.durable.queues) c.queue) (λ c. live_mapped (given_to numbers m) (given_id numbers m) s.durable.queues c.queue) s.running.consumers valid.live;
  there = All-weaker (λ (f : Flight). HoldsMessage s.durable.queues f.0 f.1) (λ f. HoldsMessage (given numbers m s.durable.queues) f.0 f.1) (λ f. holds_given numbers m s.durable.queues f.0 f.1) (flights s.running.consumers) valid.there;
  once = valid.once;
}

held_relieved : (epoch drawn queue : ℕ) (id : MessageId) (q : Queue) → AreHeld epoch drawn q.messages → AreHeld epoch drawn (relieved queue id q).messages
held_relieved epoch drawn queue id q held =
    cond_both (q.id == queue) (record q { messages = without_message id q.messages }) q (λ (other : Queue). AreHeld epoch drawn other.messages)
    (λ _. record {
      distinct = AllPairs-filter (λ (m other : Message). m.id ≢ other.id) (λ m. not (same_id m.id id)) q.messages held.distinct;
      were_drawn = All-filter (λ (m : Message). not (same_id m.id id)) (λ m. IsDrawn epoch drawn m.id) q.messages held.were_drawn;
    })
    (λ _. held)

holds_acknowledged : (from : ℕ) (acked : MessageId) (queues : List Queue) (f : Flight) → (f ≡ (from, acked) → ⊥) → HoldsMessage queues f.0 f.1 → HoldsMessage (acknowledged from acked queues) f.0 f.1
holds_acknowledged from acked queues f other h =
    held_as (acknowledged from acked queues) f.0 h.message f.1
    (in_acknowledged from acked queues f.0 h.message (holds_in queues f.0 f.1 h) (λ queue id. other (ap₂ (λ (q : ℕ) (i : MessageId). let pair : Flight = (q, i) in pair) queue (sym h.is_message ∙ id)))) h.is_message

-- what lives on for the consumers that were changed
live_changed : (queues : List Queue) (name : List ℕ) (change : List MessageId → List MessageId) (consumers : List Consumer) → All (λ (c : Consumer). IsLive queues c.queue) consumers
    → All (λ (c : Consumer). IsLive queues c.queue) (with_flights name change consumers)
live_changed queues name change consumers live =
    All-map (λ (c : Consumer). IsLive queues c.queue) (changed name change) consumers
    (All-weaker (λ (c : Consumer). IsLive queues c.queue) (λ c. IsLive queues (changed name change c).queue) (λ c is. subst (λ queue. IsLive queues queue) (sym (changed_queue name change c)) is) consumers live)

names_changed : (name : List ℕ) (change : List MessageId → List MessageId) (consumers : List Consumer) → AllPairs (λ (c other : Consumer). c.name ≢ other.name) consumers
    → AllPairs (λ (c other : Consumer). c.name ≢ other.name) (with_flights name change consumers)
names_changed name change consumers names = keys_kept (λ (c : Consumer). c.name) (changed name change) (changed_name name change) consumers names

valid_ack : (s : Broker) (consumer : List ℕ) (c : Consumer) (id : MessageId) → consumer_named s.running.consumers consumer ≡ Some c → Contains c.in_flight id → IsValid s
    → IsValid (with_durable (with_consumers s (with_flights consumer (without_id id) s.running.consumers)) (with_queues s.durable (acknowledged c.queue id s.durable.queues)))
valid_ack s consumer c id named its valid =
    let part = flights_without consumer id s.running.consumers in
    let once : Pairs (λ (f other : Flight). f ≢ other) (flights s.running.consumers) = from_pairs (λ (f other : Flight). f ≢ other) (flights s.running.consumers) valid.once in
    let live : All (λ (c : Consumer). IsLive s.durable.queues c.queue) (with_flights consumer (without_id id) s.running.consumers) = live_changed s.durable.queues consumer (without_id id) s.running.consumers valid.live in
    record {
      addresses = valid.addresses;
      names = keys_kept (λ (q : Queue). q.name) (relieved c.queue id) (relieved_name c.queue id) s.durable.queues valid.names;
      ids = keys_kept (λ (q : Queue). q.id) (relieved c.queue id) (relieved_id c.queue id) s.durable.queues valid.ids;
      below = All-map (λ (q : Queue). q.id < s.durable.next) (relieved c.queue id) s.durable.queues
          (All-weaker (λ (q : Queue). q.id < s.durable.next) (λ q. (relieved c.queue id q).id < s.durable.next) (λ q below. omega (arith, below, relieved_id c.queue id q)) s.durable.queues valid.below);
      readable = readable_mapped (relieved c.queue id) (relieved_filter c.queue id) s.durable.queues valid.readable;
      held = All-map (λ (q : Queue). AreHeld s.durable.epoch s.running.drawn q.messages) (relieved c.queue id) s.durable.queues
          (All-weaker (λ (q : Queue). AreHeld s.durable.epoch s.running.drawn q.messages) (λ q. AreHeld s.durable.epoch s.running.drawn (relieved c.queue id q).messages) (λ q. held_relieved s.durable.epoch s.running.drawn c.queue id q) s.durable.queues valid.held);
      consumers = names_changed consumer (without_id id) s.running.consumers valid.consumers;
      live = All-weaker (λ (c : Consumer). IsLive s.durable.queues c.queue) (λ other. IsLive (acknowledged c.queue id s.durable.queues) other.queue)
          (λ other. live_mapped (relieved c.queue id) (relieved_id c.queue id) s.durable.queues other.queue) (with_flights consumer (without_id id) s.running.consumers) live;
      there = each_both (λ (f : Flight). f ≡ (c.queue, id) → ⊥) (λ f. HoldsMessage s.durable.queues f.0 f.1) (λ f. HoldsMessage (acknowledged c.queue id s.durable.queues) f.0 f.1)
          (flights (with_flights consumer (without_id id) s.running.consumers)) (holds_acknowledged c.queue id s.durable.queues)
          (flights_given_up consumer id s.running.consumers c named its once)
          (part_each (λ f. HoldsMessage s.durable.queues f.0 f.1) part (recursion_from_All (λ f. HoldsMessage s.durable.queues f.0 f.1) (flights s.running.consumers) valid.there));
      once = to_pairs (λ (f other : Flight). f ≢ other) (flights (with_flights consumer (without_id id) s.running.consumers)) (part_pairs (λ (f other : Flight). f ≢ other) part once);
    }

-- ---- consumers
valid_open : (s : Broker) (name : List ℕ) (queue : List ℕ) (q : Queue) → IsValid s → (HasConsumer s name → ⊥) → queue_named s.durable.queues queue ≡ Some q
    → IsValid (with_consumers s (s.running.consumers ++ (record { name = name; queue = q.id; in_flight = [] } ∷ [])))
valid_open s name queue q valid new named =
    let one : Consumer = record { name = name; queue = q.id; in_flight = [] } in
    let same : flights s.running.consumers ≡ flights (s.running.consumers ++ (one ∷ [])) = sym (flights_opened name q.id s.running.consumers) in
    record {
      addresses = valid.addresses;
      names = valid.names;
      ids = valid.ids;
      below = valid.below;
      readable = valid.readable;
      held = valid.held;
      consumers = names_more (λ (c : Consumer). c.name) one s.running.consumers (not_found (λ (c : Consumer). bytes_eq name c.name) s.running.consumers new) valid.consumers;
      live = All-push (λ (c : Consumer). IsLive s.durable.queues c.queue) s.running.consumers one valid.live
          (record { one = q; live = (in_found (λ (q : Queue). bytes_eq queue q.name) s.durable.queues q named).0; is_queue = refl });
      there = subst (λ (fs : List Flight). All (λ f. HoldsMessage s.durable.queues f.0 f.1) fs) same valid.there;
      once = subst (λ (fs : List Flight). AllPairs (λ f other. f ≢ other) fs) same valid.once;
    }

valid_fewer : (s : Broker) (consumers : List Consumer) → IsValid s → AllPairs (λ (c other : Consumer). c.name ≢ other.name) consumers → All (λ (c : Consumer). IsLive s.durable.queues c.queue) consumers
    → IsPart (flights consumers) (flights s.running.consumers) → IsValid (with_consumers s consumers)
valid_fewer s consumers valid names live part = record {
  addresses = valid.addresses;
  names = valid.names;
  ids = valid.ids;
  below = valid.below;
  readable = valid.readable;
  held = valid.held;
  consumers = names;
  live = live;
  there = All-from_recursion (λ f. HoldsMessage s.durable.queues f.0 f.1) (flights consumers)
      (part_each (λ (f : Flight). HoldsMessage s.durable.queues f.0 f.1) part (recursion_from_All (λ f. HoldsMessage s.durable.queues f.0 f.1) (flights s.running.consumers) valid.there));
  once = to_pairs (λ (f other : Flight). f ≢ other) (flights consumers) (part_pairs (λ (f other : Flight). f ≢ other) part (from_pairs (λ (f other : Flight). f ≢ other) (flights s.running.consumers) valid.once));
}

valid_cancel : (s : Broker) (consumer : List ℕ) (id : MessageId) → IsValid s → IsValid (with_consumers s (with_flights consumer (without_id id) s.running.consumers))
valid_cancel s consumer id valid =
    valid_fewer s (with_flights consumer (without_id id) s.running.consumers) valid (names_changed consumer (without_id id) s.running.consumers valid.consumers)
    (live_changed s.durable.queues consumer (without_id id) s.running.consumers valid.live) (flights_without consumer id s.running.consumers)

valid_close : (s : Broker) (consumer : List ℕ) → IsValid s → IsValid (with_consumers s (without_consumer consumer s.running.consumers))
valid_close s consumer valid =
    valid_fewer s (without_consumer consumer s.running.consumers) valid
    (AllPairs-filter (λ (c other : Consumer). c.name ≢ other.name) (λ c. not (bytes_eq consumer c.name)) s.running.consumers valid.consumers)
    (All-filter (λ (c : Consumer). not (bytes_eq consumer c.name)) (λ c. IsLive s.durable.queues c.queue) s.running.consumers valid.live) (flights_closed consumer s.running.consumers)

valid_get : (s : Broker) (consumer : List ℕ) (c : Consumer) (q : Queue) (m : Message) → consumer_named s.running.consumers consumer ≡ Some c → queue_with s.durable.queues c.queue ≡ Some q
    → available s q ≡ Some m → IsValid s → IsValid (with_consumers s (with_flights consumer (with_id m.id) s.running.consumers))
valid_get s consumer c q m named its gives valid =
    let found : Contains s.durable.queues q × ((q.id == c.queue) ≡ true) = in_found (λ (q : Queue). q.id == c.queue) s.durable.queues q its in
    let same : q.id ≡ c.queue = eqb-true q.id c.queue found.1 in
    let first : Contains q.messages m × (not (is_in_flight s.running.consumers q.id m.id) ≡ true) = in_found (λ (m : Message). not (is_in_flight s.running.consumers q.id m.id)) q.messages m gives in
    let put : IsPut (c.queue, m.id) (flights s.running.consumers) (flights (with_flights consumer (with_id m.id) s.running.consumers)) =
    flights_put consumer m.id s.running.consumers c named (from_pairs (λ (c other : Consumer). c.name ≢ other.name) s.running.consumers valid.consumers) in
    let apart : AllByRecursion (λ (f : Flight). (c.queue, m.id) ≡ f → ⊥) (flights s.running.consumers) =
    subst (λ (queue : ℕ). AllByRecursion (λ (f : Flight). (queue, m.id) ≡ f → ⊥) (flights s.running.consumers)) same
    (none_in_flight s.running.consumers q.id m.id (not-true (is_in_flight s.running.consumers q.id m.id) first.1)) in
    record {
      addresses = valid.addresses;
      names = valid.names;
      ids = valid.ids;
      below = valid.below;
      readable = valid.readable;
      held = valid.held;
      consumers = names_changed consumer (with_id m.id) s.running.consumers valid.consumers;
      live = live_changed s.durable.queues consumer (with_id m.id) s.running.consumers valid.live;
      there = All-from_recursion (λ f. HoldsMessage s.durable.queues f.0 f.1) (flights (with_flights consumer (with_id m.id) s.running.consumers))
          (put_each (λ (f : Flight). HoldsMessage s.durable.queues f.0 f.1) put
          (record { holder = q; live = found.0; is_queue = same; message = m; held = first.0; is_message = refl })
          (recursion_from_All (λ f. HoldsMessage s.durable.queues f.0 f.1) (flights s.running.consumers) valid.there));
      once = to_pairs (λ (f other : Flight). f ≢ other) (flights (with_flights consumer (with_id m.id) s.running.consumers))
          (put_pairs (λ (f other : Flight). f ≢ other) (λ f other apart is. apart (sym is)) put apart (from_pairs (λ (f other : Flight). f ≢ other) (flights s.running.consumers) valid.once));
    }

-- ---- each action
valid_send : (s t : Broker) (numbers : List ℕ) (properties : List Property) (body : List ℕ) (reply : Reply) → Sends s numbers properties body reply t → IsValid s → IsValid t
valid_send s t [] properties body reply sends valid = subst IsValid (sym sends.1) valid
valid_send s t (number ∷ numbers) properties body reply sends valid =
    subst IsValid (sym sends.1) (valid_given s (number ∷ numbers) (message_of (next_id s) properties body) refl valid)

valid_give : (s t : Broker) (consumer : List ℕ) (c : Consumer) (q : Queue) (o : Option Message) (reply : Reply) → consumer_named s.running.consumers consumer ≡ Some c
    → queue_with s.durable.queues c.queue ≡ Some q → available s q ≡ o → Gives s consumer o reply t → IsValid s → IsValid t
valid_give s t consumer c q None reply named its is gives valid = subst IsValid (sym gives.1) valid
valid_give s t consumer c q (Some m) reply named its is gives valid = subst IsValid (sym gives.1) (valid_get s consumer c q m named its is valid)

not_consumed : (s : Broker) (name : List ℕ) (q : Queue) → queue_named s.durable.queues name ≡ Some q → (IsConsumed s name → ⊥) → AllByRecursion (λ (c : Consumer). c.queue ≡ q.id → ⊥) s.running.consumers
not_consumed s name q named free =
    each_weaker (λ (c : Consumer). (c.queue == q.id) ≡ false) (λ c. c.queue ≡ q.id → ⊥) s.running.consumers (λ c differs is. false≢true (sym differs ∙ eq-eqb c.queue q.id is))
    (none_any (λ (c : Consumer). c.queue == q.id) s.running.consumers (none (cases_Bool (list_any (λ (c : Consumer). c.queue == q.id) s.running.consumers))))
  where
    none : (list_any (λ (c : Consumer). c.queue == q.id) s.running.consumers ≡ true) ⊎ (list_any (λ (c : Consumer). c.queue == q.id) s.running.consumers ≡ false)
        → list_any (λ (c : Consumer). c.queue == q.id) s.running.consumers ≡ false
    none (inl consumed) = absurd (free (q, named, consumed))
    none (inr is) = is

one_consumer : (c d : Consumer) → Some c ≡ Some d → c ≡ d
one_consumer c d is = cc

pub some_is : (id : MessageId) (ids : List MessageId) → list_any (λ other. same_id other id) ids ≡ true → Contains ids id
some_is id [] some = absurd (false≢true some)
some_is id (other ∷ ids) some =
    elim (or_cases (same_id other id) (list_any (λ other. same_id other id) ids) some) [
      | inl here ↦ subst (λ (one : MessageId). Contains (other ∷ ids) one) (one_id other id here) (in_first other ids)
      | inr rest ↦ in_rest id other ids (some_is id ids rest)
    ]

pub none_is : (id : MessageId) (ids : List MessageId) → list_any (λ other. same_id other id) ids ≡ false → Contains ids id → ⊥
none_is id ids none there = false≢true (sym (each_in (λ other. same_id other id ≡ false) ids id (none_any (λ other. same_id other id) ids none) there) ∙ same_ids id id refl)

-- what isn't refused for want of a flight has one: it can be told from the list
has_flight : (s : Broker) (consumer : List ℕ) (id : MessageId) → ((HasFlight s consumer id → ⊥) → ⊥) → (c : Consumer) → consumer_named s.running.consumers consumer ≡ Some c → Contains c.in_flight id
has_flight s consumer id not_none c named = told (cases_Bool (list_any (λ other. same_id other id) c.in_flight))
  where
    told : (list_any (λ other. same_id other id) c.in_flight ≡ true) ⊎ (list_any (λ other. same_id other id) c.in_flight ≡ false) → Contains c.in_flight id
    told (inl some) = some_is id c.in_flight some
    told (inr none) = absurd (not_none (λ has. none_is id c.in_flight none (subst (λ (d : Consumer). Contains d.in_flight id) (one_consumer has.0 c (sym has.1 ∙ named)) has.2)))

valid_does : (view : View) (s t : Broker) (action : Action) (reply : Reply) → IsFirst (causes view s action) None → Does s action reply t → IsValid s → IsValid t
valid_does view s t (MakeAddress name settings) reply first does valid = subst IsValid (sym does.1) (valid_address s name settings valid (goes_on first).0)
valid_does view s t (MakeQueue name address filter) reply first does valid =
    let made : QueueMade s t name address filter reply = queue_made s t name address filter reply does in
    subst IsValid (sym made.is) (valid_queue s name made.at (text_of filter) (readable_text filter made.reading) valid (goes_on first).0)
valid_does view s t (DropQueue name) reply first does valid =
    let at = matched (queue_named s.durable.queues name) (λ q. IsDone reply t (with_durable s (with_queues s.durable (without_queue q.id s.durable.queues)))) does in
    subst IsValid (sym at.2.1) (valid_drop s at.0.id valid (not_consumed s name at.0 at.1 (goes_on (goes_on first).1).0))
valid_does view s t (Send address properties body) reply first does valid =
    let sent : MessageSent s t address properties body reply = message_sent s t address properties body reply does in
    valid_send s t sent.numbers properties body reply sent.sends valid
valid_does view s t (Open name queue) reply first does valid =
    let at = matched (queue_named s.durable.queues queue) (λ q. IsDone reply t (with_consumers s (s.running.consumers ++ (record { name = name; queue = q.id; in_flight = [] } ∷ [])))) does in
    subst IsValid (sym at.2.1) (valid_open s name queue at.0 valid (goes_on first).0 at.1)
valid_does view s t (Receive consumer) reply first does valid =
    let at = matched (consumer_named s.running.consumers consumer) (λ c. MatchOption (queue_with s.durable.queues c.queue) ⊥ (λ q. Gives s consumer (available s q) reply t)) does in
    let of = matched (queue_with s.durable.queues at.0.queue) (λ q. Gives s consumer (available s q) reply t) at.2 in
    valid_give s t consumer at.0 of.0 (available s of.0) reply at.1 of.1 refl of.2 valid
valid_does view s t (Acknowledge consumer id) reply first does valid =
    let at = matched (consumer_named s.running.consumers consumer) (λ c. IsDone reply t (with_durable (with_consumers s (with_flights consumer (without_id id) s.running.consumers)) (with_queues s.durable (acknowledged c.queue id s.durable.queues)))) does in
    subst IsValid (sym at.2.1) (valid_ack s consumer at.0 id at.1 (has_flight s consumer id (goes_on (goes_on first).1).0 at.0 at.1) valid)
valid_does view s t (Cancel consumer id) reply first does valid = subst IsValid (sym does.1) (valid_cancel s consumer id valid)
valid_does view s t (Close consumer) reply first does valid = subst IsValid (sym does.1) (valid_close s consumer valid)
valid_does view s t (Count queue) reply first does valid =
    let at = matched (queue_named s.durable.queues queue) (λ q. (reply ≡ answer.Count (length q.messages)) × (t ≡ s)) does in
    subst IsValid (sym at.2.1) valid

valid_answers : (view : View) (s t : Broker) (action : Action) (refusal : Option Refusal) (reply : Reply) → IsFirst (causes view s action) refusal → Answers s action refusal reply t → IsValid s → IsValid t
valid_answers view s t action None reply first answers valid = valid_does view s t action reply first answers valid
valid_answers view s t action (Some refusal) reply first answers valid = subst IsValid (sym answers.1) valid

pub valid_acts : (view : View) (s t : Broker) (action : Action) (reply : Reply) → Acts view s action reply t → IsValid s → IsValid t
valid_acts view s t action reply acts valid = valid_answers view s t action acts.refusal reply acts.first acts.answers valid

pub valid_takes : (view : View) (s t : Broker) (asked : Option Action) (reply : Reply) → Takes view s asked reply t → IsValid s → IsValid t
valid_takes view s t None reply takes valid = subst IsValid (sym takes.1) valid
valid_takes view s t (Some action) reply takes valid = valid_acts view s t action reply takes valid

pub valid_opened : (d : Durable) (ids : ℕ) → MayOpen d → IsValid (opened_from ids d)
valid_opened d ids may = record {
  addresses = may.addresses;
  names = may.names;
  ids = may.ids;
  below = may.below;
  readable = may.readable;
  held = λ k q within. record {
    distinct = may.distinct k q within;
    were_drawn = λ j m inside. inl (omega (arith, may.epochs k q within j m inside));
  };
  consumers = λ i j one before within. absurd (omega arith);
  live = λ k one within. absurd (omega arith);
  there = λ k one within. absurd (omega arith);
  once = λ i j one before within. absurd (omega arith);
}

pub may_open_fresh : MayOpen fresh
may_open_fresh = record {
  addresses = λ i j one before within. absurd (omega arith);
  names = λ i j one before within. absurd (omega arith);
  ids = λ i j one before within. absurd (omega arith);
  below = λ k one within. absurd (omega arith);
  readable = λ k one within. absurd (omega arith);
  distinct = λ k one within. absurd (omega arith);
  epochs = λ k one within. absurd (omega arith);
}

pub may_open : (s : Broker) → IsValid s → MayOpen s.durable
may_open s valid = record {
  addresses = valid.addresses;
  names = valid.names;
  ids = valid.ids;
  below = valid.below;
  readable = valid.readable;
  distinct = λ k q within. (valid.held k q within).distinct;
  epochs = λ k q within j m inside. elim ((valid.held k q within).were_drawn j m inside) [ inl earlier ↦ omega arith | inr now ↦ omega (arith, now.0) ];
}

pub valid_run : (s : Broker) (items : List (Option Command)) (replies : List Reply) (states : List Broker) → IsValid s → Run any_view s items replies states → All IsValid states
valid_run s [] [] [] valid run = All-nil IsValid
valid_run s [] [] (t ∷ states) valid run = absurd run
valid_run s [] (reply ∷ replies) [] valid run = absurd run
valid_run s [] (reply ∷ replies) (t ∷ states) valid run = absurd run
valid_run s (item ∷ items) [] [] valid run = absurd run
valid_run s (item ∷ items) [] (t ∷ states) valid run = absurd run
valid_run s (item ∷ items) (reply ∷ replies) [] valid run = absurd run
valid_run s (item ∷ items) (reply ∷ replies) (t ∷ states) valid run =
    let now : IsValid t = valid_takes run.0.0 s t (asked item) reply run.0.2 valid in
    All-cons IsValid t states now (valid_run t items replies states now run.1)

pub valid_later : {s t : Broker} → IsLater s t → IsValid s → IsValid t
valid_later (itself s) valid = valid
valid_later (after_line s t u item reply step later) valid = valid_later later (valid_takes step.0 s t (asked item) reply step.2 valid)
valid_later (after_opening s u ids later) valid = valid_later later (valid_opened s.durable ids (may_open s valid))

-- ---- ids of what is held
pub drawn_of : (s : Broker) (queue : ℕ) (id : MessageId) → IsValid s → HoldsMessage s.durable.queues queue id → IsDrawn s.durable.epoch s.running.drawn id
drawn_of s queue id valid h =
    let held : AreHeld s.durable.epoch s.running.drawn h.holder.messages = All-contains (λ (q : Queue). AreHeld s.durable.epoch s.running.drawn q.messages) s.durable.queues h.holder valid.held h.live in
    subst (λ (one : MessageId). IsDrawn s.durable.epoch s.running.drawn one) h.is_message (All-contains (λ (m : Message). IsDrawn s.durable.epoch s.running.drawn m.id) h.holder.messages h.message held.were_drawn h.held)

-- no queue has the id that the next one gets
pub out_of_next : (s : Broker) (id : MessageId) → IsValid s → IsOut s.durable.queues s.durable.next id
out_of_next s id valid h =
    omega (arith, h.is_queue, All-contains (λ (q : Queue). q.id < s.durable.next) s.durable.queues h.holder valid.below h.live)
