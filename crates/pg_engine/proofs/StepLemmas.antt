-- What each command does to a state in memory is a step of the broker that it stands for.
use Rattle.std.proofs.Common.{◌≡◌, ◌≢◌, refl, sym, ◌∙◌, ap, subst, ℕ, ◌+◌, ◌<◌, ◌≤◌, Bool, true, false, not, cond, eqb, List, [], ◌∷◌, ◌++◌, length, Option, Some, None, MatchOption, option_map, is_some, inl, inr, Result, Ok, Err, IfOk, IfErr, arith}
use Rattle.std.specs.List.{Contains, list_any}
use Rattle.std.specs.Option.{option_and_then, option_map_or}
use Rattle.std.proofs.lemmas.Bool.{eqb-true, eqb-false, both_ways}
use Rattle.std.proofs.lemmas.List.{length-map}
use Rattle.std.proofs.lemmas.List.Folds.{list_any_at}
use Rattle.std.proofs.lemmas.Map.Views.{Contains-from_any}
use Rattle.std.proofs.lemmas.Option.{none-some, same_Some}
use Rattle.pg_msg.specs.declared.message.Message.{Message}
use Rattle.pg_msg.specs.declared.message.MessageId.{MessageId}
use Rattle.pg_msg.specs.declared.properties.Property.{Property}
use Rattle.pg_msg.specs.declared.reply.Refusal.{Refusal}
use Rattle.pg_msg.specs.declared.reply.Refusal.TheVariants as refusal
use Rattle.pg_msg.specs.declared.reply.Reply.{Reply}
use Rattle.pg_msg.specs.declared.reply.Reply.TheVariants as answer
use Rattle.pg_records.specs.declared.entry.Entry.{Entry}
use Rattle.pg_records.specs.declared.entry.Entry.TheVariants as entry
use Rattle.pg_records.specs.Entries.{HasFields, batch_bytes}
use Rattle.pg_fold.specs.declared.durable.Durable.{Durable}
use Rattle.pg_fold.specs.Fold.{IsReadableEntry, changed, rule_of}
use Rattle.pg_dispatch.specs.Dispatch.{flight_from, has_id}
use Rattle.pg_model.specs.Actions.{Action, MakeAddress, MakeQueue, DropQueue, Send, Open, Receive, Acknowledge, Cancel, Close, Count}
use Rattle.pg_model.specs.Broker.{Broker, Consumer, Queue, Settings, address_named, consumer_named, queue_named, queue_with, same_id}
use Rattle.pg_model.specs.Broker.{Durable as BrokerDurable}
use Rattle.pg_model.specs.Causes.{IsFirst}
use Rattle.pg_model.specs.Changes.{acknowledged, message_of, next_id, with_durable, with_flights, with_message, with_queue, with_queues, without_consumer, without_id, without_queue}
use Rattle.pg_model.specs.Changes.{with_consumers as with_consumers_of}
use Rattle.pg_model.specs.Refusals.{HasAddress, HasConsumer, HasFlight, IsConsumed, IsHeavy, WouldPage, WantsNumber, causes, unreadable}
use Rattle.pg_model.specs.Routing.{HasReading, HasTaker, IsRouted, queues_of, text_of}
use Rattle.pg_model.specs.Steps.{Does, Gives, IsDone, Sends, available}
use Rattle.pg_parse.specs.declared.refusal.FilterError.{FilterError}
use Rattle.pg_parse.specs.declared.refusal.FilterError.TheVariants.{BadFilter}
use Rattle.pg_parse.specs.FilterTexts.{IsReadable}
use Rattle.pg_parse.proofs.FilterLaws.{filter_either}
use Rattle.pg_model.proofs.CauseLaws.{refused_once}
use Rattle.pg_model.proofs.RoutingLaws.{goes_once}
use Rattle.pg_recover.specs.Denotation.{address_of, durable_part}
use Rattle.pg_recover.specs.WellFormed.{AreRoomy}
use Rattle.pg_disk.specs.declared.fault.Fault.{Fault}
use Rattle.pg_engine.specs.declared.state.Outcome.{Outcome}
use Rattle.pg_engine.specs.declared.state.Outcome.TheVariants.{Unchanged, Changed}
use Rattle.pg_engine.specs.Filters.{IsBadFilter}
use Rattle.pg_engine.specs.Kept.{Kept, after_giving, broker_of, next_for, view_of, with_consumers}
use Rattle.pg_engine.specs.Outcomes.{GrowsTo, IsAccepted, IsAsBefore, IsNoOutcome, IsOutcome, AreTakers, HasEntries, WantsQueueId, entries_of, entries_of_message}
use Rattle.pg_engine.proofs.AcknowledgingLemmas.{Apart, acknowledged_part, one_id, same_from}
use Rattle.pg_engine.proofs.DroppingLemmas.{dropped_part}
use Rattle.pg_engine.proofs.PartLemmas.{with_address_part, with_queue_part, with_message_part}
use Rattle.pg_fold.specs.Sound.{IsSound}

-- ---- causes
-- something was found, or nothing
not_some : {X : Type 0} (o : Option X) → o ≡ None → is_some o ≡ true → ⊥
not_some None is some = cc
not_some (Some x) is some = none-some x (sym is)

pub is_there : {X : Type 0} (o : Option X) (x : X) → o ≡ Some x → is_some o ≡ true
is_there None x is = absurd (none-some x is)
is_there (Some y) x is = refl

-- something that a value was made of
pub some_from : {X : Type 0} (f : X → ℕ) (o : Option X) (n : ℕ) → option_map f o ≡ Some n → (x : X) × (o ≡ Some x) × (f x ≡ n)
some_from f None n is = absurd (none-some n is)
some_from f (Some x) n is = (x, refl, same_Some (f x) n is)

-- whether there is a consumer, by its queue
pub no_owner : (o : Option Consumer) (r : Option ℕ) → r ≡ option_map (λ (c : Consumer). c.queue) o → is_some r ≡ false → o ≡ None
no_owner None r same is = refl
no_owner (Some c) r same is = absurd (both_ways (is_some r) is (ap is_some same))

pub an_owner : (o : Option Consumer) (r : Option ℕ) → r ≡ option_map (λ (c : Consumer). c.queue) o → is_some r ≡ true → (c : Consumer) × (o ≡ Some c) × (r ≡ Some c.queue)
an_owner None r same is = absurd (both_ways (is_some r) (ap is_some same) is)
an_owner (Some c) r same is = (c, refl, same)

pub not_none : (a b : Bool) → a ≡ not b → b ≡ false → a ≡ true
not_none a b same is = same ∙ ap not is

pub not_some_by : (a b : Bool) → a ≡ not b → b ≡ true → a ≡ false
not_some_by a b same is = same ∙ ap not is

-- a flight that isn't there, and one that is
pub is_none_of : (o r : Option ℕ) → r ≡ o → is_some r ≡ false → o ≡ None
is_none_of None r same is = refl
is_none_of (Some x) r same is = absurd (both_ways (is_some r) is (ap is_some same))

pub is_some_of : (o r : Option ℕ) → r ≡ o → is_some r ≡ true → (x : ℕ) × (o ≡ Some x)
is_some_of None r same is = absurd (both_ways (is_some r) (ap is_some same) is)
is_some_of (Some x) r same is = (x, refl)

-- a queue that a consumer has is live
pub queue_there : (o : Option Queue) → is_some o ≡ true → (q : Queue) × (o ≡ Some q)
queue_there None is = cc
queue_there (Some q) is = (q, refl)

pub none_length : (o : Option Queue) → option_map (λ (q : Queue). length q.messages) o ≡ None → o ≡ None
none_length None is = refl
none_length (Some q) is = absurd (none-some (length q.messages) (sym is))

-- a message among ids is found there
pub has_of : (id : MessageId) (ids : List MessageId) → Contains ids id → has_id id ids ≡ true
has_of id ids among = list_any_at (λ (other : MessageId). same_id other id) ids among.0 id among.1 (same_from _ id among.2)

-- where an id was found, something was
pub some_of : {X : Type 0} (f : X → ℕ) (o : Option X) → is_some (option_map f o) ≡ true → is_some o ≡ true
some_of f None is = cc
some_of f (Some x) is = refl

pub none_of : {X : Type 0} (f : X → ℕ) (o : Option X) → option_map f o ≡ None → o ≡ None
none_of f None is = refl
none_of f (Some x) is = absurd (none-some (f x) (sym is))

not_both : (why : Refusal) → Some why ≡ None → ⊥
not_both why e = cc

module _ (s : Kept) where
  abbrev pub d : Durable
  d = s.durable

  abbrev pub b : Broker
  b = broker_of s

  -- ---- outcomes
  -- an action that is refused leaves all as it was
  pub refused : (action : Action) (why : Refusal) → IsFirst (causes (view_of s) b action) (Some why) → IsOutcome s (Some action) (Unchanged s (answer.No why))
  refused action why first = (
    record { durable = refl; paged = refl },
    record { refusal = Some why; first = first; answers = (refl, refl) },
    record { nothing = (Some why, first, refl); queue_id = λ meets. not_both why (refused_once (view_of s) b action (Some why) None first meets.0) },
  )

  -- so does what asks for no action
  pub unread : IsOutcome s None (Unchanged s (answer.No refusal.Line))
  unread = (record { durable = refl; paged = refl }, (refl, refl), record { nothing = refl; queue_id = λ no. no })

  -- so does one that adds nothing
  pub kept : (action : Action) (reply : Reply) (t : Kept) → IsAsBefore s t → IsAccepted s action → Does b action reply (broker_of t) → HasEntries s action [] → (WantsQueueId s action → ⊥) → IsOutcome s (Some action) (Unchanged t reply)
  kept action reply t before accepted does nothing queue_id = (
    before,
    record { refusal = None; first = accepted; answers = does },
    record { nothing = (None, accepted, nothing); queue_id = λ meets. queue_id meets.1 },
  )

  -- and one that adds an entry does what the entry does
  pub recorded : (action : Action) (reply : Reply) (t : Kept) (batch : List ℕ) (e : Entry) → IsAccepted s action → (WantsQueueId s action → ⊥) → Does b action reply (broker_of t) → HasEntries s action (e ∷ [])
      → rule_of d e ≡ None → IsReadableEntry e → t.durable ≡ changed d e → HasFields e → batch ≡ batch_bytes (e ∷ []) → AreRoomy t.durable → GrowsTo d.addresses s.paged t.durable.addresses t.paged → IsOutcome s (Some action) (Changed t batch reply)
  recorded action reply t batch e accepted queue_id does has condition readable effect fields bytes roomy grows = (
    record { refusal = None; first = accepted; answers = does },
    record {
      entry = e;
      accepted = accepted;
      queue_id = queue_id;
      has_entry = has;
      applied = record { condition = condition; readable = readable; effect = effect };
      fields = fields;
      bytes = bytes;
      roomy = roomy;
      grows = grows;
    },
  )

  -- the batch of an action that has no message
  plain : {action : Action} {batch : List Entry} → AreTakers s action [] → batch ≡ entries_of s [] action → HasEntries s action batch
  plain are is = record { takers = []; are = are; is = is }

  -- the broker after an entry, by what it does to the durable part
  broker_after : (t : Kept) (e : Entry) (drawn : ℕ) (consumers : List Consumer) (part : BrokerDurable) → t.durable ≡ changed d e → t.drawn ≡ drawn → t.ids ≡ s.ids → t.consumers ≡ consumers → durable_part (changed d e) ≡ part
      → broker_of t ≡ record { durable = part; running = record { drawn = drawn; consumers = consumers }; ids = s.ids }
  broker_after t e drawn consumers part effect draws ids same is = λ i. record {
    durable = (ap durable_part effect ∙ is) i;
    running = record { drawn = draws i; consumers = same i };
    ids = ids i;
  }

  -- ---- the command that makes an address
  module _ (name : List ℕ) (settings : Settings) where
    pub address_taken : is_some (address_named b.durable.addresses name) ≡ true → IsOutcome s (Some (MakeAddress name settings)) (Unchanged s (answer.No refusal.Name))
    address_taken taken = refused (MakeAddress name settings) refusal.Name (inl (taken, refl))

    pub address_many : address_named b.durable.addresses name ≡ None → 1000 ≤ length d.addresses → IsOutcome s (Some (MakeAddress name settings)) (Unchanged s (answer.No refusal.Room))
    address_many new full = refused (MakeAddress name settings) refusal.Room (inr (not_some _ new, inl (omega (arith, full, length-map d.addresses address_of), refl)))

    abbrev pub address_entry : Entry
    address_entry = entry.Address (length d.addresses + 1) name settings.max settings.page settings.ahead settings.dup

    pub address_made : (t : Kept) (batch : List ℕ) → address_named b.durable.addresses name ≡ None → length d.addresses < 1000 → rule_of d address_entry ≡ None → HasFields address_entry → t.durable ≡ changed d address_entry
        → t.drawn ≡ s.drawn → t.ids ≡ s.ids → t.consumers ≡ s.consumers → batch ≡ batch_bytes (address_entry ∷ []) → AreRoomy t.durable → GrowsTo d.addresses s.paged t.durable.addresses t.paged → IsOutcome s (Some (MakeAddress name settings)) (Changed t batch answer.Done)
    address_made t batch new few condition fields effect drawn ids same bytes roomy grows =
        recorded (MakeAddress name settings) answer.Done t batch address_entry (inr (not_some _ new, inr ((λ full. omega (arith, few, full, length-map d.addresses address_of)), refl))) (λ no. no)
        (refl, broker_after t address_entry s.drawn s.consumers _ effect drawn ids same (with_address_part d name settings.max settings.page settings.ahead settings.dup)) (plain refl refl) condition tt effect fields bytes roomy grows

  -- ---- the command that makes a queue
  -- the queue is made on the address with that id
  abbrev IsMade : List ℕ → Option (List ℕ) → Kept → ℕ → Type 0
  IsMade name filter t id = IsDone answer.Done (broker_of t) (with_durable b (with_queue b.durable name id (text_of filter)))

  module _ (name address : List ℕ) (filter : Option (List ℕ)) where
    abbrev pub making : Action
    making = MakeQueue name address filter

    pub queue_taken : is_some (queue_named b.durable.queues name) ≡ true → IsOutcome s (Some making) (Unchanged s (answer.No refusal.Name))
    queue_taken taken = refused making refusal.Name (inl (taken, refl))

    pub queue_nowhere : queue_named b.durable.queues name ≡ None → address_named b.durable.addresses address ≡ None → IsOutcome s (Some making) (Unchanged s (answer.No refusal.Address))
    queue_nowhere new none = refused making refusal.Address (inr (not_some _ new, inl (not_some _ none, refl)))

    module _ (new : queue_named b.durable.queues name ≡ None) (id : ℕ) (is : address_named b.durable.addresses address ≡ Some id) where
      abbrev Few : Type 0
      Few = length (queues_of id b.durable.queues) < 1000

      pub queue_full : 1000 ≤ length (queues_of id b.durable.queues) → IsOutcome s (Some making) (Unchanged s (answer.No refusal.Room))
      queue_full full = refused making refusal.Room (inr (not_some _ new, inr ((λ none. none (is_there _ id is)), inl ((id, is, full), refl))))

      -- where nothing but the filter may refuse it
      but_filter : (why : Option Refusal) → Few → IsFirst (unreadable filter) why → IsFirst (causes (view_of s) b making) why
      but_filter why room rest =
          inr (
            not_some _ new,
            inr (
              (λ none. none (is_there _ id is)),
              inr ((λ full. let more = subst (λ (n : ℕ). 1000 ≤ length (queues_of n b.durable.queues)) (same_Some full.0 id (sym full.1 ∙ is)) full.2 in omega (arith, more, room)), rest),
            ),
          )

      none_unreadable : (asked : Option (List ℕ)) → HasReading asked → IsFirst (unreadable asked) None
      none_unreadable None reads = refl
      none_unreadable (Some text) reads = inr ((λ bad. filter_either text reads.0 bad.0 reads.1 bad.1), refl)

      module _ (reads : HasReading filter) where
        queue_accepted : Few → IsAccepted s making
        queue_accepted room = but_filter None room (none_unreadable filter reads)

        pub queue_spent : Few → 4294967295 ≤ d.next → IsAccepted s making × WantsQueueId s making
        queue_spent room spent = (queue_accepted room, spent)

        abbrev pub queue_entry : Entry
        queue_entry = entry.Queue d.next id name (text_of filter)

        kept_readable : (asked : Option (List ℕ)) → HasReading asked → IsReadable (text_of asked)
        kept_readable None reads = (None, refl)
        kept_readable (Some text) reads = (Some reads.0, reads.1)

        pub queue_made : (t : Kept) (batch : List ℕ) → IsSound d → d.next < 4294967295 → Few → rule_of d queue_entry ≡ None → HasFields queue_entry → t.durable ≡ changed d queue_entry
            → t.drawn ≡ s.drawn → t.ids ≡ s.ids → t.consumers ≡ s.consumers → batch ≡ batch_bytes (queue_entry ∷ []) → AreRoomy t.durable → GrowsTo d.addresses s.paged t.durable.addresses t.paged → IsOutcome s (Some making) (Changed t batch answer.Done)
        queue_made t batch sound left room condition fields effect drawn ids same bytes roomy grows =
            recorded making answer.Done t batch queue_entry (queue_accepted room) (λ spent. omega (arith, left, spent))
            (reads, does_at is (refl, broker_after t queue_entry s.drawn s.consumers _ effect drawn ids same (with_queue_part d id name (text_of filter) sound)))
            (plain refl (sym (ap (λ (o : Option ℕ). option_map_or (λ n. entry.Queue d.next n name (text_of filter) ∷ []) o []) is))) condition (kept_readable filter reads) effect fields bytes roomy grows
          where
            does_at : address_named b.durable.addresses address ≡ Some id → IsMade name filter t id → MatchOption (address_named b.durable.addresses address) ⊥ (IsMade name filter t)
            does_at found done = subst (λ (o : Option ℕ). MatchOption o ⊥ (IsMade name filter t)) (sym found) done

  -- a filter without a reading
  pub queue_unreadable : (name address : List ℕ) (asked : Option (List ℕ)) (error : FilterError) (at : ℕ) → queue_named b.durable.queues name ≡ None → (id : ℕ) → address_named b.durable.addresses address ≡ Some id → length (queues_of id b.durable.queues) < 1000
      → IsBadFilter asked error → error ≡ BadFilter at → IsOutcome s (Some (MakeQueue name address asked)) (Unchanged s (answer.No (refusal.Filter at)))
  queue_unreadable name address asked error at new id is room bad same = by asked (subst (IsBadFilter asked) same bad)
    where
      by : (asked : Option (List ℕ)) → IsBadFilter asked (BadFilter at) → IsOutcome s (Some (MakeQueue name address asked)) (Unchanged s (answer.No (refusal.Filter at)))
      by None none = absurd none
      by (Some text) bad = refused (MakeQueue name address (Some text)) (refusal.Filter at) (but_filter name address (Some text) new id is (Some (refusal.Filter at)) room (inl ((at, bad), refl)))

  -- ---- the command that drops a queue
  module _ (name : List ℕ) where
    pub drop_nowhere : queue_named b.durable.queues name ≡ None → IsOutcome s (Some (DropQueue name)) (Unchanged s (answer.No refusal.Queue))
    drop_nowhere none = refused (DropQueue name) refusal.Queue (inl (not_some _ none, refl))

    module _ (q : Queue) (is : queue_named b.durable.queues name ≡ Some q) where
      pub drop_consumed : list_any (λ (c : Consumer). eqb c.queue q.id) s.consumers ≡ true → IsOutcome s (Some (DropQueue name)) (Unchanged s (answer.No refusal.ConsumerOpen))
      drop_consumed consumed = refused (DropQueue name) refusal.ConsumerOpen (inr ((λ none. none (is_there _ q is)), inl ((q, is, consumed), refl)))

      free : list_any (λ (c : Consumer). eqb c.queue q.id) s.consumers ≡ false → IsConsumed b name → ⊥
      free none consumed =
          both_ways (list_any (λ (c : Consumer). eqb c.queue q.id) s.consumers) none
          (ap (λ (x : Queue). list_any (λ (c : Consumer). eqb c.queue x.id) s.consumers) (same_Some q consumed.0 (sym is ∙ consumed.1)) ∙ consumed.2)

      pub drop_made : (t : Kept) (batch : List ℕ) → list_any (λ (c : Consumer). eqb c.queue q.id) s.consumers ≡ false → rule_of d (entry.DropQueue q.id) ≡ None → HasFields (entry.DropQueue q.id) → t.durable ≡ changed d (entry.DropQueue q.id)
          → t.drawn ≡ s.drawn → t.ids ≡ s.ids → t.consumers ≡ s.consumers → t.paged ≡ s.paged → batch ≡ batch_bytes (entry.DropQueue q.id ∷ []) → AreRoomy t.durable → IsOutcome s (Some (DropQueue name)) (Changed t batch answer.Done)
      drop_made t batch none condition fields effect drawn ids same paged bytes roomy =
          recorded (DropQueue name) answer.Done t batch (entry.DropQueue q.id) (inr ((λ none. none (is_there _ q is)), inr (free none, refl))) (λ no. no)
          (subst (λ (o : Option Queue). MatchOption o ⊥ (λ x. IsDone answer.Done (broker_of t) (with_durable b (with_queues b.durable (without_queue x.id b.durable.queues))))) (sym is)
          (refl, broker_after t (entry.DropQueue q.id) s.drawn s.consumers _ effect drawn ids same (dropped_part q.id d)))
          (plain refl (sym (ap (λ (o : Option Queue). option_map_or (λ x. entry.DropQueue x.id ∷ []) o []) is))) condition tt effect fields bytes roomy
          (inl (ap (λ (x : Durable). x.addresses) effect, paged))

  -- ---- the command that sends a message
  module _ (address : List ℕ) (properties : List Property) (body : List ℕ) where
    abbrev pub sending : Action
    sending = Send address properties body

    abbrev pub sent : Message
    sent = message_of (next_id b) properties body

    pub send_nowhere : address_named b.durable.addresses address ≡ None → IsOutcome s (Some sending) (Unchanged s (answer.No refusal.Address))
    send_nowhere none = refused sending refusal.Address (inl (not_some _ none, refl))

    module _ (id : ℕ) (is : address_named b.durable.addresses address ≡ Some id) where
      there : (HasAddress b address → ⊥) → ⊥
      there none = none (is_there _ id is)

      pub send_heavy : IsHeavy b properties body → IsOutcome s (Some sending) (Unchanged s (answer.No refusal.Size))
      send_heavy heavy = refused sending refusal.Size (inr (there, inl (heavy, refl)))

      module _ (light : IsHeavy b properties body → ⊥) where
        module _ (numbers : List ℕ) (routed : IsRouted b id properties numbers) where
          taker : numbers ≢ [] → HasTaker b id properties
          taker some = (numbers, routed, some)

          -- no cause that speaks of queues holds where there are none
          none_routed : numbers ≡ [] → (n : ℕ) → address_named b.durable.addresses address ≡ Some n → HasTaker b n properties → ⊥
          none_routed none n found goes =
              let there = subst (λ (x : ℕ). IsRouted b x properties goes.0) (same_Some n id (sym found ∙ is)) goes.1 in
              goes.2 (goes_once properties (queues_of id b.durable.queues) goes.0 numbers there routed ∙ none)

          pub send_numberless : numbers ≢ [] → s.ids ≤ s.drawn → IsOutcome s (Some sending) (Unchanged s (answer.No refusal.Ids))
          send_numberless some spent = refused sending refusal.Ids (inr (there, inr (light, inl ((id, is, taker some, spent), refl))))

          -- what it does by where it goes
          does_by : (reply : Reply) (t : Broker) → Sends b numbers properties body reply t → Does b sending reply t
          does_by reply t sends = subst (λ (o : Option ℕ). MatchOption o ⊥ (λ n. (l : List ℕ) × IsRouted b n properties l × Sends b l properties body reply t)) (sym is) (numbers, routed, sends)

          has_by : (batch : List Entry) → batch ≡ entries_of_message id numbers sent → HasEntries s sending batch
          has_by batch same = record {
            takers = numbers;
            are = subst (λ (o : Option ℕ). MatchOption o (numbers ≡ []) (λ n. IsRouted b n properties numbers)) (sym is) routed;
            is = same ∙ sym (ap (λ (o : Option ℕ). option_map_or (λ n. entries_of_message n numbers sent) o []) is);
          }

          pub send_unrouted : numbers ≡ [] → IsOutcome s (Some sending) (Unchanged s answer.Unrouted)
          send_unrouted none =
              kept sending answer.Unrouted s (record { durable = refl; paged = refl })
              (inr (there, inr (light, inr ((λ wants. none_routed none wants.0 wants.1 wants.2), inr ((λ wants. none_routed none wants.0 wants.1 wants.2), refl)))))
              (does_by answer.Unrouted b (subst (λ (l : List ℕ). Sends b l properties body answer.Unrouted b) (sym none) (refl, refl)))
              (has_by [] (sym (ap (λ (l : List ℕ). entries_of_message id l sent) none))) (λ no. no)

          module _ (left : s.drawn < s.ids) where
            has_number_left : WantsNumber b address properties → ⊥
            has_number_left wants = let spent = wants.3 in omega (arith, left, spent)

            pub send_paged : numbers ≢ [] → WouldPage (view_of s) b id → IsOutcome s (Some sending) (Unchanged s (answer.No refusal.Line))
            send_paged some paged = refused sending refusal.Line (inr (there, inr (light, inr (has_number_left, inl ((id, is, taker some, paged), refl)))))

            sends_some : (t : Kept) (m : Message) (l : List ℕ) → l ≢ [] → m ≡ sent → broker_of t ≡ with_message b l m → Sends b l properties body (answer.Sent (next_id b)) (broker_of t)
            sends_some t m [] some made after = absurd (some refl)
            sends_some t m (n ∷ ns) some made after = (refl, after ∙ ap (with_message b (n ∷ ns)) made)

            entry_alone : (m : Message) (l : List ℕ) → l ≢ [] → m ≡ sent → entry.Add id l m ∷ [] ≡ entries_of_message id l sent
            entry_alone m [] some made = absurd (some refl)
            entry_alone m (n ∷ ns) some made = ap (λ (x : Message). entry.Add id (n ∷ ns) x ∷ []) made

            pub send_made : (m : Message) (t : Kept) (batch : List ℕ) → m ≡ sent → numbers ≢ [] → (WouldPage (view_of s) b id → ⊥) → rule_of d (entry.Add id numbers m) ≡ None → HasFields (entry.Add id numbers m)
                → t.durable ≡ changed d (entry.Add id numbers m) → t.drawn ≡ s.drawn + 1 → t.ids ≡ s.ids → t.consumers ≡ s.consumers → t.paged ≡ s.paged → batch ≡ batch_bytes (entry.Add id numbers m ∷ []) → AreRoomy t.durable
                → IsOutcome s (Some sending) (Changed t batch (answer.Sent (next_id b)))
            send_made m t batch made some room condition fields effect drawn ids same_consumers paged bytes roomy =
                recorded sending (answer.Sent (next_id b)) t batch (entry.Add id numbers m)
                (inr (there, inr (light, inr (has_number_left, inr ((λ wants. room (subst (WouldPage (view_of s) b) (sym (same_Some id wants.0 (sym is ∙ wants.1))) wants.3)), refl))))) (λ no. no)
                (does_by (answer.Sent (next_id b)) (broker_of t)
                (sends_some t m numbers some made (broker_after t (entry.Add id numbers m) (s.drawn + 1) s.consumers _ effect drawn ids same_consumers (with_message_part d id numbers m))))
                (has_by (entry.Add id numbers m ∷ []) (entry_alone m numbers some made))
                condition tt effect fields bytes roomy (inl (ap (λ (x : Durable). x.addresses) effect, paged))

  -- ---- the command that counts
  module _ (queue : List ℕ) where
    pub count_nowhere : queue_named b.durable.queues queue ≡ None → IsOutcome s (Some (Count queue)) (Unchanged s (answer.No refusal.Queue))
    count_nowhere none = refused (Count queue) refusal.Queue (inl (not_some _ none, refl))

    pub count_made : (n : ℕ) → option_map (λ (q : Queue). length q.messages) (queue_named b.durable.queues queue) ≡ Some n → IsOutcome s (Some (Count queue)) (Unchanged s (answer.Count n))
    count_made n is =
        let q = some_from (λ (q : Queue). length q.messages) (queue_named b.durable.queues queue) n is in
        kept (Count queue) (answer.Count n) s (record { durable = refl; paged = refl }) (inr ((λ none. none (is_there _ q.0 q.1)), refl))
        (subst (λ (o : Option Queue). MatchOption o ⊥ (λ x. (answer.Count n ≡ answer.Count (length x.messages)) × (b ≡ b))) (sym q.1) (ap (λ (k : ℕ). answer.Count k) (sym q.2), refl))
        (plain refl refl) (λ no. no)

  -- ---- the commands of consumers
  module _ (name : List ℕ) where
    abbrev pub owner : Option Consumer
    owner = consumer_named s.consumers name

    -- the same with other consumers
    abbrev pub over : List Consumer → Kept
    over consumers = with_consumers consumers s

    pub open_taken : (queue : List ℕ) → is_some owner ≡ true → IsOutcome s (Some (Open name queue)) (Unchanged s (answer.No refusal.Name))
    open_taken queue taken = refused (Open name queue) refusal.Name (inl (taken, refl))

    pub open_nowhere : (queue : List ℕ) → owner ≡ None → queue_named b.durable.queues queue ≡ None → IsOutcome s (Some (Open name queue)) (Unchanged s (answer.No refusal.Queue))
    open_nowhere queue new none = refused (Open name queue) refusal.Queue (inr (not_some _ new, inl (not_some _ none, refl)))

    pub open_made : (queue : List ℕ) (q : Queue) → owner ≡ None → queue_named b.durable.queues queue ≡ Some q
        → IsOutcome s (Some (Open name queue)) (Unchanged (over (s.consumers ++ record { name = name; queue = q.id; in_flight = [] } ∷ [])) answer.Done)
    open_made queue q new is =
        let consumers = s.consumers ++ record { name = name; queue = q.id; in_flight = [] } ∷ [] in
        kept (Open name queue) answer.Done (over consumers) (record { durable = refl; paged = refl }) (inr (not_some _ new, inr ((λ none. none (is_there _ q is)), refl)))
        (subst (λ (o : Option Queue). MatchOption o ⊥ (λ x. IsDone answer.Done (broker_of (over consumers)) (with_consumers_of b (s.consumers ++ record { name = name; queue = x.id; in_flight = [] } ∷ [])))) (sym is) (refl, refl))
        (plain refl refl) (λ no. no)

    pub receive_nowhere : owner ≡ None → IsOutcome s (Some (Receive name)) (Unchanged s (answer.No refusal.Consumer))
    receive_nowhere none = refused (Receive name) refusal.Consumer (inl (not_some _ none, refl))

    pub ack_nowhere : (id : MessageId) → owner ≡ None → IsOutcome s (Some (Acknowledge name id)) (Unchanged s (answer.No refusal.Consumer))
    ack_nowhere id none = refused (Acknowledge name id) refusal.Consumer (inl (not_some _ none, refl))

    pub cancel_nowhere : (id : MessageId) → owner ≡ None → IsOutcome s (Some (Cancel name id)) (Unchanged s (answer.No refusal.Consumer))
    cancel_nowhere id none = refused (Cancel name id) refusal.Consumer (inl (not_some _ none, refl))

    pub close_nowhere : owner ≡ None → IsOutcome s (Some (Close name)) (Unchanged s (answer.No refusal.Consumer))
    close_nowhere none = refused (Close name) refusal.Consumer (inl (not_some _ none, refl))

    module _ (c : Consumer) (is : owner ≡ Some c) where
      there_is : (HasConsumer b name → ⊥) → ⊥
      there_is none = none (is_there _ c is)

      -- what is given
      gives : (o : Option Message) (q : Queue) → queue_with b.durable.queues c.queue ≡ Some q → (reply : Reply) (t : Broker) → Gives b name o reply t → o ≡ available b q → Does b (Receive name) reply t
      gives o q found reply t given first =
          subst (λ (x : Option Consumer). MatchOption x ⊥ (λ y. MatchOption (queue_with b.durable.queues y.queue) ⊥ (λ q. Gives b name (available b q) reply t))) (sym is)
          (subst (λ (x : Option Queue). MatchOption x ⊥ (λ q. Gives b name (available b q) reply t)) (sym found)
          (subst (λ (x : Option Message). Gives b name x reply t) first given))

      next_is : (q : Queue) → queue_with b.durable.queues c.queue ≡ Some q → next_for name s ≡ available b q
      next_is q found =
          ap (λ (o : Option Consumer). option_and_then (λ (x : Consumer). option_and_then (available b) (queue_with b.durable.queues x.queue)) o) is
          ∙ ap (λ (o : Option Queue). option_and_then (available b) o) found

      pub receive_none : (q : Queue) → queue_with b.durable.queues c.queue ≡ Some q → None ≡ next_for name s → IsOutcome s (Some (Receive name)) (Unchanged s answer.Empty)
      receive_none q found none =
          kept (Receive name) answer.Empty s (record { durable = refl; paged = refl }) (inr (there_is, refl)) (gives None q found answer.Empty b (refl, refl) (none ∙ next_is q found)) (plain refl refl) (λ no. no)

      pub receive_some : (q : Queue) (m : Message) → queue_with b.durable.queues c.queue ≡ Some q → Some m ≡ next_for name s → IsOutcome s (Some (Receive name)) (Unchanged (after_giving name (Some m) s) (answer.Given m))
      receive_some q m found some =
          kept (Receive name) (answer.Given m) (after_giving name (Some m) s) (record { durable = refl; paged = refl }) (inr (there_is, refl))
          (gives (Some m) q found (answer.Given m) (broker_of (after_giving name (Some m) s)) (refl, refl) (some ∙ next_is q found)) (plain refl refl) (λ no. no)

      -- what isn't in flight for it
      no_flight : (id : MessageId) → flight_from name id s.consumers ≡ None → HasFlight b name id → ⊥
      no_flight id none flight = by (has_id id flight.0.in_flight) (has_of id flight.0.in_flight flight.2)
          (sym none ∙ ap (λ (o : Option Consumer). option_and_then (λ (x : Consumer). cond (has_id id x.in_flight) (Some x.queue) None) o) flight.1)
        where
          by : (k : Bool) → k ≡ true → None ≡ cond k (Some flight.0.queue) None → ⊥
          by true is e = none-some flight.0.queue e
          by false is e = cc

      pub ack_undelivered : (id : MessageId) → flight_from name id s.consumers ≡ None → IsOutcome s (Some (Acknowledge name id)) (Unchanged s (answer.No refusal.Delivery))
      ack_undelivered id none = refused (Acknowledge name id) refusal.Delivery (inr (there_is, inl (no_flight id none, refl)))

      pub cancel_undelivered : (id : MessageId) → flight_from name id s.consumers ≡ None → IsOutcome s (Some (Cancel name id)) (Unchanged s (answer.No refusal.Delivery))
      cancel_undelivered id none = refused (Cancel name id) refusal.Delivery (inr (there_is, inl (no_flight id none, refl)))

      pub close_made : IsOutcome s (Some (Close name)) (Unchanged (over (without_consumer name s.consumers)) answer.Done)
      close_made =
          kept (Close name) answer.Done (over (without_consumer name s.consumers)) (record { durable = refl; paged = refl }) (inr (there_is, refl)) (refl, refl) (plain refl refl) (λ no. no)

    -- what is in flight for it
    abbrev Flown : MessageId → ℕ → Type 0
    Flown id queue = (c : Consumer) × (owner ≡ Some c) × (c.queue ≡ queue) × Contains c.in_flight id

    flown : (id : MessageId) (queue : ℕ) → flight_from name id s.consumers ≡ Some queue → Flown id queue
    flown id queue from = by owner refl from
      where
        inside : (c : Consumer) (k : Bool) → has_id id c.in_flight ≡ k → cond k (Some c.queue) None ≡ Some queue → (c.queue ≡ queue) × Contains c.in_flight id
        inside c true has same = (same_Some c.queue queue same, Contains-from_any (λ a b same. sym (one_id b a same)) id c.in_flight has)
        inside c false has same = absurd (none-some queue same)

        by : (o : Option Consumer) → owner ≡ o → option_and_then (λ (x : Consumer). cond (has_id id x.in_flight) (Some x.queue) None) o ≡ Some queue → Flown id queue
        by None none is = absurd (none-some queue is)
        by (Some c) is from = let found = inside c (has_id id c.in_flight) refl from in (c, is, found.0, found.1)

    has_flight : (id : MessageId) (queue : ℕ) → flight_from name id s.consumers ≡ Some queue → HasFlight b name id
    has_flight id queue from = let f = flown id queue from in (f.0, f.1, f.3)

    pub cancel_made : (id : MessageId) (queue : ℕ) → flight_from name id s.consumers ≡ Some queue → IsOutcome s (Some (Cancel name id)) (Unchanged (over (with_flights name (without_id id) s.consumers)) answer.Done)
    cancel_made id queue from =
        let f = flown id queue from in
        kept (Cancel name id) answer.Done (over (with_flights name (without_id id) s.consumers)) (record { durable = refl; paged = refl })
        (inr ((λ none. none (is_there _ f.0 f.1)), inr ((λ none. none (has_flight id queue from)), refl))) (refl, refl) (plain refl refl) (λ no. no)

    pub ack_made : (id : MessageId) (queue : ℕ) (t : Kept) (batch : List ℕ) → flight_from name id s.consumers ≡ Some queue → Apart d.journaled → rule_of d (entry.Ack queue id) ≡ None → HasFields (entry.Ack queue id) → t.durable ≡ changed d (entry.Ack queue id)
        → t.drawn ≡ s.drawn → t.ids ≡ s.ids → t.consumers ≡ with_flights name (without_id id) s.consumers → t.paged ≡ s.paged → batch ≡ batch_bytes (entry.Ack queue id ∷ []) → AreRoomy t.durable → IsOutcome s (Some (Acknowledge name id)) (Changed t batch answer.Done)
    ack_made id queue t batch from differ condition fields effect drawn ids same paged bytes roomy =
        let f = flown id queue from in
        recorded (Acknowledge name id) answer.Done t batch (entry.Ack queue id) (inr ((λ none. none (is_there _ f.0 f.1)), inr ((λ none. none (has_flight id queue from)), refl))) (λ no. no)
        (subst (λ (o : Option Consumer). MatchOption o ⊥ (λ c. IsDone answer.Done (broker_of t) (with_durable (with_consumers_of b (with_flights name (without_id id) s.consumers)) (with_queues b.durable (acknowledged c.queue id b.durable.queues))))) (sym f.1)
        (subst (λ (n : ℕ). IsDone answer.Done (broker_of t) (with_durable (with_consumers_of b (with_flights name (without_id id) s.consumers)) (with_queues b.durable (acknowledged n id b.durable.queues)))) (sym f.2)
        (refl, broker_after t (entry.Ack queue id) s.drawn (with_flights name (without_id id) s.consumers) _ effect drawn ids same (acknowledged_part queue id d differ))))
        (plain refl (sym (ap (λ (o : Option Consumer). option_map_or (λ c. entry.Ack c.queue id ∷ []) o []) f.1 ∙ ap (λ (n : ℕ). entry.Ack n id ∷ []) f.2))) condition tt effect fields bytes roomy
        (inl (ap (λ (x : Durable). x.addresses) effect, paged))

-- what holds by any name of an address holds by the one that it was found by
pub made_at : (s : Kept) (name : List ℕ) (filter : Option (List ℕ)) (id : ℕ) (result : Result Outcome Fault)
    → IfOk result (λ outcome. (at : List ℕ) → address_named (broker_of s).durable.addresses at ≡ Some id → IsOutcome s (Some (MakeQueue name at filter)) outcome)
    → (address : List ℕ) → address_named (broker_of s).durable.addresses address ≡ Some id → IfOk result (λ outcome. IsOutcome s (Some (MakeQueue name address filter)) outcome)
made_at s name filter id (Ok outcome) made address is = made address is
made_at s name filter id (Err fault) made address is = tt

pub unmade_at : (s : Kept) (name : List ℕ) (filter : Option (List ℕ)) (id : ℕ) (result : Result Outcome Fault)
    → IfErr result (λ fault. (at : List ℕ) → address_named (broker_of s).durable.addresses at ≡ Some id → IsNoOutcome s (Some (MakeQueue name at filter)) fault)
    → (address : List ℕ) → address_named (broker_of s).durable.addresses address ≡ Some id → IfErr result (λ fault. IsNoOutcome s (Some (MakeQueue name address filter)) fault)
unmade_at s name filter id (Ok outcome) made address is = tt
unmade_at s name filter id (Err fault) made address is = made address is

pub sent_at : (s : Kept) (m : Message) (id : ℕ) (result : Result Outcome Fault)
    → IfOk result (λ outcome. (name : List ℕ) (properties : List Property) (body : List ℕ) → address_named (broker_of s).durable.addresses name ≡ Some id → m ≡ message_of (next_id (broker_of s)) properties body
    → (WouldPage (view_of s) (broker_of s) id → ⊥) → IsOutcome s (Some (Send name properties body)) outcome)
    → (address : List ℕ) (properties : List Property) (body : List ℕ) → address_named (broker_of s).durable.addresses address ≡ Some id → m ≡ message_of (next_id (broker_of s)) properties body → (WouldPage (view_of s) (broker_of s) id → ⊥)
    → IfOk result (λ outcome. IsOutcome s (Some (Send address properties body)) outcome)
sent_at s m id (Ok outcome) made address properties body is same not = made address properties body is same not
sent_at s m id (Err fault) made address properties body is same not = tt

-- a list without elements, and one with some
pub none_in : (numbers : List ℕ) → eqb (length numbers) 0 ≡ true → numbers ≡ []
none_in [] is = refl
none_in (n ∷ numbers) is = absurd (omega (arith, eqb-true (length (n ∷ numbers)) 0 is))

pub some_in : (numbers : List ℕ) → eqb (length numbers) 0 ≡ false → numbers ≢ []
some_in numbers is none = eqb-false (length numbers) 0 is (ap length none)
