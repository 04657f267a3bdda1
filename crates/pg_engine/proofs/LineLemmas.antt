-- The lines of messages that are kept beside a folded state.
use Rattle.std.proofs.Common.{◌≡◌, Bor, refl, sym, ◌∙◌, ap, ap₂, subst, ℕ, ◌+◌, ◌-◌, ◌^◌, ◌<◌, ◌≤◌, min, take, Bool, true, false, not, cond, ◌&&◌, ◌||◌, eqb, eq-eqb, ne_eqb, List, [], ◌∷◌, ◌++◌, length, map, filter, find, position, get_or, slice_get, Option, Some, None, option_map, is_some, inl, inr, All, AllPairs, arith}
use Rattle.std.specs.List.{AllByRecursion, list_any, position_or_len}
use Rattle.std.specs.Option.{option_and_then, IsSome}
use Rattle.std.specs.Prelude.{IfSome}
use Rattle.std.proofs.lemmas.Bool.{cases_Bool, cases_lt, cond-true, cond-false, lt-ltb, le-ltb, eqb-true, and_parts, and_from, or_from, or_left, or_right, or_cases}
use Rattle.std.specs.Str.{bytes_eq}
use Rattle.std.proofs.lemmas.List.{get_or-take, get_or_default, length-map, length-take-le, map-append, take_more}
use Rattle.std.proofs.lemmas.List.Elements.{All-map, recursion_from_All}
use Rattle.std.proofs.lemmas.List.Folds.{find_at}
use Rattle.std.proofs.lemmas.Option.{none-some, same_Some, slice_get-get_or}
use Rattle.pg_msg.specs.declared.message.Message.{Message}
use Rattle.pg_msg.specs.declared.message.MessageId.{MessageId}
use Rattle.pg_records.specs.declared.entry.Entry.TheVariants as entry
use Rattle.pg_fold.proofs.JournaledLemmas.{found_has}
use Rattle.pg_fold.specs.declared.durable.Durable.{Durable}
use Rattle.pg_fold.specs.declared.rows.JournaledRow.{JournaledRow}
use Rattle.pg_fold.specs.declared.rows.QueueRow.{QueueRow}
use Rattle.pg_fold.specs.Fold.{changed}
use Rattle.pg_fold.specs.Rows.{AreAscending, has_holder, has_message, has_number, same_id, without_number}
use Rattle.pg_fold.specs.Sound.{IsSound}
use Rattle.pg_model.specs.Broker.{Consumer, Queue, consumer_named, queue_named, queue_with}
use Rattle.pg_model.specs.Broker.{Durable as BrokerDurable}
use Rattle.pg_model.specs.Changes.{acknowledged, given, given_to, relieved, without_id, without_message, without_queue}
use Rattle.pg_model.specs.Steps.{available, is_in_flight}
use Rattle.pg_recover.specs.Denotation.{durable_part, held_by, queue_of}
use Rattle.pg_dispatch.specs.Dispatch.{Dispatch, Line, first_available, has_id, has_in_line, has_in_lines, has_line, line_of, with_line, with_message, without_line}
use Rattle.pg_dispatch.specs.Dispatch.{acknowledged as acknowledged_by}
use Rattle.pg_engine.specs.Kept.{Kept, broker_of, line_from, lines_in, next_for}
use Rattle.pg_engine.proofs.AcknowledgingLemmas.{Apart, acknowledged_part, same_from}
use Rattle.pg_engine.proofs.DroppingLemmas.{dropped_part}
use Rattle.pg_engine.proofs.LookupLemmas.{find_map, found_any, queue_row, row_of}
use Rattle.pg_engine.proofs.NamingLemmas.{lower_queues}
use Rattle.pg_engine.proofs.PartLemmas.{Ascend, ascend, queues_given, with_message_part, with_queue_part}

-- ---- what the calls make of lines is what steps make of queues
module _ (consumers : List Consumer) where
  -- the lines of these queues, with the consumers
  abbrev over : List Queue → Dispatch
  over queues = record { lines = map line_from queues; consumers = consumers }

  given_one : (numbers : List ℕ) (m : Message) (q : Queue) → line_from (given_to numbers m q) ≡ cond (has_number numbers q.id) (record { queue = q.id; ids = map (λ (x : Message). x.id) q.messages ++ m.id ∷ [] }) (line_from q)
  given_one numbers m q = by (has_number numbers q.id)
    where
      by : (b : Bool) → line_from (cond b (record q { messages = q.messages ++ m ∷ [] }) q) ≡ cond b (record { queue = q.id; ids = map (λ (x : Message). x.id) q.messages ++ m.id ∷ [] }) (line_from q)
      by true = ap (λ (ids : List MessageId). record { queue = q.id; ids = ids }) (map-append (λ (x : Message). x.id) q.messages (m ∷ []))
      by false = refl

  lines_given : (numbers : List ℕ) (m : Message) (queues : List Queue) → map line_from (given numbers m queues) ≡ (with_message numbers m.id (over queues)).lines
  lines_given numbers m [] = refl
  lines_given numbers m (q ∷ queues) = ap₂ (λ (l : Line) (ls : List Line). l ∷ ls) (given_one numbers m q) (lines_given numbers m queues)

  lines_without : (id : ℕ) (queues : List Queue) → map line_from (without_queue id queues) ≡ (without_line id (over queues)).lines
  lines_without id [] = refl
  lines_without id (q ∷ queues) = by (eqb q.id id) (lines_without id queues)
    where
      by : (b : Bool) → map line_from (without_queue id queues) ≡ (without_line id (over queues)).lines
          → map line_from (cond (not b) (q ∷ without_queue id queues) (without_queue id queues)) ≡ cond (not b) (line_from q ∷ (without_line id (over queues)).lines) ((without_line id (over queues)).lines)
      by true others = others
      by false others = ap (λ (ls : List Line). line_from q ∷ ls) others

  ids_without : (id : MessageId) (messages : List Message) → map (λ (x : Message). x.id) (without_message id messages) ≡ without_id id (map (λ (x : Message). x.id) messages)
  ids_without id [] = refl
  ids_without id (m ∷ messages) = by (same_id m.id id) (ids_without id messages)
    where
      by : (b : Bool) → map (λ (x : Message). x.id) (without_message id messages) ≡ without_id id (map (λ (x : Message). x.id) messages)
          → map (λ (x : Message). x.id) (cond (not b) (m ∷ without_message id messages) (without_message id messages)) ≡ cond (not b) (m.id ∷ without_id id (map (λ (x : Message). x.id) messages)) (without_id id (map (λ (x : Message). x.id) messages))
      by true others = others
      by false others = ap (λ (ids : List MessageId). m.id ∷ ids) others

  relieved_one : (queue : ℕ) (id : MessageId) (q : Queue) → line_from (relieved queue id q) ≡ cond (eqb q.id queue) (record { queue = q.id; ids = without_id id (map (λ (x : Message). x.id) q.messages) }) (line_from q)
  relieved_one queue id q = by (eqb q.id queue)
    where
      by : (b : Bool) → line_from (cond b (record q { messages = without_message id q.messages }) q) ≡ cond b (record { queue = q.id; ids = without_id id (map (λ (x : Message). x.id) q.messages) }) (line_from q)
      by true = ap (λ (ids : List MessageId). record { queue = q.id; ids = ids }) (ids_without id q.messages)
      by false = refl

  lines_relieved : (name : List ℕ) (queue : ℕ) (id : MessageId) (queues : List Queue) → map line_from (acknowledged queue id queues) ≡ (acknowledged_by name queue id (over queues)).lines
  lines_relieved name queue id [] = refl
  lines_relieved name queue id (q ∷ queues) = ap₂ (λ (l : Line) (ls : List Line). l ∷ ls) (relieved_one queue id q) (lines_relieved name queue id queues)

-- ---- so the lines stay those of the folded state
module _ (d : Durable) (old : Dispatch) (lined : old.lines ≡ lines_in d) where
  abbrev consumers : List Consumer
  consumers = old.consumers

  abbrev queues : List Queue
  queues = (durable_part d).queues

  pub still_over : old ≡ record { lines = map line_from queues; consumers = old.consumers }
  still_over = λ i. record { lines = lined i; consumers = old.consumers }

  -- after a queue more
  pub lined_queue : (address : ℕ) (name filter : List ℕ) → IsSound d → (with_line d.next old).lines ≡ lines_in (changed d (entry.Queue d.next address name filter))
  lined_queue address name filter sound =
      ap (λ (ls : List Line). ls ++ (record { queue = d.next; ids = [] } ∷ [])) lined
      ∙ sym (map-append line_from queues (record { id = d.next; name = name; address = address; filter = filter; messages = [] } ∷ []))
      ∙ sym (ap (λ (b : BrokerDurable). map line_from b.queues) (with_queue_part d address name filter sound))

  -- after a queue less
  pub lined_drop : (queue : ℕ) → (without_line queue old).lines ≡ lines_in (changed d (entry.DropQueue queue))
  lined_drop queue =
      ap (λ (x : Dispatch). (without_line queue x).lines) still_over
      ∙ sym (lines_without consumers queue queues)
      ∙ sym (ap (λ (b : BrokerDurable). map line_from b.queues) (dropped_part queue d))

  -- after a message more
  pub lined_message : (address : ℕ) (numbers : List ℕ) (m : Message) → (with_message numbers m.id old).lines ≡ lines_in (changed d (entry.Add address numbers m))
  lined_message address numbers m =
      ap (λ (x : Dispatch). (with_message numbers m.id x).lines) still_over
      ∙ sym (lines_given consumers numbers m queues)
      ∙ sym (ap (λ (b : BrokerDurable). map line_from b.queues) (with_message_part d address numbers m))

  -- and after an acknowledgement
  pub lined_ack : (name : List ℕ) (queue : ℕ) (id : MessageId) → Apart d.journaled → (acknowledged_by name queue id old).lines ≡ lines_in (changed d (entry.Ack queue id))
  lined_ack name queue id apart =
      ap (λ (x : Dispatch). (acknowledged_by name queue id x).lines) still_over
      ∙ sym (lines_relieved consumers name queue id queues)
      ∙ sym (ap (λ (b : BrokerDurable). map line_from b.queues) (acknowledged_part queue id d apart))

-- ---- what is found in a line is found in its queue
-- the line of a queue
pub line_found : (queue : ℕ) (queues : List Queue) → line_of queue (map line_from queues) ≡ option_map line_from (queue_with queues queue)
line_found queue queues = find_map (λ (line : Line). eqb line.queue queue) line_from queues

pub has_line_any : (queue : ℕ) (queues : List Queue) → has_line queue (map line_from queues) ≡ is_some (queue_with queues queue)
has_line_any queue [] = refl
has_line_any queue (q ∷ queues) = by (eqb q.id queue) (has_line_any queue queues)
  where
    by : (b : Bool) → has_line queue (map line_from queues) ≡ is_some (queue_with queues queue) → (b || has_line queue (map line_from queues)) ≡ is_some (cond b (Some q) (queue_with queues queue))
    by true others = refl
    by false others = others

-- a message in the line is held by the queue
holder_of_id : (q : ℕ) (id : MessageId) (rows : List JournaledRow) → has_id id (map (λ (m : Message). m.id) (held_by q rows)) ≡ true → has_holder rows id q ≡ true
holder_of_id q id [] none = none
holder_of_id q id (row ∷ rows) is = by (has_number row.holders q) refl (holder_of_id q id rows) is
  where
    by : (b : Bool) → has_number row.holders q ≡ b → (has_id id (map (λ (m : Message). m.id) (held_by q rows)) ≡ true → has_holder rows id q ≡ true)
        → has_id id (map (λ (m : Message). m.id) (map (λ (r : JournaledRow). r.message) (cond b (row ∷ filter (λ (r : JournaledRow). has_number r.holders q) rows) (filter (λ (r : JournaledRow). has_number r.holders q) rows)))) ≡ true
        → has_holder (row ∷ rows) id q ≡ true
    by false none others among = or_right _ _ (others among)
    by true held others among = elim (or_cases _ _ among) [
      | inl here ↦ or_left (same_id row.message.id id && has_number row.holders q) (has_holder rows id q) (and_from _ _ here held)
      | inr later ↦ or_right (same_id row.message.id id && has_number row.holders q) (has_holder rows id q) (others later)
    ]

pub holder_in_line : (queue : ℕ) (id : MessageId) (rows : List JournaledRow) (queues : List QueueRow) → has_in_line queue id (map line_from (map (queue_of rows) queues)) ≡ true → has_holder rows id queue ≡ true
holder_in_line queue id rows [] none = absurd (no none)
  where
    no : false ≡ true → ⊥
    no e = cc
holder_in_line queue id rows (row ∷ queues) is = elim (or_cases _ _ is) [
  | inl here ↦
      let parts = and_parts _ _ here in
      holder_of_id queue id rows (ap (λ (n : ℕ). has_id id (map (λ (m : Message). m.id) (held_by n rows))) (sym (eqb-true row.id queue parts.0)) ∙ parts.1)
  | inr later ↦ holder_in_line queue id rows queues later
]

-- ---- the first message that isn't in flight
first_in : (consumers : List Consumer) (q : Queue) → find (λ (id : MessageId). not (is_in_flight consumers q.id id)) (map (λ (m : Message). m.id) q.messages) ≡ option_map (λ (m : Message). m.id) (find (λ (m : Message). not (is_in_flight consumers q.id m.id)) q.messages)
first_in consumers q = find_map (λ (id : MessageId). not (is_in_flight consumers q.id id)) (λ (m : Message). m.id) q.messages

first_of : (s : Kept) (o : Option Queue) → option_and_then (λ (line : Line). find (λ (id : MessageId). not (is_in_flight s.consumers line.queue id)) line.ids) (option_map line_from o) ≡ option_map (λ (m : Message). m.id) (option_and_then (available (broker_of s)) o)
first_of s None = refl
first_of s (Some q) = first_in s.consumers q

pub first_is : (s : Kept) (name : List ℕ) (c : Consumer) → consumer_named s.consumers name ≡ Some c → first_available c.queue (record { lines = lines_in s.durable; consumers = s.consumers }) ≡ option_map (λ (m : Message). m.id) (next_for name s)
first_is s name c is =
    ap (option_and_then (λ (line : Line). find (λ (id : MessageId). not (is_in_flight s.consumers line.queue id)) line.ids)) (line_found c.queue (broker_of s).durable.queues)
    ∙ first_of s (queue_with (broker_of s).durable.queues c.queue)
    ∙ sym (ap (λ (o : Option Consumer). option_map (λ (m : Message). m.id) (option_and_then (λ (x : Consumer). option_and_then (available (broker_of s)) (queue_with (broker_of s).durable.queues x.queue)) o)) is)

-- ---- the row of a message that a queue holds
-- among ids that differ, the message is the one of the first row with its id
abbrev pub HasRow : List JournaledRow → Message → Type 0
HasRow rows m = (row : JournaledRow) × (find (λ (r : JournaledRow). same_id r.message.id m.id) rows ≡ Some row) × (row.message ≡ m)

later_row : (row : JournaledRow) (rows : List JournaledRow) (m : Message) → AllByRecursion (λ other. same_id row.message.id other.message.id ≡ false) rows → HasRow rows m → HasRow (row ∷ rows) m
later_row row rows m apart r =
    let differ : same_id row.message.id m.id ≡ false =
    ap (λ (x : Message). same_id row.message.id x.id) (sym r.2) ∙ row_of (λ (other : JournaledRow). same_id row.message.id other.message.id ≡ false) (λ (x : JournaledRow). same_id x.message.id m.id) rows r.0 apart r.1 in
    (r.0, ap (λ (b : Bool). cond b (Some row) (find (λ (x : JournaledRow). same_id x.message.id m.id) rows)) differ ∙ r.1, r.2)

first_row : (row : JournaledRow) (rows : List JournaledRow) (m : Message) → row.message ≡ m → HasRow (row ∷ rows) m
first_row row rows m is = (row, ap (λ (b : Bool). cond b (Some row) (find (λ (x : JournaledRow). same_id x.message.id m.id) rows)) (same_from row.message.id m.id (ap (λ (x : Message). x.id) is)), is)

pub held_row : (test : Message → Bool) (q : ℕ) (rows : List JournaledRow) (m : Message) → Apart rows → find test (held_by q rows) ≡ Some m → HasRow rows m
held_row test q [] m apart none = absurd (none-some m none)
held_row test q (row ∷ rows) m apart found = by (has_number row.holders q) (held_row test q rows m apart.1) found
  where
    by : (b : Bool) → (find test (held_by q rows) ≡ Some m → HasRow rows m)
        → find test (map (λ (r : JournaledRow). r.message) (cond b (row ∷ filter (λ (r : JournaledRow). has_number r.holders q) rows) (filter (λ (r : JournaledRow). has_number r.holders q) rows))) ≡ Some m → HasRow (row ∷ rows) m
    by false others is = later_row row rows m apart.0 (others is)
    by true others is = elim (cases_Bool (test row.message)) [
      | inl here ↦ first_row row rows m (same_Some row.message m (sym (ap (λ (b : Bool). cond b (Some row.message) (find test (held_by q rows))) here) ∙ is))
      | inr elsewhere ↦ later_row row rows m apart.0 (others (sym (ap (λ (b : Bool). cond b (Some row.message) (find test (held_by q rows))) elsewhere) ∙ is))
    ]

-- ---- rows by their ids
-- a message that is there is found
pub row_there : (rows : List JournaledRow) (id : MessageId) (found : Option (Bor JournaledRow)) → option_map (λ (row : Bor JournaledRow). row.now) found ≡ find (λ (row : JournaledRow). same_id row.message.id id) rows
    → has_message rows id ≡ true → IsSome found
row_there rows id None is there = absurd (no (ap is_some is ∙ found_has id rows ∙ there))
  where
    no : false ≡ true → ⊥
    no e = cc
row_there rows id (Some row) is there = refl

any_weaker : {X : Type 0} (p q : X → Bool) → ((x : X) → p x ≡ true → q x ≡ true) → (xs : List X) → list_any p xs ≡ true → list_any q xs ≡ true
any_weaker p q weaker [] none = none
any_weaker p q weaker (x ∷ xs) is = elim (or_cases _ _ is) [
  | inl here ↦ or_left _ _ (weaker x here)
  | inr later ↦ or_right _ _ (any_weaker p q weaker xs later)
]

-- where a queue holds the message there is a row of it
pub has_row : (rows : List JournaledRow) (id : MessageId) (queue : ℕ) → has_holder rows id queue ≡ true → has_message rows id ≡ true
has_row rows id queue is = any_weaker (λ (row : JournaledRow). same_id row.message.id id && has_number row.holders queue) (λ (row : JournaledRow). same_id row.message.id id) (λ row both. (and_parts _ _ both).0) rows is

-- a row is held beside a queue where a holder is another one
pub held_beside : (queue : ℕ) (numbers : List ℕ) → list_any (λ (n : ℕ). not (eqb n queue)) numbers ≡ not (eqb (length (without_number queue numbers)) 0)
held_beside queue [] = refl
held_beside queue (n ∷ numbers) = by (eqb n queue) (held_beside queue numbers)
  where
    by : (b : Bool) → list_any (λ (k : ℕ). not (eqb k queue)) numbers ≡ not (eqb (length (without_number queue numbers)) 0)
        → (not b || list_any (λ (k : ℕ). not (eqb k queue)) numbers) ≡ not (eqb (length (cond (not b) (n ∷ without_number queue numbers) (without_number queue numbers))) 0)
    by true others = others
    by false others = sym (ap not (ne_eqb (length (n ∷ without_number queue numbers)) 0 (λ none. omega (arith, none))))

-- ---- the lines of an opening
-- those of queues that hold nothing yet
pub empty_line : (queues : List QueueRow) (i : ℕ) (row : QueueRow) (old : Dispatch) → i < length queues → row ≡ get_or queues i row → old ≡ record { lines = map line_from (map (queue_of []) (take i queues)); consumers = [] }
    → with_line row.id old ≡ record { lines = map line_from (map (queue_of []) (take (i + 1) queues)); consumers = [] }
empty_line queues i row old within at is =
    ap (with_line row.id) is
    ∙ ap (λ (ls : List Line). record { lines = ls; consumers = [] })
    (sym (map-append line_from (map (queue_of []) (take i queues)) (queue_of [] row ∷ []))
    ∙ ap (map line_from) (sym (map-append (queue_of []) (take i queues) (row ∷ [])))
    ∙ ap (λ (l : List QueueRow). map line_from (map (queue_of []) l)) (ap (λ (r : QueueRow). take i queues ++ (r ∷ [])) at ∙ sym (take_more queues i row within)))

-- their ids are below the next one
pub lines_below : (queues : List QueueRow) (i : ℕ) (row : QueueRow) (old : Dispatch) → i < length queues → row ≡ get_or queues i row → AreAscending queues → old ≡ record { lines = map line_from (map (queue_of []) (take i queues)); consumers = [] }
    → All (λ line. line.queue < row.id) old.lines
lines_below queues i row old within at ascending is =
    subst (λ (x : Dispatch). All (λ line. line.queue < row.id) x.lines) (sym is)
    (All-map (λ (line : Line). line.queue < row.id) line_from (map (queue_of []) (take i queues))
    (All-map (λ (q : Queue). q.id < row.id) (queue_of []) (take i queues) (lower_queues queues i row within at ascending)))

-- a message that is held nowhere is in no line
not_held : (q : ℕ) (id : MessageId) (rows : List JournaledRow) → AllByRecursion (λ row. same_id row.message.id id ≡ false) rows → has_id id (map (λ (m : Message). m.id) (held_by q rows)) ≡ false
not_held q id [] none = refl
not_held q id (row ∷ rows) none = by (has_number row.holders q) (not_held q id rows none.1)
  where
    by : (b : Bool) → has_id id (map (λ (m : Message). m.id) (held_by q rows)) ≡ false
        → has_id id (map (λ (m : Message). m.id) (map (λ (r : JournaledRow). r.message) (cond b (row ∷ filter (λ (r : JournaledRow). has_number r.holders q) rows) (filter (λ (r : JournaledRow). has_number r.holders q) rows)))) ≡ false
    by true others = or_from _ _ none.0 others
    by false others = others

pub in_no_line : (id : MessageId) (rows : List JournaledRow) (queues : List QueueRow) → AllByRecursion (λ row. same_id row.message.id id ≡ false) rows → has_in_lines id (map line_from (map (queue_of rows) queues)) ≡ false
in_no_line id rows [] none = refl
in_no_line id rows (q ∷ queues) none = or_from _ _ (not_held q.id id rows none) (in_no_line id rows queues none)

pub new_in_lines : (rows : List JournaledRow) (queues : List QueueRow) (i : ℕ) (row : JournaledRow) (old : Dispatch) → i < length rows → row ≡ get_or rows i row → AllPairs (λ r other. same_id r.message.id other.message.id ≡ false) rows
    → old ≡ record { lines = map line_from (map (queue_of (take i rows)) queues); consumers = [] } → has_in_lines row.message.id old.lines ≡ false
new_in_lines rows queues i row old within at apart is =
    ap (λ (x : Dispatch). has_in_lines row.message.id x.lines) is
    ∙ in_no_line row.message.id (take i rows) queues (recursion_from_All (λ (r : JournaledRow). same_id r.message.id row.message.id ≡ false) (take i rows) (λ k d less.
    let short = length-take-le i rows (omega (arith, within)) in
    let before : k < i = omega (arith, less, short) in
    subst (λ (x : JournaledRow). same_id x.message.id row.message.id ≡ false) (sym (get_or-take i rows k d before))
    (subst (λ (x : JournaledRow). same_id (get_or rows k d).message.id x.message.id ≡ false) (get_or_default rows i d row within ∙ sym at) (apart k i d before within))))

pub held_line : (rows : List JournaledRow) (queues : List QueueRow) (i : ℕ) (row : JournaledRow) (old : Dispatch) → i < length rows → row ≡ get_or rows i row
    → old ≡ record { lines = map line_from (map (queue_of (take i rows)) queues); consumers = [] } → with_message row.holders row.message.id old ≡ record { lines = map line_from (map (queue_of (take (i + 1) rows)) queues); consumers = [] }
held_line rows queues i row old within at is =
    ap (with_message row.holders row.message.id) is
    ∙ ap (λ (ls : List Line). record { lines = ls; consumers = [] })
    (sym (lines_given [] row.holders row.message (map (queue_of (take i rows)) queues))
    ∙ ap (map line_from) (sym (queues_given (take i rows) row.address row.holders row.message queues))
    ∙ ap (λ (l : List JournaledRow). map line_from (map (queue_of l) queues)) (ap (λ (r : JournaledRow). take i rows ++ (r ∷ [])) at ∙ sym (take_more rows i row within)))

-- ---- how many a queue holds
pub counted_in : (queue held count : ℕ) (lines : List Line) → held < 2 ^ 64 → option_map (λ (line : Line). min (length line.ids) (2 ^ 64 - 1)) (line_of queue lines) ≡ Some count
    → Some (min count held) ≡ option_map (λ (line : Line). min (length line.ids) held) (line_of queue lines)
counted_in queue held count lines few is = by (line_of queue lines) is
  where
    by : (o : Option Line) → option_map (λ (line : Line). min (length line.ids) (2 ^ 64 - 1)) o ≡ Some count → Some (min count held) ≡ option_map (λ (line : Line). min (length line.ids) held) o
    by None none = absurd (none-some count none)
    by (Some line) some = ap (λ (n : ℕ). Some n) (let same = same_Some _ count some in omega (arith, same, few))

pub not_counted : (queue held : ℕ) (lines : List Line) → option_map (λ (line : Line). min (length line.ids) (2 ^ 64 - 1)) (line_of queue lines) ≡ None → None ≡ option_map (λ (line : Line). min (length line.ids) held) (line_of queue lines)
not_counted queue held lines is = by (line_of queue lines) is
  where
    by : (o : Option Line) → option_map (λ (line : Line). min (length line.ids) (2 ^ 64 - 1)) o ≡ None → None ≡ option_map (λ (line : Line). min (length line.ids) held) o
    by None none = refl
    by (Some line) some = absurd (none-some _ (sym some))

held_few : (q : ℕ) (rows : List JournaledRow) → length (held_by q rows) ≤ length rows
held_few q [] = omega arith
held_few q (row ∷ rows) = by (has_number row.holders q) (held_few q rows)
  where
    by : (b : Bool) → length (held_by q rows) ≤ length rows
        → length (map (λ (r : JournaledRow). r.message) (cond b (row ∷ filter (λ (r : JournaledRow). has_number r.holders q) rows) (filter (λ (r : JournaledRow). has_number r.holders q) rows))) ≤ length (row ∷ rows)
    by true few = omega (arith, few)
    by false few = omega (arith, few)

pub none_counted : (name : List ℕ) (queues : List Queue) → option_map (λ (q : Queue). q.id) (queue_named queues name) ≡ None → None ≡ option_map (λ (q : Queue). length q.messages) (queue_named queues name)
none_counted name queues is = by (queue_named queues name) is
  where
    by : (o : Option Queue) → option_map (λ (q : Queue). q.id) o ≡ None → None ≡ option_map (λ (q : Queue). length q.messages) o
    by None none = refl
    by (Some q) some = absurd (none-some q.id (sym some))

-- ---- a queue that was found by its name is found by its id
row_by_id : (name : List ℕ) (rows : List QueueRow) (row : QueueRow) → Ascend rows → find (λ (r : QueueRow). bytes_eq name r.name) rows ≡ Some row → find (λ (r : QueueRow). eqb r.id row.id) rows ≡ Some row
row_by_id name [] row ascending none = absurd (none-some row none)
row_by_id name (r ∷ rows) row ascending found = elim (cases_Bool (bytes_eq name r.name)) [
  | inl here ↦
      let same : r ≡ row = same_Some r row (sym (ap (λ (b : Bool). cond b (Some r) (find (λ (x : QueueRow). bytes_eq name x.name) rows)) here) ∙ found) in
      cond-true _ _ _ (eq-eqb r.id row.id (ap (λ (x : QueueRow). x.id) same)) ∙ ap (λ (x : QueueRow). Some x) same
  | inr elsewhere ↦
      let later = sym (ap (λ (b : Bool). cond b (Some r) (find (λ (x : QueueRow). bytes_eq name x.name) rows)) elsewhere) ∙ found in
      let above : r.id < row.id = found_above rows r row ascending.0 later in
      cond-false _ _ _ (ne_eqb r.id row.id (λ same. omega (arith, above, same))) ∙ row_by_id name rows row ascending.1 later
]
  where
    found_above : (rest : List QueueRow) (r row : QueueRow) → All (λ other. r.id < other.id) rest → find (λ (x : QueueRow). bytes_eq name x.name) rest ≡ Some row → r.id < row.id
    found_above rest r row all is = row_of (λ (other : QueueRow). r.id < other.id) (λ (x : QueueRow). bytes_eq name x.name) rest row (recursion_from_All (λ (other : QueueRow). r.id < other.id) rest all) is

pub queue_by_id : (d : Durable) (name : List ℕ) (id : ℕ) → IsSound d → option_map (λ (q : Queue). q.id) (queue_named (durable_part d).queues name) ≡ Some id
    → (q : Queue) × (queue_named (durable_part d).queues name ≡ Some q) × (queue_with (durable_part d).queues id ≡ Some q) × (q.id ≡ id) × (length q.messages ≤ length d.journaled)
queue_by_id d name id sound is =
    let row = queue_row name d.journaled d.queues id is in (
      queue_of d.journaled row.0,
      row.2,
      find_map (λ (q : Queue). eqb q.id id) (queue_of d.journaled) d.queues
          ∙ ap (option_map (queue_of d.journaled)) (ap (λ (n : ℕ). find (λ (r : QueueRow). eqb r.id n) d.queues) (sym row.1) ∙ row_by_id name d.queues row.0 (ascend d.queues sound.queues.ascending) row.3),
      row.1,
      held_few row.0.id d.journaled,
    )

-- so its line has what it holds
pub counted_line : (d : Durable) (lines : List Line) (name : List ℕ) (id : ℕ) → lines ≡ lines_in d → IsSound d → option_map (λ (q : Queue). q.id) (queue_named (durable_part d).queues name) ≡ Some id
    → option_map (λ (line : Line). min (length line.ids) (length d.journaled)) (line_of id lines) ≡ option_map (λ (q : Queue). length q.messages) (queue_named (durable_part d).queues name)
counted_line d lines name id lined sound is =
    let q = queue_by_id d name id sound is in
    ap (λ (ls : List Line). option_map (λ (line : Line). min (length line.ids) (length d.journaled)) (line_of id ls)) lined
    ∙ ap (option_map (λ (line : Line). min (length line.ids) (length d.journaled))) (line_found id (durable_part d).queues ∙ ap (option_map line_from) q.2)
    ∙ ap (λ (n : ℕ). Some n) (shorter q.0.messages (length d.journaled) q.4)
    ∙ sym (ap (option_map (λ (x : Queue). length x.messages)) q.1)
  where
    shorter : (messages : List Message) (most : ℕ) → length messages ≤ most → min (length (map (λ (m : Message). m.id) messages)) most ≡ length messages
    shorter messages most few = let same = length-map messages (λ (m : Message). m.id) in omega (arith, few, same)

-- so it is live
pub live_by_name : (d : Durable) (name : List ℕ) (o : Option ℕ) → IsSound d → o ≡ option_map (λ (q : Queue). q.id) (queue_named (durable_part d).queues name) → IfSome o (λ id. is_some (queue_with (durable_part d).queues id) ≡ true)
live_by_name d name None sound is = tt
live_by_name d name (Some id) sound is = ap is_some (queue_by_id d name id sound (sym is)).2

-- a queue that has a line is live
pub live_by_line : (d : Durable) (lines : List Line) (o : Option ℕ) → lines ≡ lines_in d → IfSome o (λ queue. has_line queue lines ≡ true) → IfSome o (λ queue. is_some (queue_with (durable_part d).queues queue) ≡ true)
live_by_line d lines None lined is = tt
live_by_line d lines (Some queue) lined is = sym (has_line_any queue (durable_part d).queues) ∙ ap (has_line queue) (sym lined) ∙ is

pub line_by_live : (d : Durable) (lines : List Line) (queue : ℕ) → lines ≡ lines_in d → is_some (queue_with (durable_part d).queues queue) ≡ true → has_line queue lines ≡ true
line_by_live d lines queue lined is = ap (has_line queue) lined ∙ has_line_any queue (durable_part d).queues ∙ is

-- a message that is in a queue's line is held by it
pub holder_by_line : (d : Durable) (lines : List Line) (id : MessageId) (o : Option ℕ) → lines ≡ lines_in d → IfSome o (λ queue. has_in_line queue id lines ≡ true) → IfSome o (λ queue. has_holder d.journaled id queue ≡ true)
holder_by_line d lines id None lined is = tt
holder_by_line d lines id (Some queue) lined is = holder_in_line queue id d.journaled d.queues (ap (has_in_line queue id) (sym lined) ∙ is)

-- ---- what a consumer is given
-- the message of the first id that is available
abbrev pub GivesRow : Kept → List ℕ → MessageId → Type 0
GivesRow s name id = (m : Message) × (next_for name s ≡ Some m) × (m.id ≡ id) × HasRow s.durable.journaled m

held_next : (s : Kept) (name : List ℕ) (m : Message) → Apart s.durable.journaled → next_for name s ≡ Some m → HasRow s.durable.journaled m
held_next s name m apart is = by (consumer_named s.consumers name) is
  where
    in_queue : (q : Queue) → (rows : List QueueRow) → (id : ℕ) → queue_with (map (queue_of s.durable.journaled) rows) id ≡ Some q → (row : QueueRow) × (queue_of s.durable.journaled row ≡ q)
    in_queue q [] id none = absurd (none-some q none)
    in_queue q (row ∷ rows) id found = one (eqb row.id id) found (in_queue q rows id)
      where
        one : (b : Bool) → cond b (Some (queue_of s.durable.journaled row)) (queue_with (map (queue_of s.durable.journaled) rows) id) ≡ Some q → (queue_with (map (queue_of s.durable.journaled) rows) id ≡ Some q → (r : QueueRow) × (queue_of s.durable.journaled r ≡ q)) → (r : QueueRow) × (queue_of s.durable.journaled r ≡ q)
        one true here others = (row, same_Some (queue_of s.durable.journaled row) q here)
        one false later others = others later

    at : (c : Consumer) (o : Option Queue) → queue_with (broker_of s).durable.queues c.queue ≡ o → option_and_then (available (broker_of s)) o ≡ Some m → HasRow s.durable.journaled m
    at c None none first = absurd (none-some m first)
    at c (Some q) found first =
        let row = in_queue q s.durable.queues c.queue found in
        held_row (λ (x : Message). not (is_in_flight s.consumers q.id x.id)) row.0.id s.durable.journaled m apart
        (ap (λ (ms : List Message). find (λ (x : Message). not (is_in_flight s.consumers q.id x.id)) ms) (ap (λ (x : Queue). x.messages) row.1) ∙ first)

    by : (o : Option Consumer) → option_and_then (λ (c : Consumer). option_and_then (available (broker_of s)) (queue_with (broker_of s).durable.queues c.queue)) o ≡ Some m → HasRow s.durable.journaled m
    by None none = absurd (none-some m none)
    by (Some c) first = at c (queue_with (broker_of s).durable.queues c.queue) refl first

pub gives_row : (s : Kept) (lines : List Line) (name : List ℕ) (c : Consumer) (id : MessageId) → lines ≡ lines_in s.durable → Apart s.durable.journaled → consumer_named s.consumers name ≡ Some c → Some id ≡ first_available c.queue (record { lines = lines; consumers = s.consumers }) → GivesRow s name id
gives_row s lines name c id lined apart is first = by (next_for name s) refl (first ∙ ap (λ (ls : List Line). first_available c.queue (record { lines = ls; consumers = s.consumers })) lined ∙ first_is s name c is)
  where
    by : (o : Option Message) → next_for name s ≡ o → Some id ≡ option_map (λ (m : Message). m.id) o → GivesRow s name id
    by None none some = absurd (none-some id (sym some))
    by (Some m) next some = (m, next, sym (same_Some id m.id some), held_next s name m apart next)

pub gives_none : (s : Kept) (lines : List Line) (name : List ℕ) (c : Consumer) → lines ≡ lines_in s.durable → consumer_named s.consumers name ≡ Some c → None ≡ first_available c.queue (record { lines = lines; consumers = s.consumers }) → None ≡ next_for name s
gives_none s lines name c lined is first = by (next_for name s) (first ∙ ap (λ (ls : List Line). first_available c.queue (record { lines = ls; consumers = s.consumers })) lined ∙ first_is s name c is)
  where
    by : (o : Option Message) → None ≡ option_map (λ (m : Message). m.id) o → None ≡ o
    by None none = refl
    by (Some m) some = absurd (none-some m.id some)

-- so there is a row of it, and its message is the one that is next
pub gives_has : (s : Kept) (name : List ℕ) (id : MessageId) → GivesRow s name id → has_message s.durable.journaled id ≡ true
gives_has s name id gives =
    found_any (λ (r : JournaledRow). same_id r.message.id gives.0.id) (λ (r : JournaledRow). same_id r.message.id id) s.durable.journaled gives.3.0 gives.3.1
    (same_from gives.3.0.message.id id (ap (λ (m : Message). m.id) gives.3.2 ∙ gives.2))

pub gives_message : (s : Kept) (name : List ℕ) (id : MessageId) (m : Message) → GivesRow s name id → Some m ≡ option_map (λ (r : JournaledRow). r.message) (find (λ (r : JournaledRow). same_id r.message.id id) s.durable.journaled)
    → (Some m ≡ next_for name s) × (m.id ≡ id)
gives_message s name id m gives found =
    let same : m ≡ gives.0 =
    same_Some m gives.0 (found ∙ ap (λ (x : MessageId). option_map (λ (r : JournaledRow). r.message) (find (λ (r : JournaledRow). same_id r.message.id x) s.durable.journaled)) (sym gives.2)
    ∙ ap (option_map (λ (r : JournaledRow). r.message)) gives.3.1 ∙ ap (λ (x : Message). Some x) gives.3.2) in
    (ap (λ (x : Message). Some x) same ∙ sym gives.1, ap (λ (x : Message). x.id) same ∙ gives.2)

-- what there is
pub is_one : {X : Type 0} (o : Option X) → is_some o ≡ true → (x : X) × (o ≡ Some x)
is_one None is = cc
is_one (Some x) is = (x, refl)
