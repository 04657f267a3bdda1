-- The conditions and fields of the entries that the commands write.
use Rattle.std.proofs.Common.{◌≡◌, ◌≢◌, refl, sym, ◌∙◌, ap, subst, ℕ, ◌+◌, ◌<◌, ◌≤◌, ◌^◌, Bool, true, false, not, cond, ◌&&◌, eqb, ltb, leb, List, [], ◌∷◌, length, map, find, All, le_of_eq, Some, None, option_map, eq-eqb, ne_eqb, inl, inr, arith}
use Rattle.std.specs.List.{AllByRecursion, list_all}
use Rattle.std.specs.Str.{bytes_eq}
use Rattle.std.proofs.lemmas.Bool.{cases_eq, and_from, and_left, and_right, or_from, or_left, or_right, lt-ltb, le-leb, cond-true}
use Rattle.std.proofs.lemmas.List.Elements.{recursion_from_All}
use Rattle.std.proofs.lemmas.List.Sums.{sum_by-cons}
use Rattle.pg_msg.specs.declared.message.Message.{Message}
use Rattle.pg_msg.specs.declared.message.MessageId.{MessageId}
use Rattle.pg_msg.specs.declared.properties.Property.{Property}
use Rattle.pg_msg.specs.Commands.{AreSettings, IsFilterText}
use Rattle.pg_msg.specs.Lists.{AreQueues, Ascends, IsBelowFirst}
use Rattle.pg_msg.specs.Messages.{IsMessage}
use Rattle.pg_msg.specs.Names.{IsName}
use Rattle.pg_records.specs.declared.entry.Entry.TheVariants as entry
use Rattle.pg_records.specs.Entries.{HasFields}
use Rattle.pg_fold.specs.declared.durable.Durable.{Durable}
use Rattle.pg_fold.specs.declared.rows.AddressRow.{AddressRow}
use Rattle.pg_fold.specs.declared.rows.JournaledRow.{JournaledRow}
use Rattle.pg_fold.specs.declared.rows.QueueRow.{QueueRow}
use Rattle.pg_fold.specs.Fold.{rule_of, are_settings}
use Rattle.pg_fold.specs.Rows.{has_address, has_address_named, has_holder, has_queue_named, has_queue_at, queues_at, has_message, same_id}
use Rattle.pg_fold.specs.Sound.{IsHeldRow, IsSound}
use Rattle.pg_model.specs.Broker.{IsDrawn}
use Rattle.pg_model.specs.Broker.{Queue, address_named, queue_named}
use Rattle.pg_model.specs.Routing.{GoesTo, queues_of, with_taker}
use Rattle.pg_recover.specs.Denotation.{address_of, queue_of}
use Rattle.pg_engine.proofs.LookupLemmas.{address_new, queue_new, found_any, queue_row, row_of}
use Rattle.pg_engine.proofs.PartLemmas.{CountFrom, counted, placed, Ascend, ascend}

module _ (address : ℕ) (messages : List JournaledRow) where
  -- the queues of the address among these
  abbrev pub held_at : List QueueRow → List Queue
  held_at queues = queues_of address (map (queue_of messages) queues)

  pub counted_at : (queues : List QueueRow) → queues_at queues address ≡ length (held_at queues)
  counted_at [] = refl
  counted_at (row ∷ queues) =
      sum_by-cons (λ (r : QueueRow). cond (eqb r.address address) 1 0) row queues ∙ ap (λ (n : ℕ). cond (eqb row.address address) 1 0 + n) (counted_at queues) ∙ by (eqb row.address address)
    where
      by : (b : Bool) → cond b 1 0 + length (held_at queues) ≡ length (cond b (queue_of messages row ∷ held_at queues) (held_at queues))
      by true = omega arith
      by false = omega arith

  module _ (properties : List Property) where
    -- a message goes to these of the queues
    abbrev Goes : List QueueRow → List ℕ → Type 0
    Goes queues numbers = GoesTo properties (held_at queues) numbers

    -- What is so without a queue and with one more, and of what a message goes to behind a queue, is so of what it goes to.
    over_rows : (P : List QueueRow → List ℕ → Type 0) → P [] []
        → ((row : QueueRow) (queues : List QueueRow) (numbers : List ℕ) → P queues numbers → P (row ∷ queues) numbers)
        → ((row : QueueRow) (queues : List QueueRow) (numbers : List ℕ) → eqb row.address address ≡ true → P queues numbers → P (row ∷ queues) (row.id ∷ numbers))
        → (queues : List QueueRow) (numbers : List ℕ) → Goes queues numbers → P queues numbers
    over_rows P none past taken [] numbers goes = subst (λ (l : List ℕ). P [] l) (sym goes) none
    over_rows P none past taken (row ∷ queues) numbers goes = by (over_rows P none past taken queues) (eqb row.address address) refl goes
      where
        at : (takes : Bool) (others : List ℕ) → eqb row.address address ≡ true → P queues others → P (row ∷ queues) (with_taker takes row.id others)
        at true others is before = taken row queues others is before
        at false others is before = past row queues others before

        by : ((others : List ℕ) → Goes queues others → P queues others) → (b : Bool) → eqb row.address address ≡ b → GoesTo properties (cond b (queue_of messages row ∷ held_at queues) (held_at queues)) numbers → P (row ∷ queues) numbers
        by rest true is goes = subst (λ (l : List ℕ). P (row ∷ queues) l) (sym goes.4) (at goes.0 goes.1 is (rest goes.1 goes.3))
        by rest false is goes = past row queues numbers (rest numbers goes)

    -- each of the numbers is that of a live queue of the address
    abbrev AreLive : List QueueRow → List ℕ → Type 0
    AreLive queues numbers = (every : List QueueRow) → ((id : ℕ) → has_queue_at queues address id ≡ true → has_queue_at every address id ≡ true) → list_all (has_queue_at every address) numbers ≡ true

    each_live : (queues : List QueueRow) (numbers : List ℕ) → Goes queues numbers → AreLive queues numbers
    each_live = over_rows AreLive (λ every within. refl) (λ row queues numbers before every within. before every (λ id there. within id (or_right _ _ there)))
        (λ row queues numbers is before every within. and_from _ _ (within row.id (or_left _ _ (and_from _ _ (eq-eqb row.id row.id refl) is))) (before every (λ id there. within id (or_right _ _ there))))

    pub all_live : (queues : List QueueRow) (numbers : List ℕ) → Goes queues numbers → list_all (has_queue_at queues address) numbers ≡ true
    all_live queues numbers goes = each_live queues numbers goes queues (λ id there. there)

    -- what is below each queue is below the first number
    abbrev AreBelow : List QueueRow → List ℕ → Type 0
    AreBelow queues numbers = (id : ℕ) → AllByRecursion (λ row. id < row.id) queues → IsBelowFirst id numbers

    below_first : (queues : List QueueRow) (numbers : List ℕ) → Goes queues numbers → AreBelow queues numbers
    below_first = over_rows AreBelow (λ id above. tt) (λ row queues numbers before id above. before id above.1) (λ row queues numbers is before id above. above.0)

    pub numbers_ascend : (queues : List QueueRow) (numbers : List ℕ) → Ascend queues → Goes queues numbers → Ascends numbers
    numbers_ascend [] numbers ascending goes = subst Ascends (sym goes) tt
    numbers_ascend (row ∷ queues) numbers ascending goes = by (λ others. numbers_ascend queues others ascending.1) (eqb row.address address) goes
      where
        at : ((others : List ℕ) → Goes queues others → Ascends others) → (takes : Bool) (others : List ℕ) → Goes queues others → Ascends (with_taker takes row.id others)
        at rest true others goes = (below_first queues others goes row.id (recursion_from_All (λ other. row.id < other.id) queues ascending.0), rest others goes)
        at rest false others goes = rest others goes

        by : ((others : List ℕ) → Goes queues others → Ascends others) → (b : Bool) → GoesTo properties (cond b (queue_of messages row ∷ held_at queues) (held_at queues)) numbers → Ascends numbers
        by rest true goes = subst Ascends (sym goes.4) (at rest goes.0 goes.1 goes.3)
        by rest false goes = rest numbers goes

    pub few_numbers : (queues : List Queue) (numbers : List ℕ) → GoesTo properties queues numbers → length numbers ≤ length queues
    few_numbers [] numbers goes = omega (arith, ap length goes)
    few_numbers (q ∷ queues) numbers goes = by goes.0 (few_numbers queues goes.1 goes.3) (ap length goes.4)
      where
        by : (takes : Bool) → length goes.1 ≤ length queues → length numbers ≡ length (with_taker takes q.id goes.1) → length numbers ≤ length (q ∷ queues)
        by true few is = omega (arith, few, is)
        by false few is = omega (arith, few, is)

some_number : (numbers : List ℕ) → numbers ≢ [] → 1 ≤ length numbers
some_number [] some = absurd (some refl)
some_number (n ∷ numbers) some = omega arith

-- the numbers of the queues that a message goes to are as an entry lists them
pub are_queues : (d : Durable) (address : ℕ) (properties : List Property) (numbers : List ℕ) → IsSound d → GoesTo properties (held_at address d.journaled d.queues) numbers → All (λ n. n < 2 ^ 32) numbers → numbers ≢ [] → AreQueues numbers
are_queues d address properties numbers sound goes in_range some = record {
  count = (some_number numbers some, let few = sound.queues.few address in let fewer = few_numbers address d.journaled properties (held_at address d.journaled d.queues) numbers goes in omega (arith, few, fewer, counted_at address d.journaled d.queues));
  each = in_range;
  ascending = numbers_ascend address d.journaled properties d.queues numbers (ascend d.queues sound.queues.ascending) goes;
}

known_from : (base id : ℕ) (rows : List AddressRow) → CountFrom base rows → base < id → id ≤ base + length rows → has_address rows id ≡ true
known_from base id [] counts low high = absurd (omega (arith, low, high))
known_from base id (row ∷ rows) counts low high =
    elim (cases_eq row.id id) [
      | inl same ↦ or_left _ _ (eq-eqb row.id id same)
      | inr differ ↦ or_right _ _ (known_from (base + 1) id rows counts.1 (elim (cases_eq (base + 1) id) [
        | inl first ↦ absurd (differ (counts.0 ∙ first))
        | inr later ↦ omega (arith, low, later)
      ]) (omega (arith, high)))
    ]

-- an address that is there is known
pub known : (d : Durable) (id : ℕ) → IsSound d → 1 ≤ id → id ≤ length d.addresses → has_address d.addresses id ≡ true
known d id sound low high = known_from 0 id d.addresses (counted d.addresses sound.addresses.numbered) (omega (arith, low)) (omega (arith, high))

-- the next id isn't one that was drawn
undrawn : (epoch drawn : ℕ) (id : MessageId) → IsDrawn epoch drawn id → same_id id (record { epoch = epoch; number = drawn + 1 }) ≡ false
undrawn epoch drawn id is = elim is [
  | inl earlier ↦ and_left _ _ (ne_eqb id.epoch epoch (λ e. omega (arith, earlier, e)))
  | inr same ↦ and_right _ _ (ne_eqb id.number (drawn + 1) (λ e. let most = same.1 in omega (arith, e)))
]

-- so it is the id of no message
pub new_everywhere : (epoch drawn : ℕ) (rows : List JournaledRow) → AllByRecursion (λ row. IsDrawn epoch drawn row.message.id) rows → AllByRecursion (λ row. same_id row.message.id (record { epoch = epoch; number = drawn + 1 }) ≡ false) rows
new_everywhere epoch drawn [] all = tt
new_everywhere epoch drawn (row ∷ rows) all = (undrawn epoch drawn row.message.id all.0, new_everywhere epoch drawn rows all.1)

new_id : (epoch drawn : ℕ) (rows : List JournaledRow) → AllByRecursion (λ row. IsDrawn epoch drawn row.message.id) rows → has_message rows (record { epoch = epoch; number = drawn + 1 }) ≡ false
new_id epoch drawn [] all = refl
new_id epoch drawn (row ∷ rows) all = or_from _ _ (undrawn epoch drawn row.message.id all.0) (new_id epoch drawn rows all.1)

-- settings in the ranges of a command are in those of an entry
settings_are : (max page ahead dup : ℕ) → AreSettings max page ahead dup → are_settings max page ahead dup ≡ true
settings_are max page ahead dup fits =
    and_from _ _ (le-leb max 1000000000000 fits.max_fits)
    (and_from _ _ (le-leb 1 page fits.page_fits.0) (and_from _ _ (le-leb page 1000000000 fits.page_fits.1) (and_from _ _ (le-leb ahead 1000000000 fits.ahead_fits) (le-leb dup 65535 fits.dup_fits))))

-- the entry of an address whose name is new
pub address_condition : (d : Durable) (name : List ℕ) (max page ahead dup : ℕ) → IsSound d → address_named (map address_of d.addresses) name ≡ None → length d.addresses < 1000 → AreSettings max page ahead dup
    → rule_of d (entry.Address (length d.addresses + 1) name max page ahead dup) ≡ None
address_condition d name max page ahead dup sound new few fits =
    let first : (eqb (length d.addresses + 1) (length d.addresses + 1) && (not (has_address_named d.addresses name) && ltb (length d.addresses) 1000)) ≡ true =
    and_from _ _ (eq-eqb (length d.addresses + 1) (length d.addresses + 1) refl) (and_from _ _ (ap not (address_new name d.addresses sound.addresses.numbered new)) (lt-ltb (length d.addresses) 1000 few)) in
    cond-true _ _ _ first ∙ cond-true _ _ _ (settings_are max page ahead dup fits)

pub address_fields : (d : Durable) (name : List ℕ) (max page ahead dup : ℕ) → length d.addresses < 1000 → IsName name → AreSettings max page ahead dup → HasFields (entry.Address (length d.addresses + 1) name max page ahead dup)
address_fields d name max page ahead dup few spelled fits =
    let most = fits.max_fits in
    let largest = fits.page_fits.1 in
    let furthest = fits.ahead_fits in
    let greatest = fits.dup_fits in
    (omega (arith, few), spelled, omega arith, omega arith, omega arith, omega arith)

-- the entry of a queue whose name is new, at an address that has room for it
pub queue_condition : (d : Durable) (address : ℕ) (name filter : List ℕ) → IsSound d → queue_named (map (queue_of d.journaled) d.queues) name ≡ None → 1 ≤ address → address ≤ length d.addresses
    → length (held_at address d.journaled d.queues) < 1000 → d.next < 4294967295 → length filter ≤ 4096 → rule_of d (entry.Queue d.next address name filter) ≡ None
queue_condition d address name filter sound new low high room number short =
    let first : (eqb d.next d.next && (ltb d.next 4294967295 && not (has_queue_named d.queues name))) ≡ true =
    and_from _ _ (eq-eqb d.next d.next refl) (and_from _ _ (lt-ltb d.next 4294967295 number) (ap not (queue_new name d.journaled d.queues new))) in
    let second : (has_address d.addresses address && (ltb (queues_at d.queues address) 1000 && leb (length filter) 4096)) ≡ true =
    and_from _ _ (known d address sound low high)
    (and_from _ _ (lt-ltb (queues_at d.queues address) 1000 (omega (arith, room, counted_at address d.journaled d.queues))) (le-leb (length filter) 4096 short)) in
    cond-true _ _ _ first ∙ cond-true _ _ _ second

pub queue_fields : (d : Durable) (address : ℕ) (name filter : List ℕ) → IsSound d → address ≤ length d.addresses → d.next < 4294967295 → IsName name → IsFilterText filter → HasFields (entry.Queue d.next address name filter)
queue_fields d address name filter sound high number spelled text =
    let few = sound.addresses.few in
    (omega (arith, number), omega (arith, high), spelled, (text.0, let short = text.1 in omega (arith, short)))

-- the entry that drops a queue that was found
pub drop_condition : (d : Durable) (name : List ℕ) (queue : ℕ) → option_map (λ (q : Queue). q.id) (queue_named (map (queue_of d.journaled) d.queues) name) ≡ Some queue → rule_of d (entry.DropQueue queue) ≡ None
drop_condition d name queue found =
    let row = queue_row name d.journaled d.queues queue found in
    cond-true _ _ _ (found_any (λ (r : QueueRow). bytes_eq name r.name) (λ (r : QueueRow). eqb r.id queue) d.queues row.0 row.3 (eq-eqb row.0.id queue row.1))

-- the entry of a message with the next id, for the queues that it goes to
module _ (d : Durable) (address drawn : ℕ) (properties : List Property) (numbers : List ℕ) (m : Message) (sound : IsSound d) (goes : GoesTo properties (held_at address d.journaled d.queues) numbers) (is : m.id ≡ record { epoch = d.epoch; number = drawn + 1 }) where
  pub add_condition : All (λ row. IsDrawn d.epoch drawn row.message.id) d.journaled → 1 ≤ address → address ≤ length d.addresses → rule_of d (entry.Add address numbers m) ≡ None
  add_condition drawn_all low high =
      let first : (has_address d.addresses address && (list_all (has_queue_at d.queues address) numbers && leb m.id.epoch d.epoch)) ≡ true =
      and_from _ _ (known d address sound low high)
      (and_from _ _ (all_live address d.journaled properties d.queues numbers goes) (le-leb m.id.epoch d.epoch (le_of_eq (ap (λ (x : MessageId). x.epoch) is)))) in
      let second : not (has_message d.journaled m.id) ≡ true =
      ap (λ (x : MessageId). not (has_message d.journaled x)) is ∙ ap not (new_id d.epoch drawn d.journaled (recursion_from_All (λ row. IsDrawn d.epoch drawn row.message.id) d.journaled drawn_all)) in
      cond-true _ _ _ first ∙ cond-true _ _ _ second

  pub add_fields : IsMessage m → All (λ n. n < 2 ^ 32) numbers → numbers ≢ [] → address ≤ length d.addresses → HasFields (entry.Add address numbers m)
  add_fields fields in_range some high = let few = sound.addresses.few in (omega (arith, high), are_queues d address properties numbers sound goes in_range some, fields)

-- the entry that takes a message from a queue that holds it
pub ack_condition : (d : Durable) (queue : ℕ) (id : MessageId) → has_holder d.journaled id queue ≡ true → rule_of d (entry.Ack queue id) ≡ None
ack_condition d queue id held = cond-true _ _ _ held

-- the address of a row is known
pub row_known : (d : Durable) (row : JournaledRow) (test : JournaledRow → Bool) → IsSound d → find test d.journaled ≡ Some row → (1 ≤ row.address) × (row.address ≤ length d.addresses)
row_known d row test sound found =
    placed d.addresses row.address sound.addresses.numbered
    (row_of (λ (r : JournaledRow). IsHeldRow d.addresses d.queues r) test d.journaled row (recursion_from_All (IsHeldRow d.addresses d.queues) d.journaled sound.held) found).placed
