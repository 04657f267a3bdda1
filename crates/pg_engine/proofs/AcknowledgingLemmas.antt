-- What is left where a message is acknowledged.
use Rattle.std.proofs.Common.{◌≡◌, ◌≢◌, refl, sym, ◌∙◌, ap, ap₂, ℕ, zero, suc, ◌+◌, ◌-◌, ◌≤◌, set, Bool, true, false, not, cond, ◌||◌, eqb, eq-eqb, ne_eqb, List, [], ◌∷◌, map, filter, find, Some, inl, inr, All, AllPairs, arith}
use Rattle.std.specs.List.{AllByRecursion}
use Rattle.std.proofs.lemmas.Bool.{cases_Bool, eqb-true, eqb-false, and_parts, and_from, false_from_ne_true, both_ways}
use Rattle.std.proofs.lemmas.List.Elements.{recursion_from_All, All-head, All-tail, All-cons}
use Rattle.std.proofs.lemmas.Option.{none-some, same_Some}
use Rattle.pg_msg.specs.declared.message.Message.{Message}
use Rattle.pg_msg.specs.declared.message.MessageId.{MessageId}
use Rattle.pg_msg.specs.Messages.{weight_of}
use Rattle.pg_records.specs.declared.entry.Entry.TheVariants as entry
use Rattle.pg_fold.specs.declared.durable.Durable.{Durable}
use Rattle.pg_fold.specs.declared.rows.AddressRow.{AddressRow}
use Rattle.pg_fold.specs.declared.rows.JournaledRow.{JournaledRow}
use Rattle.pg_fold.specs.declared.rows.QueueRow.{QueueRow}
use Rattle.pg_fold.specs.Fold.{changed}
use Rattle.pg_fold.specs.Rows.{acknowledged, has_number, is_held, released, same_id, with_row, without_number}
use Rattle.pg_fold.specs.Sound.{IsSound}
use Rattle.pg_model.specs.Broker.{Queue}
use Rattle.pg_model.specs.Changes.{with_queues, without_message, relieved}
use Rattle.pg_model.specs.Changes.{acknowledged as acknowledged_in}
use Rattle.pg_recover.specs.Denotation.{durable_part, held_by, queue_of, weight_at, address_of}
use Rattle.pg_engine.proofs.DroppingLemmas.{number_kept, unheld, weight_cons}
use Rattle.pg_engine.proofs.PartLemmas.{CountFrom, counted}

-- two ids that are one are equal in both parts
same_parts : (a b : MessageId) → same_id a b ≡ true → (a.epoch ≡ b.epoch) × (a.number ≡ b.number)
same_parts a b same = let parts = and_parts _ _ same in (eqb-true a.epoch b.epoch parts.0, eqb-true a.number b.number parts.1)

pub same_from : (a b : MessageId) → a ≡ b → same_id a b ≡ true
same_from a b is = and_from _ _ (eq-eqb a.epoch b.epoch (ap (λ (x : MessageId). x.epoch) is)) (eq-eqb a.number b.number (ap (λ (x : MessageId). x.number) is))

pub one_id : (a b : MessageId) → same_id a b ≡ true → a ≡ b
one_id a b same = let parts = same_parts a b same in λ i. record { epoch = parts.0 i; number = parts.1 i }

-- an id that isn't the first one isn't another one that is the same
other_id : (a b id : MessageId) → same_id a id ≡ true → same_id a b ≡ false → same_id b id ≡ false
other_id a b id here apart = false_from_ne_true (same_id b id) (λ same. both_ways (same_id a b) apart (same_from a b (one_id a id here ∙ sym (one_id b id same))))

-- each id differs from those behind it, as a fact of the first and the others
abbrev pub Apart : List JournaledRow → Type 0
Apart [] = Unit {0}
Apart (row ∷ rows) = AllByRecursion (λ other. same_id row.message.id other.message.id ≡ false) rows × Apart rows

pub apart : (rows : List JournaledRow) → AllPairs (λ row other. same_id row.message.id other.message.id ≡ false) rows → Apart rows
apart [] pairs = tt
apart (row ∷ rows) pairs = (
  recursion_from_All (λ other. same_id row.message.id other.message.id ≡ false) rows (λ k d within. pairs 0 (suc k) d (omega arith) (omega (arith, within))),
  apart rows (λ i j d less within. pairs (suc i) (suc j) d (omega (arith, less)) (omega (arith, within))),
)

module _ (queue : ℕ) (id : MessageId) where
  -- none of these is the message
  abbrev NoneIs : List JournaledRow → Type 0
  NoneIs rows = AllByRecursion (λ other. same_id other.message.id id ≡ false) rows

  none_behind : (row : JournaledRow) (rows : List JournaledRow) → same_id row.message.id id ≡ true → AllByRecursion (λ other. same_id row.message.id other.message.id ≡ false) rows → NoneIs rows
  none_behind row [] here differ = tt
  none_behind row (other ∷ rows) here differ = (other_id row.message.id other.message.id id here differ.0, none_behind row rows here differ.1)

  -- so taking it out takes nothing
  all_kept : (q : ℕ) (rows : List JournaledRow) → NoneIs rows → without_message id (held_by q rows) ≡ held_by q rows
  all_kept q [] none = refl
  all_kept q (row ∷ rows) none = by (has_number row.holders q) (all_kept q rows none.1)
    where
      by : (b : Bool) → without_message id (held_by q rows) ≡ held_by q rows
          → without_message id (map (λ (r : JournaledRow). r.message) (cond b (row ∷ filter (λ (r : JournaledRow). has_number r.holders q) rows) (filter (λ (r : JournaledRow). has_number r.holders q) rows)))
          ≡ map (λ (r : JournaledRow). r.message) (cond b (row ∷ filter (λ (r : JournaledRow). has_number r.holders q) rows) (filter (λ (r : JournaledRow). has_number r.holders q) rows))
      by true others =
          ap (λ (c : Bool). cond (not c) (row.message ∷ without_message id (held_by q rows)) (without_message id (held_by q rows))) none.0
          ∙ ap (λ (l : List Message). row.message ∷ l) others
      by false others = others

  -- the queue isn't among those that are left
  gone : (numbers : List ℕ) → has_number (without_number queue numbers) queue ≡ false
  gone [] = refl
  gone (n ∷ numbers) = elim (cases_Bool (eqb n queue)) [
    | inl here ↦ ap (λ (b : Bool). has_number (cond (not b) (n ∷ without_number queue numbers) (without_number queue numbers)) queue) here ∙ gone numbers
    | inr elsewhere ↦
        ap (λ (b : Bool). has_number (cond (not b) (n ∷ without_number queue numbers) (without_number queue numbers)) queue) elsewhere
        ∙ ap (λ (b : Bool). b || has_number (without_number queue numbers) queue) elsewhere ∙ gone numbers
  ]

  -- what a queue holds of a row and others
  abbrev held_cons : Bool → JournaledRow → ℕ → List JournaledRow → List Message
  held_cons b row q rows = map (λ (r : JournaledRow). r.message) (cond b (row ∷ filter (λ (r : JournaledRow). has_number r.holders q) rows) (filter (λ (r : JournaledRow). has_number r.holders q) rows))

  cons_one : (b : Bool) (row other : JournaledRow) (q : ℕ) (rows : List JournaledRow) → row.message ≡ other.message → held_cons b row q rows ≡ held_cons b other q rows
  cons_one true row other q rows same = ap (λ (m : Message). m ∷ held_by q rows) same
  cons_one false row other q rows same = refl

  -- the first row is the message: the queue holds it no more, and other queues do as before
  here_gone : (row : JournaledRow) (rows : List JournaledRow) → held_by queue (with_row (released queue row) rows) ≡ held_by queue rows
  here_gone row rows = by (is_held (released queue row))
    where
      by : (b : Bool) → held_by queue (cond b (released queue row ∷ rows) rows) ≡ held_by queue rows
      by true = ap (λ (b : Bool). held_cons b (released queue row) queue rows) (gone row.holders)
      by false = refl

  here_kept : (q : ℕ) (row : JournaledRow) (rows : List JournaledRow) → queue ≢ q → held_by q (with_row (released queue row) rows) ≡ held_by q (row ∷ rows)
  here_kept q row rows differ = by (is_held (released queue row)) refl
    where
      same : has_number (released queue row).holders q ≡ has_number row.holders q
      same = number_kept queue q row.holders differ

      by : (b : Bool) → is_held (released queue row) ≡ b → held_by q (cond b (released queue row ∷ rows) rows) ≡ held_by q (row ∷ rows)
      by true is = ap (λ (b : Bool). held_cons b (released queue row) q rows) same ∙ cons_one (has_number row.holders q) (released queue row) row q rows refl
      by false is = ap (λ (b : Bool). held_cons b row q rows) (sym (sym same ∙ unheld (released queue row) q is))

  here_left : (row : JournaledRow) (rows : List JournaledRow) → same_id row.message.id id ≡ true → NoneIs rows → held_by queue rows ≡ without_message id (held_by queue (row ∷ rows))
  here_left row rows here none = by (has_number row.holders queue)
    where
      by : (b : Bool) → held_by queue rows ≡ without_message id (held_cons b row queue rows)
      by true = sym (all_kept queue rows none) ∙ sym (ap (λ (c : Bool). cond (not c) (row.message ∷ without_message id (held_by queue rows)) (without_message id (held_by queue rows))) here)
      by false = sym (all_kept queue rows none)

  -- the same further behind
  later_left : (row : JournaledRow) (rows : List JournaledRow) → same_id row.message.id id ≡ false → held_by queue (acknowledged queue id rows) ≡ without_message id (held_by queue rows)
      → held_by queue (row ∷ acknowledged queue id rows) ≡ without_message id (held_by queue (row ∷ rows))
  later_left row rows elsewhere others = by (has_number row.holders queue)
    where
      by : (b : Bool) → held_cons b row queue (acknowledged queue id rows) ≡ without_message id (held_cons b row queue rows)
      by true =
          ap (λ (l : List Message). row.message ∷ l) others
          ∙ sym (ap (λ (c : Bool). cond (not c) (row.message ∷ without_message id (held_by queue rows)) (without_message id (held_by queue rows))) elsewhere)
      by false = others

  later_kept : (q : ℕ) (row : JournaledRow) (rows : List JournaledRow) → held_by q (acknowledged queue id rows) ≡ held_by q rows → held_by q (row ∷ acknowledged queue id rows) ≡ held_by q (row ∷ rows)
  later_kept q row rows others = by (has_number row.holders q)
    where
      by : (b : Bool) → held_cons b row q (acknowledged queue id rows) ≡ held_cons b row q rows
      by true = ap (λ (l : List Message). row.message ∷ l) others
      by false = others

  -- what the queue holds behind an acknowledgement
  pub left_of : (rows : List JournaledRow) → Apart rows → held_by queue (acknowledged queue id rows) ≡ without_message id (held_by queue rows)
  left_of [] differ = refl
  left_of (row ∷ rows) differ = elim (cases_Bool (same_id row.message.id id)) [
    | inl here ↦
        ap (λ (b : Bool). held_by queue (cond b (with_row (released queue row) rows) (row ∷ acknowledged queue id rows))) here
        ∙ here_gone row rows ∙ here_left row rows here (none_behind row rows here differ.0)
    | inr elsewhere ↦
        ap (λ (b : Bool). held_by queue (cond b (with_row (released queue row) rows) (row ∷ acknowledged queue id rows))) elsewhere
        ∙ later_left row rows elsewhere (left_of rows differ.1)
  ]

  -- and what another one does
  pub still_held : (q : ℕ) (rows : List JournaledRow) → queue ≢ q → held_by q (acknowledged queue id rows) ≡ held_by q rows
  still_held q [] differ = refl
  still_held q (row ∷ rows) differ = elim (cases_Bool (same_id row.message.id id)) [
    | inl here ↦ ap (λ (b : Bool). held_by q (cond b (with_row (released queue row) rows) (row ∷ acknowledged queue id rows))) here ∙ here_kept q row rows differ
    | inr elsewhere ↦
        ap (λ (b : Bool). held_by q (cond b (with_row (released queue row) rows) (row ∷ acknowledged queue id rows))) elsewhere
        ∙ later_kept q row rows (still_held q rows differ)
  ]

  -- so each queue is relieved
  abbrev has : QueueRow → List Message → Queue
  has row messages = record { id = row.id; name = row.name; address = row.address; filter = row.filter; messages = messages }

  one_relieved : (rows : List JournaledRow) (row : QueueRow) → Apart rows → queue_of (acknowledged queue id rows) row ≡ relieved queue id (queue_of rows row)
  one_relieved rows row differ = elim (cases_Bool (eqb row.id queue)) [
    | inl here ↦
        ap (λ (n : ℕ). has row (held_by n (acknowledged queue id rows))) (eqb-true row.id queue here)
        ∙ ap (has row) (left_of rows differ ∙ ap (λ (n : ℕ). without_message id (held_by n rows)) (sym (eqb-true row.id queue here)))
        ∙ sym (ap (λ (b : Bool). cond b (has row (without_message id (held_by row.id rows))) (has row (held_by row.id rows))) here)
    | inr elsewhere ↦
        ap (has row) (still_held row.id rows (λ same. eqb-false row.id queue elsewhere (sym same)))
        ∙ sym (ap (λ (b : Bool). cond b (has row (without_message id (held_by row.id rows))) (has row (held_by row.id rows))) elsewhere)
  ]

  queues_relieved : (rows : List JournaledRow) (queues : List QueueRow) → Apart rows → map (queue_of (acknowledged queue id rows)) queues ≡ acknowledged_in queue id (map (queue_of rows) queues)
  queues_relieved rows [] differ = refl
  queues_relieved rows (row ∷ queues) differ = ap₂ (λ (q : Queue) (qs : List Queue). q ∷ qs) (one_relieved rows row differ) (queues_relieved rows queues differ)

  pub acknowledged_part : (d : Durable) → Apart d.journaled → durable_part (changed d (entry.Ack queue id)) ≡ with_queues (durable_part d) (acknowledged_in queue id (durable_part d).queues)
  acknowledged_part d differ =
      ap (λ (queues : List Queue). record { epoch = d.epoch; next = d.next; addresses = map address_of d.addresses; queues = queues }) (queues_relieved d.journaled d.queues differ)

  -- the bytes of the message, if no other queue holds it
  abbrev pub relief_of : JournaledRow → ℕ
  relief_of row = cond (is_held (released queue row)) 0 (weight_of row.message)

  -- an address holds so many fewer bytes
  pub lightened : (address : ℕ) (rows : List JournaledRow) (row : JournaledRow) → find (λ (r : JournaledRow). same_id r.message.id id) rows ≡ Some row
      → weight_at address (acknowledged queue id rows) + cond (eqb row.address address) (relief_of row) 0 ≡ weight_at address rows
  lightened address [] row none = absurd (none-some row none)
  lightened address (r ∷ rows) row found = elim (cases_Bool (same_id r.message.id id)) [
    | inl here ↦
        let same : r ≡ row = same_Some r row (sym (ap (λ (b : Bool). cond b (Some r) (find (λ (x : JournaledRow). same_id x.message.id id) rows)) here) ∙ found) in
        ap (λ (b : Bool). weight_at address (cond b (with_row (released queue r) rows) (r ∷ acknowledged queue id rows)) + cond (eqb row.address address) (relief_of row) 0) here
        ∙ ap (λ (x : JournaledRow). weight_at address (with_row (released queue r) rows) + cond (eqb x.address address) (relief_of x) 0) (sym same)
        ∙ first (is_held (released queue r)) refl
    | inr elsewhere ↦
        let behind = lightened address rows row (sym (ap (λ (b : Bool). cond b (Some r) (find (λ (x : JournaledRow). same_id x.message.id id) rows)) elsewhere) ∙ found) in
        let cons = weight_cons address r (acknowledged queue id rows) in
        let before = weight_cons address r rows in
        ap (λ (b : Bool). weight_at address (cond b (with_row (released queue r) rows) (r ∷ acknowledged queue id rows)) + cond (eqb row.address address) (relief_of row) 0) elsewhere
        ∙ (omega (arith, behind, cons, before))
  ]
    where
      first : (b : Bool) → is_held (released queue r) ≡ b → weight_at address (cond b (released queue r ∷ rows) rows) + cond (eqb r.address address) (cond b 0 (weight_of r.message)) 0 ≡ weight_at address (r ∷ rows)
      first true is = none (eqb r.address address) ∙ weight_cons address (released queue r) rows ∙ sym (weight_cons address r rows)
        where
          none : (c : Bool) → weight_at address (released queue r ∷ rows) + cond c 0 0 ≡ weight_at address (released queue r ∷ rows)
          none true = omega arith
          none false = omega arith
      first false is = let cons = weight_cons address r rows in omega (arith, cons)

-- the weights that are left
module _ (d : Durable) (queue : ℕ) (id : MessageId) (row : JournaledRow) (found : find (λ (r : JournaledRow). same_id r.message.id id) d.journaled ≡ Some row) (address : ℕ) where
  abbrev fewer : ℕ → ℕ
  fewer n = weight_at n (acknowledged queue id d.journaled)

  weight_elsewhere : (n : ℕ) → row.address ≢ n → fewer n ≡ weight_at n d.journaled
  weight_elsewhere n differ =
      let less = lightened queue id n d.journaled row found in
      let none : cond (eqb row.address n) (relief_of queue id row) 0 ≡ 0 = ap (λ (b : Bool). cond b (relief_of queue id row) 0) (ne_eqb row.address n differ) in
      omega (arith, less, none)

  weight_here : (n bytes : ℕ) → row.address ≡ n → bytes ≡ relief_of queue id row → fewer n ≡ weight_at n d.journaled - bytes
  weight_here n bytes same relief =
      let less = lightened queue id n d.journaled row found in
      let some : cond (eqb row.address n) (relief_of queue id row) 0 ≡ relief_of queue id row = ap (λ (b : Bool). cond b (relief_of queue id row) 0) (eq-eqb row.address n same) in
      omega (arith, less, some, relief)

  weights_past : (base : ℕ) (rows : List AddressRow) → CountFrom base rows → row.address ≤ base → map (λ (r : AddressRow). fewer r.id) rows ≡ map (λ (r : AddressRow). weight_at r.id d.journaled) rows
  weights_past base [] counts past = refl
  weights_past base (r ∷ rows) counts past =
      ap₂ (λ (w : ℕ) (ws : List ℕ). w ∷ ws) (weight_elsewhere r.id (λ same. let first = counts.0 in omega (arith, first, same, past))) (weights_past (base + 1) rows counts.1 (omega (arith, past)))

  weights_from : (base place bytes : ℕ) (rows : List AddressRow) → CountFrom base rows → row.address ≡ address → bytes ≡ relief_of queue id row → address ≡ base + place + 1
      → map (λ (r : AddressRow). fewer r.id) rows ≡ set (map (λ (r : AddressRow). weight_at r.id d.journaled) rows) place (weight_at address d.journaled - bytes)
  weights_from base zero bytes [] counts at relief is = refl
  weights_from base (suc place) bytes [] counts at relief is = refl
  weights_from base zero bytes (r ∷ rows) counts at relief is =
      let same : r.id ≡ address = (let first = counts.0 in omega (arith, first, is)) in
      ap₂ (λ (w : ℕ) (ws : List ℕ). w ∷ ws) (ap (λ (n : ℕ). fewer n) same ∙ weight_here address bytes at relief) (weights_past (base + 1) rows counts.1 (omega (arith, is, at)))
  weights_from base (suc place) bytes (r ∷ rows) counts at relief is =
      ap₂ (λ (w : ℕ) (ws : List ℕ). w ∷ ws) (weight_elsewhere r.id (λ same. let first = counts.0 in omega (arith, first, same, is, at))) (weights_from (base + 1) place bytes rows counts.1 at relief (omega (arith, is)))

  pub weights_lightened : (place bytes : ℕ) → row.address ≡ address → bytes ≡ relief_of queue id row → IsSound d → address ≡ place + 1
      → map (λ (r : AddressRow). weight_at r.id (changed d (entry.Ack queue id)).journaled) d.addresses ≡ set (map (λ (r : AddressRow). weight_at r.id d.journaled) d.addresses) place (weight_at address d.journaled - bytes)
  weights_lightened place bytes at relief sound is = weights_from 0 place bytes d.addresses (counted d.addresses sound.addresses.numbered) at relief (omega (arith, is))

-- what is true of each message is so of those that are left
pub all_acknowledged : (queue : ℕ) (id : MessageId) (P : Message → Type 0) (rows : List JournaledRow) → All (λ row. P row.message) rows → All (λ row. P row.message) (acknowledged queue id rows)
all_acknowledged queue id P [] all = all
all_acknowledged queue id P (row ∷ rows) all =
    let head = All-head (λ (r : JournaledRow). P r.message) row rows all in
    let tail = All-tail (λ (r : JournaledRow). P r.message) row rows all in
    by (same_id row.message.id id) (is_held (released queue row)) head tail (all_acknowledged queue id P rows tail)
  where
    by : (b c : Bool) → P row.message → All (λ r. P r.message) rows → All (λ r. P r.message) (acknowledged queue id rows)
        → All (λ r. P r.message) (cond b (cond c (released queue row ∷ rows) rows) (row ∷ acknowledged queue id rows))
    by true true head tail others = All-cons (λ (r : JournaledRow). P r.message) (released queue row) rows head tail
    by true false head tail others = tail
    by false c head tail others = All-cons (λ (r : JournaledRow). P r.message) row (acknowledged queue id rows) head others
