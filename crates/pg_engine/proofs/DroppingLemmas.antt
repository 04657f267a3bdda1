-- What is left where a queue is dropped.
use Rattle.std.proofs.Common.{◌≡◌, ◌≢◌, refl, sym, ◌∙◌, ap, ap₂, ℕ, ◌+◌, ◌≤◌, Bool, true, false, not, cond, ◌||◌, eqb, ne_eqb, List, [], ◌∷◌, length, map, filter, sum_by, inl, inr, arith}
use Rattle.std.specs.List.{All}
use Rattle.std.proofs.lemmas.Bool.{cases_Bool, eqb-true, eqb-false}
use Rattle.std.proofs.lemmas.List.Elements.{All-filter, All-map}
use Rattle.std.proofs.lemmas.List.Sums.{sum_by-cons}
use Rattle.pg_msg.specs.declared.message.Message.{Message}
use Rattle.pg_msg.specs.Messages.{weight_of}
use Rattle.pg_records.specs.declared.entry.Entry.TheVariants as entry
use Rattle.pg_fold.specs.declared.durable.Durable.{Durable}
use Rattle.pg_fold.specs.declared.rows.JournaledRow.{JournaledRow}
use Rattle.pg_fold.specs.declared.rows.QueueRow.{QueueRow}
use Rattle.pg_fold.specs.Fold.{changed}
use Rattle.pg_fold.specs.Rows.{dropped, has_number, is_held, released, without_number}
use Rattle.pg_model.specs.Broker.{Queue}
use Rattle.pg_model.specs.Changes.{with_queues}
use Rattle.pg_model.specs.Changes.{without_queue as without_broker_queue}
use Rattle.pg_recover.specs.Denotation.{durable_part, held_by, queue_of, weight_at, address_of}

-- the holders but one have the others
pub number_kept : (queue id : ℕ) (numbers : List ℕ) → queue ≢ id → has_number (without_number queue numbers) id ≡ has_number numbers id
number_kept queue id [] differ = refl
number_kept queue id (n ∷ numbers) differ = elim (cases_Bool (eqb n queue)) [
  | inl here ↦
      ap (λ (b : Bool). has_number (cond (not b) (n ∷ without_number queue numbers) (without_number queue numbers)) id) here
      ∙ number_kept queue id numbers differ
      ∙ sym (ap (λ (b : Bool). b || has_number numbers id) (ne_eqb n id (λ same. differ (sym (eqb-true n queue here) ∙ same))))
  | inr elsewhere ↦
      ap (λ (b : Bool). has_number (cond (not b) (n ∷ without_number queue numbers) (without_number queue numbers)) id) elsewhere
      ∙ ap (λ (b : Bool). eqb n id || b) (number_kept queue id numbers differ)
]

apart : true ≡ false → ⊥
apart e = cc

-- who holds nothing more holds none
pub unheld : (row : JournaledRow) (id : ℕ) → is_held row ≡ false → has_number row.holders id ≡ false
unheld row id none = by row.holders none
  where
    by : (numbers : List ℕ) → not (eqb (length numbers) 0) ≡ false → has_number numbers id ≡ false
    by [] is = refl
    by (n ∷ numbers) is = elim (cases_Bool (eqb (length (n ∷ numbers)) 0)) [
      | inl none ↦ absurd (omega (arith, eqb-true (length (n ∷ numbers)) 0 none))
      | inr some ↦ absurd (apart (sym (ap not some) ∙ is))
    ]

module _ (queue : ℕ) where
  -- what another queue holds
  pub still_held : (id : ℕ) (rows : List JournaledRow) → queue ≢ id → held_by id (dropped queue rows) ≡ held_by id rows
  still_held id [] differ = refl
  still_held id (row ∷ rows) differ =
      let kept : has_number (released queue row).holders id ≡ has_number row.holders id = number_kept queue id row.holders differ in
      elim (cases_Bool (is_held (released queue row))) [
        | inl held ↦
            ap (λ (b : Bool). held_by id (cond b (released queue row ∷ dropped queue rows) (dropped queue rows))) held
            ∙ by (has_number (released queue row).holders id) (has_number row.holders id) (still_held id rows differ) kept
        | inr none ↦
            ap (λ (b : Bool). held_by id (cond b (released queue row ∷ dropped queue rows) (dropped queue rows))) none
            ∙ still_held id rows differ
            ∙ sym (ap (λ (b : Bool). map (λ (r : JournaledRow). r.message) (cond b (row ∷ filter (λ (r : JournaledRow). has_number r.holders id) rows) (filter (λ (r : JournaledRow). has_number r.holders id) rows)))
            (sym kept ∙ unheld (released queue row) id none))
      ]
    where
      by : (a b : Bool) → held_by id (dropped queue rows) ≡ held_by id rows → a ≡ b
          → map (λ (r : JournaledRow). r.message) (cond a (released queue row ∷ filter (λ (r : JournaledRow). has_number r.holders id) (dropped queue rows)) (filter (λ (r : JournaledRow). has_number r.holders id) (dropped queue rows)))
          ≡ map (λ (r : JournaledRow). r.message) (cond b (row ∷ filter (λ (r : JournaledRow). has_number r.holders id) rows) (filter (λ (r : JournaledRow). has_number r.holders id) rows))
      by true true others same = ap (λ (l : List Message). row.message ∷ l) others
      by false false others same = others
      by true false others same = cc
      by false true others same = cc

  -- the other queues have what they had
  pub queues_left : (rows : List JournaledRow) (queues : List QueueRow)
      → map (queue_of (dropped queue rows)) (filter (λ (row : QueueRow). not (eqb row.id queue)) queues) ≡ without_broker_queue queue (map (queue_of rows) queues)
  queues_left rows [] = refl
  queues_left rows (row ∷ queues) = elim (cases_Bool (eqb row.id queue)) [
    | inl here ↦ by true here (queues_left rows queues)
    | inr elsewhere ↦ by false elsewhere (queues_left rows queues)
  ]
    where
      by : (b : Bool) → eqb row.id queue ≡ b
          → map (queue_of (dropped queue rows)) (filter (λ (r : QueueRow). not (eqb r.id queue)) queues) ≡ without_broker_queue queue (map (queue_of rows) queues)
          → map (queue_of (dropped queue rows)) (filter (λ (r : QueueRow). not (eqb r.id queue)) (row ∷ queues)) ≡ without_broker_queue queue (map (queue_of rows) (row ∷ queues))
      by true is others =
          ap (λ (c : Bool). map (queue_of (dropped queue rows)) (cond (not c) (row ∷ filter (λ (r : QueueRow). not (eqb r.id queue)) queues) (filter (λ (r : QueueRow). not (eqb r.id queue)) queues))) is
          ∙ others ∙ sym (ap (λ (c : Bool). cond (not c) (queue_of rows row ∷ without_broker_queue queue (map (queue_of rows) queues)) (without_broker_queue queue (map (queue_of rows) queues))) is)
      by false is others =
          ap (λ (c : Bool). map (queue_of (dropped queue rows)) (cond (not c) (row ∷ filter (λ (r : QueueRow). not (eqb r.id queue)) queues) (filter (λ (r : QueueRow). not (eqb r.id queue)) queues))) is
          ∙ ap₂ (λ (q : Queue) (qs : List Queue). q ∷ qs) (ap (λ (messages : List Message). record { id = row.id; name = row.name; address = row.address; filter = row.filter; messages = messages }) (still_held row.id rows (λ same. eqb-false row.id queue is (sym same)))) others
          ∙ sym (ap (λ (c : Bool). cond (not c) (queue_of rows row ∷ without_broker_queue queue (map (queue_of rows) queues)) (without_broker_queue queue (map (queue_of rows) queues))) is)

  pub dropped_part : (d : Durable) → durable_part (changed d (entry.DropQueue queue)) ≡ with_queues (durable_part d) (without_broker_queue queue (durable_part d).queues)
  dropped_part d = ap (λ (queues : List Queue). record { epoch = d.epoch; next = d.next; addresses = map address_of d.addresses; queues = queues }) (queues_left d.journaled d.queues)

-- a row more weighs so much more
pub weight_cons : (address : ℕ) (row : JournaledRow) (rows : List JournaledRow) → weight_at address (row ∷ rows) ≡ cond (eqb row.address address) (weight_of row.message) 0 + weight_at address rows
weight_cons address row rows = by (eqb row.address address)
  where
    by : (b : Bool)
        → sum_by weight_of (map (λ (r : JournaledRow). r.message) (cond b (row ∷ filter (λ (r : JournaledRow). eqb r.address address) rows) (filter (λ (r : JournaledRow). eqb r.address address) rows)))
        ≡ cond b (weight_of row.message) 0 + weight_at address rows
    by true = sum_by-cons weight_of row.message (map (λ (r : JournaledRow). r.message) (filter (λ (r : JournaledRow). eqb r.address address) rows))
    by false = omega arith

-- no address has more than it had
pub lighter : (queue address : ℕ) (rows : List JournaledRow) → weight_at address (dropped queue rows) ≤ weight_at address rows
lighter queue address [] = omega arith
lighter queue address (row ∷ rows) =
    let less = lighter queue address rows in
    let before = weight_cons address row rows in
    elim (cases_Bool (is_held (released queue row))) [
      | inl held ↦
          let after : weight_at address (dropped queue (row ∷ rows)) ≡ cond (eqb row.address address) (weight_of row.message) 0 + weight_at address (dropped queue rows) =
          ap (λ (b : Bool). weight_at address (cond b (released queue row ∷ dropped queue rows) (dropped queue rows))) held ∙ weight_cons address (released queue row) (dropped queue rows) in
          omega (arith, less, before, after)
      | inr none ↦
          let after : weight_at address (dropped queue (row ∷ rows)) ≡ weight_at address (dropped queue rows) =
          ap (λ (b : Bool). weight_at address (cond b (released queue row ∷ dropped queue rows) (dropped queue rows))) none in
          omega (arith, less, before, after)
    ]

-- what is true of each message is so of those that are left
pub all_left : (queue : ℕ) (P : Message → Type 0) (rows : List JournaledRow) → All (λ row. P row.message) rows → All (λ row. P row.message) (dropped queue rows)
all_left queue P rows all =
    All-filter is_held (λ (row : JournaledRow). P row.message) (map (released queue) rows) (All-map (λ (row : JournaledRow). P row.message) (released queue) rows all)
