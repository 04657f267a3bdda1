-- The durable part that a folded state stands for, after an address, a queue or a message more.
use Rattle.std.proofs.Common.{◌≡◌, ◌≢◌, refl, sym, ◌∙◌, ap, ap₂, ℕ, zero, suc, ◌+◌, ◌<◌, ◌≤◌, Bool, true, false, cond, ◌&&◌, ◌||◌, eqb, List, [], ◌∷◌, ◌++◌, length, get_or, set, map, filter, sum_by, All, append-nil, eq-eqb, ne_eqb, inl, inr, arith}
use Rattle.std.specs.List.{AllByRecursion, list_all}
use Rattle.std.proofs.lemmas.Bool.{cases_Bool, cases_eq, and_parts, false_from_ne_true, eqb-true, or_from}
use Rattle.std.proofs.lemmas.List.{map-append}
use Rattle.std.proofs.lemmas.List.Elements.{filter-append, recursion_from_All}
use Rattle.std.proofs.lemmas.List.Sums.{sum_by_push}
use Rattle.pg_msg.specs.declared.message.Message.{Message}
use Rattle.pg_msg.specs.Messages.{weight_of}
use Rattle.pg_records.specs.declared.entry.Entry.TheVariants as entry
use Rattle.pg_fold.specs.declared.durable.Durable.{Durable}
use Rattle.pg_fold.specs.declared.rows.AddressRow.{AddressRow}
use Rattle.pg_fold.specs.declared.rows.JournaledRow.{JournaledRow}
use Rattle.pg_fold.specs.declared.rows.QueueRow.{QueueRow}
use Rattle.pg_fold.specs.Fold.{changed}
use Rattle.pg_fold.specs.Rows.{has_address, has_number, has_queue_at, AreNumbered, AreAscending}
use Rattle.pg_fold.specs.Sound.{IsHeldRow, IsSound}
use Rattle.pg_model.specs.Broker.{Address, Queue}
use Rattle.pg_model.specs.Changes.{given, with_address, with_queue, with_queues}
use Rattle.pg_recover.specs.Denotation.{held_by, held_at, weight_at, address_of, queue_of, durable_part}

-- a test that no element passes leaves none
none_left : {X : Type 0} (test : X → Bool) (xs : List X) → AllByRecursion (λ x. test x ≡ false) xs → filter test xs ≡ []
none_left test [] fails = refl
none_left test (x ∷ xs) fails = ap (λ b. cond b (x ∷ filter test xs) (filter test xs)) fails.0 ∙ none_left test xs fails.1

-- the ids count up, and the first is one more than this
abbrev pub CountFrom : ℕ → List AddressRow → Type 0
CountFrom base [] = Unit {0}
CountFrom base (row ∷ rows) = (row.id ≡ base + 1) × CountFrom (base + 1) rows

count_from : (base : ℕ) (rows : List AddressRow) → ((k : ℕ) (d : AddressRow) → k < length rows → (get_or rows k d).id ≡ base + k + 1) → CountFrom base rows
count_from base [] at = tt
count_from base (row ∷ rows) at =
    (omega (arith, at 0 row (omega arith)), count_from (base + 1) rows (λ k d within. let here = at (suc k) d (omega (arith, within)) in omega (arith, here)))

pub counted : (rows : List AddressRow) → AreNumbered rows → CountFrom 0 rows
counted rows numbered = count_from 0 rows (λ k d within. let here = numbered k d within in omega (arith, here))

-- an id that an address has is a place, from 1
placed_from : (base id : ℕ) (rows : List AddressRow) → CountFrom base rows → has_address rows id ≡ true → (base < id) × (id ≤ base + length rows)
placed_from base id [] counts there = cc
placed_from base id (row ∷ rows) counts there =
    elim (cases_eq row.id id) [
      | inl same ↦ let first = counts.0 in (omega arith, omega arith)
      | inr differ ↦
          let later = placed_from (base + 1) id rows counts.1 (sym (ap (λ b. b || has_address rows id) (ne_eqb row.id id differ)) ∙ there) in
          (omega (arith, later.0), omega (arith, later.1))
    ]

pub placed : (rows : List AddressRow) (id : ℕ) → AreNumbered rows → has_address rows id ≡ true → (1 ≤ id) × (id ≤ length rows)
placed rows id numbered there = let between = placed_from 0 id rows (counted rows numbered) there in (omega (arith, between.0), omega (arith, between.1))

-- the id behind the last one is new
pub new_behind : (rows : List AddressRow) (id : ℕ) → AreNumbered rows → id ≡ length rows + 1 → has_address rows id ≡ false
new_behind rows id numbered is = false_from_ne_true (has_address rows id) (λ there. let between = placed rows id numbered there in omega (arith, between.1, is))

-- a queue that is one of the address is one of those below the next number
below_next : (next address id : ℕ) (queues : List QueueRow) → AllByRecursion (λ row. row.id < next) queues → has_queue_at queues address id ≡ true → id < next
below_next next address id [] below there = cc
below_next next address id (row ∷ queues) below there =
    elim (cases_Bool (eqb row.id id && eqb row.address address)) [
      | inl here ↦ let same = eqb-true row.id id (and_parts _ _ here).0 in omega (arith, below.0, same)
      | inr elsewhere ↦ below_next next address id queues below.1 (sym (ap (λ b. b || has_queue_at queues address id) elsewhere) ∙ there)
    ]

-- no message names a number that no queue has yet
unheld : (next address : ℕ) (queues : List QueueRow) (holders : List ℕ) → AllByRecursion (λ row. row.id < next) queues → list_all (has_queue_at queues address) holders ≡ true → has_number holders next ≡ false
unheld next address queues [] below live = refl
unheld next address queues (holder ∷ holders) below live =
    let parts = and_parts (has_queue_at queues address holder) (list_all (has_queue_at queues address) holders) live in
    let less = below_next next address holder queues below parts.0 in
    or_from _ _ (ne_eqb holder next (λ same. omega (arith, less, same))) (unheld next address queues holders below parts.1)

none_by_next : (addresses : List AddressRow) (queues : List QueueRow) (next : ℕ) (rows : List JournaledRow) → AllByRecursion (λ row. row.id < next) queues → AllByRecursion (IsHeldRow addresses queues) rows
    → AllByRecursion (λ row. has_number row.holders next ≡ false) rows
none_by_next addresses queues next [] below held = tt
none_by_next addresses queues next (row ∷ rows) below held = (unheld next row.address queues row.holders below held.0.holders, none_by_next addresses queues next rows below held.1)

none_at_next : (addresses : List AddressRow) (queues : List QueueRow) (rows : List JournaledRow) → AreNumbered addresses → AllByRecursion (IsHeldRow addresses queues) rows
    → AllByRecursion (λ row. eqb row.address (length addresses + 1) ≡ false) rows
none_at_next addresses queues [] numbered held = tt
none_at_next addresses queues (row ∷ rows) numbered held =
    let between = placed addresses row.address numbered held.0.placed in
    (ne_eqb row.address (length addresses + 1) (λ same. omega (arith, between.1, same)), none_at_next addresses queues rows numbered held.1)

-- nothing is held for the next address, and nothing by the next queue
pub nothing_at : (d : Durable) → IsSound d → held_at (length d.addresses + 1) d.journaled ≡ []
nothing_at d sound =
    ap (map (λ row. row.message)) (none_left (λ row. eqb row.address (length d.addresses + 1)) d.journaled
    (none_at_next d.addresses d.queues d.journaled sound.addresses.numbered (recursion_from_All (IsHeldRow d.addresses d.queues) d.journaled sound.held)))

pub nothing_by : (d : Durable) → IsSound d → held_by d.next d.journaled ≡ []
nothing_by d sound =
    ap (map (λ row. row.message)) (none_left (λ row. has_number row.holders d.next) d.journaled
    (none_by_next d.addresses d.queues d.next d.journaled (recursion_from_All (λ row. row.id < d.next) d.queues sound.queues.below) (recursion_from_All (IsHeldRow d.addresses d.queues) d.journaled sound.held)))

-- a further address
pub with_address_part : (d : Durable) (name : List ℕ) (max page ahead dup : ℕ) → durable_part (changed d (entry.Address (length d.addresses + 1) name max page ahead dup))
    ≡ with_address (durable_part d) name (record { max = max; page = page; ahead = ahead; dup = dup })
with_address_part d name max page ahead dup =
    let row : AddressRow = record { id = length d.addresses + 1; name = name; max = max; page = page; ahead = ahead; dup = dup; first = 1 } in
    ap (λ (addresses : List Address). record { epoch = d.epoch; next = d.next; addresses = addresses; queues = map (queue_of d.journaled) d.queues }) (map-append address_of d.addresses (row ∷ []))

-- and a further queue, which has no messages
pub with_queue_part : (d : Durable) (address : ℕ) (name filter : List ℕ) → IsSound d → durable_part (changed d (entry.Queue d.next address name filter)) ≡ with_queue (durable_part d) name address filter
with_queue_part d address name filter sound =
    let row : QueueRow = record { id = d.next; address = address; name = name; filter = filter } in
    ap (λ (queues : List Queue). record { epoch = d.epoch; next = d.next + 1; addresses = map address_of d.addresses; queues = queues }) (
    map-append (queue_of d.journaled) d.queues (row ∷ [])
    ∙ ap (λ (messages : List Message). map (queue_of d.journaled) d.queues ++ (record { id = d.next; name = name; address = address; filter = filter; messages = messages } ∷ [])) (nothing_by d sound)
    )

-- a message more, at the address with this id and for these queues
module _ (rows : List JournaledRow) (address : ℕ) (holders : List ℕ) (m : Message) where
  abbrev pub more : List JournaledRow
  more = rows ++ (record { address = address; message = m; holders = holders } ∷ [])

  held_at_more : (id : ℕ) (b : Bool) → eqb address id ≡ b → held_at id more ≡ held_at id rows ++ cond b (m ∷ []) []
  held_at_more id b is =
      let new : JournaledRow = record { address = address; message = m; holders = holders } in
      ap (map (λ row. row.message)) (filter-append (λ row. eqb row.address id) rows (new ∷ []))
      ∙ map-append (λ row. row.message) (filter (λ row. eqb row.address id) rows) (filter (λ row. eqb row.address id) (new ∷ []))
      ∙ ap (λ c. held_at id rows ++ map (λ row. row.message) (cond c (new ∷ []) [])) is
      ∙ ap (λ ms. held_at id rows ++ ms) (inside b new)
    where
      inside : (c : Bool) (new : JournaledRow) → map (λ row. row.message) (cond c (new ∷ []) []) ≡ cond c (new.message ∷ []) []
      inside true new = refl
      inside false new = refl

  held_by_more : (queue : ℕ) (b : Bool) → has_number holders queue ≡ b → held_by queue more ≡ held_by queue rows ++ cond b (m ∷ []) []
  held_by_more queue b is =
      let new : JournaledRow = record { address = address; message = m; holders = holders } in
      ap (map (λ row. row.message)) (filter-append (λ row. has_number row.holders queue) rows (new ∷ []))
      ∙ map-append (λ row. row.message) (filter (λ row. has_number row.holders queue) rows) (filter (λ row. has_number row.holders queue) (new ∷ []))
      ∙ ap (λ c. held_by queue rows ++ map (λ row. row.message) (cond c (new ∷ []) [])) is
      ∙ ap (λ ms. held_by queue rows ++ ms) (inside b new)
    where
      inside : (c : Bool) (new : JournaledRow) → map (λ row. row.message) (cond c (new ∷ []) []) ≡ cond c (new.message ∷ []) []
      inside true new = refl
      inside false new = refl

  pub held_here : (id : ℕ) → address ≡ id → held_at id more ≡ held_at id rows ++ (m ∷ [])
  held_here id same = held_at_more id true (eq-eqb address id same)

  pub held_elsewhere : (id : ℕ) → address ≢ id → held_at id more ≡ held_at id rows
  held_elsewhere id differ = held_at_more id false (ne_eqb address id differ) ∙ append-nil (held_at id rows)

  pub weight_here : (id : ℕ) → address ≡ id → weight_at id more ≡ weight_at id rows + weight_of m
  weight_here id same = ap (sum_by weight_of) (held_here id same) ∙ sum_by_push weight_of (held_at id rows) m

  pub weight_elsewhere : (id : ℕ) → address ≢ id → weight_at id more ≡ weight_at id rows
  weight_elsewhere id differ = ap (sum_by weight_of) (held_elsewhere id differ)

  weights_past : (base : ℕ) (addresses : List AddressRow) → CountFrom base addresses → address ≤ base → map (λ row. weight_at row.id more) addresses ≡ map (λ row. weight_at row.id rows) addresses
  weights_past base [] counts past = refl
  weights_past base (row ∷ addresses) counts past =
      ap₂ (λ (w : ℕ) (ws : List ℕ). w ∷ ws) (weight_elsewhere row.id (λ same. let first = counts.0 in omega arith)) (weights_past (base + 1) addresses counts.1 (omega (arith, past)))

  weights_from : (base place : ℕ) (addresses : List AddressRow) → CountFrom base addresses → address ≡ base + place + 1
      → map (λ row. weight_at row.id more) addresses ≡ set (map (λ row. weight_at row.id rows) addresses) place (weight_at address rows + weight_of m)
  weights_from base zero [] counts is = refl
  weights_from base (suc place) [] counts is = refl
  weights_from base zero (row ∷ addresses) counts is =
      let same : row.id ≡ address = (let first = counts.0 in omega arith) in
      ap₂ (λ (w : ℕ) (ws : List ℕ). w ∷ ws) (ap (λ id. weight_at id more) same ∙ weight_here address refl) (weights_past (base + 1) addresses counts.1 (omega (arith, is)))
  weights_from base (suc place) (row ∷ addresses) counts is =
      ap₂ (λ (w : ℕ) (ws : List ℕ). w ∷ ws) (weight_elsewhere row.id (λ same. let first = counts.0 in omega arith)) (weights_from (base + 1) place addresses counts.1 (omega (arith, is)))

  abbrev has : QueueRow → List Message → Queue
  has row messages = record { id = row.id; name = row.name; address = row.address; filter = row.filter; messages = messages }

  given_one : (row : QueueRow) (b : Bool) → has_number holders row.id ≡ b → queue_of more row ≡ cond b (has row (held_by row.id rows ++ (m ∷ []))) (has row (held_by row.id rows))
  given_one row true told = ap (has row) (held_by_more row.id true told)
  given_one row false told = ap (has row) (held_by_more row.id false told ∙ append-nil (held_by row.id rows))

  pub queues_given : (queues : List QueueRow) → map (queue_of more) queues ≡ given holders m (map (queue_of rows) queues)
  queues_given [] = refl
  queues_given (row ∷ queues) = ap₂ (λ (q : Queue) (qs : List Queue). q ∷ qs) (given_one row (has_number holders row.id) refl) (queues_given queues)

-- each pair, as a fact of the first and the others
abbrev pub Ascend : List QueueRow → Type 0
Ascend [] = Unit {0}
Ascend (row ∷ rows) = All (λ other. row.id < other.id) rows × Ascend rows

pub ascend : (rows : List QueueRow) → AreAscending rows → Ascend rows
ascend [] pairs = tt
ascend (row ∷ rows) pairs = (λ k d within. pairs 0 (suc k) d (omega arith) (omega (arith, within)), ascend rows (λ i j d less within. pairs (suc i) (suc j) d (omega (arith, less)) (omega (arith, within))))

-- a further message is given to its queues
pub with_message_part : (d : Durable) (address : ℕ) (numbers : List ℕ) (m : Message) → durable_part (changed d (entry.Add address numbers m)) ≡ with_queues (durable_part d) (given numbers m (durable_part d).queues)
with_message_part d address numbers m =
    ap (λ (queues : List Queue). record { epoch = d.epoch; next = d.next; addresses = map address_of d.addresses; queues = queues }) (queues_given d.journaled address numbers m d.queues)

-- the weights after it
pub weights_with_message : (d : Durable) (address place : ℕ) (numbers : List ℕ) (m : Message) → IsSound d → address ≡ place + 1
    → map (λ row. weight_at row.id (changed d (entry.Add address numbers m)).journaled) d.addresses ≡ set (map (λ row. weight_at row.id d.journaled) d.addresses) place (weight_at address d.journaled + weight_of m)
weights_with_message d address place numbers m sound is = weights_from d.journaled address numbers m 0 place d.addresses (counted d.addresses sound.addresses.numbered) (omega (arith, is))
