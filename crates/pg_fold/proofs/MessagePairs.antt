-- What holds of each message, or of each two by their ids, as messages and holders go.
use Rattle.std.proofs.Common.{◌≡◌, ℕ, suc, true, List, [], ◌∷◌, map, arith}
use Rattle.std.specs.List.{All, AllPairs}
use Rattle.std.proofs.lemmas.Bool.{cond_both}
use Rattle.std.proofs.lemmas.List.Elements.{All-cons, All-head, All-map, All-tail}
use Rattle.std.proofs.lemmas.List.Kept.{AllPairs-cons}
use Rattle.pg_msg.specs.declared.message.MessageId.{MessageId}
use Rattle.pg_fold.specs.declared.rows.JournaledRow.{JournaledRow}
use Rattle.pg_fold.specs.Rows.{acknowledged, is_held, released, same_id, with_row}

-- What an acknowledgement leaves has what each message has, where it stays as holders go.
pub all_acknowledged : (P : JournaledRow → Type 0) (queue : ℕ) (id : MessageId) → ((row : JournaledRow) → is_held (released queue row) ≡ true → P row → P (released queue row)) → (rows : List JournaledRow) → All P rows
    → All P (acknowledged queue id rows)
all_acknowledged P queue id stays [] all = all
all_acknowledged P queue id stays (row ∷ rows) all =
    let here = All-head P row rows all in
    let others = All-tail P row rows all in
    cond_both (same_id row.message.id id) (with_row (released queue row) rows) (row ∷ acknowledged queue id rows) (All P)
    (λ _. cond_both (is_held (released queue row)) (released queue row ∷ rows) rows (All P) (λ held. All-cons P (released queue row) rows (stays row held here) others) (λ _. others))
    (λ _. All-cons P row (acknowledged queue id rows) here (all_acknowledged P queue id stays rows others))

module _ (R : MessageId → MessageId → Type 0) where
  abbrev pub By : JournaledRow → JournaledRow → Type 0
  By row other = R row.message.id other.message.id

  -- the first of some of which it holds in pairs, and those behind it
  pairs_head : (x : JournaledRow) (xs : List JournaledRow) → AllPairs By (x ∷ xs) → All (By x) xs
  pairs_head x xs pairs k d lt = pairs 0 (suc k) d (omega arith) (omega (arith, lt))

  pairs_tail : (x : JournaledRow) (xs : List JournaledRow) → AllPairs By (x ∷ xs) → AllPairs By xs
  pairs_tail x xs pairs i j d less lt = pairs (suc i) (suc j) d (omega (arith, less)) (omega (arith, lt))

  -- messages of which holders go are the same messages
  pub pairs_released : (queue : ℕ) (rows : List JournaledRow) → AllPairs By rows → AllPairs By (map (released queue) rows)
  pairs_released queue [] pairs = λ i j d less lt. absurd (omega (arith, lt))
  pairs_released queue (row ∷ rows) pairs =
      AllPairs-cons By (released queue row) (map (released queue) rows) (All-map (By row) (released queue) rows (pairs_head row rows pairs)) (pairs_released queue rows (pairs_tail row rows pairs))

  pub pairs_acknowledged : (queue : ℕ) (id : MessageId) (rows : List JournaledRow) → AllPairs By rows → AllPairs By (acknowledged queue id rows)
  pairs_acknowledged queue id [] pairs = pairs
  pairs_acknowledged queue id (row ∷ rows) pairs =
      let here = pairs_head row rows pairs in
      let others = pairs_tail row rows pairs in
      cond_both (same_id row.message.id id) (with_row (released queue row) rows) (row ∷ acknowledged queue id rows) (AllPairs By)
      (λ _. cond_both (is_held (released queue row)) (released queue row ∷ rows) rows (AllPairs By) (λ _. AllPairs-cons By (released queue row) rows here others) (λ _. others))
      (λ _. AllPairs-cons By row (acknowledged queue id rows) (all_acknowledged (By row) queue id (λ other _ is. is) rows here) (pairs_acknowledged queue id rows others))
