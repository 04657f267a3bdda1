-- Where the ids of queues ascend, a binary search finds a queue or tells that there is none.
use Rattle.std.proofs.Common.{◌≡◌, ◌≢◌, ℕ, ◌+◌, ◌-◌, ◌<◌, ◌≤◌, true, false, ◌&&◌, eqb, List, [], ◌∷◌, ◌++◌, length, get_or, Ok, Err, sym, ◌∙◌, ap, inl, inr, arith, eqb-true, eq-eqb, ltb, ne_eqb}
use Rattle.std.specs.Prelude.{Option, Some, None, IfSome, IfNone, is_some}
use Rattle.std.specs.List.{position, position_or_len}
use Rattle.std.specs.List.Sorted.{IsBinarySearchResult, IsNonDecreasingBy}
use Rattle.std.specs.Ordering.{nat_cmp, ordering_index}
use Rattle.std.proofs.lemmas.Cmp.{ranked}
use Rattle.std.proofs.lemmas.Bool.{cond-true, lt-ltb, cases_lt, cases_eq, cases_order, cases_Bool, and_left, and_right, and_from}
use Rattle.std.proofs.lemmas.Bool.Decides.{nat_tests}
use Rattle.std.proofs.lemmas.List.{get_or_default}
use Rattle.std.proofs.lemmas.List.Folds.{list_any_at, list_any_none}
use Rattle.std.proofs.lemmas.List.Quantifiers.{all_pairs_push, position-Some}
use Rattle.std.proofs.lemmas.List.Sums.{fails_before_first}
use Rattle.std.proofs.lemmas.Option.{none-some}
use Rattle.pg_fold.specs.declared.rows.QueueRow.{QueueRow}
use Rattle.pg_fold.specs.Rows.{has_queue, has_queue_at, AreAscending, IsBehind, IsPlaceOf}

module _ (rows : List QueueRow) (ascending : AreAscending rows) (id : ℕ) where
  -- what a search compares rises along the rows
  rises : IsNonDecreasingBy (λ row. ordering_index (nat_cmp row.id id)) rows
  rises i j d le within =
      elim (cases_eq i j) [
        | inl same ↦ let at = ap (λ n. ordering_index (nat_cmp (get_or rows n d).id id)) same in omega arith
        | inr differ ↦ let less = ascending i j d (omega arith) within in higher (get_or rows i d).id (get_or rows j d).id (omega arith)
      ]
    where
      higher : (a b : ℕ) → a ≤ b → ordering_index (nat_cmp a id) ≤ ordering_index (nat_cmp b id)
      higher a b le = grind (arith, nat_tests)

  -- a search that ended at none tells that each queue has another id
  other_id : (place : ℕ) → IsBinarySearchResult (λ row. nat_cmp row.id id) rows (Err place) → (k : ℕ) (d : QueueRow) → k < length rows → (get_or rows k d).id ≢ id
  other_id place parted k d within same = elim (cases_lt k place) [
    | inl before ↦ let less = ranked _ id _ (sym ((parted rises).0 k d (omega arith) before)) in omega arith
    | inr behind ↦ let more = ranked _ id _ (sym ((parted rises).1 k d behind within)) in omega arith
  ]

  -- so no queue has this one
  pub none_has : (place : ℕ) → IsBinarySearchResult (λ row. nat_cmp row.id id) rows (Err place) → has_queue rows id ≡ false
  none_has place parted = list_any_none (λ r. eqb r.id id) rows (λ k d within. ne_eqb (get_or rows k d).id id (other_id place parted k d within))

-- where a search ended, the queue has the id
pub place_found : (rows : List QueueRow) (id place : ℕ) → place < length rows → IsBinarySearchResult (λ row. nat_cmp row.id id) rows (Ok place) → IsPlaceOf rows id place
place_found rows id place within equal = (within, λ d. ranked _ id _ (sym (equal d)))

-- so it has at the first place of the id, without which no queue has it
pub first_place : (rows : List QueueRow) (id : ℕ) (place : Option ℕ) → place ≡ position (λ row. eqb row.id id) rows → IfSome place (IsPlaceOf rows id) × IfNone place (has_queue rows id ≡ false)
first_place [] id (Some place) is = absurd (none-some place (sym is))
first_place (row ∷ rows) id (Some place) is =
    let here = position-Some (λ r. eqb r.id id) (row ∷ rows) place in
    (((here row (sym is)).0, λ d. eqb-true _ _ (here d (sym is)).1), tt)
first_place rows id None is = (
  tt,
  elim (cases_lt (position_or_len (λ r. eqb r.id id) rows) (length rows)) [
    | inl found ↦ absurd (none-some (position_or_len (λ r. eqb r.id id) rows) (is ∙ cond-true (ltb (position_or_len (λ r. eqb r.id id) rows) (length rows)) _ _ (lt-ltb _ _ found)))
    | inr past ↦ list_any_none (λ r. eqb r.id id) rows (λ k d within. fails_before_first (λ r. eqb r.id id) rows k d (omega (arith, within, past)))
  ],
)

-- a place tells that there is a queue
pub is_there : (rows : List QueueRow) (id : ℕ) (place : Option ℕ) → IfSome place (IsPlaceOf rows id) → IfNone place (has_queue rows id ≡ false) → is_some place ≡ has_queue rows id
is_there rows id None found none = sym none
is_there [] id (Some place) found none = absurd (omega (arith, found.0))
is_there (row ∷ rows) id (Some place) found none = sym (list_any_at (λ r. eqb r.id id) (row ∷ rows) place row found.0 (eq-eqb _ _ (found.1 row)))

module _ (rows : List QueueRow) (ascending : AreAscending rows) (address id : ℕ) where
  -- the queue is at this place, so it is at no other
  pub found_at : (place : ℕ) (row : QueueRow) → place < length rows → row ≡ get_or rows place row → row.id ≡ id → eqb row.address address ≡ has_queue_at rows address id
  found_at place row within is same =
      elim (cases_Bool (eqb row.address address)) [
        | inl here ↦
            let passes : eqb row.id id && eqb row.address address ≡ true = and_from _ _ (eq-eqb _ _ same) here in
            here ∙ sym (list_any_at (λ r. eqb r.id id && eqb r.address address) rows place row within (ap (λ r. eqb r.id id && eqb r.address address) (sym is) ∙ passes))
        | inr elsewhere ↦ elsewhere ∙ sym (list_any_none (λ r. eqb r.id id && eqb r.address address) rows (fails elsewhere))
      ]
    where
      -- what is read at the place is the row, whatever the default
      read : (d : QueueRow) → get_or rows place d ≡ row
      read d = get_or_default rows place d row within ∙ sym is

      fails : eqb row.address address ≡ false → (k : ℕ) (d : QueueRow) → k < length rows → eqb (get_or rows k d).id id && eqb (get_or rows k d).address address ≡ false
      fails elsewhere k d inside =
          elim (cases_order k place) [
            | inl at ↦ and_right _ _ (ap (λ r. eqb r.address address) (ap (λ n. get_or rows n d) at ∙ read d) ∙ elsewhere)
            | inr (inl below) ↦ and_left _ _ (ne_eqb (get_or rows k d).id id (λ e. let less = ascending k place d below within in let that = ap (λ r. r.id) (read d) in omega arith))
            | inr (inr above) ↦ and_left _ _ (ne_eqb (get_or rows k d).id id (λ e. let less = ascending place k d above inside in let that = ap (λ r. r.id) (read d) in omega arith))
          ]

  -- a search that ended at a place found the queue there
  pub found : (place : ℕ) (row : QueueRow) → place < length rows → row ≡ get_or rows place row → IsBinarySearchResult (λ row. nat_cmp row.id id) rows (Ok place)
      → eqb row.address address ≡ has_queue_at rows address id
  found place row within is equal = found_at place row within is (ap (λ r. r.id) is ∙ ranked _ id _ (sym (equal row)))

  -- and one that ended at none tells that there is none
  pub absent : (place : ℕ) → IsBinarySearchResult (λ row. nat_cmp row.id id) rows (Err place) → false ≡ has_queue_at rows address id
  absent place parted =
      sym (list_any_none (λ r. eqb r.id id && eqb r.address address) rows (λ k d within. and_left _ _ (ne_eqb (get_or rows k d).id id (other_id rows ascending id place parted k d within))))

-- one more whose id is above that of the last
pub ascending_push : (rows : List QueueRow) (row : QueueRow) → AreAscending rows → IsBehind row rows → AreAscending (rows ++ row ∷ [])
ascending_push rows row ascending behind =
    all_pairs_push (λ row other. row.id < other.id) rows row ascending (λ k d within. elim (cases_eq (k + 1) (length rows)) [
      | inl last ↦ behind k d last
      | inr before ↦
          let next : length rows - 1 < length rows = omega arith in
          let least = ascending k (length rows - 1) d (omega arith) next in
          let top = behind (length rows - 1) d (omega arith) in
          omega arith
    ])
