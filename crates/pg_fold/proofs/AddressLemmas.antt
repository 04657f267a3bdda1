-- The ids of the addresses are their places, so an id is known exactly where it is a place.
use Rattle.std.proofs.Common.{◌≡◌, ◌⊎◌, refl, ℕ, ◌+◌, ◌-◌, ◌<◌, ◌≤◌, true, false, leb, eqb, List, [], ◌∷◌, ◌++◌, length, get_or, sym, ◌∙◌, ap, inl, inr, arith, length-append, eq-eqb, ne_eqb}
use Rattle.std.proofs.lemmas.Bool.{leb-true, leb-false, lt-leb, cases_lt, cases_Bool}
use Rattle.std.proofs.lemmas.List.{get_or_append_left, get_or-append_right}
use Rattle.std.proofs.lemmas.List.Folds.{list_any_at, list_any_none}
use Rattle.pg_fold.specs.declared.rows.AddressRow.{AddressRow}
use Rattle.pg_fold.specs.Rows.{has_address, AreNumbered}

known : (rows : List AddressRow) (id : ℕ) → AreNumbered rows → 1 ≤ id → id ≤ length rows → has_address rows id ≡ true
known [] id numbered low high = absurd (omega arith)
known (row ∷ rows) id numbered low high =
    let within : id - 1 < length (row ∷ rows) = omega arith in
    let place : id - 1 + 1 ≡ id = omega arith in
    list_any_at (λ r. eqb r.id id) (row ∷ rows) (id - 1) row within (eq-eqb _ _ (numbered (id - 1) row within ∙ place))

unknown : (rows : List AddressRow) (id : ℕ) → AreNumbered rows → (id < 1) ⊎ (length rows < id) → has_address rows id ≡ false
unknown rows id numbered outside =
    list_any_none (λ r. eqb r.id id) rows (λ k d within. ne_eqb _ _ (λ same. let at = numbered k d within in omega arith))

-- so it is for an id from 1 on
pub known_up_to : (rows : List AddressRow) (id : ℕ) → AreNumbered rows → 1 ≤ id → leb id (length rows) ≡ has_address rows id
known_up_to rows id numbered low =
    elim (cases_Bool (leb id (length rows))) [
      | inl high ↦ high ∙ sym (known rows id numbered low (leb-true id (length rows) high))
      | inr above ↦ above ∙ sym (unknown rows id numbered (inr (leb-false id (length rows) above)))
    ]

-- and no address has the id 0
pub unknown_zero : (rows : List AddressRow) (id : ℕ) → AreNumbered rows → id < 1 → leb 1 id ≡ has_address rows id
unknown_zero rows id numbered none = lt-leb 1 id none ∙ sym (unknown rows id numbered (inl none))

-- one more keeps that
pub numbered_push : (rows : List AddressRow) (row : AddressRow) → AreNumbered rows → row.id ≡ length rows + 1 → AreNumbered (rows ++ row ∷ [])
numbered_push rows row numbered next k d within =
    let many = length-append rows (row ∷ []) in
    elim (cases_lt k (length rows)) [
      | inl before ↦ ap (λ r. r.id) (get_or_append_left rows (row ∷ []) d k before) ∙ numbered k d before
      | inr behind ↦
          let last : k ≡ length rows = omega arith in
          let none : k - length rows ≡ 0 = omega arith in
          ap (λ r. r.id) (get_or-append_right rows (row ∷ []) (length rows) k d refl behind ∙ ap (λ n. get_or (row ∷ []) n d) none) ∙ next ∙ ap (λ n. n + 1) (sym last)
    ]
