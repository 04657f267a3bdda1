-- Laws of rows that stand in the order of their ids.
use Rattle.std.proofs.Common.{◌≡◌, ◌<◌, ℕ, Bool, true, nat_lt, List, [], ◌∷◌, ◌++◌, refl, ap₂, inl, inr, arith}
use Rattle.std.proofs.lemmas.Grind.{common_steps}
use Rattle.std.proofs.lemmas.Bool.{cases_Bool}
use Rattle.std.proofs.lemmas.Bool.Decides.{nat_tests}
use Rattle.std.proofs.lemmas.List.Elements.{All-head, All-tail}
use Rattle.std.proofs.lemmas.Slice.Eq.{bytes_eq-Decides}
use Rattle.std.specs.Prelude.{All, Some, None, filter, find}
use Rattle.std.specs.Option.{option_map}
use Rattle.std.specs.Str.{bytes_eq}

-- where all ids are smaller, the smaller ones are all and there are no greater ones
pub all_smaller : {R : Type 0} (id_of : R → ℕ) (id : ℕ) (rows : List R) → All (λ row. id_of row < id) rows
    → (filter (λ row. nat_lt (id_of row) id) rows ≡ rows) × (filter (λ row. nat_lt id (id_of row)) rows ≡ [])
all_smaller id_of id [] below = (refl, refl)
all_smaller id_of id (row ∷ rows) below =
    let first : id_of row < id = All-head (λ r. id_of r < id) row rows below in
    let rest = all_smaller id_of id rows (All-tail (λ r. id_of r < id) row rows below) in
    (grind (arith, common_steps, nat_tests, first, rest.0), grind (arith, common_steps, nat_tests, first, rest.1))

pub goes_last : {R : Type 0} (id_of : R → ℕ) (one : R) (rows : List R) → All (λ row. id_of row < id_of one) rows
    → filter (λ row. nat_lt (id_of row) (id_of one)) rows ++ (one ∷ filter (λ row. nat_lt (id_of one) (id_of row)) rows) ≡ rows ++ one ∷ []
goes_last id_of one rows below =
    let parts = all_smaller id_of (id_of one) rows below in
    ap₂ (λ (xs ys : List _). xs ++ (one ∷ ys)) parts.0 parts.1

-- where no row passes, none of some of them does, and one behind them that passes is the first
pub first_behind : {R : Type 0} (test keep : R → Bool) (id_of : R → ℕ) (one : R) (rows more : List R) → option_map id_of (find test rows) ≡ None → test one ≡ true
    → option_map id_of (find test (filter keep rows ++ (one ∷ more))) ≡ Some (id_of one)
first_behind test keep id_of one [] more none passes = grind (arith, common_steps, passes)
first_behind test keep id_of one (row ∷ rows) more none passes =
    elim (cases_Bool (test row)) [
      | inl here ↦ absurd (grind (arith, common_steps, here, none))
      | inr fails ↦
          let rest = first_behind test keep id_of one rows more (grind (arith, common_steps, fails, none)) passes in
          elim (cases_Bool (keep row)) [
            | inl kept ↦ grind (arith, common_steps, kept, fails, rest)
            | inr gone ↦ grind (arith, common_steps, gone, rest)
          ]
    ]

pub itself : (name : List ℕ) → bytes_eq name name ≡ true
itself name = (bytes_eq-Decides name name).1 refl
