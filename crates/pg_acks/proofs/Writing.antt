-- What two writes to the map of runs make of each page.
use Rattle.std.proofs.Common.{◌≡◌, ◌==◌, ◌&&◌, ◌+◌, ◌<◌, ◌≤◌, ◌⊎◌, ◌^◌, ℕ, Bool, true, false, if◌then◌else◌, inl, inr, sym, ap, ◌∙◌, arith}
use Rattle.std.proofs.lemmas.Grind.{common_steps}
use Rattle.std.proofs.lemmas.Bool.{cases_Bool, cases_eq, cases_lt}
use Rattle.std.proofs.lemmas.Bool.Decides.{nat_tests}
use Rattle.std.specs.Prelude.{Option, Some, None}
use Rattle.std.specs.BTreeMap.{BTreeMap, Updates}
use Rattle.pg_acks.specs.Keys.{At, Key, key_cmp, same_at}
use Rattle.pg_acks.specs.Runs.{AreRuns, joined, starts}
use Rattle.pg_acks.proofs.Joining.{none_past}
use Rattle.pg_acks.proofs.Keys.{finds_key, same_ats}

pub itself : (at : At) → same_at at at ≡ true
itself at = grind (arith, common_steps)

-- one write changes one index of one page
pub written : (runs new : BTreeMap Key ℕ) (at : At) (first : ℕ) (to : Option ℕ) → Updates key_cmp runs new (at, first) to → (other : At) (k : ℕ)
    → starts new other k ≡ (if same_at at other && (k == first) then to else starts runs other k)
written runs new at first to updates other k = updates.0 (other, k) ∙ ap (λ (b : Bool). if b then to else starts runs other k) (finds_key (at, first) (other, k))

pub joined_both : (runs with new : BTreeMap Key ℕ) (at : At) (first index next last : ℕ) → Updates key_cmp runs with (at, first) (Some last) → Updates key_cmp with new (at, next) None → next ≡ index + 1
    → (other : At) (k : ℕ) → starts new other k ≡ (if same_at at other then joined (starts runs at) first index last k else starts runs other k)
joined_both runs with new at first index next last put taken is other k = by (cases_Bool (same_at at other))
  where
    one : starts with other k ≡ (if same_at at other && (k == first) then Some last else starts runs other k)
    one = written runs with at first (Some last) put other k

    two : starts new other k ≡ (if same_at at other && (k == next) then None else starts with other k)
    two = written with new at next None taken other k

    by : (same_at at other ≡ true) ⊎ (same_at at other ≡ false) → starts new other k ≡ (if same_at at other then joined (starts runs at) first index last k else starts runs other k)
    by (inr elsewhere) = grind (arith, common_steps, elsewhere, one, two)
    by (inl here) =
        let same : other ≡ at = sym (same_ats at other here) in
        let base : starts runs other k ≡ starts runs at k = ap (λ (a : At). starts runs a k) same in
        grind (arith, common_steps, here, base, one, two, is)

pub joined_one : (runs with : BTreeMap Key ℕ) (at : At) (first index last : ℕ) → AreRuns (starts runs at) → Updates key_cmp runs with (at, first) (Some last) → first ≤ index → 2 ^ 32 ≤ index + 1
    → (other : At) (k : ℕ) → starts with other k ≡ (if same_at at other then joined (starts runs at) first index last k else starts runs other k)
joined_one runs with at first index last are put le past other k = by (cases_Bool (same_at at other)) (cases_eq k (index + 1))
  where
    one : starts with other k ≡ (if same_at at other && (k == first) then Some last else starts runs other k)
    one = written runs with at first (Some last) put other k

    by : (same_at at other ≡ true) ⊎ (same_at at other ≡ false) → (k ≡ index + 1) ⊎ (k ≡ index + 1 → ⊥) → starts with other k ≡ (if same_at at other then joined (starts runs at) first index last k else starts runs other k)
    by (inr elsewhere) _ = grind (arith, common_steps, elsewhere, one)
    by (inl here) (inr apart) =
        let base : starts runs other k ≡ starts runs at k = ap (λ (a : At). starts runs a k) (sym (same_ats at other here)) in
        grind (arith, common_steps, nat_tests, here, apart, base, one)
    by (inl here) (inl same) =
        let base : starts runs other k ≡ starts runs at k = ap (λ (a : At). starts runs a k) (sym (same_ats at other here)) in
        let none : starts runs at k ≡ None = none_past (starts runs at) are k (omega (arith, same, past)) in
        grind (arith, common_steps, nat_tests, here, same, base, none, one, le)

-- ---- a page's runs are taken out, one by one
-- another page stands as it did, and what is not there isn't there either
pub taken_others : (runs new : BTreeMap Key ℕ) (at : At) (first : ℕ) → Updates key_cmp runs new (at, first) None → (other : At) (k : ℕ) → same_at at other ≡ false → starts new other k ≡ starts runs other k
taken_others runs new at first updates other k elsewhere = grind (arith, common_steps, elsewhere, written runs new at first None updates other k)

pub taken_none : (runs new : BTreeMap Key ℕ) (at : At) (first : ℕ) → Updates key_cmp runs new (at, first) None → (k : ℕ) → starts runs at k ≡ None → starts new at k ≡ None
taken_none runs new at first updates k none = by (cases_Bool (same_at at at && (k == first)))
  where
    one : starts new at k ≡ (if same_at at at && (k == first) then None else starts runs at k)
    one = written runs new at first None updates at k

    by : (same_at at at && (k == first) ≡ true) ⊎ (same_at at at && (k == first) ≡ false) → starts new at k ≡ None
    by (inl here) = one ∙ ap (λ (b : Bool). if b then None else starts runs at k) here
    by (inr other) = one ∙ ap (λ (b : Bool). if b then None else starts runs at k) other ∙ none

pub all_taken : (old new : BTreeMap Key ℕ) (at : At) → ((other : At) (k : ℕ) → same_at at other ≡ false → starts new other k ≡ starts old other k)
    → ((k : ℕ) → 2 ^ 32 ≤ k → starts new at k ≡ None) → ((k : ℕ) → k ≤ 4294967295 → starts new at k ≡ None)
    → (other : At) (k : ℕ) → starts new other k ≡ (if same_at at other then None else starts old other k)
all_taken old new at others past none other k = by (cases_Bool (same_at at other)) (cases_lt k (2 ^ 32))
  where
    by : (same_at at other ≡ true) ⊎ (same_at at other ≡ false) → (k < 2 ^ 32) ⊎ (2 ^ 32 ≤ k) → starts new other k ≡ (if same_at at other then None else starts old other k)
    by (inr elsewhere) _ = others other k elsewhere ∙ ap (λ (b : Bool). if b then None else starts old other k) (sym elsewhere)
    by (inl here) side =
        ap (λ (a : At). starts new a k) (sym (same_ats at other here)) ∙ nothing side ∙ ap (λ (b : Bool). if b then None else starts old other k) (sym here)
      where
        nothing : (k < 2 ^ 32) ⊎ (2 ^ 32 ≤ k) → starts new at k ≡ None
        nothing (inl lt) = none k (omega (arith, lt))
        nothing (inr ge) = past k ge
