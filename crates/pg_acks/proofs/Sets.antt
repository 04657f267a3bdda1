-- What is in sets of positions and of pages.
use Rattle.std.proofs.Common.{◌≡◌, ◌+◌, ◌-◌, ◌<◌, ◌≤◌, ◌⊎◌, ℕ, zero, suc, Bool, true, false, [], ◌∷◌, inl, inr, refl, sym, ap, ap₂, subst, ◌∙◌, arith}
use Rattle.std.proofs.lemmas.Grind.{common_steps}
use Rattle.std.proofs.lemmas.Bool.{cases_eq, or_cases, or_left, or_right}
use Rattle.std.specs.Cmp.{tied_itself}
use Rattle.std.specs.FinSet as set
use Rattle.std.specs.List.{list_any}
use Rattle.std.specs.Ordering.{eq_by_cmp, is_eq}
use Rattle.pg_acks.specs.Acked.{AckSets, indexes, indexes_between, with_indexes}
use Rattle.pg_acks.specs.Keys.{At, Key, at_cmp, key_cmp}
use Rattle.pg_acks.proofs.Keys.{key_total}

abbrev pub sets_of : set.FinSet key_cmp → set.FinSet at_cmp → AckSets
sets_of singles wholes = record { singles = singles; wholes = wholes }

-- two tests are the same where each is passed when the other is
pub same_tests : (a b : Bool) → (a ≡ true → b ≡ true) → (b ≡ true → a ≡ true) → a ≡ b
same_tests true b there back = sym (there refl)
same_tests false true there back = back refl
same_tests false false there back = refl

pub key_same : set.IsAntisymmetric key_cmp
key_same a b tied = grind (arith, common_steps, tied)

pub at_same : set.IsAntisymmetric at_cmp
at_same a b tied = grind (arith, common_steps, tied)

pub key_tied : (a b : Key) → eq_by_cmp key_cmp a b ≡ true → a ≡ b
key_tied a b tied = grind (arith, common_steps, tied)

pub at_tied : (a b : At) → eq_by_cmp at_cmp a b ≡ true → a ≡ b
at_tied a b tied = grind (arith, common_steps, tied)

key_itself : (a : Key) → eq_by_cmp key_cmp a a ≡ true
key_itself a = ap is_eq (tied_itself key_total a)

-- ---- one more
pub inserted : (s : set.FinSet key_cmp) (k q : Key) → set.contains (set.insert s k) q ≡ true → (q ≡ k) ⊎ (set.contains s q ≡ true)
inserted s k q has = elim (or_cases (eq_by_cmp key_cmp q k) (set.contains s q) (sym (set.contains-insert key_total s k q) ∙ has)) [
  | inl tied ↦ inl (key_tied q k tied)
  | inr old ↦ inr old
]

pub inserts : (s : set.FinSet key_cmp) (k q : Key) → (q ≡ k) ⊎ (set.contains s q ≡ true) → set.contains (set.insert s k) q ≡ true
inserts s k q (inl same) =
    set.contains-insert key_total s k q ∙ or_left (eq_by_cmp key_cmp q k) (set.contains s q) (subst (λ (x : Key). eq_by_cmp key_cmp q x ≡ true) same (key_itself q))
inserts s k q (inr old) = set.contains-insert key_total s k q ∙ or_right (eq_by_cmp key_cmp q k) (set.contains s q) old

-- one that is there already
pub insert_there : (s : set.FinSet key_cmp) (k : Key) → set.contains s k ≡ true → set.insert s k ≡ s
insert_there s k there =
    set.same_set key_total key_same (set.insert s k) s (λ q. same_tests (set.contains (set.insert s k) q) (set.contains s q) (λ has. was q (inserted s k q has)) (λ has. inserts s k q (inr has)))
  where
    was : (q : Key) → (q ≡ k) ⊎ (set.contains s q ≡ true) → set.contains s q ≡ true
    was q (inl same) = subst (λ (x : Key). set.contains s x ≡ true) (sym same) there
    was q (inr has) = has

-- ---- the indexes of a page
record InSpan (at : At) (first count : ℕ) (key : Key) : Type 0 where
  at_key : key.0 ≡ at
  low : first ≤ key.1
  high : key.1 < first + count

in_indexes : (at : At) (first count : ℕ) (s : set.FinSet key_cmp) (key : Key) → set.contains (with_indexes at (indexes first count) s) key ≡ true → InSpan at first count key ⊎ (set.contains s key ≡ true)
in_indexes at first zero s key has = inr has
in_indexes at first (suc count) s key has =
    elim (inserted (with_indexes at (indexes (first + 1) count) s) (at, first) key has) [
      | inl same ↦
          let index : key.1 ≡ first = ap (λ (k : Key). k.1) same in
          inl (record { at_key = ap (λ (k : Key). k.0) same; low = omega (arith, index); high = omega (arith, index) })
      | inr others ↦ elim (in_indexes at (first + 1) count s key others) [
        | inl here ↦ inl (record { at_key = here.at_key; low = omega (arith, here.low); high = omega (arith, here.high) })
        | inr old ↦ inr old
      ]
    ]

has_indexes : (at : At) (first count : ℕ) (s : set.FinSet key_cmp) (key : Key) → InSpan at first count key ⊎ (set.contains s key ≡ true) → set.contains (with_indexes at (indexes first count) s) key ≡ true
has_indexes at first zero s key (inl here) = absurd (omega (arith, here.low, here.high))
has_indexes at first zero s key (inr old) = old
has_indexes at first (suc count) s key (inr old) =
    inserts (with_indexes at (indexes (first + 1) count) s) (at, first) key (inr (has_indexes at (first + 1) count s key (inr old)))
has_indexes at first (suc count) s key (inl here) = by (λ inside. has_indexes at (first + 1) count s key (inl inside)) (cases_eq key.1 first)
  where
    by : (InSpan at (first + 1) count key → set.contains (with_indexes at (indexes (first + 1) count) s) key ≡ true) → (key.1 ≡ first) ⊎ (key.1 ≡ first → ⊥)
        → set.contains (with_indexes at (indexes first (suc count)) s) key ≡ true
    by rest (inl same) = inserts (with_indexes at (indexes (first + 1) count) s) (at, first) key (inl (ap₂ (λ (a : At) (k : ℕ). (a, k)) here.at_key same))
    by rest (inr apart) =
        inserts (with_indexes at (indexes (first + 1) count) s) (at, first) key
        (inr (rest (record { at_key = here.at_key; low = omega (arith, apart, here.low); high = omega (arith, here.high) })))

-- the key is that of an index of the page between these
pub record IsBetween (at : At) (from to : ℕ) (key : Key) : Type 0 where
  pub at_key : key.0 ≡ at
  pub low : from ≤ key.1
  pub high : key.1 ≤ to

pub in_between : (at : At) (from to : ℕ) (s : set.FinSet key_cmp) (key : Key) → set.contains (with_indexes at (indexes_between from to) s) key ≡ true → IsBetween at from to key ⊎ (set.contains s key ≡ true)
in_between at from to s key has = elim (in_indexes at from (to + 1 - from) s key has) [
  | inl here ↦ inl (record { at_key = here.at_key; low = here.low; high = omega (arith, here.low, here.high) })
  | inr old ↦ inr old
]

pub has_between : (at : At) (from to : ℕ) (s : set.FinSet key_cmp) (key : Key) → IsBetween at from to key ⊎ (set.contains s key ≡ true) → set.contains (with_indexes at (indexes_between from to) s) key ≡ true
has_between at from to s key (inl here) =
    has_indexes at from (to + 1 - from) s key (inl (record { at_key = here.at_key; low = here.low; high = omega (arith, here.low, here.high) }))
has_between at from to s key (inr old) = has_indexes at from (to + 1 - from) s key (inr old)

-- no index where the last is below the first, and one where both are the same
pub none_between : (from to : ℕ) → to < from → indexes_between from to ≡ []
none_between from to lt = let none : to + 1 - from ≡ 0 = omega (arith, lt) in ap (indexes from) none

pub one_between : (index : ℕ) → indexes_between index index ≡ index ∷ []
one_between index = let one : index + 1 - index ≡ 1 = omega arith in ap (indexes index) one

-- ---- some index
any_index : (p : ℕ → Bool) (first count k : ℕ) → first ≤ k → k < first + count → p k ≡ true → list_any p (indexes first count) ≡ true
any_index p first zero k low high is = absurd (omega (arith, low, high))
any_index p first (suc count) k low high is = by (λ above below. any_index p (first + 1) count k above below is) (cases_eq k first)
  where
    by : (first + 1 ≤ k → k < first + 1 + count → list_any p (indexes (first + 1) count) ≡ true) → (k ≡ first) ⊎ (k ≡ first → ⊥) → list_any p (indexes first (suc count)) ≡ true
    by rest (inl same) = or_left (p first) (list_any p (indexes (first + 1) count)) (subst (λ (x : ℕ). p x ≡ true) same is)
    by rest (inr apart) = or_right (p first) (list_any p (indexes (first + 1) count)) (rest (omega (arith, apart, low)) (omega (arith, high)))

index_of_any : (p : ℕ → Bool) (first count : ℕ) → list_any p (indexes first count) ≡ true → (k : ℕ) × (first ≤ k) × (k < first + count) × (p k ≡ true)
index_of_any p first zero any = absurd (grind (arith, common_steps, any))
index_of_any p first (suc count) any =
    elim (or_cases (p first) (list_any p (indexes (first + 1) count)) any) [
      | inl here ↦ (first, omega arith, omega arith, here)
      | inr there ↦ let more = index_of_any p (first + 1) count there in (more.0, omega (arith, more.1), omega (arith, more.2), more.3)
    ]

pub any_between : (p : ℕ → Bool) (from to k : ℕ) → from ≤ k → k ≤ to → p k ≡ true → list_any p (indexes_between from to) ≡ true
any_between p from to k low high is = any_index p from (to + 1 - from) k low (omega (arith, low, high)) is

pub between_of_any : (p : ℕ → Bool) (from to : ℕ) → list_any p (indexes_between from to) ≡ true → (k : ℕ) × (from ≤ k) × (k ≤ to) × (p k ≡ true)
between_of_any p from to any = let found = index_of_any p from (to + 1 - from) any in (found.0, found.1, omega (arith, found.1, found.2), found.3)
