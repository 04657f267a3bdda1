-- Places that are read together.
use Rattle.std.proofs.Common.{◌≡◌, ◌⊎◌, inl, inr, ℕ, ◌+◌, ◌≤◌, ◌<◌, List, length, take, get_or, sym, subst, arith}
use Rattle.std.proofs.lemmas.List.{get_or-take, get_or_default, length-take-le}
use Rattle.pg_gate.specs.declared.spans.Span.{Span}
use Rattle.pg_recover.specs.Places.{IsCovered, Covers}

-- a place covers each of the first of these
abbrev pub CoversFirst : Span → ℕ → List Span → Type 0
CoversFirst cover count spans = (k : ℕ) (d : Span) → k < count → IsCovered cover (get_or spans k d)

pub covers_one : (spans : List Span) (default : Span) → 1 ≤ length spans → CoversFirst (get_or spans 0 default) 1 spans
covers_one spans default some k d lt =
    let zero_is : 0 ≡ k = omega (arith, lt) in
    subst (λ n. IsCovered (get_or spans 0 default) (get_or spans n d)) zero_is (subst (λ s. IsCovered s (get_or spans 0 d)) (get_or_default spans 0 d default some) (record { begins = omega arith; ends = omega arith }))

pub covers_more : (cover longer : Span) (count : ℕ) (spans : List Span) (default : Span) → count < length spans → CoversFirst cover count spans → IsCovered longer cover → IsCovered longer (get_or spans count default) → CoversFirst longer (count + 1) spans
covers_more cover longer count spans default inside covers both here k d lt = elim (before_or_here k count lt) [
  | inl before ↦ let was = covers k d before in record { begins = omega (arith, was.begins, both.begins); ends = omega (arith, was.ends, both.ends) }
  | inr same ↦ subst (λ n. IsCovered longer (get_or spans n d)) (sym same) (subst (IsCovered longer) (get_or_default spans count default d inside) here)
]
  where
    before_or_here : (k i : ℕ) → k < i + 1 → (k < i) ⊎ (k ≡ i)
    before_or_here k i lt = grind arith

pub covers_all : (cover : Span) (count : ℕ) (spans : List Span) → count ≤ length spans → CoversFirst cover count spans → Covers cover (take count spans)
covers_all cover count spans most covers k d lt =
    let inside : k < count = omega (arith, lt, length-take-le count spans most) in
    subst (IsCovered cover) (sym (get_or-take count spans k d inside)) (covers k d inside)
