-- An id goes in before the first that doesn't stand before it.
use Rattle.std.proofs.Common.{◌≡◌, refl, sym, ap, subst, ◌∙◌, ℕ, suc, ◌+◌, ◌≤◌, Bool, true, false, not, cond, ltb, List, [], ◌∷◌, ◌++◌, length, take, drop, position, Some, None, inl, inr, arith}
use Rattle.std.specs.List.{prefix_len, position_or_len}
use Rattle.std.proofs.lemmas.Bool.{cases_lt, cond-true, lt-ltb}
use Rattle.std.proofs.lemmas.Option.{cond_some, none-some}
use Rattle.pg_msg.specs.declared.message.MessageId.{MessageId}
use Rattle.pg_model.specs.Changes.{is_before, with_id}

abbrev behind : MessageId → MessageId → Bool
behind id other = not (is_before other id)

abbrev place : MessageId → List MessageId → ℕ
place id ids = position_or_len (behind id) ids

within : {X : Type 0} (p : X → Bool) (xs : List X) → prefix_len p xs ≤ length xs
within p [] = omega arith
within p (x ∷ xs) = by (p x) (within p xs)
  where
    by : (b : Bool) → prefix_len p xs ≤ length xs → cond b (1 + prefix_len p xs) 0 ≤ length (x ∷ xs)
    by true rest = omega (arith, rest)
    by false rest = omega arith

further : (id other : MessageId) (others : List MessageId) (n m : ℕ) → m ≡ suc n
    → other ∷ (take n others ++ (id ∷ drop n others)) ≡ take m (other ∷ others) ++ (id ∷ drop m (other ∷ others))
further id other others n m is = subst (λ (k : ℕ). other ∷ (take n others ++ (id ∷ drop n others)) ≡ take k (other ∷ others) ++ (id ∷ drop k (other ∷ others))) (sym is) refl

inserted : (id : MessageId) (ids : List MessageId) → with_id id ids ≡ take (place id ids) ids ++ (id ∷ drop (place id ids) ids)
inserted id [] = refl
inserted id (other ∷ others) = by (is_before other id) (inserted id others)
  where
    by : (b : Bool) → with_id id others ≡ take (place id others) others ++ (id ∷ drop (place id others) others)
        → cond b (other ∷ with_id id others) (id ∷ other ∷ others)
        ≡ take (cond (not (not b)) (1 + place id others) 0) (other ∷ others) ++ (id ∷ drop (cond (not (not b)) (1 + place id others) 0) (other ∷ others))
    by true rest = ap (λ (l : List MessageId). other ∷ l) rest ∙ further id other others (place id others) (1 + place id others) (omega arith)
    by false rest = refl

pub placed : (id : MessageId) (ids : List MessageId) (at : ℕ) → Some at ≡ position (behind id) ids
    → (with_id id ids ≡ take at ids ++ (id ∷ drop at ids)) × (at ≤ length ids)
placed id ids at is =
    let here = cond_some (ltb (place id ids) (length ids)) (place id ids) at (sym is) in (
      subst (λ (n : ℕ). with_id id ids ≡ take n ids ++ (id ∷ drop n ids)) here.1 (inserted id ids),
      (let below = within (λ other. not (behind id other)) ids in omega (arith, below, here.1)),
    )

pub placed_last : (id : MessageId) (ids : List MessageId) → None ≡ position (behind id) ids
    → with_id id ids ≡ take (length ids) ids ++ (id ∷ drop (length ids) ids)
placed_last id ids is =
    let below = within (λ other. not (behind id other)) ids in
    elim (cases_lt (place id ids) (length ids)) [
      | inl less ↦ absurd (none-some (place id ids) (is ∙ cond-true _ _ _ (lt-ltb (place id ids) (length ids) less)))
      | inr past ↦
          let same : place id ids ≡ length ids = omega (arith, below, past) in
          subst (λ (n : ℕ). with_id id ids ≡ take n ids ++ (id ∷ drop n ids)) same (inserted id ids)
    ]
