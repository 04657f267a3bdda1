-- What is kept of lists.
use Rattle.std.proofs.Common.{◌≡◌, Bool, false, List, [], ◌∷◌, ◌++◌, map, refl, inl, inr, arith}
use Rattle.std.proofs.lemmas.Grind.{common_steps}
use Rattle.std.proofs.lemmas.Bool.{cases_Bool}
use Rattle.std.proofs.lemmas.List.Elements.{All-head, All-tail}
use Rattle.std.specs.Prelude.{All, not, ◌&&◌, filter, if◌then◌else◌}

-- one more behind the others
pub kept_more : {X Y : Type 0} (f : X → Y) (p : X → Bool) (xs : List X) (x : X)
    → map f (filter p (xs ++ x ∷ [])) ≡ (if p x then map f (filter p xs) ++ f x ∷ [] else map f (filter p xs))
kept_more f p [] x = elim (cases_Bool (p x)) [
  | inl kept ↦ grind (arith, common_steps, kept)
  | inr gone ↦ grind (arith, common_steps, gone)
]
kept_more f p (y ∷ xs) x = elim (cases_Bool (p y)) [
  | inl first ↦ elim (cases_Bool (p x)) [
    | inl kept ↦ grind (arith, common_steps, first, kept, kept_more f p xs x)
    | inr gone ↦ grind (arith, common_steps, first, gone, kept_more f p xs x)
  ]
  | inr first ↦ elim (cases_Bool (p x)) [
    | inl kept ↦ grind (arith, common_steps, first, kept, kept_more f p xs x)
    | inr gone ↦ grind (arith, common_steps, first, gone, kept_more f p xs x)
  ]
]

-- where none passes, nothing is kept
pub none_kept : {X : Type 0} (p : X → Bool) (xs : List X) → All (λ x. p x ≡ false) xs → filter p xs ≡ []
none_kept p [] none = refl
none_kept p (x ∷ xs) none =
    let here : p x ≡ false = All-head (λ y. p y ≡ false) x xs none in
    grind (arith, common_steps, here, none_kept p xs (All-tail (λ y. p y ≡ false) x xs none))

-- tests that say the same keep the same
pub kept_alike : {X : Type 0} (p q : X → Bool) (xs : List X) → ((x : X) → p x ≡ q x) → filter p xs ≡ filter q xs
kept_alike p q [] same = refl
kept_alike p q (x ∷ xs) same = elim (cases_Bool (q x)) [
  | inl kept ↦ grind (arith, common_steps, kept, same x, kept_alike p q xs same)
  | inr gone ↦ grind (arith, common_steps, gone, same x, kept_alike p q xs same)
]

-- a further test of what becomes of them
pub kept_twice : {X Y : Type 0} (f : X → Y) (p q : X → Bool) (r : Y → Bool) (xs : List X) → All (λ x. p x ≡ (q x && not (r (f x)))) xs
    → map f (filter p xs) ≡ filter (λ y. not (r y)) (map f (filter q xs))
kept_twice f p q r [] both = refl
kept_twice f p q r (x ∷ xs) both =
    let here : p x ≡ (q x && not (r (f x))) = All-head (λ y. p y ≡ (q y && not (r (f y)))) x xs both in
    let rest = kept_twice f p q r xs (All-tail (λ y. p y ≡ (q y && not (r (f y)))) x xs both) in
    elim (cases_Bool (q x)) [
      | inl kept ↦ elim (cases_Bool (r (f x))) [
        | inl out ↦ grind (arith, common_steps, kept, out, here, rest)
        | inr stays ↦ grind (arith, common_steps, kept, stays, here, rest)
      ]
      | inr gone ↦ grind (arith, common_steps, gone, here, rest)
    ]
