-- The longest front of which each character passes a test.
use Rattle.std.proofs.Common.{◌≡◌, ◌+◌, ◌<◌, ℕ, zero, suc, length, get_or, Bool, true, false, cond, List, [], ◌∷◌, ◌++◌, take, drop, refl, sym, ap, subst, arith}
use Rattle.std.specs.List.{prefix_len}
use Rattle.std.proofs.lemmas.List.{take_more}
use Rattle.pg_lex.specs.Characters.{Each, NotNext}

-- a list of one element more
pub take-one_more : (n x : ℕ) (xs : List ℕ) → take (1 + n) (x ∷ xs) ≡ x ∷ take n xs
take-one_more n x xs = let e : 1 + n ≡ suc n = omega arith in ap (λ m. take m (x ∷ xs)) e

pub drop-one_more : (n x : ℕ) (xs : List ℕ) → drop (1 + n) (x ∷ xs) ≡ drop n xs
drop-one_more n x xs = let e : 1 + n ≡ suc n = omega arith in ap (λ m. drop m (x ∷ xs)) e

-- no value of a test is both
pub both_values : (b : Bool) → b ≡ true → b ≡ false → ⊥
both_values b holds fails = cc

each_by : (test : ℕ → Bool) (x : ℕ) (xs : List ℕ) (b : Bool) → test x ≡ b → Each test (take (prefix_len test xs) xs) → Each test (take (cond b (1 + prefix_len test xs) 0) (x ∷ xs))
each_by test x xs true is more = subst (Each test) (sym (take-one_more (prefix_len test xs) x xs)) (is, more)
each_by test x xs false is more = tt

-- what stands before its end passes
pub each_passes : (test : ℕ → Bool) (xs : List ℕ) → Each test (take (prefix_len test xs) xs)
each_passes test [] = tt
each_passes test (x ∷ xs) = each_by test x xs (test x) refl (each_passes test xs)

next_by : (test : ℕ → Bool) (x : ℕ) (xs : List ℕ) (b : Bool) → test x ≡ b → NotNext test (drop (prefix_len test xs) xs) → NotNext test (drop (cond b (1 + prefix_len test xs) 0) (x ∷ xs))
next_by test x xs true is more = subst (NotNext test) (sym (drop-one_more (prefix_len test xs) x xs)) more
next_by test x xs false is more = is

-- and what stands behind it doesn't
pub next_fails : (test : ℕ → Bool) (xs : List ℕ) → NotNext test (drop (prefix_len test xs) xs)
next_fails test [] = tt
next_fails test (x ∷ xs) = next_by test x xs (test x) refl (next_fails test xs)

-- there is one such front
pub one_run : (test : ℕ → Bool) (a b c d : List ℕ) → Each test a → NotNext test b → Each test c → NotNext test d → a ++ b ≡ c ++ d → (a ≡ c) × (b ≡ d)
one_run test [] b [] d ea nb ec nd same = (refl, same)
one_run test [] b (y ∷ ys) d ea nb ec nd same = let next : NotNext test (y ∷ (ys ++ d)) = subst (NotNext test) same nb in absurd (both_values (test y) ec.0 next)
one_run test (x ∷ xs) b [] d ea nb ec nd same = let next : NotNext test (x ∷ (xs ++ b)) = subst (NotNext test) (sym same) nd in absurd (both_values (test x) ea.0 next)
one_run test (x ∷ xs) b (y ∷ ys) d ea nb ec nd same =
    let first : x ≡ y = cc in
    let rest : xs ++ b ≡ ys ++ d = cc in
    let more = one_run test xs b ys d ea.1 nb ec.1 nd rest in
    let all : x ∷ xs ≡ y ∷ ys = let tails : xs ≡ ys = more.0 in cc in
    (all, more.1)

pub Each-append : (test : ℕ → Bool) (xs ys : List ℕ) → Each test xs → Each test ys → Each test (xs ++ ys)
Each-append test [] ys ex ey = ey
Each-append test (x ∷ xs) ys ex ey = (ex.0, Each-append test xs ys ex.1 ey)

pub Each-at : (test : ℕ → Bool) (xs : List ℕ) (k : ℕ) → Each test xs → k < length xs → test (get_or xs k 0) ≡ true
Each-at test [] k ex lt = absurd (omega (arith, lt))
Each-at test (x ∷ xs) zero ex lt = ex.0
Each-at test (x ∷ xs) (suc k) ex lt = Each-at test xs k ex.1 (omega arith)

-- the test holds one character further
pub Each-more : (test : ℕ → Bool) (xs : List ℕ) (k : ℕ) → k < length xs → Each test (take k xs) → test (get_or xs k 0) ≡ true → Each test (take (k + 1) xs)
Each-more test xs k lt ex is = subst (Each test) (sym (take_more xs k 0 lt)) (Each-append test (take k xs) (get_or xs k 0 ∷ []) ex (is, tt))
