-- What digits are worth.
use Rattle.std.proofs.Common.{◌≡◌, ◌+◌, ◌-◌, ◌*◌, ◌<◌, ◌≤◌, ◌^◌, ℕ, false, List, [], ◌∷◌, ◌++◌, length, get_or, take, drop, refl, sym, ◌∙◌, ap, arith, take-append-drop}
use Rattle.std.proofs.lemmas.List.{take_more}
use Rattle.std.specs.Char.{is_ascii_digit}
use Rattle.pg_lex.specs.Characters.{Each}
use Rattle.pg_lex.specs.Spelling.{IsDigits, IsWhole, value_of, value_behind}
use Rattle.pg_lex.proofs.Runs.{Each-at, both_values}

pub value_behind-append : (n : ℕ) (xs ys : List ℕ) → value_behind n (xs ++ ys) ≡ value_behind (value_behind n xs) ys
value_behind-append n [] ys = refl
value_behind-append n (x ∷ xs) ys = value_behind-append (10 * n + (x - 48)) xs ys

-- further digits make no number less
pub value_behind-grows : (n : ℕ) (xs : List ℕ) → n ≤ value_behind n xs
value_behind-grows n [] = omega arith
value_behind-grows n (x ∷ xs) = omega (arith, value_behind-grows (10 * n + (x - 48)) xs)

-- one digit more
pub value_of-more : (xs : List ℕ) (k : ℕ) → k < length xs → value_of (take (k + 1) xs) ≡ 10 * value_of (take k xs) + (get_or xs k 0 - 48)
value_of-more xs k lt = ap value_of (take_more xs k 0 lt) ∙ value_behind-append 0 (take k xs) (get_or xs k 0 ∷ [])

-- a front of too great a value
pub too_great : (xs : List ℕ) (k : ℕ) → 2 ^ 63 ≤ value_of (take k xs) → IsWhole xs → ⊥
too_great xs k great is =
    let e = ap value_of (sym (take-append-drop k xs)) ∙ value_behind-append 0 (take k xs) (drop k xs) in
    omega (arith, e, value_behind-grows (value_of (take k xs)) (drop k xs), is.1, great)

digits_each : (xs : List ℕ) → IsDigits xs → Each is_ascii_digit xs
digits_each [] is = tt
digits_each (x ∷ xs) is = is

-- another character among them
pub no_digit : (xs : List ℕ) (k : ℕ) → k < length xs → is_ascii_digit (get_or xs k 0) ≡ false → IsWhole xs → ⊥
no_digit xs k lt none is = both_values (is_ascii_digit (get_or xs k 0)) (Each-at is_ascii_digit xs k (digits_each xs is.0) lt) none

pub digits_from_each : (xs : List ℕ) → 0 < length xs → Each is_ascii_digit xs → IsDigits xs
digits_from_each [] some each = absurd (omega (arith, some))
digits_from_each (x ∷ xs) some each = each
