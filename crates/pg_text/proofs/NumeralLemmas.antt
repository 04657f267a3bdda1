-- Words without a mark, and the digits that numbers are written with.
use Rattle.std.proofs.Common.{◌≡◌, ◌≢◌, ℕ, ◌<◌, ◌≤◌, ◌^◌, ◌⊎◌, inl, inr, zero, suc, List, [], ◌∷◌, length, get_or, Some, None, Result, Ok, Err, MatchOption, MatchResult, Bor, refl, ap, sym, ◌∙◌, arith}
use Rattle.std.specs.Result.{result_ok}
use Rattle.std.specs.Fmt.{decimal}
use Rattle.std.specs.Int.{IsInRange}
use Rattle.std.specs.Str.{IsUtf8}
use Rattle.std.specs.Str.Parse.{AllDigits, ParsesUnsigned}
use Rattle.std.proofs.lemmas.Fmt.{decimal_is_IsNumeral, decimal_digit, first_decimal, decimal-digits_value, parse-decimal, IsAscii-decimal}
use Rattle.std.proofs.lemmas.Str.{IsUtf8-from_ascii}
use Rattle.std.proofs.lemmas.Str.Parse.{digit_at, digit_from_value, numerals_by_value, tells_digits, parse_plain}
use Rattle.pg_text.specs.Reading.{BeginsAsNumber}

-- no such byte
abbrev pub Lacks : ℕ → List ℕ → Type 0
Lacks mark [] = Unit {0}
Lacks mark (byte ∷ bytes) = (byte ≢ mark) × Lacks mark bytes

-- there are none, or this byte is the first
abbrev pub EndsAt : ℕ → List ℕ → Type 0
EndsAt mark [] = Unit {0}
EndsAt mark (byte ∷ bytes) = byte ≡ mark

-- a byte that is no digit
abbrev pub IsNoDigit : ℕ → Type 0
IsNoDigit mark = (mark < 48) ⊎ (57 < mark)

differs : (mark digit : ℕ) → IsNoDigit mark → 48 ≤ digit → digit ≤ 57 → digit ≢ mark
differs mark digit (inl below) low high same = omega arith
differs mark digit (inr above) low high same = omega arith

Lacks-digits : (mark : ℕ) (digits : List ℕ) → IsNoDigit mark → AllDigits 10 digits → Lacks mark digits
Lacks-digits mark [] _ _ = tt
Lacks-digits mark (digit ∷ digits) no_digit all =
    let range = digit_from_value digit all.0 in
    (differs mark digit no_digit range.0 range.1, Lacks-digits mark digits no_digit all.1)

-- a number has none
pub Lacks-decimal : (mark number : ℕ) → IsNoDigit mark → number < 2 ^ 64 → Lacks mark (decimal number)
Lacks-decimal mark number no_digit fits = Lacks-digits mark _ no_digit (decimal_is_IsNumeral number fits).0.1

-- a number begins with a digit, and with `0` only where that is all
decimal_first : (number : ℕ) → number < 2 ^ 64 → IsInRange 48 57 (get_or (decimal number) 0 0) × (get_or (decimal number) 0 0 ≡ 48 → length (decimal number) ≡ 1)
decimal_first zero fits = rw (decimal_digit zero (omega arith)) (((omega arith, omega arith)), λ _. refl)
decimal_first (suc n) fits =
    let digits = decimal_is_IsNumeral (suc n) fits in
    let above : 48 < get_or (decimal (suc n)) 0 0 = first_decimal (suc n) (omega arith) fits in
    (digit_at (decimal (suc n)) 0 digits.0.1 digits.0.0, λ is_zero. absurd (omega arith))

-- what a number is written with begins as a number
pub BeginsAsNumber-decimal : (number : ℕ) → number < 2 ^ 64 → BeginsAsNumber (decimal number)
BeginsAsNumber-decimal number fits =
    let first = decimal_first number fits in
    record { unsigned = λ is_sign. omega (arith, first.0); canonical = first.1 }

-- what `parse` reads of digits that begin as a number
pub parse_decimal : {E : Type 0} (digits : List ℕ) (r : Result ℕ E) → BeginsAsNumber digits → ParsesUnsigned 64 10 digits r → MatchOption (result_ok r) ((number : ℕ) → number < 2 ^ 64 → digits ≢ decimal number) (λ number. (number < 2 ^ 64) × (digits ≡ decimal number))
parse_decimal {E = E} digits (Ok number) front parsed =
    let own = numerals_by_value (AllDigits 10) tells_digits in
    let read = parse_plain own {E = E} 64 digits (Ok number) parsed front.unsigned in
    (omega (arith, read.0.2, read.1), sym (ap decimal read.1 ∙ decimal-digits_value own digits read.0.0 read.0.1 front.canonical read.0.2))
parse_decimal {E = E} digits (Err e) front parsed =
    λ number fits same. let found = parse-decimal {E = E} 64 number digits (Err e) fits fits same parsed in cc

-- a number is a text
pub IsUtf8-decimal : (number : ℕ) → number < 2 ^ 64 → IsUtf8 (decimal number)
IsUtf8-decimal number fits = IsUtf8-from_ascii _ (IsAscii-decimal number fits)

-- a reading that failed found no text
pub not_utf8 : {V E : Type 0} (bytes : List ℕ) (P : V → Type 0) (Q : E → Type 0) (r : Result V E) → result_ok r ≡ None → MatchResult r P (λ e. ¬ IsUtf8 bytes × Q e) → ¬ IsUtf8 bytes
not_utf8 bytes P Q (Ok v) failed _ = absurd (cc)
not_utf8 bytes P Q (Err e) _ cases = cases.0

-- a reading that came about has the same bytes
pub utf8_bytes : {E : Type 0} (bytes : List ℕ) (Q : E → Type 0) (r : Result (Bor (List ℕ)) E) (text : Bor (List ℕ)) → Some text ≡ result_ok r → MatchResult r (λ s. (s.now ≡ bytes) × IsUtf8 bytes) Q → text.now ≡ bytes
utf8_bytes bytes Q (Ok s) text found cases = let same : text ≡ s = cc in ap (λ t. t.now) same ∙ cases.0
utf8_bytes bytes Q (Err e) text found _ = absurd (cc)
