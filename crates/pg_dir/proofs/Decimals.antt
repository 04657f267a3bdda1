-- A text that is read as a number, and begins with neither a zero nor a plus sign, is what is written of that number.
use Rattle.std.proofs.Common.{◌≡◌, ◌≢◌, ℕ, ◌<◌, ◌^◌, List, length, get_or, Result, Ok, Err, Some, decimal, sym, ◌∙◌, ap}
use Rattle.std.specs.Str.Parse.{AllDigits, digits_value, ParsesUnsigned}
use Rattle.std.specs.Result.{OkIff, result_ok}
use Rattle.std.proofs.lemmas.Str.Parse.{IsNumeralModel, numerals_by_value, tells_digits, parse_plain}
use Rattle.std.proofs.lemmas.Fmt.{decimal-digits_value}

own : IsNumeralModel (AllDigits 10) (digits_value 10)
own = numerals_by_value (AllDigits 10) tells_digits

pub read_as_written : {E : Type 0} (bs : List ℕ) (r : Result ℕ E) (n : ℕ) → ParsesUnsigned 64 10 bs r → get_or bs 0 0 ≢ 48 → get_or bs 0 0 ≢ 43 → Some n ≡ result_ok r → bs ≡ decimal n
read_as_written {E = E} bs (Ok m) n parses no_zero no_plus is =
    let h : OkIff {E = E} (Ok m) (AllDigits 10 bs × (0 < length bs) × (digits_value 10 bs < 2 ^ 64)) (digits_value 10 bs) = parse_plain own {E = E} 64 bs (Ok m) parses no_plus in
    let written : decimal (digits_value 10 bs) ≡ bs = decimal-digits_value own bs h.0.0 h.0.1 (λ e. absurd (no_zero e)) h.0.2 in
    let same : n ≡ m = cc in
    sym written ∙ ap decimal (sym h.1 ∙ sym same)
read_as_written bs (Err e) n parses no_zero no_plus is = cc

-- the value of a conversion that succeeded
pub number_given : {E : Type 0} (r : Result ℕ E) (P : Type 0) (n m : ℕ) → OkIff r P m → Some n ≡ result_ok r → n ≡ m
number_given (Ok x) P n m h is = cc (h.1)
number_given (Err e) P n m h is = cc
