-- What a test of the reader of names rules out: numbers, and texts of an owner and a number.
use Rattle.std.proofs.Common.{◌≡◌, ◌≢◌, ◌⊎◌, ⊎_elim, ℕ, ◌<◌, ◌≤◌, ◌^◌, ◌++◌, ◌∷◌, List, length, get_or, Result, Ok, Err, Option, Some, None, IfNone, Bor, decimal, ap, arith, lit<}
use Rattle.std.specs.Str.Parse.{ParsesUnsigned}
use Rattle.std.specs.Result.{result_ok}
use Rattle.std.proofs.lemmas.Fmt.{digits_decimal, first_decimal, parse-decimal}
use Rattle.std.proofs.lemmas.Str.Parse.{numerals_by_value, tells_by_index}
use Rattle.std.proofs.lemmas.Str.Pattern.{IsSplitOnceResult, split_after}
use Rattle.std.specs.Int.{IsInRange}
use Rattle.pg_dir.specs.Names.{IsNoNumber, IsNoOwned}

-- no value was needed for it
pub none_of : {A P : Type 0} (o : Option A) → P → IfNone o P
none_of None p = p
none_of (Some x) p = tt

-- a number's digits are digits
are_digits : (n : ℕ) → n < 2 ^ 64 → (i : ℕ) → i < length (decimal n) → IsInRange 48 57 (get_or (decimal n) i 0)
are_digits n small = digits_decimal (numerals_by_value (λ ds. (i : ℕ) → i < length ds → IsInRange 48 57 (get_or ds i 0)) tells_by_index) n small

-- what stands before the digits in ASCII isn't among them
without : (c n : ℕ) → c < 48 → n < 2 ^ 64 → (i : ℕ) → i < length (decimal n) → get_or (decimal n) i 0 ≢ c
without c n low small i l e = omega (arith, are_digits n small i l, e)

-- no number above 0 begins with a zero or with what stands before it in ASCII
pub begins_low : (bs : List ℕ) (greatest : ℕ) → greatest < 2 ^ 64 → get_or bs 0 0 ≤ 48 → IsNoNumber greatest bs
begins_low bs greatest fits low n some most e = omega (arith, first_decimal n some (omega arith), ap (λ l. get_or l 0 0) e, low)

-- a number in the range would have been read
pub unread : {E : Type 0} (bs : List ℕ) (greatest : ℕ) (r : Result ℕ E) → greatest < 2 ^ 64 → ParsesUnsigned 64 10 bs r →
    ((n : ℕ) → 0 < n → n ≤ greatest → r ≢ Ok n) → IsNoNumber greatest bs
unread bs greatest r fits parses other n some most e = other n some most (parse-decimal 64 n bs r (omega arith) (omega arith) e parses)

pub no_value : {E : Type 0} (r : Result ℕ E) → None ≡ result_ok r → (n : ℕ) → r ≢ Ok n
no_value (Ok x) h n e = cc
no_value (Err x) h n e = cc

pub out_of_range : {E : Type 0} (r : Result ℕ E) (number greatest : ℕ) → Some number ≡ result_ok r → (number ≡ 0) ⊎ ((number ≢ 0) × (greatest < number)) →
    (n : ℕ) → 0 < n → n ≤ greatest → r ≢ Ok n
out_of_range (Ok x) number greatest h out n some most e = let same : number ≡ n = cc in ⊎_elim (λ z. omega (arith, same)) (λ l. omega (arith, same, l.1)) out
out_of_range (Err x) number greatest h out n some most e = cc

-- an owner and a number would have been cut apart at the sign, and the number from the ending at the dot
pub no_sign : (ending text : List ℕ) → IsSplitOnceResult 45 text None → IsNoOwned ending text
no_sign ending text h o n po fo pn fn e = split_after 45 text (decimal o) (decimal n ++ (46 ∷ ending)) None h (lit< tt) e (without 45 o (lit< tt) (omega arith))

cut : (ending text : List ℕ) (owner rest : Bor (List ℕ)) → IsSplitOnceResult 45 text (Some (owner, rest)) → (o n : ℕ) → o < 2 ^ 64 →
    text ≡ decimal o ++ (45 ∷ (decimal n ++ (46 ∷ ending))) → (owner.now ≡ decimal o) × (rest.now ≡ decimal n ++ (46 ∷ ending))
cut ending text owner rest h o n small e = split_after 45 text (decimal o) (decimal n ++ (46 ∷ ending)) (Some (owner, rest)) h (lit< tt) e (without 45 o (lit< tt) small)

pub no_dot : (ending text : List ℕ) (owner rest : Bor (List ℕ)) → IsSplitOnceResult 45 text (Some (owner, rest)) → IsSplitOnceResult 46 rest.now None → IsNoOwned ending text
no_dot ending text owner rest h g o n po fo pn fn e =
    split_after 46 rest.now (decimal n) ending None g (lit< tt) (cut ending text owner rest h o n (omega arith) e).1 (without 46 n (lit< tt) (omega arith))

cut_twice : (ending text : List ℕ) (owner rest number found : Bor (List ℕ)) → IsSplitOnceResult 45 text (Some (owner, rest)) → IsSplitOnceResult 46 rest.now (Some (number, found)) → (o n : ℕ) → o < 2 ^ 64 → n < 2 ^ 64 →
    text ≡ decimal o ++ (45 ∷ (decimal n ++ (46 ∷ ending))) → (number.now ≡ decimal n) × (found.now ≡ ending)
cut_twice ending text owner rest number found h g o n fo fn e =
    split_after 46 rest.now (decimal n) ending (Some (number, found)) g (lit< tt) (cut ending text owner rest h o n fo e).1 (without 46 n (lit< tt) fn)

pub other_ending : (ending text : List ℕ) (owner rest number found : Bor (List ℕ)) → IsSplitOnceResult 45 text (Some (owner, rest)) → IsSplitOnceResult 46 rest.now (Some (number, found)) →
    found.now ≢ ending → IsNoOwned ending text
other_ending ending text owner rest number found h g other o n po fo pn fn e = other (cut_twice ending text owner rest number found h g o n (omega arith) (omega arith) e).1

pub no_owner : (ending text : List ℕ) (owner rest : Bor (List ℕ)) → IsSplitOnceResult 45 text (Some (owner, rest)) → IsNoNumber 4294967295 owner.now → IsNoOwned ending text
no_owner ending text owner rest h none o n po fo pn fn e = none o po (omega arith) (cut ending text owner rest h o n (omega arith) e).0

pub no_number : (ending text : List ℕ) (owner rest number found : Bor (List ℕ)) → IsSplitOnceResult 45 text (Some (owner, rest)) → IsSplitOnceResult 46 rest.now (Some (number, found)) →
    IsNoNumber 4611686018427387904 number.now → IsNoOwned ending text
no_number ending text owner rest number found h g none o n po fo pn fn e = none n pn fn (cut_twice ending text owner rest number found h g o n (omega arith) (omega arith) e).0
