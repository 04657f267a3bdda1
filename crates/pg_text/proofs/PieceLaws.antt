-- What the pieces of a line are cut into, and that each is read as it was spelled.
use Rattle.std.proofs.Common.{◌≡◌, ◌≢◌, ℕ, ◌+◌, ◌<◌, ◌≤◌, ◌^◌, suc, Bool, true, false, not, cond, eqb, ltb, List, [], ◌∷◌, ◌++◌, length, take, drop, Option, Some, None, Ok, Err, ◌⊎◌, inl, inr, unwrap_or, MatchOption, Bor, refl, ap, sym, subst, ◌∙◌, arith}
use Rattle.std.specs.Option.{option_map}
use Rattle.std.specs.Cmp.Lexicographic.{pointwise}
use Rattle.std.specs.Fmt.{decimal}
use Rattle.std.specs.List.{position_or_len, position}
use Rattle.std.specs.Str.{bytes_eq}
use Rattle.std.specs.Str.Parse.{digits_value}
use Rattle.std.proofs.lemmas.List.{take-append-drop, take_at, drop_at}
use Rattle.std.proofs.lemmas.List.Sums.{prefix_len-le-length}
use Rattle.std.proofs.lemmas.Bool.{eqb-true, ltb-false, ltb-true, lt-ltb, and_parts, false_from_ne_true}
use Rattle.std.proofs.lemmas.Bool.Decides.{Decides-eqb}
use Rattle.std.proofs.lemmas.Fmt.{decimal_is_IsNumeral}
use Rattle.std.proofs.lemmas.Option.{cond_some}
use Rattle.std.proofs.lemmas.Slice.Eq.{bytes_eq-Decides}
use Rattle.hex.specs.declared.error.FromHexError.{FromHexError}
use Rattle.hex.specs.declared.error.FromHexError.TheVariants.{OutOfMemory}
use Rattle.hex.specs.Hex.{decode_of}
use Rattle.pg_msg.specs.declared.fields.Unread.{Unread}
use Rattle.pg_msg.specs.declared.fields.Unread.TheVariants.{Malformed, Memory}
use Rattle.pg_msg.specs.Reading.{guarded, Misses}
use Rattle.pg_text.specs.Reading.{before, onward, behind, number_of, hex_of, some_bytes, unread_of, is_empty}
use Rattle.pg_text.proofs.NumeralLemmas.{Lacks, EndsAt}

-- the test for the byte
abbrev pub is_mark : ℕ → ℕ → Bool
is_mark mark byte = eqb byte mark

place_or_all : (place all : ℕ) (test : Bool) → ltb place all ≡ test → place ≤ all → unwrap_or (cond test (Some place) None) all ≡ place
place_or_all place all true _ _ = refl
place_or_all place all false e within = let beyond : all ≤ place = ltb-false place all e in omega arith

-- the place of the first such byte, or the length
pub first_place : (mark : ℕ) (line : List ℕ) → unwrap_or (position (is_mark mark) line) (length line) ≡ position_or_len (is_mark mark) line
first_place mark line = place_or_all (position_or_len (is_mark mark) line) (length line) _ refl (prefix_len-le-length _ line)

-- the two parts are the whole
pub cut_parts : (mark : ℕ) (line : List ℕ) → line ≡ before mark line ++ onward mark line
unfolding before onward
cut_parts mark line = sym (take-append-drop (position_or_len (is_mark mark) line) line)

one_more : (n : ℕ) → 1 + n ≡ suc n
one_more n = omega arith

cut_here : (mark : ℕ) (rest : List ℕ) → EndsAt mark rest → position_or_len (is_mark mark) rest ≡ 0
cut_here mark [] ends = refl
cut_here mark (byte ∷ rest) ends = ap (λ (test : Bool). cond (not test) (1 + position_or_len (is_mark mark) rest) 0) ((Decides-eqb byte mark).1 ends)

cut_place : (mark : ℕ) (word rest : List ℕ) → Lacks mark word → EndsAt mark rest → position_or_len (is_mark mark) (word ++ rest) ≡ length word
cut_place mark [] rest lacks ends = cut_here mark rest ends
cut_place mark (byte ∷ word) rest lacks ends =
    let other : eqb byte mark ≡ false = false_from_ne_true (eqb byte mark) (λ same. lacks.0 (eqb-true byte mark same)) in
    ap (λ (test : Bool). cond (not test) (1 + position_or_len (is_mark mark) (word ++ rest)) 0) other
    ∙ ap (λ (n : ℕ). 1 + n) (cut_place mark word rest lacks.1 ends) ∙ one_more (length word)

-- a word is what stands before the first mark, where none is in it and one ends it
pub before_again : (mark : ℕ) (word rest : List ℕ) → Lacks mark word → EndsAt mark rest → before mark (word ++ rest) ≡ word
unfolding before
before_again mark word rest lacks ends = rw (cut_place mark word rest lacks ends) (take_at word rest (length word) refl)

pub onward_again : (mark : ℕ) (word rest : List ℕ) → Lacks mark word → EndsAt mark rest → onward mark (word ++ rest) ≡ rest
unfolding onward
onward_again mark word rest lacks ends = rw (cut_place mark word rest lacks ends) (drop_at word rest (length word) refl)

-- ---- keywords

pub behind_again : (keyword rest : List ℕ) → behind keyword (keyword ++ rest) ≡ Some rest
unfolding behind
behind_again keyword rest = rw (take_at keyword rest (length keyword) refl, drop_at keyword rest (length keyword) refl, (bytes_eq-Decides keyword keyword).1 refl) refl

pub behind_takes : (keyword line rest : List ℕ) → behind keyword line ≡ Some rest → line ≡ keyword ++ rest
unfolding behind
behind_takes keyword line rest found =
    let passed = cond_some _ _ _ found in
    let front = (bytes_eq-Decides (take (length keyword) line) keyword).0 passed.0 in
    sym (take-append-drop (length keyword) line) ∙ ap (λ (xs : List ℕ). xs ++ drop (length keyword) line) front ∙ ap (λ (xs : List ℕ). keyword ++ xs) passed.1

-- what cutting a keyword off the front answers
pub behind_found : (keyword line : List ℕ) (r : Option (Bor (List ℕ))) → MatchOption r (pointwise eqb (take (length keyword) line) keyword ≡ false) (λ x. (pointwise eqb (take (length keyword) line) keyword ≡ true) × (x.now ≡ drop (length keyword) line) × (length x.now + length keyword ≡ length line)) → option_map (λ rest. rest.now) r ≡ behind keyword line
unfolding behind
behind_found keyword line None differs = rw differs refl
behind_found keyword line (Some rest) same = rw (same.0, same.1) refl

-- ---- numbers

pub number_again : (number : ℕ) → number < 2 ^ 64 → number_of (decimal number) ≡ Some number
unfolding number_of
number_again number fits =
    let value = (decimal_is_IsNumeral number fits).1 in
    rw (value, (bytes_eq-Decides (decimal number) (decimal number)).1 refl, lt-ltb number (2 ^ 64) fits) refl

pub number_takes : (digits : List ℕ) (number : ℕ) → number_of digits ≡ Some number → (digits ≡ decimal number) × (number < 2 ^ 64)
unfolding number_of
number_takes digits number found =
    let passed = cond_some _ _ _ found in
    let both = and_parts _ _ passed.0 in
    let written = (bytes_eq-Decides digits (decimal (digits_value 10 digits))).0 both.0 in
    (written ∙ ap decimal passed.1, subst (λ (n : ℕ). n < 2 ^ 64) passed.1 (ltb-true _ _ both.1))

-- what was found to be a number is read as it
pub number_found : (digits : List ℕ) (number : ℕ) → number < 2 ^ 64 → digits ≡ decimal number → number_of digits ≡ Some number
number_found digits number fits written = ap number_of written ∙ number_again number fits

-- where none was found none is read
pub number_missed : (digits : List ℕ) → ((number : ℕ) → number < 2 ^ 64 → digits ≢ decimal number) → number_of digits ≡ None
number_missed digits none = missed (number_of digits) refl
  where
    missed : (read : Option ℕ) → number_of digits ≡ read → read ≡ None
    missed None found = refl
    missed (Some number) found = let given = number_takes digits number found in absurd (none number given.1 given.0)

-- ---- digits of hex

no_digits : (digits : List ℕ) → false ≡ bytes_eq digits (45 ∷ []) → hex_of digits ≡ some_bytes (decode_of digits)
unfolding hex_of
no_digits digits other = rw (sym other) refl

pub hex_none : (digits : List ℕ) → true ≡ bytes_eq digits (45 ∷ []) → hex_of digits ≡ Some []
unfolding hex_of
hex_none digits same = rw (sym same) refl

some_of_ok : (bytes : List ℕ) → some_bytes (Ok bytes) ≡ guarded (not (is_empty bytes)) bytes
some_of_ok [] = refl
some_of_ok (byte ∷ bytes) = refl

pub hex_some : (digits bytes : List ℕ) → false ≡ bytes_eq digits (45 ∷ []) → decode_of digits ≡ Ok bytes → guarded (not (is_empty bytes)) bytes ≡ hex_of digits
hex_some digits bytes other decoded = sym (no_digits digits other ∙ ap some_bytes decoded ∙ some_of_ok bytes)

misses_none : (error : Unread) (read : Option (List ℕ)) → read ≡ None → Misses error read
misses_none Malformed read none = none
misses_none Memory read none = tt

misses_memory : (error : FromHexError) (read : Option (List ℕ)) → error ≡ OutOfMemory → Misses (unread_of error) read
misses_memory error read is = rw is tt

pub hex_failed : (digits : List ℕ) (error : FromHexError) → false ≡ bytes_eq digits (45 ∷ []) → (error ≡ OutOfMemory) ⊎ (decode_of digits ≡ Err error) → Misses (unread_of error) (hex_of digits)
hex_failed digits error other (inl memory) = misses_memory error (hex_of digits) memory
hex_failed digits error other (inr failed) = misses_none (unread_of error) (hex_of digits) (no_digits digits other ∙ ap some_bytes failed)
