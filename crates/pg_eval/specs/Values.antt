-- Values of expressions, how they compare, and sums of them.
use Rattle.std.specs.Prelude.{ℕ, ◌^◌, ℤ, pos, negsuc, Bool, true, false, not, List, Option, nat_lt, int_lt, int_le, if◌then◌else◌}
use Rattle.std.specs.List.{list_any}
use Rattle.std.specs.Ordering.{int_eq}
use Rattle.std.specs.Str.{bytes_eq, chars}
use Rattle.pg_parse.specs.declared.op.Op.{Op}
use Rattle.pg_parse.specs.declared.op.Op.TheVariants.{Equal, Unequal, Less, LessEqual, Greater, GreaterEqual}
use Rattle.pg_like.specs.Pattern.{is_like, pieces_of}
use Rattle.pg_eval.specs.declared.tri.Tri.{Tri}
use Rattle.pg_eval.specs.declared.tri.Tri.TheVariants.{Yes, No, Unknown}
use Rattle.pg_eval.specs.Tables.{known, and_of}

-- an expression has a text (its bytes), a whole, a truth, or is unknown
pub data Value : Type 0 where
  text : List ℕ → Value
  whole : ℤ → Value
  truth : Bool → Value
  unknown : Value

-- as what AND, OR, NOT and the filter itself take a value: a text or a whole counts as unknown
abbrev pub tri_of : Value → Tri
tri_of (text bytes) = Unknown
tri_of (whole number) = Unknown
tri_of (truth true) = Yes
tri_of (truth false) = No
tri_of unknown = Unknown

abbrev pub value_of : Tri → Value
value_of Yes = truth true
value_of No = truth false
value_of Unknown = unknown

-- ---- comparisons
-- wholes compare by all six operators
abbrev pub whole_compares : Op → ℤ → ℤ → Bool
whole_compares Equal a b = int_eq a b
whole_compares Unequal a b = not (int_eq a b)
whole_compares Less a b = int_lt a b
whole_compares LessEqual a b = int_le a b
whole_compares Greater a b = int_lt b a
whole_compares GreaterEqual a b = int_le b a

-- texts and truths compare by `=` and `<>`, from whether they are the same; by the other four they give false
abbrev pub sameness_compares : Op → Bool → Bool
sameness_compares Equal same = same
sameness_compares Unequal same = not same
sameness_compares Less same = false
sameness_compares LessEqual same = false
sameness_compares Greater same = false
sameness_compares GreaterEqual same = false

abbrev pub same_truth : Bool → Bool → Bool
same_truth true b = b
same_truth false b = not b

-- A comparison with an unknown side is unknown, and one of unlike kinds is false, by `<>` too.
abbrev pub compare : Op → Value → Value → Tri
compare op unknown b = Unknown
compare op a unknown = Unknown
compare op (whole a) (whole b) = known (whole_compares op a b)
compare op (text a) (text b) = known (sameness_compares op (bytes_eq a b))
compare op (truth a) (truth b) = known (sameness_compares op (same_truth a b))
compare op a b = No

-- x BETWEEN low AND high is x >= low AND x <= high
abbrev pub between : Value → Value → Value → Tri
between x low high = and_of (compare GreaterEqual x low) (compare LessEqual x high)

-- ---- sums
-- Whether 64 bits hold the number: it is at least -2^63, and at most 2^63 - 1. A negative number is written -(n + 1).
abbrev pub fits_64_bits : ℤ → Bool
fits_64_bits (pos n) = nat_lt n (2 ^ 63)
fits_64_bits (negsuc n) = nat_lt n (2 ^ 63)

-- a result outside 64 bits is unknown
abbrev pub within_64_bits : ℤ → Value
within_64_bits number = if fits_64_bits number then whole number else unknown

-- signs and operators of sums need wholes
abbrev pub of_whole : (ℤ → ℤ) → Value → Value
of_whole f (whole a) = within_64_bits (f a)
of_whole f _ = unknown

abbrev pub of_wholes : (ℤ → ℤ → ℤ) → Value → Value → Value
of_wholes f (whole a) (whole b) = within_64_bits (f a b)
of_wholes f _ _ = unknown

-- ---- IN and LIKE
-- unknown for an unknown value, false for one that isn't a text, or else whether the text is one of the list
abbrev pub is_in : Value → List (List ℕ) → Tri
is_in unknown texts = Unknown
is_in (text bytes) texts = known (list_any (bytes_eq bytes) texts)
is_in value texts = No

-- unknown for an unknown value, false for one that isn't a text, or else whether its characters are like the pattern
abbrev pub matches_pattern : Value → List ℕ → Option ℕ → Tri
matches_pattern unknown pattern escape = Unknown
matches_pattern (text bytes) pattern escape = known (is_like (pieces_of escape (chars pattern)) (chars bytes))
matches_pattern value pattern escape = No
