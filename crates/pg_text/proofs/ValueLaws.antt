-- Properties and their values are read as they were spelled, and what is read was spelled.
use Rattle.std.proofs.Common.{◌≡◌, ◌≢◌, ℕ, ℤ, pos, negsuc, zero, suc, ◌-◌, ◌<◌, ◌≤◌, ◌^◌, Bool, true, false, cond, eqb, List, [], ◌∷◌, ◌++◌, length, map, Option, Some, None, inl, inr, refl, ap, sym, subst, ◌∙◌, append_assoc, arith}
use Rattle.std.specs.Prelude.{All, codes, FitsSigned}
use Rattle.std.specs.Int.{w64}
use Rattle.std.specs.Fmt.{decimal, signed_decimal}
use Rattle.std.specs.Str.{IsUtf8, bytes_eq}
use Rattle.std.proofs.lemmas.List.{append-nil}
use Rattle.std.proofs.lemmas.List.Elements.{All-head, All-tail, All-cons, All-nil}
use Rattle.std.proofs.lemmas.Bool.{eqb-true, false_from_ne_true, and_parts, leb-true, le-leb, ltb-true, lt-ltb}
use Rattle.std.proofs.lemmas.Fmt.{decimal_nonempty}
use Rattle.std.proofs.lemmas.Option.{cond_some}
use Rattle.std.proofs.lemmas.Str.{IsUtf8-from_is_utf8, is_utf8-from_IsUtf8}
use Rattle.std.proofs.lemmas.Slice.Eq.{bytes_eq-Decides}
use Rattle.pg_msg.specs.declared.properties.Property.{Property}
use Rattle.pg_msg.specs.declared.properties.Value.{Value}
use Rattle.pg_msg.specs.declared.properties.Value.TheVariants.{Text, Whole, Truth}
use Rattle.pg_msg.specs.Messages.{IsValue, IsProperty, AreProperties}
use Rattle.pg_msg.specs.Reading.{Read}
use Rattle.pg_msg.proofs.FieldLaws.{bind_some, some_is}
use Rattle.pg_msg.proofs.ValueLaws.{chosen}
use Rattle.pg_msg.proofs.TestLaws.{between_decides, distinct_decides}
use Rattle.pg_text.specs.Texts.{doubled, value_text, property_text, properties_text}
use Rattle.pg_text.specs.Reading.{before, onward, behind, number_of, joined, quoted_from, text_at, whole_from, whole_of, whole_at, word_value, value_from, value_at, property_name_at, property_at, more_at, each_at, properties_at}
use Rattle.pg_text.proofs.NumeralLemmas.{Lacks, EndsAt, IsNoDigit, Lacks-decimal}
use Rattle.pg_text.proofs.PieceLaws.{cut_parts, before_again, onward_again, behind_again, behind_takes, number_again, number_takes}
use Rattle.pg_text.proofs.WordLaws.{Lacks-test, no_mark, property_name_again, property_name_takes}

-- ---- texts

quote_ends : (rest : List ℕ) → EndsAt 32 rest → quoted_from true rest ≡ Some ([], rest)
unfolding quoted_from
quote_ends [] ends = refl
quote_ends (byte ∷ rest) ends = rw ends refl

text_byte : (byte : ℕ) (text rest : List ℕ) (test : Bool) → eqb byte 39 ≡ test → quoted_from false (doubled text ++ (39 ∷ rest)) ≡ Some (text, rest) → quoted_from false (cond test (39 ∷ 39 ∷ doubled text) (byte ∷ doubled text) ++ (39 ∷ rest)) ≡ Some (byte ∷ text, rest)
unfolding quoted_from
text_byte byte text rest true quote others = rw (eqb-true byte 39 quote, others) refl
text_byte byte text rest false plain others = rw (plain, others) refl

quoted_again : (text rest : List ℕ) → EndsAt 32 rest → quoted_from false (doubled text ++ (39 ∷ rest)) ≡ Some (text, rest)
unfolding quoted_from
quoted_again [] rest ends = quote_ends rest ends
quoted_again (byte ∷ text) rest ends = text_byte byte text rest (eqb byte 39) refl (quoted_again text rest ends)

text_again : (text rest : List ℕ) → IsUtf8 text → length text ≤ 65535 → EndsAt 32 rest → text_at ((doubled text ++ (39 ∷ [])) ++ rest) ≡ Some (Text text, rest)
unfolding text_at
text_again text rest utf8 short ends =
    ap text_at (append_assoc (doubled text) (39 ∷ []) rest)
    ∙ rw (quoted_again text rest ends, is_utf8-from_IsUtf8 text utf8, le-leb (length text) 65535 short) refl

-- what was read behind some bytes
joined_some : {X : Type 0} (front : List X) (read : Read (List X)) (all : List X) (rest : List ℕ) → joined front read ≡ Some (all, rest) → (others : List X) × (read ≡ Some (others, rest)) × (all ≡ front ++ others)
joined_some front None all rest found = absurd (let never = found in cc)
joined_some front (Some read) all rest found = let same = some_is (front ++ read.0, read.1) (all, rest) found in (read.0, ap (λ (r : List ℕ). Some (read.0, r)) (ap (λ x. x.1) same), sym (ap (λ x. x.0) same))

-- the line is that text, with each quote twice, and the quote that ends it
abbrev Quotes : Bool → List ℕ → List ℕ → List ℕ → Type 0
Quotes false line text rest = line ≡ doubled text ++ (39 ∷ rest)
Quotes true line text rest = 39 ∷ line ≡ doubled text ++ (39 ∷ rest)

plain_doubled : (byte : ℕ) (text : List ℕ) → eqb byte 39 ≡ false → doubled (byte ∷ text) ≡ byte ∷ doubled text
plain_doubled byte text plain = rw plain refl

quoted_takes : (seen : Bool) (line text rest : List ℕ) → quoted_from seen line ≡ Some (text, rest) → Quotes seen line text rest
unfolding quoted_from
quoted_takes false [] text rest found = absurd (let never = found in cc)
quoted_takes true [] text rest found = let same = some_is ([], []) (text, rest) found in subst (λ (x : List ℕ × List ℕ). 39 ∷ [] ≡ doubled x.0 ++ (39 ∷ x.1)) same refl
quoted_takes false (byte ∷ line) text rest found = elim (chosen (eqb byte 39) (quoted_from true line) (joined (byte ∷ []) (quoted_from false line)) (Some (text, rest)) found) [
  | inl quote ↦ ap (λ (b : ℕ). b ∷ line) (eqb-true byte 39 quote.0) ∙ quoted_takes true line text rest quote.1
  | inr plain ↦
      let behind_it = joined_some (byte ∷ []) (quoted_from false line) text rest plain.1 in
      let others = quoted_takes false line behind_it.0 rest behind_it.1 in
      subst (λ (t : List ℕ). byte ∷ line ≡ doubled t ++ (39 ∷ rest)) (sym behind_it.2) (ap (λ (xs : List ℕ). byte ∷ xs) others ∙ ap (λ (xs : List ℕ). xs ++ (39 ∷ rest)) (sym (plain_doubled byte behind_it.0 plain.0)))
]
quoted_takes true (byte ∷ line) text rest found = elim (chosen (eqb byte 39) (joined (39 ∷ []) (quoted_from false line)) (Some ([], byte ∷ line)) (Some (text, rest)) found) [
  | inl quote ↦
      let behind_it = joined_some (39 ∷ []) (quoted_from false line) text rest quote.1 in
      let others = quoted_takes false line behind_it.0 rest behind_it.1 in
      subst (λ (t : List ℕ). 39 ∷ byte ∷ line ≡ doubled t ++ (39 ∷ rest)) (sym behind_it.2) (ap (λ (b : ℕ). 39 ∷ b ∷ line) (eqb-true byte 39 quote.0) ∙ ap (λ (xs : List ℕ). 39 ∷ 39 ∷ xs) others)
  | inr plain ↦ let same = some_is ([], byte ∷ line) (text, rest) plain.1 in subst (λ (x : List ℕ × List ℕ). 39 ∷ byte ∷ line ≡ doubled x.0 ++ (39 ∷ x.1)) same refl
]

text_takes : (line : List ℕ) (value : Value) (rest : List ℕ) → text_at line ≡ Some (value, rest) → (39 ∷ line ≡ value_text value ++ rest) × IsValue value
unfolding text_at
text_takes line value rest found =
    let a = bind_some (quoted_from false line) _ (value, rest) found in
    let passed = cond_some _ _ _ a.2 in
    let both = and_parts _ _ passed.0 in
    let whole = ap (λ (xs : List ℕ). 39 ∷ xs) (quoted_takes false line a.0.0 a.0.1 a.1 ∙ sym (append_assoc (doubled a.0.0) (39 ∷ []) a.0.1)) in
    subst (λ (x : Value × List ℕ). (39 ∷ line ≡ value_text x.0 ++ x.1) × IsValue x.0) passed.1 (whole, (IsUtf8-from_is_utf8 a.0.0 both.0, leb-true (length a.0.0) 65535 both.1))

-- ---- numbers

pos_fits : (n : ℕ) → FitsSigned w64 (pos n) → n < 2 ^ 63
pos_fits n fits = omega (arith, fits.sfits)

neg_fits : (n : ℕ) → FitsSigned w64 (negsuc n) → suc n ≤ 2 ^ 63
neg_fits n fits = omega (arith, fits.sfits)

fits_pos : (n : ℕ) → n < 2 ^ 63 → FitsSigned w64 (pos n)
fits_pos n small = record { sfits = omega arith }

fits_neg : (n : ℕ) → suc n ≤ 2 ^ 63 → FitsSigned w64 (negsuc n)
fits_neg n small = record { sfits = omega arith }

pred_suc : (n : ℕ) → suc n - 1 ≡ n
pred_suc n = omega arith

suc_pred : (n : ℕ) → 1 ≤ n → suc (n - 1) ≡ n
suc_pred n some = omega arith

whole_again : (number : ℤ) → FitsSigned w64 number → whole_of (signed_decimal number) ≡ Some number
unfolding whole_of
whole_again (pos n) fits =
    let small = pos_fits n fits in
    let no_sign : behind (45 ∷ []) (decimal n) ≡ None = ap (behind (45 ∷ [])) (sym (append-nil (decimal n))) ∙ no_mark 45 (decimal n) [] (decimal_nonempty n (omega arith)) (Lacks-decimal 45 n (inl (omega arith)) (omega arith)) in
    rw (no_sign, number_again n (omega arith), lt-ltb n (2 ^ 63) small) refl
whole_again (negsuc n) fits =
    let small = neg_fits n fits in
    rw (behind_again (45 ∷ []) (decimal (suc n)), number_again (suc n) (omega arith), (between_decides 1 (2 ^ 63) (suc n)).1 (omega arith, small), pred_suc n) refl

whole_found : (word : List ℕ) (number : ℤ) (digits : Option (List ℕ)) → behind (45 ∷ []) word ≡ digits → whole_from digits word ≡ Some number → (word ≡ signed_decimal number) × FitsSigned w64 number
whole_found word number None none found =
    let a = bind_some (number_of word) _ number found in
    let passed = cond_some _ _ _ a.2 in
    subst (λ (z : ℤ). (word ≡ signed_decimal z) × FitsSigned w64 z) passed.1 ((number_takes word a.0 a.1).0, fits_pos a.0 (ltb-true _ _ passed.0))
whole_found word number (Some digits) sign found =
    let a = bind_some (number_of digits) _ number found in
    let passed = cond_some _ _ _ a.2 in
    let within = (between_decides 1 (2 ^ 63) a.0).0 passed.0 in
    let size = suc_pred a.0 within.0 in
    let whole : word ≡ signed_decimal (negsuc (a.0 - 1)) = behind_takes (45 ∷ []) word digits sign ∙ ap (λ (xs : List ℕ). 45 ∷ xs) ((number_takes digits a.0 a.1).0 ∙ ap decimal (sym size)) in
    subst (λ (z : ℤ). (word ≡ signed_decimal z) × FitsSigned w64 z) passed.1 (whole, fits_neg (a.0 - 1) (omega (arith, within.1, size)))

whole_takes : (word : List ℕ) (number : ℤ) → whole_of word ≡ Some number → (word ≡ signed_decimal number) × FitsSigned w64 number
unfolding whole_of
whole_takes word number found = whole_found word number (behind (45 ∷ []) word) refl found

Lacks-signed : (mark : ℕ) (number : ℤ) → IsNoDigit mark → 45 ≢ mark → FitsSigned w64 number → Lacks mark (signed_decimal number)
Lacks-signed mark (pos n) no_digit no_sign fits = let small = pos_fits n fits in Lacks-decimal mark n no_digit (omega arith)
Lacks-signed mark (negsuc n) no_digit no_sign fits = let small = neg_fits n fits in (no_sign, Lacks-decimal mark (suc n) no_digit (omega arith))

signed_nonempty : (number : ℤ) → FitsSigned w64 number → 0 < length (signed_decimal number)
signed_nonempty (pos n) fits = let small = pos_fits n fits in decimal_nonempty n (omega arith)
signed_nonempty (negsuc n) fits = omega arith

-- ---- a word that is a value

another : (word text : List ℕ) (mark : ℕ) → Lacks mark word → (Lacks mark text → ⊥) → bytes_eq word text ≡ false
another word text mark lacking has = false_from_ne_true (bytes_eq word text) (λ same. has (subst (Lacks mark) ((bytes_eq-Decides word text).0 same) lacking))

word_again : (number : ℤ) → FitsSigned w64 number → word_value (signed_decimal number) ≡ Some (Whole number)
unfolding word_value whole_at
word_again number fits =
    let lacking = Lacks-signed 69 number (inr (omega arith)) (λ same. omega (arith, same)) fits in
    rw (another (signed_decimal number) (codes "TRUE") 69 lacking (λ has. has.1.1.1.0 refl), another (signed_decimal number) (codes "FALSE") 69 lacking (λ has. has.1.1.1.1.0 refl), whole_again number fits) refl

word_takes : (word : List ℕ) (value : Value) → word_value word ≡ Some value → (word ≡ value_text value) × IsValue value
unfolding word_value whole_at
word_takes word value found = elim (chosen (bytes_eq word (codes "TRUE")) _ _ _ found) [
  | inl is ↦ subst (λ (v : Value). (word ≡ value_text v) × IsValue v) (some_is (Truth true) value is.1) ((bytes_eq-Decides word (codes "TRUE")).0 is.0, tt)
  | inr other ↦ elim (chosen (bytes_eq word (codes "FALSE")) _ _ _ other.1) [
    | inl is ↦ subst (λ (v : Value). (word ≡ value_text v) × IsValue v) (some_is (Truth false) value is.1) ((bytes_eq-Decides word (codes "FALSE")).0 is.0, tt)
    | inr whole ↦
        let a = bind_some (whole_of word) _ value whole.1 in
        subst (λ (v : Value). (word ≡ value_text v) × IsValue v) (some_is (Whole a.0) value a.2) (whole_takes word a.0 a.1)
  ]
]

-- ---- any value

of_word : (word rest : List ℕ) (value : Value) → 0 < length word → Lacks 39 word → Lacks 32 word → word_value word ≡ Some value → EndsAt 32 rest → value_at (word ++ rest) ≡ Some (value, rest)
unfolding value_at
of_word word rest value some no_quote no_space read ends = rw (no_mark 39 word rest some no_quote, before_again 32 word rest no_space ends, onward_again 32 word rest no_space ends, read) refl

pub value_again : (value : Value) (rest : List ℕ) → IsValue value → EndsAt 32 rest → value_at (value_text value ++ rest) ≡ Some (value, rest)
unfolding value_at word_value
value_again (Text text) rest is ends = rw (behind_again (39 ∷ []) ((doubled text ++ (39 ∷ [])) ++ rest)) (text_again text rest is.0 is.1 ends)
value_again (Whole number) rest fits ends =
    of_word (signed_decimal number) rest (Whole number) (signed_nonempty number fits) (Lacks-signed 39 number (inl (omega arith)) (λ same. omega (arith, same)) fits)
    (Lacks-signed 32 number (inl (omega arith)) (λ same. omega (arith, same)) fits) (word_again number fits) ends
value_again (Truth true) rest is ends = of_word (codes "TRUE") rest (Truth true) (omega arith) (Lacks-test 39 (codes "TRUE") refl) (Lacks-test 32 (codes "TRUE") refl) refl ends
value_again (Truth false) rest is ends = of_word (codes "FALSE") rest (Truth false) (omega arith) (Lacks-test 39 (codes "FALSE") refl) (Lacks-test 32 (codes "FALSE") refl) refl ends

value_found : (line : List ℕ) (value : Value) (rest : List ℕ) (quoted : Option (List ℕ)) → behind (39 ∷ []) line ≡ quoted → value_from quoted line ≡ Some (value, rest) → (line ≡ value_text value ++ rest) × IsValue value
value_found line value rest None none found =
    let a = bind_some (word_value (before 32 line)) _ (value, rest) found in
    let taken = word_takes (before 32 line) a.0 a.1 in
    let whole = cut_parts 32 line ∙ ap (λ (xs : List ℕ). xs ++ onward 32 line) taken.0 in
    subst (λ (x : Value × List ℕ). (line ≡ value_text x.0 ++ x.1) × IsValue x.0) (some_is (a.0, onward 32 line) (value, rest) a.2) (whole, taken.1)
value_found line value rest (Some quoted) quote found = let taken = text_takes quoted value rest found in (behind_takes (39 ∷ []) line quoted quote ∙ taken.0, taken.1)

pub value_takes : (line : List ℕ) (value : Value) (rest : List ℕ) → value_at line ≡ Some (value, rest) → (line ≡ value_text value ++ rest) × IsValue value
unfolding value_at
value_takes line value rest found = value_found line value rest (behind (39 ∷ []) line) refl found

-- ---- properties

-- what stands behind the keyword
abbrev named : Property → List ℕ
named property = property.name ++ (32 ∷ value_text property.value)

property_again : (property : Property) (rest : List ℕ) → IsProperty property → EndsAt 32 rest → property_at (named property ++ rest) ≡ Some (property, rest)
unfolding property_at
property_again property rest is ends =
    ap property_at (append_assoc property.name (32 ∷ value_text property.value) rest)
    ∙ rw (property_name_again property.name (32 ∷ (value_text property.value ++ rest)) is.0 refl, behind_again (32 ∷ []) (value_text property.value ++ rest), value_again property.value rest is.1 ends) refl

property_takes : (line : List ℕ) (property : Property) (rest : List ℕ) → property_at line ≡ Some (property, rest) → (line ≡ named property ++ rest) × IsProperty property
unfolding property_at
property_takes line property rest found =
    let a = bind_some (property_name_at line) _ (property, rest) found in
    let b = bind_some (behind (32 ∷ []) a.0.1) _ (property, rest) a.2 in
    let v = bind_some (value_at b.0) _ (property, rest) b.2 in
    let name = property_name_takes line a.0.0 a.0.1 a.1 in
    let value = value_takes b.0 v.0.0 v.0.1 v.1 in
    let made : Property × List ℕ = (record { name = a.0.0; value = v.0.0 }, v.0.1) in
    let whole : line ≡ named made.0 ++ made.1 =
    name.0 ∙ ap (λ (xs : List ℕ). a.0.0 ++ xs) (behind_takes (32 ∷ []) a.0.1 b.0 b.1 ∙ ap (λ (xs : List ℕ). 32 ∷ xs) value.0) ∙ sym (append_assoc a.0.0 (32 ∷ value_text v.0.0) v.0.1) in
    subst (λ (x : Property × List ℕ). (line ≡ named x.0 ++ x.1) × IsProperty x.0) (some_is made (property, rest) v.2) (whole, (name.1, value.1))

-- properties end a word
pub ends_properties : (properties : List Property) (rest : List ℕ) → EndsAt 32 rest → EndsAt 32 (properties_text properties ++ rest)
ends_properties [] rest ends = ends
ends_properties (property ∷ properties) rest ends = refl

more_again : (most : ℕ) (property : Property) (properties : List Property) (rest : List ℕ) → IsProperty property → EndsAt 32 (properties_text properties ++ rest) → each_at most (properties_text properties ++ rest) ≡ Some (properties, rest) → each_at (suc most) (properties_text (property ∷ properties) ++ rest) ≡ Some (property ∷ properties, rest)
unfolding each_at
more_again most property properties rest is ends others =
    let behind_it = properties_text properties ++ rest in
    let front : properties_text (property ∷ properties) ++ rest ≡ codes " prop " ++ (named property ++ behind_it) = append_assoc (property_text property) (properties_text properties) rest in
    ap (each_at (suc most)) front
    ∙ rw (behind_again (codes " prop ") (named property ++ behind_it), property_again property behind_it is ends, others) refl

none_again : (most : ℕ) (rest : List ℕ) → behind (codes " prop ") rest ≡ None → each_at most rest ≡ Some ([], rest)
unfolding each_at
none_again zero rest none = rw none refl
none_again (suc most) rest none = rw none refl

each_again : (most : ℕ) (properties : List Property) (rest : List ℕ) → length properties ≤ most → All IsProperty properties → EndsAt 32 rest → behind (codes " prop ") rest ≡ None → each_at most (properties_text properties ++ rest) ≡ Some (properties, rest)
each_again most [] rest few each ends none = none_again most rest none
each_again zero (property ∷ properties) rest few each ends none = absurd (omega arith)
each_again (suc most) (property ∷ properties) rest few each ends none =
    more_again most property properties rest (All-head IsProperty property properties each) (ends_properties properties rest ends) (each_again most properties rest (omega arith) (All-tail IsProperty property properties each) ends none)

pub properties_again : (properties : List Property) (rest : List ℕ) → AreProperties properties → EndsAt 32 rest → behind (codes " prop ") rest ≡ None → properties_at (properties_text properties ++ rest) ≡ Some (properties, rest)
unfolding properties_at
properties_again properties rest are ends none =
    rw (each_again 100 properties rest are.count are.each ends none, (distinct_decides (map (λ property. property.name) properties)).1 are.distinct) refl

-- the properties are those of the line
record Are (most : ℕ) (line : List ℕ) (properties : List Property) (rest : List ℕ) : Type 0 where
  parts : line ≡ properties_text properties ++ rest
  few : length properties ≤ most
  each : All IsProperty properties

none_taken : (most : ℕ) (line : List ℕ) (properties : List Property) (rest : List ℕ) → ◌≡◌ {A = Read (List Property)} (Some ([], line)) (Some (properties, rest)) → Are most line properties rest
none_taken most line properties rest found = subst (λ (x : List Property × List ℕ). Are most line x.0 x.1) (some_is ([], line) (properties, rest) found) (record { parts = refl; few = omega arith; each = All-nil IsProperty })

-- no more may be read
none_left : (line : List ℕ) (properties : List Property) (rest : List ℕ) (more : Option (List ℕ)) → more_at (λ _. None) more line ≡ Some (properties, rest) → Are 0 line properties rest
none_left line properties rest None read = none_taken 0 line properties rest read
none_left line properties rest (Some more) read = absurd (let never = (bind_some (property_at more) _ (properties, rest) read).2 in cc)

-- more may be read
some_left : (most : ℕ) (line : List ℕ) (properties : List Property) (rest : List ℕ) → ((others : List ℕ) (p : List Property) (r : List ℕ) → each_at most others ≡ Some (p, r) → Are most others p r)
    → (more : Option (List ℕ)) → behind (codes " prop ") line ≡ more → more_at (each_at most) more line ≡ Some (properties, rest) → Are (suc most) line properties rest
some_left most line properties rest fewer None none read = none_taken (suc most) line properties rest read
some_left most line properties rest fewer (Some more) keyword read =
    let a = bind_some (property_at more) _ (properties, rest) read in
    let b = bind_some (each_at most a.0.1) _ (properties, rest) a.2 in
    let first = property_takes more a.0.0 a.0.1 a.1 in
    let others = fewer a.0.1 b.0.0 b.0.1 b.1 in
    let whole : line ≡ properties_text (a.0.0 ∷ b.0.0) ++ b.0.1 =
    behind_takes (codes " prop ") line more keyword ∙ ap (λ (xs : List ℕ). codes " prop " ++ xs) (first.0 ∙ ap (λ (xs : List ℕ). named a.0.0 ++ xs) others.parts)
    ∙ sym (append_assoc (property_text a.0.0) (properties_text b.0.0) b.0.1) in
    subst (λ (x : List Property × List ℕ). Are (suc most) line x.0 x.1) (some_is (a.0.0 ∷ b.0.0, b.0.1) (properties, rest) b.2)
    (record { parts = whole; few = omega (arith, others.few); each = All-cons IsProperty a.0.0 b.0.0 first.1 others.each })

each_takes : (most : ℕ) (line : List ℕ) (properties : List Property) (rest : List ℕ) → each_at most line ≡ Some (properties, rest) → Are most line properties rest
unfolding each_at
each_takes zero line properties rest found = none_left line properties rest (behind (codes " prop ") line) found
each_takes (suc most) line properties rest found = some_left most line properties rest (each_takes most) (behind (codes " prop ") line) refl found

pub properties_takes : (line : List ℕ) (properties : List Property) (rest : List ℕ) → properties_at line ≡ Some (properties, rest) → (line ≡ properties_text properties ++ rest) × AreProperties properties
unfolding properties_at
properties_takes line properties rest found =
    let a = bind_some (each_at 100 line) _ (properties, rest) found in
    let passed = cond_some _ _ _ a.2 in
    let are = each_takes 100 line a.0.0 a.0.1 a.1 in
    subst (λ (x : List Property × List ℕ). (line ≡ properties_text x.0 ++ x.1) × AreProperties x.0) passed.1
    (are.parts, record { count = are.few; each = are.each; distinct = (distinct_decides (map (λ property. property.name) a.0.0)).0 passed.0 })
