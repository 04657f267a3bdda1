-- Values and properties are read as they are spelled.
use Rattle.std.proofs.Common.{◌≡◌, ℕ, ℤ, zero, suc, ◌^◌, ◌<◌, ◌≤◌, Bool, true, false, cond, eqb, leb, List, [], ◌∷◌, ◌++◌, length, map, Some, ◌⊎◌, inl, inr, refl, sym, ap, subst, ◌∙◌, append_assoc, arith}
use Rattle.std.specs.Prelude.{FitsSigned}
use Rattle.std.specs.Int.{w8, w16, w64, to_be_bytes, cast_signed, cast_unsigned}
use Rattle.std.specs.Str.{IsUtf8}
use Rattle.std.proofs.Math.Facts.{sfits_to_z, Fits-of_lt, Fits-of_z}
use Rattle.std.proofs.lemmas.Bool.{leb-true, le-leb, eqb-true}
use Rattle.std.proofs.lemmas.Int.{of_z-to_z, to_z-of_z}
use Rattle.std.proofs.lemmas.Option.{cond_some}
use Rattle.std.proofs.lemmas.Str.{IsUtf8-from_is_utf8, is_utf8-from_IsUtf8}
use Rattle.pg_msg.specs.declared.limits.TheConstants.{MOST_PROPERTIES}
use Rattle.pg_msg.specs.declared.properties.Property.{Property}
use Rattle.pg_msg.specs.declared.properties.Value.{Value}
use Rattle.pg_msg.specs.declared.properties.Value.TheVariants.{Text, Whole, Truth}
use Rattle.pg_msg.specs.Names.{IsPropertyName}
use Rattle.pg_msg.specs.Messages.{value_bytes, property_bytes, properties_bytes, IsValue, IsProperty, AreProperties}
use Rattle.pg_msg.specs.Reading.{guarded, counted_at, number_at, octets_at, text_at, whole_at, truth_at, value_of, value_at, property_name_at, property_at, properties_at}
use Rattle.pg_msg.proofs.FieldLaws.{IsBytes, Takes, Takes-then, bind_some, some_is, wide16, wide64, number_takes, number_again, byte_takes, byte_again, octets_takes, octets_again, IsField, IsChain, counted_takes, counted_again}
use Rattle.pg_msg.proofs.TestLaws.{property_name_decides, distinct_decides}

-- which way a test went
pub chosen : {A : Type 0} (test : Bool) (x y z : A) → cond test x y ≡ z → ((test ≡ true) × (x ≡ z)) ⊎ ((test ≡ false) × (y ≡ z))
chosen true x y z e = inl (refl, e)
chosen false x y z e = inr (refl, e)

-- a byte in front
pub Takes-behind : (byte : ℕ) (bytes front rest : List ℕ) → Takes bytes front rest → Takes (byte ∷ bytes) (byte ∷ front) rest
Takes-behind byte bytes front rest taken = record { parts = ap (λ (all : List ℕ). byte ∷ all) taken.parts; rest_fits = taken.rest_fits }

-- ---- values, behind their kind

text_takes : (bytes : List ℕ) (value : Value) (rest : List ℕ) → IsBytes bytes → text_at bytes ≡ Some (value, rest) → Takes (1 ∷ bytes) (value_bytes value) rest × IsValue value
unfolding text_at
text_takes bytes value rest fits e =
    let a = bind_some (number_at w16 bytes) _ (value, rest) e in
    let b = bind_some (octets_at a.0.0 a.0.1) _ (value, rest) a.2 in
    let count = number_takes w16 (2 ^ 16) wide16 bytes a.0.0 a.0.1 fits a.1 in
    let text = octets_takes a.0.0 a.0.1 b.0.0 b.0.1 count.0.rest_fits b.1 in
    let passed = cond_some _ _ _ b.2 in
    let both = Takes-then bytes (to_be_bytes w16 a.0.0) a.0.1 b.0.0 b.0.1 count.0 text.0 in
    let whole : Takes bytes (to_be_bytes w16 (length b.0.0) ++ b.0.0) b.0.1 = subst (λ (n : ℕ). Takes bytes (to_be_bytes w16 n ++ b.0.0) b.0.1) (sym text.1) both in
    let short : length b.0.0 ≤ 65535 = rw text.1 (omega (arith, count.1)) in
    subst (λ (x : Value × List ℕ). Takes (1 ∷ bytes) (value_bytes x.0) x.1 × IsValue x.0) passed.1 (Takes-behind 1 bytes (to_be_bytes w16 (length b.0.0) ++ b.0.0) b.0.1 whole, (IsUtf8-from_is_utf8 b.0.0 passed.0, short))

text_again : (text rest : List ℕ) → IsUtf8 text → length text ≤ 65535 → text_at ((to_be_bytes w16 (length text) ++ text) ++ rest) ≡ Some (Text text, rest)
unfolding text_at
text_again text rest utf8 short =
    ap text_at (append_assoc (to_be_bytes w16 (length text)) text rest)
    ∙ rw (number_again w16 (2 ^ 16) wide16 (length text) (text ++ rest) (omega (arith, short)), octets_again text rest, is_utf8-from_IsUtf8 text utf8) refl

whole_takes : (bytes : List ℕ) (value : Value) (rest : List ℕ) → IsBytes bytes → whole_at bytes ≡ Some (value, rest) → Takes (2 ∷ bytes) (value_bytes value) rest × IsValue value
unfolding whole_at
whole_takes bytes value rest fits e =
    let a = bind_some (number_at w64 bytes) _ (value, rest) e in
    let number = number_takes w64 (2 ^ 64) wide64 bytes a.0.0 a.0.1 fits a.1 in
    let made : Value × List ℕ = (Whole (cast_signed w64 a.0.0), a.0.1) in
    let same : cast_unsigned w64 (cast_signed w64 a.0.0) ≡ a.0.0 = of_z-to_z w64 a.0.0 number.1 in
    let whole : Takes bytes (to_be_bytes w64 (cast_unsigned w64 (cast_signed w64 a.0.0))) a.0.1 = subst (λ (n : ℕ). Takes bytes (to_be_bytes w64 n) a.0.1) (sym same) number.0 in
    subst (λ (x : Value × List ℕ). Takes (2 ∷ bytes) (value_bytes x.0) x.1 × IsValue x.0) (some_is made (value, rest) a.2) (Takes-behind 2 bytes (to_be_bytes w64 (cast_unsigned w64 (cast_signed w64 a.0.0))) a.0.1 whole, sfits_to_z (Fits-of_lt {w = w64} {n = a.0.0} number.1))

whole_again : (number : ℤ) (rest : List ℕ) → FitsSigned w64 number → whole_at (to_be_bytes w64 (cast_unsigned w64 number) ++ rest) ≡ Some (Whole number, rest)
unfolding whole_at
whole_again number rest fits =
    let bits : cast_unsigned w64 number < 2 ^ 64 = (Fits-of_z {w = w64} {z = number} fits).fits in
    rw (number_again w64 (2 ^ 64) wide64 (cast_unsigned w64 number) rest bits, to_z-of_z w64 number fits) refl

truth_byte : (n : ℕ) → n ≤ 1 → cond (eqb n 1) 1 0 ≡ n
truth_byte zero small = refl
truth_byte (suc zero) small = refl
truth_byte (suc (suc n)) small = absurd (omega arith)

truth_takes : (bytes : List ℕ) (value : Value) (rest : List ℕ) → IsBytes bytes → truth_at bytes ≡ Some (value, rest) → Takes (3 ∷ bytes) (value_bytes value) rest × IsValue value
unfolding truth_at
truth_takes bytes value rest fits e =
    let a = bind_some (number_at w8 bytes) _ (value, rest) e in
    let byte = byte_takes bytes a.0.0 a.0.1 fits a.1 in
    let passed = cond_some _ _ _ a.2 in
    let same = truth_byte a.0.0 (leb-true a.0.0 1 passed.0) in
    let whole : Takes bytes (cond (eqb a.0.0 1) 1 0 ∷ []) a.0.1 = subst (λ (n : ℕ). Takes bytes (n ∷ []) a.0.1) (sym same) byte.0 in
    subst (λ (x : Value × List ℕ). Takes (3 ∷ bytes) (value_bytes x.0) x.1 × IsValue x.0) passed.1 (Takes-behind 3 bytes (cond (eqb a.0.0 1) 1 0 ∷ []) a.0.1 whole, tt)

truth_again : (truth : Bool) (rest : List ℕ) → truth_at (cond truth 1 0 ∷ rest) ≡ Some (Truth truth, rest)
unfolding truth_at
truth_again true rest = rw (byte_again 1 rest) refl
truth_again false rest = rw (byte_again 0 rest) refl

-- ---- any value

of_kind : (kind : ℕ) (bytes : List ℕ) (value : Value) (rest : List ℕ) → IsBytes bytes → value_of kind bytes ≡ Some (value, rest) → Takes (kind ∷ bytes) (value_bytes value) rest × IsValue value
of_kind kind bytes value rest fits e =
    elim (chosen (eqb kind 1) _ _ _ e) [
      | inl text ↦ rw (eqb-true kind 1 text.0) (text_takes bytes value rest fits text.1)
      | inr no_text ↦ elim (chosen (eqb kind 2) _ _ _ no_text.1) [
        | inl whole ↦ rw (eqb-true kind 2 whole.0) (whole_takes bytes value rest fits whole.1)
        | inr no_whole ↦ elim (chosen (eqb kind 3) _ _ _ no_whole.1) [
          | inl truth ↦ rw (eqb-true kind 3 truth.0) (truth_takes bytes value rest fits truth.1)
          | inr none ↦ absurd (let never = none.1 in cc)
        ]
      ]
    ]

pub value_takes : (bytes : List ℕ) (value : Value) (rest : List ℕ) → IsBytes bytes → value_at bytes ≡ Some (value, rest) → Takes bytes (value_bytes value) rest × IsValue value
unfolding value_at
value_takes bytes value rest fits e =
    let a = bind_some (number_at w8 bytes) _ (value, rest) e in
    let kind = byte_takes bytes a.0.0 a.0.1 fits a.1 in
    let behind = of_kind a.0.0 a.0.1 value rest kind.0.rest_fits a.2 in
    subst (λ (all : List ℕ). Takes all (value_bytes value) rest × IsValue value) (sym kind.0.parts) behind

pub value_again : (value : Value) (rest : List ℕ) → IsValue value → value_at (value_bytes value ++ rest) ≡ Some (value, rest)
unfolding value_at
value_again (Text text) rest is = rw (byte_again 1 ((to_be_bytes w16 (length text) ++ text) ++ rest)) (text_again text rest is.0 is.1)
value_again (Whole number) rest is = rw (byte_again 2 (to_be_bytes w64 (cast_unsigned w64 number) ++ rest)) (whole_again number rest is)
value_again (Truth truth) rest is = rw (byte_again 3 (cond truth 1 0 ∷ rest)) (truth_again truth rest)

-- ---- properties

pub property_name_takes : (bytes name rest : List ℕ) → IsBytes bytes → property_name_at bytes ≡ Some (name, rest) → Takes bytes (length name ∷ name) rest × IsPropertyName name
unfolding property_name_at
property_name_takes bytes name rest fits e =
    let a = bind_some (number_at w8 bytes) _ (name, rest) e in
    let b = bind_some (octets_at a.0.0 a.0.1) _ (name, rest) a.2 in
    let count = byte_takes bytes a.0.0 a.0.1 fits a.1 in
    let text = octets_takes a.0.0 a.0.1 b.0.0 b.0.1 count.0.rest_fits b.1 in
    let passed = cond_some _ _ _ b.2 in
    let both = Takes-then bytes (a.0.0 ∷ []) a.0.1 b.0.0 b.0.1 count.0 text.0 in
    let whole : Takes bytes (length b.0.0 ∷ b.0.0) b.0.1 = subst (λ (n : ℕ). Takes bytes (n ∷ b.0.0) b.0.1) (sym text.1) both in
    subst (λ (x : List ℕ × List ℕ). Takes bytes (length x.0 ∷ x.0) x.1 × IsPropertyName x.0) passed.1 (whole, (property_name_decides b.0.0).0 passed.0)

pub property_name_again : (name rest : List ℕ) → IsPropertyName name → property_name_at ((length name ∷ name) ++ rest) ≡ Some (name, rest)
unfolding property_name_at
property_name_again name rest is = rw (byte_again (length name) (name ++ rest), octets_again name rest, (property_name_decides name).1 is) refl

pub property_takes : (bytes : List ℕ) (property : Property) (rest : List ℕ) → IsBytes bytes → property_at bytes ≡ Some (property, rest) → Takes bytes (property_bytes property) rest × IsProperty property
unfolding property_at
property_takes bytes property rest fits e =
    let a = bind_some (property_name_at bytes) _ (property, rest) e in
    let b = bind_some (value_at a.0.1) _ (property, rest) a.2 in
    let name = property_name_takes bytes a.0.0 a.0.1 fits a.1 in
    let value = value_takes a.0.1 b.0.0 b.0.1 name.0.rest_fits b.1 in
    let made : Property × List ℕ = (record { name = a.0.0; value = b.0.0 }, b.0.1) in
    let both = Takes-then bytes (length a.0.0 ∷ a.0.0) a.0.1 (value_bytes b.0.0) b.0.1 name.0 value.0 in
    subst (λ (x : Property × List ℕ). Takes bytes (property_bytes x.0) x.1 × IsProperty x.0) (some_is made (property, rest) b.2) (both, (name.1, value.1))

pub property_again : (property : Property) (rest : List ℕ) → IsProperty property → property_at (property_bytes property ++ rest) ≡ Some (property, rest)
unfolding property_at
property_again property rest is =
    ap property_at (append_assoc (length property.name ∷ property.name) (value_bytes property.value) rest)
    ∙ rw (property_name_again property.name (value_bytes property.value ++ rest) is.0, value_again property.value rest is.1) refl

property_field : IsField property_at property_bytes IsProperty
property_field = record { takes = property_takes; again = property_again }

property_chain : IsChain property_bytes properties_bytes
property_chain = record { none = refl; more = λ _ _. refl }

pub properties_takes : (bytes : List ℕ) (properties : List Property) (rest : List ℕ) → IsBytes bytes → properties_at bytes ≡ Some (properties, rest) → Takes bytes (length properties ∷ properties_bytes properties) rest × AreProperties properties
unfolding properties_at
properties_takes bytes properties rest fits e =
    let a = bind_some (number_at w8 bytes) _ (properties, rest) e in
    let in_range = bind_some (guarded (leb a.0.0 MOST_PROPERTIES) a.0) _ (properties, rest) a.2 in
    let few = cond_some _ _ _ in_range.1 in
    let b = bind_some (counted_at property_at in_range.0.0 in_range.0.1) _ (properties, rest) in_range.2 in
    let passed = cond_some _ _ _ b.2 in
    let count = byte_takes bytes a.0.0 a.0.1 fits a.1 in
    let same : in_range.0 ≡ a.0 = sym few.1 in
    let read : counted_at property_at a.0.0 a.0.1 ≡ Some (b.0.0, b.0.1) = subst (λ (x : ℕ × List ℕ). counted_at property_at x.0 x.1 ≡ Some (b.0.0, b.0.1)) same b.1 in
    let each = counted_takes property_at property_bytes IsProperty properties_bytes property_field property_chain a.0.0 a.0.1 b.0.0 b.0.1 count.0.rest_fits read in
    let both = Takes-then bytes (a.0.0 ∷ []) a.0.1 (properties_bytes b.0.0) b.0.1 count.0 each.0 in
    let whole : Takes bytes (length b.0.0 ∷ properties_bytes b.0.0) b.0.1 = subst (λ (n : ℕ). Takes bytes (n ∷ properties_bytes b.0.0) b.0.1) (sym each.1) both in
    let short : length b.0.0 ≤ MOST_PROPERTIES = rw each.1 (leb-true a.0.0 MOST_PROPERTIES few.0) in
    subst (λ (x : List Property × List ℕ). Takes bytes (length x.0 ∷ properties_bytes x.0) x.1 × AreProperties x.0) passed.1 (whole, record { count = short; each = each.2; distinct = (distinct_decides (map (λ property. property.name) b.0.0)).0 passed.0 })

pub properties_again : (properties : List Property) (rest : List ℕ) → AreProperties properties → properties_at ((length properties ∷ properties_bytes properties) ++ rest) ≡ Some (properties, rest)
unfolding properties_at
properties_again properties rest are =
    let each = counted_again property_at property_bytes IsProperty properties_bytes property_field property_chain properties rest are.each in
    rw (byte_again (length properties) (properties_bytes properties ++ rest), le-leb (length properties) MOST_PROPERTIES are.count, each, (distinct_decides (map (λ property. property.name) properties)).1 are.distinct) refl
