-- Words are read as they were spelled, and what is read was spelled.
use Rattle.std.proofs.Common.{◌≡◌, ◌≢◌, ℕ, ◌<◌, ◌≤◌, ◌^◌, Bool, true, false, cond, eqb, List, [], ◌∷◌, ◌++◌, length, Some, None, Result, Ok, Err, inl, inr, refl, ap, sym, subst, ◌∙◌, arith}
use Rattle.std.specs.Prelude.{All}
use Rattle.std.specs.Fmt.{decimal}
use Rattle.std.specs.Str.{bytes_eq}
use Rattle.std.proofs.lemmas.List.{append-nil}
use Rattle.std.proofs.lemmas.List.Elements.{All-head, All-tail, All-weaker}
use Rattle.std.proofs.lemmas.Bool.{eqb-true, false_from_ne_true}
use Rattle.std.proofs.lemmas.Bool.Decides.{Decides-eqb}
use Rattle.std.proofs.lemmas.Option.{cond_some}
use Rattle.std.proofs.lemmas.Slice.Eq.{bytes_eq-Decides}
use Rattle.hex.specs.declared.error.FromHexError.{FromHexError}
use Rattle.hex.specs.Hex.{decode_of, is_hex_digit}
use Rattle.hex.proofs.HexLemmas.{decode_of-ok}
use Rattle.pg_msg.specs.declared.message.MessageId.{MessageId}
use Rattle.pg_msg.specs.Names.{IsBetween, IsName, IsNameByte, IsPropertyName, IsPropertyNameByte}
use Rattle.pg_msg.specs.Messages.{IsMessageId}
use Rattle.pg_msg.proofs.FieldLaws.{bind_some, some_is}
use Rattle.pg_msg.proofs.ValueLaws.{chosen}
use Rattle.pg_msg.proofs.TestLaws.{between_decides, name_decides, property_name_decides}
use Rattle.pg_text.specs.Texts.{SpellsHex, id_text}
use Rattle.pg_text.specs.Reading.{before, onward, behind, is_empty, last_of, number_of, name_at, name_behind, last_name_behind, number_behind, id_part_of, message_id_at, some_bytes, hex_of, property_name_at}
use Rattle.pg_text.proofs.NumeralLemmas.{Lacks, EndsAt, Lacks-decimal}
use Rattle.pg_text.proofs.PieceLaws.{cut_parts, before_again, onward_again, behind_again, behind_takes, number_again, number_takes}

-- ---- words without a mark

pub Lacks-each : (mark : ℕ) (bytes : List ℕ) → All (λ byte. byte ≢ mark) bytes → Lacks mark bytes
Lacks-each mark [] _ = tt
Lacks-each mark (byte ∷ bytes) each = (All-head (λ b. b ≢ mark) byte bytes each, Lacks-each mark bytes (All-tail (λ b. b ≢ mark) byte bytes each))

pub Lacks-append : (mark : ℕ) (xs ys : List ℕ) → Lacks mark xs → Lacks mark ys → Lacks mark (xs ++ ys)
Lacks-append mark [] ys _ behind_too = behind_too
Lacks-append mark (x ∷ xs) ys lacks behind_too = (lacks.0, Lacks-append mark xs ys lacks.1 behind_too)

abbrev pub lacks : ℕ → List ℕ → Bool
lacks mark [] = true
lacks mark (byte ∷ bytes) = cond (eqb byte mark) false (lacks mark bytes)

lacks_step : (mark byte : ℕ) (bytes : List ℕ) (test : Bool) → eqb byte mark ≡ test → (lacks mark bytes ≡ true → Lacks mark bytes) → cond test false (lacks mark bytes) ≡ true → (byte ≢ mark) × Lacks mark bytes
lacks_step mark byte bytes true same others passed = absurd (let never = passed in cc)
lacks_step mark byte bytes false differs others passed = (λ same. let is = sym differs ∙ (Decides-eqb byte mark).1 same in cc, others passed)

-- by computing
pub Lacks-test : (mark : ℕ) (bytes : List ℕ) → lacks mark bytes ≡ true → Lacks mark bytes
Lacks-test mark [] passed = tt
Lacks-test mark (byte ∷ bytes) passed = lacks_step mark byte bytes (eqb byte mark) refl (Lacks-test mark bytes) passed

-- a word that begins with another byte doesn't begin with the mark
pub no_mark : (mark : ℕ) (word rest : List ℕ) → 0 < length word → Lacks mark word → behind (mark ∷ []) (word ++ rest) ≡ None
unfolding behind
no_mark mark [] rest some lacking = absurd (omega arith)
no_mark mark (byte ∷ word) rest some lacking = rw (false_from_ne_true (eqb byte mark) (λ same. lacking.0 (eqb-true byte mark same))) refl

-- ---- names

name_byte_is_no_space : (byte : ℕ) → IsNameByte byte → byte ≢ 32
name_byte_is_no_space byte is same = omega arith

pub Lacks-name : (name : List ℕ) → IsName name → Lacks 32 name
Lacks-name name is = Lacks-each 32 name (All-weaker IsNameByte (λ byte. byte ≢ 32) name_byte_is_no_space name is.each)

pub name_again : (name rest : List ℕ) → IsName name → EndsAt 32 rest → name_at (name ++ rest) ≡ Some (name, rest)
unfolding name_at
name_again name rest is ends = rw (before_again 32 name rest (Lacks-name name is) ends, onward_again 32 name rest (Lacks-name name is) ends, (name_decides name).1 is) refl

pub name_takes : (line name rest : List ℕ) → name_at line ≡ Some (name, rest) → (line ≡ name ++ rest) × IsName name
unfolding name_at
name_takes line name rest found =
    let passed = cond_some _ _ _ found in
    subst (λ (x : List ℕ × List ℕ). (line ≡ x.0 ++ x.1) × IsName x.0) passed.1 (cut_parts 32 line, (name_decides (before 32 line)).0 passed.0)

pub name_behind_again : (keyword name rest : List ℕ) → IsName name → EndsAt 32 rest → name_behind keyword (keyword ++ (name ++ rest)) ≡ Some (name, rest)
unfolding name_behind
name_behind_again keyword name rest is ends = rw (behind_again keyword (name ++ rest)) (name_again name rest is ends)

pub name_behind_takes : (keyword line name rest : List ℕ) → name_behind keyword line ≡ Some (name, rest) → (line ≡ keyword ++ (name ++ rest)) × IsName name
unfolding name_behind
name_behind_takes keyword line name rest found =
    let a = bind_some (behind keyword line) _ (name, rest) found in
    let taken = name_takes a.0 name rest a.2 in
    (behind_takes keyword line a.0 a.1 ∙ ap (λ (xs : List ℕ). keyword ++ xs) taken.0, taken.1)

-- ---- the end of the line

pub is_nothing : (rest : List ℕ) → is_empty rest ≡ true → rest ≡ []
is_nothing [] _ = refl
is_nothing (byte ∷ rest) passed = absurd (let never = passed in cc)

pub last_takes : {X : Type 0} (value : X) (rest : List ℕ) (read : X) → last_of (value, rest) ≡ Some read → (value ≡ read) × (rest ≡ [])
last_takes value rest read found = let passed = cond_some _ _ _ found in (passed.1, is_nothing rest passed.0)

pub last_name_again : (keyword name : List ℕ) → IsName name → last_name_behind keyword (keyword ++ name) ≡ Some name
unfolding last_name_behind
last_name_again keyword name is =
    let whole : keyword ++ name ≡ keyword ++ (name ++ []) = ap (λ (xs : List ℕ). keyword ++ xs) (sym (append-nil name)) in
    rw (whole, name_behind_again keyword name [] is tt) refl

pub last_name_takes : (keyword line name : List ℕ) → last_name_behind keyword line ≡ Some name → (line ≡ keyword ++ name) × IsName name
unfolding last_name_behind
last_name_takes keyword line name found =
    let a = bind_some (name_behind keyword line) _ name found in
    let end = last_takes a.0.0 a.0.1 name a.2 in
    let taken = name_behind_takes keyword line a.0.0 a.0.1 a.1 in
    (taken.0 ∙ ap (λ (xs : List ℕ). keyword ++ (a.0.0 ++ xs)) end.1 ∙ ap (λ (xs : List ℕ). keyword ++ xs) (append-nil a.0.0 ∙ end.0), subst IsName end.0 taken.1)

-- ---- names of properties

property_byte_is_no_space : (byte : ℕ) → IsPropertyNameByte byte → byte ≢ 32
property_byte_is_no_space byte is same = omega arith

pub property_name_again : (name rest : List ℕ) → IsPropertyName name → EndsAt 32 rest → property_name_at (name ++ rest) ≡ Some (name, rest)
unfolding property_name_at
property_name_again name rest is ends =
    let word = Lacks-each 32 name (All-weaker IsPropertyNameByte (λ byte. byte ≢ 32) property_byte_is_no_space name is.each) in
    rw (before_again 32 name rest word ends, onward_again 32 name rest word ends, (property_name_decides name).1 is) refl

pub property_name_takes : (line name rest : List ℕ) → property_name_at line ≡ Some (name, rest) → (line ≡ name ++ rest) × IsPropertyName name
unfolding property_name_at
property_name_takes line name rest found =
    let passed = cond_some _ _ _ found in
    subst (λ (x : List ℕ × List ℕ). (line ≡ x.0 ++ x.1) × IsPropertyName x.0) passed.1 (cut_parts 32 line, (property_name_decides (before 32 line)).0 passed.0)

-- ---- numbers

pub number_behind_again : (keyword : List ℕ) (least most number : ℕ) (rest : List ℕ) → IsBetween least most number → most < 2 ^ 64 → EndsAt 32 rest → number_behind keyword least most (keyword ++ (decimal number ++ rest)) ≡ Some (number, rest)
unfolding number_behind
number_behind_again keyword least most number rest is fits ends =
    let small : number < 2 ^ 64 = omega (arith, is.1) in
    let word = Lacks-decimal 32 number (inl (omega arith)) small in
    rw (behind_again keyword (decimal number ++ rest), before_again 32 (decimal number) rest word ends, onward_again 32 (decimal number) rest word ends, number_again number small, (between_decides least most number).1 is) refl

pub number_behind_takes : (keyword : List ℕ) (least most : ℕ) (line : List ℕ) (number : ℕ) (rest : List ℕ) → number_behind keyword least most line ≡ Some (number, rest) → (line ≡ keyword ++ (decimal number ++ rest)) × IsBetween least most number
unfolding number_behind
number_behind_takes keyword least most line number rest found =
    let a = bind_some (behind keyword line) _ (number, rest) found in
    let b = bind_some (number_of (before 32 a.0)) _ (number, rest) a.2 in
    let passed = cond_some _ _ _ b.2 in
    let written = (number_takes (before 32 a.0) b.0 b.1).0 in
    let whole = behind_takes keyword line a.0 a.1 ∙ ap (λ (xs : List ℕ). keyword ++ xs) (cut_parts 32 a.0 ∙ ap (λ (xs : List ℕ). xs ++ onward 32 a.0) written) in
    subst (λ (x : ℕ × List ℕ). (line ≡ keyword ++ (decimal x.0 ++ x.1)) × IsBetween least most x.0) passed.1 (whole, (between_decides least most b.0).0 passed.0)

-- ---- ids of messages

part_again : (number : ℕ) → 1 ≤ number → number < 2 ^ 32 → id_part_of (decimal number) ≡ Some number
unfolding id_part_of
part_again number least fits =
    let within : IsBetween 1 4294967295 number = (least, omega arith) in
    rw (number_again number (omega arith), (between_decides 1 4294967295 number).1 within) refl

part_takes : (digits : List ℕ) (number : ℕ) → id_part_of digits ≡ Some number → (digits ≡ decimal number) × (1 ≤ number) × (number < 2 ^ 32)
unfolding id_part_of
part_takes digits number found =
    let a = bind_some (number_of digits) _ number found in
    let passed = cond_some _ _ _ a.2 in
    let within = subst (IsBetween 1 4294967295) passed.1 ((between_decides 1 4294967295 a.0).0 passed.0) in
    ((number_takes digits a.0 a.1).0 ∙ ap decimal passed.1, within.0, omega (arith, within.1))

pub Lacks-id : (id : MessageId) → IsMessageId id → Lacks 32 (id_text id)
Lacks-id id is =
    Lacks-append 32 (decimal id.epoch) (45 ∷ decimal id.number) (Lacks-decimal 32 id.epoch (inl (omega arith)) (omega (arith, is.epoch_fits)))
    ((λ same. omega (arith, same)), Lacks-decimal 32 id.number (inl (omega arith)) (omega (arith, is.number_fits)))

pub id_again : (id : MessageId) (rest : List ℕ) → IsMessageId id → EndsAt 32 rest → message_id_at (32 ∷ (id_text id ++ rest)) ≡ Some (id, rest)
unfolding message_id_at
id_again id rest is ends =
    let word = Lacks-id id is in
    let epoch = Lacks-decimal 45 id.epoch (inl (omega arith)) (omega (arith, is.epoch_fits)) in
    rw (
      behind_again (32 ∷ []) (id_text id ++ rest),
      before_again 32 (id_text id) rest word ends,
      onward_again 32 (id_text id) rest word ends,
      before_again 45 (decimal id.epoch) (45 ∷ decimal id.number) epoch refl,
      onward_again 45 (decimal id.epoch) (45 ∷ decimal id.number) epoch refl,
      part_again id.epoch is.epoch is.epoch_fits,
      behind_again (45 ∷ []) (decimal id.number),
      part_again id.number is.number is.number_fits,
    ) refl

pub id_takes : (line : List ℕ) (id : MessageId) (rest : List ℕ) → message_id_at line ≡ Some (id, rest) → (line ≡ 32 ∷ (id_text id ++ rest)) × IsMessageId id
unfolding message_id_at
id_takes line id rest found =
    let a = bind_some (behind (32 ∷ []) line) _ (id, rest) found in
    let word = before 32 a.0 in
    let b = bind_some (id_part_of (before 45 word)) _ (id, rest) a.2 in
    let d = bind_some (behind (45 ∷ []) (onward 45 word)) _ (id, rest) b.2 in
    let n = bind_some (id_part_of d.0) _ (id, rest) d.2 in
    let epoch = part_takes (before 45 word) b.0 b.1 in
    let number = part_takes d.0 n.0 n.1 in
    let made : MessageId × List ℕ = (record { epoch = b.0; number = n.0 }, onward 32 a.0) in
    let dash : onward 45 word ≡ 45 ∷ decimal n.0 = behind_takes (45 ∷ []) (onward 45 word) d.0 d.1 ∙ ap (λ (xs : List ℕ). 45 ∷ xs) number.0 in
    let text : word ≡ id_text made.0 = cut_parts 45 word ∙ ap (λ (xs : List ℕ). xs ++ onward 45 word) epoch.0 ∙ ap (λ (xs : List ℕ). decimal b.0 ++ xs) dash in
    let whole : line ≡ 32 ∷ (id_text made.0 ++ made.1) = behind_takes (32 ∷ []) line a.0 a.1 ∙ ap (λ (xs : List ℕ). 32 ∷ xs) (cut_parts 32 a.0 ∙ ap (λ (xs : List ℕ). xs ++ onward 32 a.0) text) in
    let is : IsMessageId made.0 = record { epoch = epoch.1; epoch_fits = epoch.2; number = number.1; number_fits = number.2 } in
    subst (λ (x : MessageId × List ℕ). (line ≡ 32 ∷ (id_text x.0 ++ x.1)) × IsMessageId x.0) (some_is made (id, rest) n.2) (whole, is)

-- ---- digits of hex

dash_is_no_digits : (byte : ℕ) (bytes : List ℕ) → decode_of (45 ∷ []) ≡ Ok (byte ∷ bytes) → ⊥
dash_is_no_digits byte bytes decoded = let never = decoded in cc

pub hex_again : (digits bytes : List ℕ) → SpellsHex digits bytes → hex_of digits ≡ Some bytes
unfolding hex_of
hex_again digits [] is = rw is refl
hex_again digits (byte ∷ bytes) decoded =
    let other : bytes_eq digits (45 ∷ []) ≡ false = false_from_ne_true (bytes_eq digits (45 ∷ [])) (λ same. dash_is_no_digits byte bytes (sym (ap decode_of ((bytes_eq-Decides digits (45 ∷ [])).0 same)) ∙ decoded)) in
    rw (other, decoded) refl

decoded_takes : (digits bytes : List ℕ) (read : Result (List ℕ) FromHexError) → decode_of digits ≡ read → some_bytes read ≡ Some bytes → SpellsHex digits bytes
decoded_takes digits bytes (Ok []) decoded found = absurd (let never = found in cc)
decoded_takes digits bytes (Ok (byte ∷ others)) decoded found = let same : byte ∷ others ≡ bytes = let e = found in cc in subst (SpellsHex digits) same decoded
decoded_takes digits bytes (Err error) decoded found = absurd (let never = found in cc)

pub hex_takes : (digits bytes : List ℕ) → hex_of digits ≡ Some bytes → SpellsHex digits bytes
unfolding hex_of
hex_takes digits bytes found = elim (chosen (bytes_eq digits (45 ∷ [])) (Some []) (some_bytes (decode_of digits)) (Some bytes) found) [
  | inl none ↦ let same : [] ≡ bytes = let e = none.1 in cc in subst (SpellsHex digits) same ((bytes_eq-Decides digits (45 ∷ [])).0 none.0)
  | inr some ↦ decoded_takes digits bytes (decode_of digits) refl some.1
]

space_is_no_digit : (byte : ℕ) → is_hex_digit byte ≡ true → byte ≢ 32
space_is_no_digit byte passed same = let never : is_hex_digit 32 ≡ true = subst (λ (b : ℕ). is_hex_digit b ≡ true) same passed in cc

-- digits are a word
pub Lacks-hex : (digits bytes : List ℕ) → SpellsHex digits bytes → Lacks 32 digits
Lacks-hex digits [] is = subst (Lacks 32) (sym is) (Lacks-test 32 (45 ∷ []) refl)
Lacks-hex digits (byte ∷ bytes) decoded = Lacks-each 32 digits (All-weaker (λ b. is_hex_digit b ≡ true) (λ b. b ≢ 32) space_is_no_digit digits (decode_of-ok digits (byte ∷ bytes) decoded).1)
