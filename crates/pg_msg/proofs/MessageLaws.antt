-- Messages are read as they are spelled, and none is spelled as the front of another.
use Rattle.std.proofs.Common.{◌≡◌, ◌≢◌, ℕ, zero, suc, ◌+◌, ◌-◌, ◌^◌, ◌<◌, ◌≤◌, true, cond, eqb, leb, ltb, List, [], ◌∷◌, ◌++◌, length, take, drop, Option, Some, None, inl, inr, refl, sym, ap, subst, ◌∙◌, append_assoc, arith}
use Rattle.std.specs.Prelude.{IfSome}
use Rattle.std.specs.Int.{w8, w32, w64, to_be_bytes, from_be_bytes}
use Rattle.std.proofs.lemmas.Bool.{leb-true, le-leb, ltb-true, lt-ltb, eqb-true, ne_eqb}
use Rattle.std.proofs.lemmas.List.{nil_from_length, take_at, take-append-drop, length-append}
use Rattle.std.proofs.lemmas.Option.{cond_some}
use Rattle.pg_msg.specs.declared.limits.TheConstants.{LONGEST_DUPLICATE_ID, WEIGHT_LIMIT}
use Rattle.pg_msg.specs.declared.message.Body.{Body}
use Rattle.pg_msg.specs.declared.message.Body.TheVariants.{Plain, Large}
use Rattle.pg_msg.specs.declared.message.Message.{Message}
use Rattle.pg_msg.specs.Messages.{id_bytes, dup_bytes, properties_bytes, kind_of, body_bytes, message_bytes, weight_of, IsDuplicateId, IsBody, IsMessage, SpellsMessage}
use Rattle.pg_msg.specs.Reading.{guarded, number_at, octets_at, id_at, dup_at, properties_at, plain_at, part_at, body_of, message_at}
use Rattle.pg_msg.proofs.FieldLaws.{IsBytes, IsBytes-take, Takes, Takes-then, bind_some, some_of, some_is, wide32, wide64, number_takes, number_again, byte_takes, byte_again, octets_takes, octets_again, id_takes, id_again}
use Rattle.pg_msg.proofs.ValueLaws.{chosen, properties_takes, properties_again}

-- ---- the duplicate id

-- what a length and so many bytes spell
dup_spelled : (count : ℕ) (id : List ℕ) → length id ≡ count → count ≤ LONGEST_DUPLICATE_ID → (dup_bytes (cond (eqb count 0) None (Some id)) ≡ count ∷ id) × IfSome (cond (eqb count 0) None (Some id)) IsDuplicateId
dup_spelled zero id len short = (ap (λ (bytes : List ℕ). 0 ∷ bytes) (sym (nil_from_length id len)), tt)
dup_spelled (suc n) id len short =
    rw (ne_eqb (suc n) 0 (λ same. cc)) (ap (λ (count : ℕ). count ∷ id) len, (omega (arith, len), omega (arith, len)))

dup_takes : (bytes : List ℕ) (dup : Option (List ℕ)) (rest : List ℕ) → IsBytes bytes → dup_at bytes ≡ Some (dup, rest) → Takes bytes (dup_bytes dup) rest × IfSome dup IsDuplicateId
unfolding dup_at
dup_takes bytes dup rest fits e =
    let a = bind_some (number_at w8 bytes) _ (dup, rest) e in
    let in_range = bind_some (guarded (leb a.0.0 LONGEST_DUPLICATE_ID) a.0) _ (dup, rest) a.2 in
    let few = cond_some _ _ _ in_range.1 in
    let b = bind_some (octets_at in_range.0.0 in_range.0.1) _ (dup, rest) in_range.2 in
    let same : in_range.0 ≡ a.0 = sym few.1 in
    let read : octets_at a.0.0 a.0.1 ≡ Some (b.0.0, b.0.1) = subst (λ (x : ℕ × List ℕ). octets_at x.0 x.1 ≡ Some (b.0.0, b.0.1)) same b.1 in
    let count = byte_takes bytes a.0.0 a.0.1 fits a.1 in
    let id = octets_takes a.0.0 a.0.1 b.0.0 b.0.1 count.0.rest_fits read in
    let spelled = dup_spelled a.0.0 b.0.0 id.1 (leb-true a.0.0 LONGEST_DUPLICATE_ID few.0) in
    let both = Takes-then bytes (a.0.0 ∷ []) a.0.1 b.0.0 b.0.1 count.0 id.0 in
    let made : Option (List ℕ) × List ℕ = (cond (eqb a.0.0 0) None (Some b.0.0), b.0.1) in
    let whole : Takes bytes (dup_bytes made.0) b.0.1 = subst (λ (front : List ℕ). Takes bytes front b.0.1) (sym spelled.0) both in
    subst (λ (x : Option (List ℕ) × List ℕ). Takes bytes (dup_bytes x.0) x.1 × IfSome x.0 IsDuplicateId) (some_is made (dup, rest) b.2) (whole, spelled.1)

dup_again : (dup : Option (List ℕ)) (rest : List ℕ) → IfSome dup IsDuplicateId → dup_at (dup_bytes dup ++ rest) ≡ Some (dup, rest)
unfolding dup_at
dup_again None rest is = rw (byte_again 0 rest, octets_again [] rest) refl
dup_again (Some id) rest is =
    let some : length id ≢ 0 = omega (arith, is.0) in
    rw (byte_again (length id) (id ++ rest), le-leb (length id) LONGEST_DUPLICATE_ID is.1, octets_again id rest, ne_eqb (length id) 0 some) refl

-- ---- the body

record IsPart (kind : ℕ) (bytes part rest : List ℕ) : Type 0 where
  taken : Takes bytes (body_bytes (body_of kind part)) rest
  kind_is : kind_of (body_of kind part) ≡ kind
  in_range : IsBody (body_of kind part)

plain_takes : (bytes part rest : List ℕ) → IsBytes bytes → plain_at bytes ≡ Some (part, rest) → IsPart 1 bytes part rest
unfolding plain_at
plain_takes bytes part rest fits e =
    let a = bind_some (number_at w32 bytes) _ (part, rest) e in
    let count = number_takes w32 (2 ^ 32) wide32 bytes a.0.0 a.0.1 fits a.1 in
    let body = octets_takes a.0.0 a.0.1 part rest count.0.rest_fits a.2 in
    let both = Takes-then bytes (to_be_bytes w32 a.0.0) a.0.1 part rest count.0 body.0 in
    let whole : Takes bytes (to_be_bytes w32 (length part) ++ part) rest = subst (λ (n : ℕ). Takes bytes (to_be_bytes w32 n ++ part) rest) (sym body.1) both in
    record { taken = whole; kind_is = refl; in_range = omega (arith, body.1, count.1) }

large_takes : (bytes part rest : List ℕ) → IsBytes bytes → octets_at 8 bytes ≡ Some (part, rest) → IsPart 2 bytes part rest
large_takes bytes part rest fits e =
    let size = octets_takes 8 bytes part rest fits e in
    let front : take 8 bytes ≡ part = ap (take 8) size.0.parts ∙ take_at part rest 8 size.1 in
    let part_fits : IsBytes part = subst IsBytes front (IsBytes-take 8 bytes fits) in
    let spelled : to_be_bytes w64 (from_be_bytes w64 part) ≡ part = wide64.back part size.1 part_fits in
    let whole : Takes bytes (to_be_bytes w64 (from_be_bytes w64 part)) rest = subst (λ (text : List ℕ). Takes bytes text rest) (sym spelled) size.0 in
    record { taken = whole; kind_is = refl; in_range = wide64.below part part_fits }

part_takes : (kind : ℕ) (bytes part rest : List ℕ) → IsBytes bytes → part_at kind bytes ≡ Some (part, rest) → IsPart kind bytes part rest
part_takes kind bytes part rest fits e =
    elim (chosen (eqb kind 1) _ _ _ e) [
      | inl plain ↦ subst (λ (k : ℕ). IsPart k bytes part rest) (sym (eqb-true kind 1 plain.0)) (plain_takes bytes part rest fits plain.1)
      | inr no_plain ↦ elim (chosen (eqb kind 2) _ _ _ no_plain.1) [
        | inl large ↦ subst (λ (k : ℕ). IsPart k bytes part rest) (sym (eqb-true kind 2 large.0)) (large_takes bytes part rest fits large.1)
        | inr none ↦ absurd (let never = none.1 in cc)
      ]
    ]

plain_again : (part rest : List ℕ) → length part < 2 ^ 32 → plain_at ((to_be_bytes w32 (length part) ++ part) ++ rest) ≡ Some (part, rest)
unfolding plain_at
plain_again part rest short =
    ap plain_at (append_assoc (to_be_bytes w32 (length part)) part rest)
    ∙ rw (number_again w32 (2 ^ 32) wide32 (length part) (part ++ rest) short) (octets_again part rest)

-- the bytes that tell the body
abbrev part_of : Body → List ℕ
part_of (Plain part) = part
part_of (Large size) = to_be_bytes w64 size

part_again : (body : Body) (rest : List ℕ) → IsBody body → part_at (kind_of body) (body_bytes body ++ rest) ≡ Some (part_of body, rest)
part_again (Plain part) rest is = plain_again part rest is
part_again (Large size) rest is = octets_again (to_be_bytes w64 size) rest

part_tells : (body : Body) → IsBody body → body_of (kind_of body) (part_of body) ≡ body
part_tells (Plain part) is = refl
part_tells (Large size) is = ap Large (wide64.again size is)

-- ---- the message

-- the bytes behind the id, behind the kind, and behind the duplicate id
abbrev behind_dup : Message → List ℕ
behind_dup message = (length message.properties ∷ properties_bytes message.properties) ++ body_bytes message.body

abbrev behind_kind : Message → List ℕ
behind_kind message = dup_bytes message.dup ++ behind_dup message

abbrev behind_id : Message → List ℕ
behind_id message = (kind_of message.body ∷ []) ++ behind_kind message

pub message_takes : (bytes : List ℕ) (message : Message) (rest : List ℕ) → IsBytes bytes → message_at bytes ≡ Some (message, rest) → Takes bytes (message_bytes message) rest × IsMessage message
unfolding message_at
message_takes bytes message rest fits e =
    let a = bind_some (id_at bytes) _ (message, rest) e in
    let b = bind_some (number_at w8 a.0.1) _ (message, rest) a.2 in
    let c = bind_some (dup_at b.0.1) _ (message, rest) b.2 in
    let d = bind_some (properties_at c.0.1) _ (message, rest) c.2 in
    let f = bind_some (part_at b.0.0 d.0.1) _ (message, rest) d.2 in
    let passed = cond_some _ _ _ f.2 in
    let id = id_takes bytes a.0.0 a.0.1 fits a.1 in
    let kind = byte_takes a.0.1 b.0.0 b.0.1 id.0.rest_fits b.1 in
    let dup = dup_takes b.0.1 c.0.0 c.0.1 kind.0.rest_fits c.1 in
    let properties = properties_takes c.0.1 d.0.0 d.0.1 dup.0.rest_fits d.1 in
    let part = part_takes b.0.0 d.0.1 f.0.0 f.0.1 properties.0.rest_fits f.1 in
    let body = body_of b.0.0 f.0.0 in
    let made : Message = record { id = a.0.0; dup = c.0.0; properties = d.0.0; body = body } in
    let from_properties : Takes c.0.1 (behind_dup made) f.0.1 = Takes-then c.0.1 (length d.0.0 ∷ properties_bytes d.0.0) d.0.1 (body_bytes body) f.0.1 properties.0 part.taken in
    let from_dup : Takes b.0.1 (behind_kind made) f.0.1 = Takes-then b.0.1 (dup_bytes c.0.0) c.0.1 (behind_dup made) f.0.1 dup.0 from_properties in
    let kind_taken : Takes a.0.1 (kind_of body ∷ []) b.0.1 = subst (λ (k : ℕ). Takes a.0.1 (k ∷ []) b.0.1) (sym part.kind_is) kind.0 in
    let from_kind : Takes a.0.1 (behind_id made) f.0.1 = Takes-then a.0.1 (kind_of body ∷ []) b.0.1 (behind_kind made) f.0.1 kind_taken from_dup in
    let whole : Takes bytes (message_bytes made) f.0.1 = Takes-then bytes (id_bytes a.0.0) a.0.1 (behind_id made) f.0.1 id.0 from_kind in
    let lengths : length bytes ≡ weight_of made + length f.0.1 = ap length whole.parts ∙ length-append (message_bytes made) f.0.1 in
    let heaviest : length bytes < length f.0.1 + WEIGHT_LIMIT = ltb-true _ _ passed.0 in
    let light : weight_of made < WEIGHT_LIMIT = omega (arith, lengths, heaviest) in
    subst (λ (x : Message × List ℕ). Takes bytes (message_bytes x.0) x.1 × IsMessage x.0) passed.1 (whole, record { fields = record { id = id.1; dup = dup.1; properties = properties.1; body = part.in_range }; light = light })

pub message_again : (message : Message) (rest : List ℕ) → IsMessage message → message_at (message_bytes message ++ rest) ≡ Some (message, rest)
unfolding message_at
message_again message rest is =
    let from_body = body_bytes message.body ++ rest in
    let from_properties = (length message.properties ∷ properties_bytes message.properties) ++ from_body in
    let from_dup = dup_bytes message.dup ++ from_properties in
    let regrouped : message_bytes message ++ rest ≡ id_bytes message.id ++ (kind_of message.body ∷ from_dup) = simp append_assoc in
    let id = id_again message.id (kind_of message.body ∷ from_dup) is.fields.id in
    let dup = dup_again message.dup from_properties is.fields.dup in
    let properties = properties_again message.properties from_body is.fields.properties in
    let part = part_again message.body rest is.fields.body in
    let lengths : length (message_bytes message ++ rest) ≡ weight_of message + length rest = length-append (message_bytes message) rest in
    let heaviest : ltb (length (message_bytes message ++ rest)) (length rest + WEIGHT_LIMIT) ≡ true = lt-ltb _ _ (omega (arith, lengths, is.light)) in
    let light : ltb (length (id_bytes message.id ++ (kind_of message.body ∷ from_dup))) (length rest + WEIGHT_LIMIT) ≡ true = subst (λ (bytes : List ℕ). ltb (length bytes) (length rest + WEIGHT_LIMIT) ≡ true) regrouped heaviest in
    ap message_at regrouped ∙ rw (id, byte_again (kind_of message.body) from_dup, dup, properties, part, light, part_tells message.body is.fields.body) refl

-- ---- what is told by that

-- a list of bytes may be spelled as one message alone, whatever stands behind it
pub message_once : (first second : Message) (x y : List ℕ) → IsMessage first → IsMessage second → message_bytes first ++ x ≡ message_bytes second ++ y → (first ≡ second) × (x ≡ y)
message_once first second x y is other same =
    let one_read : Message × List ℕ = (first, x) in
    let other_read : Message × List ℕ = (second, y) in
    let both : some_of one_read ≡ some_of other_read = sym (message_again first x is) ∙ ap message_at same ∙ message_again second y other in
    let one = some_is one_read other_read both in
    (ap (λ (read : Message × List ℕ). read.0) one, ap (λ (read : Message × List ℕ). read.1) one)

-- what was read is spelled by the front of the bytes
pub record IsFront (bytes rest : List ℕ) (message : Message) : Type 0 where
  pub within : length rest ≤ length bytes
  pub taken : length bytes - length rest ≤ length bytes
  pub spells : SpellsMessage (take (length bytes - length rest) bytes) message

pub front_read : (bytes : List ℕ) (message : Message) (rest : List ℕ) → IsBytes bytes → message_at bytes ≡ Some (message, rest) → IsFront bytes rest message
front_read bytes message rest fits read =
    let taken = message_takes bytes message rest fits read in
    let lengths : length bytes ≡ weight_of message + length rest = ap length taken.0.parts ∙ length-append (message_bytes message) rest in
    let count : weight_of message ≡ length bytes - length rest = omega (arith, lengths) in
    let front : take (length bytes - length rest) bytes ≡ message_bytes message = ap (take (length bytes - length rest)) taken.0.parts ∙ take_at (message_bytes message) rest (length bytes - length rest) count in
    record { within = omega (arith, lengths); taken = omega arith; spells = record { spelled = front; in_range = taken.1 } }

-- what is spelled at the front was read
pub only_read : (bytes : List ℕ) (message : Message) (rest : List ℕ) → IsBytes bytes → message_at bytes ≡ Some (message, rest) → (other : Message) (behind : List ℕ) → IsMessage other → bytes ≡ message_bytes other ++ behind → (message ≡ other) × (length bytes - length rest ≡ weight_of other)
only_read bytes message rest fits read other behind is spelled =
    let one = message_once message other rest behind (message_takes bytes message rest fits read).1 is (sym (message_takes bytes message rest fits read).0.parts ∙ spelled) in
    let left : length rest ≡ length behind = ap length one.1 in
    let lengths : length bytes ≡ weight_of other + length behind = ap length spelled ∙ length-append (message_bytes other) behind in
    (one.0, omega (arith, lengths, left))

none_is_not_some : {A : Type 0} (x : A) → None ≡ some_of x → ⊥
none_is_not_some x e = cc

-- where none was read none is spelled
pub none_read : (bytes : List ℕ) → message_at bytes ≡ None → (message : Message) (rest : List ℕ) → IsMessage message → bytes ≡ message_bytes message ++ rest → ⊥
none_read bytes none message rest is spelled =
    let read : Message × List ℕ = (message, rest) in
    none_is_not_some read (sym none ∙ ap message_at spelled ∙ message_again message rest is)

pub none_spelled : (bytes : List ℕ) → message_at bytes ≡ None → (n : ℕ) (message : Message) → SpellsMessage (take n bytes) message → ⊥
none_spelled bytes none n message spells =
    none_read bytes none message (drop n bytes) spells.in_range (sym (take-append-drop n bytes) ∙ ap (λ (front : List ℕ). front ++ drop n bytes) spells.spelled)
