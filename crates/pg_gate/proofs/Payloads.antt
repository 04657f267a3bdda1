-- What stands at the gates of a file's batches, and their payloads at their places.
use Rattle.std.proofs.Common.{◌≡◌, ◌≢◌, ◌⊎◌, inl, inr, ℕ, zero, suc, ◌+◌, ◌^◌, ◌≤◌, ◌<◌, List, [], ◌∷◌, ◌++◌, length, take, drop, get_or, slice_get, Option, Some, None, IfSome, refl, sym, ◌∙◌, ap, subst, arith, append_assoc, length-append}
use Rattle.std.specs.Option.{option_map}
use Rattle.std.specs.Int.{to_be_bytes, w64}
use Rattle.std.proofs.lemmas.List.Elements.{All-cons, All-nil}
use Rattle.std.proofs.lemmas.Option.{slice_get-map}
use Rattle.pg_disk.specs.declared.fault.Fault.{Fault}
use Rattle.pg_disk.specs.declared.file_id.FileId.{FileId}
use Rattle.pg_disk.specs.Account.{Account}
use Rattle.pg_disk.specs.Calls.{Holds}
use Rattle.pg_disk.proofs.Bytes.{holds_front, holds_back, holds_itself, lt_or_le}
use Rattle.pg_gate.specs.declared.spans.Span.{Span}
use Rattle.pg_gate.specs.Gated.{opened, AllFit, Batches}
use Rattle.pg_gate.specs.Spans.{spans_of, AsRead, IsCutFault, IsNext, IsWholeAt, IsCutAt}
use Rattle.pg_gate.specs.Payloads.{gate_at, span_at, payload_at, payloads_at, AreInside, IsInside, IsCutBehind}
use Rattle.pg_gate.proofs.Reading.{cut_weaker}
use Rattle.pg_gate.proofs.Sealing.{length-number}
use Rattle.pg_gate.proofs.Unique.{batches_fit, fits_first, fits_rest, same_length, short_none, tail_of}
use Rattle.pg_gate.proofs.Walking.{taken_holds}

-- the payloads at the places of batches are those of the batches
module _ (file : List ℕ) where
  gate_behind : (gate : ℕ) (payload : List ℕ) (batches : List (List ℕ)) → Holds file gate (opened (payload ∷ batches)) → Holds file (gate + 9) (payload ++ opened batches)
  gate_behind gate payload batches holds = holds_back file (1 ∷ to_be_bytes w64 (length payload)) (payload ++ opened batches) gate (gate + 9) refl holds

  pub placed : (gate : ℕ) (batches : List (List ℕ)) → Holds file gate (opened batches) → payloads_at file (spans_of gate batches) ≡ batches
  placed gate [] holds = refl
  placed gate (payload ∷ batches) holds =
      let behind = gate_behind gate payload batches holds in
      let one : take (length payload) (drop (gate + 9) file) ≡ payload = taken_holds file payload (gate + 9) (holds_front file payload (opened batches) (gate + 9) behind) in
      let more = placed (gate + 9 + length payload) batches (holds_back file payload (opened batches) (gate + 9) (gate + 9 + length payload) refl behind) in
      λ i. one i ∷ more i

  pub placed_inside : (gate : ℕ) (batches : List (List ℕ)) → Holds file gate (opened batches) → AreInside (length file) (spans_of gate batches)
  placed_inside gate [] holds = All-nil (IsInside (length file))
  placed_inside gate (payload ∷ batches) holds =
      let behind = gate_behind gate payload batches holds in
      All-cons (IsInside (length file)) (record { at = gate + 9; length = length payload }) (spans_of (gate + 9 + length payload) batches)
      (omega (arith, (holds_front file payload (opened batches) (gate + 9) behind).within))
      (placed_inside (gate + 9 + length payload) batches (holds_back file payload (opened batches) (gate + 9) (gate + 9 + length payload) refl behind))

-- the batches stand in their file
pub batches_stand : (bytes : List ℕ) (batches : List (List ℕ)) → Batches bytes batches → Holds bytes 0 (opened batches)
batches_stand bytes batches (inl none) = rw none.1 (record { within = omega arith; each = λ i lt. absurd (omega (arith, lt)) })
batches_stand bytes batches (inr some) = subst (λ l. Holds l 0 (opened batches)) (sym some.3) (holds_itself (opened batches) (some.0 ∷ some.1))

-- the payload of the batch with this number stands at its place
pub payload_there : (bytes : List ℕ) (batches : List (List ℕ)) (index : ℕ) (span : Span) → Batches bytes batches → span_at batches index ≡ Some span → slice_get batches index ≡ Some (payload_at bytes span)
payload_there bytes batches index span are is =
    ap (λ l. slice_get l index) (sym (placed bytes 0 batches (batches_stand bytes batches are)))
    ∙ slice_get-map (payload_at bytes) (spans_of 0 batches) index
    ∙ ap (option_map (payload_at bytes)) is

-- behind the gate at this offset stands a payload, whole
record HasPayload (bytes : List ℕ) (gate : ℕ) (payload : List ℕ) : Type 0 where
  pub fits : length payload < 2 ^ 64
  pub whole : IsWholeAt bytes gate (length payload)

-- the place behind a gate
abbrev behind : ℕ → List ℕ → Span
behind gate payload = record { at = gate + 9; length = length payload }

-- at one of the gates of batches whose first gate is at `first` and that this gate ends
abbrev AtGate : List ℕ → ℕ → ℕ → List Span → ℕ → Type 0
AtGate bytes gate closed spans index = ((slice_get spans index ≡ None) × (get_or bytes gate 0 ≡ closed))
    ⊎ ((payload : List ℕ) × HasPayload bytes gate payload × (slice_get spans index ≡ Some (behind gate payload)))

module _ (bytes : List ℕ) (closed : ℕ) where
  ends_here : (first gate : ℕ) → Holds bytes first (closed ∷ []) → gate ≡ first + 0 → get_or bytes gate 0 ≡ closed
  ends_here first gate holds here = ap (λ (k : ℕ). get_or bytes k 0) here ∙ holds.each 0 (omega arith)

  at_gate : (first gate : ℕ) (batches : List (List ℕ)) (index : ℕ) → AllFit batches → Holds bytes first (opened batches ++ closed ∷ []) → gate ≡ first + gate_at batches index → AtGate bytes gate closed (spans_of first batches) index
  at_gate first gate [] zero fit holds here = inl (refl, ends_here first gate holds here)
  at_gate first gate [] (suc index) fit holds here = inl (refl, ends_here first gate holds here)
  at_gate first gate (p ∷ ps) zero fit holds here =
      let same : gate ≡ first = omega (arith, here) in
      let number : Holds bytes first (1 ∷ to_be_bytes w64 (length p)) =
      holds_front bytes (1 ∷ to_be_bytes w64 (length p)) (p ++ opened ps) first (holds_front bytes (opened (p ∷ ps)) (closed ∷ []) first holds) in
      let is : slice_get (spans_of first (p ∷ ps)) zero ≡ Some (behind gate p) = ap (λ (k : ℕ). Some (behind k p)) (sym same) in
      inr (
        p,
        record {
          fits = fits_first p ps fit;
          whole = record {
            opens = subst (λ (k : ℕ). Holds bytes k (1 ∷ to_be_bytes w64 (length p))) (sym same) number;
            room = omega (arith, same, holds.within, length-append (opened (p ∷ ps)) (closed ∷ []), length-append p (opened ps));
          };
        },
        is,
      )
  at_gate first gate (p ∷ ps) (suc index) fit holds here =
      let size = length-append p (opened (take index ps)) in
      let tail : opened (p ∷ ps) ++ closed ∷ [] ≡ (1 ∷ (to_be_bytes w64 (length p) ++ p)) ++ (opened ps ++ closed ∷ []) =
      ap (λ (l : List ℕ). 1 ∷ (to_be_bytes w64 (length p) ++ l)) (append_assoc p (opened ps) (closed ∷ [])) in
      at_gate (first + 9 + length p) gate ps index (fits_rest p ps fit)
      (holds_back bytes (1 ∷ (to_be_bytes w64 (length p) ++ p)) (opened ps ++ closed ∷ []) first (first + 9 + length p) (omega arith) (subst (λ l. Holds bytes first l) tail holds))
      (omega (arith, here, size))

-- at one of the gates of a file's batches
at_batches : (bytes : List ℕ) (gate : ℕ) (batches : List (List ℕ)) (index : ℕ) → 1 < length bytes → length bytes < 2 ^ 64 → Batches bytes batches → gate ≡ gate_at batches index → (closed : ℕ) × (closed ≢ 1) × AtGate bytes gate closed (spans_of 0 batches) index
at_batches bytes gate batches index long short (inl none) here = absurd (omega (arith, none.0, long))
at_batches bytes gate batches index long short (inr some) here =
    let front : Holds bytes 0 (opened batches ++ some.0 ∷ []) =
    holds_front bytes (opened batches ++ some.0 ∷ []) some.1 0 (subst (λ l. Holds bytes 0 l) (some.3 ∙ sym (append_assoc (opened batches) (some.0 ∷ []) some.1)) (whole bytes)) in
    (some.0, some.2, at_gate bytes some.0 0 gate batches index (batches_fit bytes batches short (inr some)) front (omega (arith, here)))
  where
    whole : (file : List ℕ) → Holds file 0 file
    whole file = record { within = omega arith; each = λ i lt. ap (λ (j : ℕ). get_or file j 0) (omega arith) }

same_held : (file xs ys : List ℕ) (at : ℕ) → Holds file at xs → Holds file at ys → length xs ≡ length ys → xs ≡ ys
same_held file xs ys at these those size = sym (taken_holds file xs at these) ∙ ap (λ (n : ℕ). take n (drop at file)) size ∙ taken_holds file ys at those

-- what is read at an open gate before a payload, and at one that isn't open
read_open : (bytes : List ℕ) (gate : ℕ) (payload : List ℕ) (next : Option Span) → length bytes < 2 ^ 64 → HasPayload bytes gate payload → IsNext bytes gate next → IfSome next (λ span. span.at ≡ gate + 9) → next ≡ Some (behind gate payload)
read_open bytes gate payload None short has is at_is = absurd (is (ap (λ (k : ℕ). get_or bytes k 0) (omega arith) ∙ has.whole.opens.each 0 (omega arith)))
read_open bytes gate payload (Some span) short has is at_is =
    let numbers : to_be_bytes w64 span.length ≡ to_be_bytes w64 (length payload) =
    tail_of 1 1 _ _ (same_held bytes (1 ∷ to_be_bytes w64 span.length) (1 ∷ to_be_bytes w64 (length payload)) gate is.opens has.whole.opens (omega (arith, length-number span.length, length-number (length payload)))) in
    let size : span.length ≡ length payload = same_length span.length (length payload) (omega (arith, is.room, short)) has.fits numbers in
    λ i. Some (record { at = at_is i; length = size i })

read_shut : (bytes : List ℕ) (gate : ℕ) (next : Option Span) → get_or bytes gate 0 ≢ 1 → IsNext bytes gate next → next ≡ None
read_shut bytes gate None shut is = refl
read_shut bytes gate (Some span) shut is = absurd (shut (ap (λ (k : ℕ). get_or bytes k 0) (omega arith) ∙ is.opens.each 0 (omega arith)))

-- what is read at one of the gates of a file's batches is the place of the batch behind it
pub next_is : (bytes : List ℕ) (gate end : ℕ) (next : Option Span) (batches : List (List ℕ)) (index : ℕ) → 1 < length bytes → length bytes < 2 ^ 64 → IsNext bytes gate next
    → IfSome next (λ span. (span.at ≡ gate + 9) × (span.at + span.length < end)) → Batches bytes batches → gate ≡ gate_at batches index → next ≡ span_at batches index
next_is bytes gate end next batches index long short is in_file are here =
    let there = at_batches bytes gate batches index long short are here in
    elim there.2 [
      | inl ends ↦ read_shut bytes gate next (λ one. there.1 (sym ends.1 ∙ one)) is ∙ sym ends.0
      | inr has ↦ read_open bytes gate has.0 next short has.1 is (begins next in_file) ∙ sym has.2
    ]
  where
    begins : (next : Option Span) → IfSome next (λ span. (span.at ≡ gate + 9) × (span.at + span.length < end)) → IfSome next (λ span. span.at ≡ gate + 9)
    begins None is = tt
    begins (Some span) is = is.0

-- and no cut batch stands there
pub cut_behind : (bytes : List ℕ) (gate : ℕ) → 1 < length bytes → length bytes < 2 ^ 64 → IsCutAt bytes gate → IsCutBehind bytes gate
cut_behind bytes gate long short cut = record {
  long = long;
  here = cut;
  none = λ batches index are here.
      let there = at_batches bytes gate batches index long short are here in
      elim there.2 [
        | inl ends ↦ there.1 (sym ends.1 ∙ cut.opens)
        | inr has ↦ cut.cut (length has.0) has.1.fits has.1.whole
      ];
}

-- a gate of a file of at most one byte, or past a file's end, is before no batch
pub none_short : (bytes : List ℕ) (batches : List (List ℕ)) (index : ℕ) → length bytes ≤ 1 → Batches bytes batches → None ≡ span_at batches index
none_short bytes batches index few are = λ i. slice_get (spans_of 0 (empty batches are i)) index
  where
    empty : (batches : List (List ℕ)) → Batches bytes batches → [] ≡ batches
    empty batches (inl none) = sym none.1
    empty batches (inr some) = short_none bytes batches some.0 some.1 few some.3

pub none_past : (bytes : List ℕ) (gate : ℕ) (batches : List (List ℕ)) (index : ℕ) → length bytes < 2 ^ 64 → (length bytes ≤ 1) ⊎ (length bytes ≤ gate) → Batches bytes batches → gate ≡ gate_at batches index → None ≡ span_at batches index
none_past bytes gate batches index short (inl few) are here = none_short bytes batches index few are
none_past bytes gate batches index short (inr past) are here = elim (lt_or_le 1 (length bytes)) [
  | inr few ↦ none_short bytes batches index few are
  | inl long ↦
      let there = at_batches bytes gate batches index long short are here in
      elim there.2 [
        | inl ends ↦ sym ends.0
        | inr has ↦ absurd (omega (arith, has.1.whole.room, past))
      ]
]

-- damage is at such a gate, where the file has so many bytes
pub cut_of : (file : FileId) (gate end : ℕ) (tells : Option Account) (e : Fault) → 1 < end → end < 2 ^ 64 → AsRead file tells (λ bytes. end ≡ length bytes)
    → IsCutFault file (λ at. (at ≡ gate) × AsRead file tells (λ bytes. end ≡ length bytes → IsCutAt bytes gate)) e → IsCutFault file (λ at. (at ≡ gate) × AsRead file tells (λ bytes. IsCutBehind bytes gate)) e
cut_of file gate end tells e long short size is =
    cut_weaker file (λ at. (at ≡ gate) × AsRead file tells (λ bytes. end ≡ length bytes → IsCutAt bytes gate)) (λ at. (at ≡ gate) × AsRead file tells (λ bytes. IsCutBehind bytes gate)) e
    (λ at cut. (cut.0, λ h s there. let end_is = size h s there in cut_behind s.bytes gate (omega (arith, long, end_is)) (omega (arith, short, end_is)) (cut.1 h s there end_is))) is
