-- What is read behind a gate of a page, and where payloads stand.
use Rattle.std.proofs.Common.{◌≡◌, ◌≢◌, inl, inr, ℕ, ◌+◌, ◌-◌, ◌^◌, ◌≤◌, ◌<◌, List, [], ◌∷◌, ◌++◌, length, take, drop, get_or, Option, Some, None, IfSome, refl, sym, ◌∙◌, ap, subst, arith}
use Rattle.std.specs.Int.{to_be_bytes, w64}
use Rattle.std.proofs.lemmas.List.{append-nil, length-take-le, length-drop}
use Rattle.pg_disk.specs.Calls.{Holds}
use Rattle.pg_disk.proofs.Bytes.{holds_front, holds_back, holds_join, holds_none, holds_one, lt_or_le}
use Rattle.pg_gate.specs.declared.spans.Span.{Span}
use Rattle.pg_gate.specs.Gated.{opened, Batches}
use Rattle.pg_gate.specs.Payloads.{IsCutBehind}
use Rattle.pg_gate.specs.Spans.{IsCut, IsNext, IsWholeAt, spans_of}
use Rattle.pg_gate.proofs.Sealing.{batches_from, length-number, length-opened_push, opened-push}
use Rattle.pg_gate.proofs.Unique.{same_length, tail_of}
use Rattle.pg_gate.proofs.Walking.{cut_file, holds_taken, taken_holds}
use Rattle.pg_page.specs.Places.{StandsAt, IsNextSpan}

-- one batch more behind others
pub opened_more : (before : List (List ℕ)) (payload : List ℕ) → opened before ++ 1 ∷ (to_be_bytes w64 (length payload) ++ payload) ≡ opened (before ++ payload ∷ [])
opened_more before payload =
    ap (λ (l : List ℕ). opened before ++ 1 ∷ (to_be_bytes w64 (length payload) ++ l)) (sym (append-nil payload)) ∙ sym (opened-push before payload []) ∙ append-nil (opened (before ++ payload ∷ []))

module _ (bytes : List ℕ) (before : List (List ℕ)) (gate : ℕ) (place : gate ≡ length (opened before)) (stand : Holds bytes 0 (opened before)) where
  -- a whole batch behind a gate is one more that is passed
  passes_more : (span : Span) → IsWholeAt bytes gate span.length → span.at ≡ gate + 9 → (payload : List ℕ) × StandsAt bytes span.at before payload
  passes_more span whole at =
      let payload : List ℕ = take span.length (drop (gate + 9) bytes) in
      let size : length payload ≡ span.length = length-take-le span.length (drop (gate + 9) bytes) (omega (arith, whole.room, length-drop (gate + 9) bytes)) in
      let number : Holds bytes gate (1 ∷ to_be_bytes w64 (length payload)) = subst (λ (n : ℕ). Holds bytes gate (1 ∷ to_be_bytes w64 n)) (sym size) whole.opens in
      let batch : Holds bytes gate (1 ∷ (to_be_bytes w64 (length payload) ++ payload)) =
      holds_join bytes (1 ∷ to_be_bytes w64 (length payload)) payload gate (gate + 9) (omega arith) number (holds_taken bytes (gate + 9) span.length (omega (arith, whole.room))) in
      let all : Holds bytes 0 (opened before ++ 1 ∷ (to_be_bytes w64 (length payload) ++ payload)) = holds_join bytes (opened before) _ 0 gate (omega (arith, place)) stand batch in (
        payload,
        record {
          passes = record { stand = subst (λ (l : List ℕ). Holds bytes 0 l) (opened_more before payload) all; gate = omega (arith, length-opened_push before payload, place, size, whole.room) };
          at = omega (arith, at, place);
        },
      )

  -- a gate that isn't open ends them
  ends_here : gate < length bytes → get_or bytes gate 0 ≢ 1 → Batches bytes before
  ends_here within shut = batches_from bytes before (get_or bytes gate 0) shut (holds_join bytes (opened before) _ 0 gate (omega (arith, place)) stand (holds_one bytes gate within))

  -- what is read at this gate
  pub next_is : (end : ℕ) (next : Option Span) → end ≡ length bytes → (length bytes ≤ 1 → before ≡ []) → (1 < length bytes → gate < length bytes) → (1 < length bytes → IsNext bytes gate next)
      → IfSome next (λ span. (span.at ≡ gate + 9) × (span.at + span.length < end)) → IsNextSpan bytes before next
  next_is end None size few within is in_file = elim (lt_or_le 1 (length bytes)) [
    | inl long ↦ ends_here (within long) (is long)
    | inr short ↦ inl (short, few short)
  ]
  next_is end (Some span) size few within is in_file = passes_more span (is (omega (arith, in_file.0, in_file.1, size))) in_file.0

  -- where the batch there is cut
  pub cut_is : length bytes < 2 ^ 64 → IsCutBehind bytes gate → IsCut bytes gate
  cut_is short cut = cut_file bytes gate (spans_of 0 before) cut.long short (record { batches = before; stands = stand; place = place; places = refl }) cut.here

-- before the first gate there is nothing
pub nothing_before : (bytes : List ℕ) → Holds bytes 0 (opened [])
nothing_before bytes = holds_none bytes 0 (omega arith)

-- a payload that stands is a whole batch behind its gate
pub whole_there : (bytes : List ℕ) (offset : ℕ) (before : List (List ℕ)) (payload : List ℕ) → StandsAt bytes offset before payload → IsWholeAt bytes (length (opened before)) (length payload)
whole_there bytes offset before payload stands =
    let all : Holds bytes 0 (opened before ++ 1 ∷ (to_be_bytes w64 (length payload) ++ payload)) = subst (λ (l : List ℕ). Holds bytes 0 l) (sym (opened_more before payload)) stands.passes.stand in
    record {
      opens = holds_front bytes (1 ∷ to_be_bytes w64 (length payload)) payload (length (opened before)) (holds_back bytes (opened before) _ 0 (length (opened before)) (omega arith) all);
      room = omega (arith, stands.passes.gate, length-opened_push before payload);
    }

-- two whole batches behind one gate are as long
one_size : (bytes : List ℕ) (gate n m : ℕ) → n < 2 ^ 64 → m < 2 ^ 64 → IsWholeAt bytes gate n → IsWholeAt bytes gate m → n ≡ m
one_size bytes gate n m small little one other =
    let these : take 9 (drop gate bytes) ≡ 1 ∷ to_be_bytes w64 n = ap (λ (k : ℕ). take k (drop gate bytes)) (sym (head_long n)) ∙ taken_holds bytes (1 ∷ to_be_bytes w64 n) gate one.opens in
    let those : take 9 (drop gate bytes) ≡ 1 ∷ to_be_bytes w64 m = ap (λ (k : ℕ). take k (drop gate bytes)) (sym (head_long m)) ∙ taken_holds bytes (1 ∷ to_be_bytes w64 m) gate other.opens in
    same_length n m small little (tail_of 1 1 _ _ (sym these ∙ those))
  where
    head_long : (k : ℕ) → length (1 ∷ to_be_bytes w64 k) ≡ 9
    head_long k = omega (arith, length-number k)

-- where a payload stands at this offset of a page of so many bytes
module _ (bytes : List ℕ) (offset gate end : ℕ) (before : List (List ℕ)) (payload : List ℕ) (stands : StandsAt bytes offset before payload) (short : length bytes < 2 ^ 64) (gate_is : gate ≡ offset - 9) where
  gate_here : gate ≡ length (opened before)
  gate_here = omega (arith, gate_is, stands.at)

  whole_here : IsWholeAt bytes gate (length payload)
  whole_here = subst (λ (k : ℕ). IsWholeAt bytes k (length payload)) (sym gate_here) (whole_there bytes offset before payload stands)

  long_here : 1 < length bytes
  long_here = omega (arith, whole_here.room)

  -- it is the one that is read
  pub span_is : (span : Span) → end ≡ length bytes → (1 < length bytes → IsWholeAt bytes gate span.length) → (span.at ≡ gate + 9) × (span.at + span.length < end) → (span.at ≡ offset) × (span.length ≡ length payload)
  span_is span size whole in_file =
      (omega (arith, in_file.0, gate_here, stands.at), one_size bytes gate span.length (length payload) (omega (arith, in_file.1, size, short)) (omega (arith, whole_here.room, short)) (whole long_here) whole_here)

  -- its gate is open
  pub not_shut : (1 < length bytes → get_or bytes gate 0 ≢ 1) → ⊥
  not_shut shut = shut long_here (ap (λ (k : ℕ). get_or bytes k 0) (omega arith) ∙ whole_here.opens.each 0 (omega arith))

  -- and it isn't cut
  pub not_cut : IsCutBehind bytes gate → ⊥
  not_cut cut = cut.here.cut (length payload) (omega (arith, whole_here.room, short)) whole_here
