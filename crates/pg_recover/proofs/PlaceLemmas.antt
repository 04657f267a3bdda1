-- Payloads within a piece that was read at once.
use Rattle.std.proofs.Common.{◌≡◌, ℕ, ◌+◌, ◌-◌, ◌≤◌, List, [], ◌∷◌, take, drop, refl, ◌∙◌, ap, arith}
use Rattle.std.proofs.lemmas.List.{drop-take, drop-drop, take-take}
use Rattle.std.proofs.lemmas.List.Elements.{All-head, All-tail}
use Rattle.pg_gate.specs.declared.spans.Span.{Span}
use Rattle.pg_gate.specs.Payloads.{payload_at, payloads_at}
use Rattle.pg_recover.specs.Places.{payload_from, payloads_from, IsCovered, Covers}

-- a piece of a piece
within : (bytes : List ℕ) (from size at count : ℕ) → from ≤ at → at + count ≤ from + size → take count (drop (at - from) (take size (drop from bytes))) ≡ take count (drop at bytes)
within bytes from size at count low high =
    let skip : ℕ = at - from in
    let rest : size ≡ skip + (size - skip) = omega arith in
    ap (λ n. take count (drop skip (take n (drop from bytes)))) rest
    ∙ ap (take count) (drop-take skip (size - skip) (drop from bytes))
    ∙ take-take count (size - skip) (drop skip (drop from bytes)) (omega (arith, high))
    ∙ ap (take count) (drop-drop skip from bytes ∙ ap (λ n. drop n bytes) (omega arith))

-- payloads in bytes that were read from a place that covers them
pub covered : (file bytes : List ℕ) (cover : Span) (spans : List Span) → Covers cover spans → bytes ≡ take cover.length (drop cover.at file) → payloads_from cover.at bytes spans ≡ payloads_at file spans
covered file bytes cover [] covers is = refl
covered file bytes cover (span ∷ spans) covers is =
    let here = All-head (IsCovered cover) span spans covers in
    let one : payload_from cover.at bytes span ≡ payload_at file span = ap (λ l. payload_from cover.at l span) is ∙ within file cover.at cover.length span.at span.length here.begins here.ends in
    let more = covered file bytes cover spans (All-tail (IsCovered cover) span spans covers) is in
    λ i. one i ∷ more i
