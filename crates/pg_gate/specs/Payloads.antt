-- The batch with a number, counted from 0: its gate, its payload's place, and the payload there.
use Rattle.std.specs.Prelude.{◌≡◌, ◌≤◌, ◌<◌, ◌+◌, ℕ, List, length, map, take, drop, slice_get, All, Option}
use Rattle.pg_gate.specs.declared.spans.Span.{Span}
use Rattle.pg_gate.specs.Gated.{opened, Batches}
use Rattle.pg_gate.specs.Spans.{spans_of, IsCutAt}

-- the offset of the gate before this batch; behind the last batch it is that of the gate that ends them
abbrev pub gate_at : List (List ℕ) → ℕ → ℕ
gate_at batches index = length (opened (take index batches))

-- the place of this batch's payload, where there is such a batch
abbrev pub span_at : List (List ℕ) → ℕ → Option Span
span_at batches index = slice_get (spans_of 0 batches) index

-- the bytes at a place
abbrev pub payload_at : List ℕ → Span → List ℕ
payload_at bytes span = take span.length (drop span.at bytes)

abbrev pub payloads_at : List ℕ → List Span → List (List ℕ)
payloads_at bytes spans = map (payload_at bytes) spans

-- the place ends within so many bytes
abbrev pub IsInside : ℕ → Span → Type 0
IsInside size span = span.at + span.length ≤ size

-- so do all of these
abbrev pub AreInside : ℕ → List Span → Type 0
AreInside size spans = All (IsInside size) spans

-- In a file of more than one byte the gate at this offset is open, and no whole batch stands behind it. So it is none
-- of the gates of the batches of such a file.
pub record IsCutBehind (bytes : List ℕ) (gate : ℕ) : Type 0 where
  pub long : 1 < length bytes
  pub here : IsCutAt bytes gate
  pub none : (batches : List (List ℕ)) (index : ℕ) → Batches bytes batches → gate ≡ gate_at batches index → ⊥
