-- Payloads within a piece of a file that was read at once.
use Rattle.std.specs.Prelude.{◌≤◌, ◌+◌, ◌-◌, ℕ, List, map, take, drop, All}
use Rattle.pg_gate.specs.declared.spans.Span.{Span}

-- the bytes at a place of a file, in a piece of it that begins at this offset
abbrev pub payload_from : ℕ → List ℕ → Span → List ℕ
payload_from from bytes span = take span.length (drop (span.at - from) bytes)

abbrev pub payloads_from : ℕ → List ℕ → List Span → List (List ℕ)
payloads_from from bytes spans = map (payload_from from bytes) spans

-- one place lies within another
pub record IsCovered (cover span : Span) : Type 0 where
  pub begins : cover.at ≤ span.at
  pub ends : span.at + span.length ≤ cover.at + cover.length

-- so do all of these
abbrev pub Covers : Span → List Span → Type 0
Covers cover spans = All (IsCovered cover) spans
