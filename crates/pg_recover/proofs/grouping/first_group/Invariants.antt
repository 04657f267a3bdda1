use Rattle.std.proofs.Common.{ℕ}
use Rattle.pg_gate.specs.Payloads.{AreInside, IsInside}
use Rattle.pg_recover.proofs.GroupLemmas.{CoversFirst}
use Rattle.pg_recover.proofs.grouping.first_group.Given as goal

abbrev pub invariant-loop-count : goal.invariant-loop-count
invariant-loop-count l = record {
  covers : CoversFirst l.cover l.count l.spans;
  inside : (size : ℕ) → AreInside size l.spans → IsInside size l.cover;
}
