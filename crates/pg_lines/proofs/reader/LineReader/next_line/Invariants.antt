use Rattle.std.proofs.Common.{◌≡◌}
use Rattle.pg_lines.specs.Reading.{pending_of, left_of}
use Rattle.pg_lines.proofs.ReadSoFar.{ReadSoFar}
use Rattle.pg_lines.proofs.reader.LineReader.next_line.Given as goal

abbrev pub invariant-loop-self : goal.invariant-loop-self
invariant-loop-self g l = record {
  so_far : ReadSoFar (pending_of l.initial.self) (left_of l.initial.self) (g.R.Source.rest l.initial.source) (pending_of l.self) (left_of l.self) (g.R.Source.rest l.source) l.line.items;
  faults : g.R.Source.faults l.source ≡ g.R.Source.faults l.initial.source;
}

abbrev pub decreases-loop-self : goal.decreases-loop-self
decreases-loop-self g l = left_of l.self
