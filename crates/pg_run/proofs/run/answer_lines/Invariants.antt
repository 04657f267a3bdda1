use Rattle.std.proofs.Common.{◌≡◌, ◌+◌, length}
use Rattle.pg_lines.specs.Reading.{pending_of, left_of}
use Rattle.pg_engine.specs.Executed.{state_of}
use Rattle.pg_run.proofs.Ending.{SoFar}
use Rattle.pg_run.proofs.run.answer_lines.Given as goal

abbrev pub invariant-lines : goal.invariant-lines
invariant-lines g l = record {
  so_far : SoFar g.S.Disk (state_of l.fn.engine) l.limit l.fn.site (g.R.Source.rest l.fn.source) l.site (g.R.Source.rest l.source) l.reader l.engine;
  site_faults : g.S.Disk.faults l.site ≡ g.S.Disk.faults l.fn.site;
  source_faults : g.R.Source.faults l.source ≡ g.R.Source.faults l.fn.source;
}

abbrev pub decreases-lines : goal.decreases-lines
decreases-lines g l = left_of l.reader + length (pending_of l.reader)
