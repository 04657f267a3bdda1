use Rattle.std.proofs.Common.{◌≡◌, ℕ, length}
use Rattle.pg_disk.specs.Calls.{Changes, Reads}
use Rattle.pg_disk.specs.Image.{Leaves}
use Rattle.pg_disk.specs.Moments.{Within}
use Rattle.pg_fold.specs.Sound.{IsSound}
use Rattle.pg_recover.proofs.PieceLemmas.{LeadsTo}
use Rattle.pg_recover.proofs.reading.read_payloads.Given as goal

abbrev pub invariant-groups : goal.invariant-groups
invariant-groups g l = record {
  count : ℕ;
  same : Changes (g.D.Disk.tells l.fn.disk) (g.D.Disk.tells l.disk) (Reads count);
  run : Within g.D.Disk l.fn.disk l.disk Leaves;
  faults : g.D.Disk.faults l.disk ≡ g.D.Disk.faults l.fn.disk;
  sound : IsSound l.durable;
  so_far : LeadsTo l.file (g.D.Disk.tells l.fn.disk) l.spans l.fn.durable l.durable l.rest;
}

abbrev pub decreases-groups : goal.decreases-groups
decreases-groups g l = length l.rest
