use Rattle.std.proofs.Common.{◌≡◌, ℕ}
use Rattle.std.specs.Prelude.{None}
use Rattle.pg_disk.specs.Calls.{Changes, Reads}
use Rattle.pg_disk.specs.Image.{Leaves}
use Rattle.pg_disk.specs.Moments.{Within}
use Rattle.pg_cursor.specs.Places.{IsNoEarlier}
use Rattle.pg_cursor.specs.Walking.{OnPages, Walks}
use Rattle.pg_cursor.specs.Ways.{OnReads, ReadsAlong}
use Rattle.pg_cursor.proofs.Walked.{far}
use Rattle.pg_cursor.proofs.walking.walk.Given as goal

abbrev pub invariant-frames : goal.invariant-frames
invariant-frames g l = record {
  count : ℕ;
  same : Changes (g.D.Disk.tells l.fn.disk) (g.D.Disk.tells l.disk) (Reads count);
  run : Within g.D.Disk l.fn.disk l.disk Leaves;
  faults : g.D.Disk.faults l.disk ≡ g.D.Disk.faults l.fn.disk;
  later : IsNoEarlier l.fn.from l.tail;
  read : OnReads g.D.Disk l.fn.disk l.disk l.address (ReadsAlong 0 l.fn.from l.tail);
  walked : OnPages g.D.Disk l.fn.disk l.address (Walks l.queue l.acks l.txs l.fn.from l.tail None);
}

abbrev pub decreases-frames : goal.decreases-frames
decreases-frames g l = far l.last l.tail
