use Rattle.std.proofs.Common.{◌≡◌, ◌≤◌, ℕ}
use Rattle.pg_acks.specs.declared.position.Position.{Position}
use Rattle.pg_disk.specs.Calls.{Changes, Reads}
use Rattle.pg_disk.specs.Image.{Leaves}
use Rattle.pg_disk.specs.Moments.{Within}
use Rattle.pg_cursor.specs.Counting.{HasCount}
use Rattle.pg_cursor.specs.Places.{IsNoEarlier, IsPassed}
use Rattle.pg_cursor.specs.Walking.{OnPages, TailStands}
use Rattle.pg_cursor.proofs.CountedBehind.{IsFound}
use Rattle.pg_cursor.proofs.Walked.{far}
use Rattle.pg_cursor.proofs.counting.count_behind.Given as goal

abbrev pub invariant-frames : goal.invariant-frames
invariant-frames g l = record {
  reads : ℕ;
  same : Changes (g.D.Disk.tells l.fn.disk) (g.D.Disk.tells l.disk) (Reads reads);
  run : Within g.D.Disk l.fn.disk l.disk Leaves;
  faults : g.D.Disk.faults l.disk ≡ g.D.Disk.faults l.fn.disk;
  later : IsNoEarlier l.fn.from l.tail;
  near : (position : Position) → IsPassed l.tail position → (IsPassed l.fn.from position → ⊥) → position.page ≤ l.last;
  stands : OnPages g.D.Disk l.fn.disk l.address (TailStands l.tail);
  counted : OnPages g.D.Disk l.fn.disk l.address (λ pages. HasCount (IsFound l.queue l.acks l.txs pages l.fn.from l.tail) l.count);
}

abbrev pub decreases-frames : goal.decreases-frames
decreases-frames g l = far l.last l.tail
