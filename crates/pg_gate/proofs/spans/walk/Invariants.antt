use Rattle.std.proofs.Common.{◌≡◌, ◌<◌, ◌+◌, ℕ, length}
use Rattle.pg_disk.specs.Account.{account}
use Rattle.pg_disk.specs.Calls.{Changes, Reads}
use Rattle.pg_disk.specs.Image.{Leaves}
use Rattle.pg_disk.specs.Moments.{Within}
use Rattle.pg_gate.specs.Spans.{AsRead, IsSoFar, Occupy}
use Rattle.pg_gate.proofs.Taking.{ReadsSpans}
use Rattle.pg_gate.proofs.spans.walk.Given as goal

abbrev pub invariant-gates : goal.invariant-gates
invariant-gates g l = record {
  within : l.gate < l.end;
  count : ℕ;
  same : Changes (g.D.Disk.tells l.fn.disk) (g.D.Disk.tells l.disk) (Reads count);
  run : Within g.D.Disk l.fn.disk l.disk Leaves;
  faults : g.D.Disk.faults l.disk ≡ g.D.Disk.faults l.fn.disk;
  turns : l.counter ≡ length l.spans.items;
  place : Occupy l.spans.items (l.gate + 1);
  taken : AsRead l.file (g.D.Disk.tells l.fn.disk) (λ _. ReadsSpans l.spans.items (account (g.D.Disk.tells l.fn.disk)) (account (g.D.Disk.tells l.disk)));
  so_far : AsRead l.file (g.D.Disk.tells l.fn.disk) (λ bytes. l.end ≡ length bytes → IsSoFar bytes l.gate l.spans.items);
}
