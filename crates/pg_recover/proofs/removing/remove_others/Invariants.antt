use Rattle.std.proofs.Common.{◌≡◌}
use Rattle.pg_disk.specs.Account.{account, IsHonest}
use Rattle.pg_disk.specs.Calls.{Changes}
use Rattle.pg_disk.specs.Moments.{Within}
use Rattle.pg_recover.specs.Removing.{LeavesOthersGone, RemovesOthers}
use Rattle.pg_recover.proofs.RemovingLemmas.{IsGoneTo}
use Rattle.pg_recover.proofs.removing.remove_others.Given as goal

abbrev pub invariant-loop-file : goal.invariant-loop-file
invariant-loop-file g l = record {
  stays : Changes (g.D.Disk.tells l.fn.disk) (g.D.Disk.tells l.disk) (RemovesOthers l.keep);
  run : Within g.D.Disk l.fn.disk l.disk (LeavesOthersGone l.keep);
  faults : g.D.Disk.faults l.disk ≡ g.D.Disk.faults l.fn.disk;
  so_far : IsHonest (g.D.Disk.tells l.fn.disk) → IsGoneTo l.file-index l.files l.keep (account (g.D.Disk.tells l.disk)).files;
}
