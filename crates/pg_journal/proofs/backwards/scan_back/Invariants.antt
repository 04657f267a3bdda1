use Rattle.std.proofs.Common.{◌≡◌, length}
use Rattle.std.specs.List.{All}
use Rattle.pg_disk.specs.declared.file_id.Kind.TheVariants.{Journal as OfJournal}
use Rattle.pg_disk.specs.Account.{account, IsHonest}
use Rattle.pg_disk.specs.Calls.{Changes}
use Rattle.pg_disk.specs.Moments.{Within}
use Rattle.pg_journal.specs.Looks.{LeavesJournal, ReadsGenerations}
use Rattle.pg_journal.proofs.Scanned.{IsScannedTo}
use Rattle.pg_journal.proofs.Taken.{TakesTo}
use Rattle.pg_journal.proofs.backwards.scan_back.Given as goal

abbrev pub invariant-generations : goal.invariant-generations
invariant-generations g l = record {
  kinds : All (λ file. file.kind ≡ OfJournal) l.generations.items;
  stays : Changes (g.D.Disk.tells l.fn.disk) (g.D.Disk.tells l.disk) ReadsGenerations;
  taken : IsHonest (g.D.Disk.tells l.fn.disk) → TakesTo l.generations.items (account (g.D.Disk.tells l.fn.disk)) (account (g.D.Disk.tells l.disk));
  run : Within g.D.Disk l.fn.disk l.disk LeavesJournal;
  faults : g.D.Disk.faults l.disk ≡ g.D.Disk.faults l.fn.disk;
  so_far : IsHonest (g.D.Disk.tells l.fn.disk) → IsScannedTo l.generations.items l.last (account (g.D.Disk.tells l.fn.disk)).files (account (g.D.Disk.tells l.disk)).files;
}

abbrev pub decreases-generations : goal.decreases-generations
decreases-generations g l = length l.generations.items
