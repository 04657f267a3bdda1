use Rattle.std.proofs.Common.{◌≡◌, ℕ, length}
use Rattle.std.specs.List.{All}
use Rattle.pg_disk.specs.declared.file_id.Kind.TheVariants.{Journal as OfJournal}
use Rattle.pg_disk.specs.Account.{account, IsHonest}
use Rattle.pg_disk.specs.Calls.{Changes, Reads}
use Rattle.pg_disk.specs.Image.{Leaves}
use Rattle.pg_disk.specs.Moments.{Within}
use Rattle.pg_journal.proofs.Peeking.{IsPeekedTo}
use Rattle.pg_journal.proofs.backwards.peek_back.Given as goal

abbrev pub invariant-generations : goal.invariant-generations
invariant-generations g l = record {
  kinds : All (λ file. file.kind ≡ OfJournal) l.generations.items;
  count : ℕ;
  same : Changes (g.D.Disk.tells l.fn.disk) (g.D.Disk.tells l.disk) (Reads count);
  run : Within g.D.Disk l.fn.disk l.disk Leaves;
  faults : g.D.Disk.faults l.disk ≡ g.D.Disk.faults l.fn.disk;
  so_far : IsHonest (g.D.Disk.tells l.fn.disk) → IsPeekedTo l.generations.items (account (g.D.Disk.tells l.fn.disk)).files;
}

abbrev pub decreases-generations : goal.decreases-generations
decreases-generations g l = length l.generations.items
