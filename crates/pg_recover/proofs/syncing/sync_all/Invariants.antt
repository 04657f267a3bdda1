use Rattle.std.proofs.Common.{◌≡◌, ◌<◌, ℕ, get_or}
use Rattle.std.specs.FinMap.{get}
use Rattle.pg_disk.specs.declared.file_id.FileId.{FileId}
use Rattle.pg_disk.specs.Account.{account, IsHonest, IsQuietAt}
use Rattle.pg_disk.specs.Calls.{Changes}
use Rattle.pg_disk.specs.Image.{Leaves}
use Rattle.pg_disk.specs.Moments.{Within}
use Rattle.pg_recover.specs.Syncing.{SyncsFiles}
use Rattle.pg_recover.proofs.syncing.sync_all.Given as goal

abbrev pub invariant-loop-file : goal.invariant-loop-file
invariant-loop-file g l = record {
  stays : Changes (g.D.Disk.tells l.fn.disk) (g.D.Disk.tells l.disk) SyncsFiles;
  run : Within g.D.Disk l.fn.disk l.disk Leaves;
  faults : g.D.Disk.faults l.disk ≡ g.D.Disk.faults l.fn.disk;
  quiet : IsHonest (g.D.Disk.tells l.fn.disk) → (k : ℕ) (d : FileId) → k < l.file-index → IsQuietAt (get (account (g.D.Disk.tells l.disk)).files (get_or l.files k d));
}
