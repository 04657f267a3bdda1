use Rattle.std.proofs.Common.{◌≤◌, length}
use Rattle.pg_dir.proofs.folder.fill.Given as goal

abbrev pub invariant-loop : goal.invariant-loop
invariant-loop l = l.filled ≤ length l.buf
