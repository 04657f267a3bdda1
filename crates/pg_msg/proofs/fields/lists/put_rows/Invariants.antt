use Rattle.std.proofs.Common.{◌≡◌, ◌++◌, drop}
use Rattle.pg_msg.specs.Lists.{rows_bytes}
use Rattle.pg_msg.proofs.fields.lists.put_rows.Given as goal

abbrev pub invariant-loop-row : goal.invariant-loop-row
invariant-loop-row l = l.out ++ rows_bytes (drop l.row-index l.rows) ≡ l.fn.out ++ rows_bytes l.rows
