use Rattle.std.proofs.Common.{◌≡◌, ◌++◌, map}
use Rattle.pg_acks.specs.Kept.{row_of}
use Rattle.pg_acks.proofs.runs.rows_of.Given as goal

-- the rows so far, and what is left
abbrev pub invariant-loop-key : goal.invariant-loop-key
invariant-loop-key l = l.rows.items ++ map row_of l.key-iterator ≡ map row_of l.runs.entries
