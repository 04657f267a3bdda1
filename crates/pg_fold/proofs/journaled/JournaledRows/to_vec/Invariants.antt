use Rattle.std.proofs.Common.{◌≡◌, ◌++◌, map, Bor}
use Rattle.pg_fold.specs.declared.rows.JournaledRow.{JournaledRow}
use Rattle.pg_fold.proofs.journaled.JournaledRows.to_vec.Given as goal

abbrev pub invariant-loop-held : goal.invariant-loop-held
invariant-loop-held l = map (λ (row : Bor JournaledRow). row.now) l.rows.items ++ l.held-iterator ≡ l.fn.self
