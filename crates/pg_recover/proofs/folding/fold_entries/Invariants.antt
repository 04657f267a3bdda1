use Rattle.std.proofs.Common.{take, drop, length}
use Rattle.pg_records.specs.Entries.{HaveFields}
use Rattle.pg_fold.specs.Fold.{Folds}
use Rattle.pg_fold.specs.Sound.{IsSound}
use Rattle.pg_recover.proofs.folding.fold_entries.Given as goal

abbrev pub invariant-loop-entry : goal.invariant-loop-entry
invariant-loop-entry l = record {
  fields : HaveFields (drop (length l.yielded) l.fn.entries.items);
  sound : IsSound l.durable;
  so_far : Folds l.fn.durable (take (length l.yielded) l.fn.entries.items) l.durable;
}
