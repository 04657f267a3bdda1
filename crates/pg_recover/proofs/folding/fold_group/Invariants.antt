use Rattle.std.proofs.Common.{take}
use Rattle.pg_fold.specs.Sound.{IsSound}
use Rattle.pg_recover.specs.Folding.{FoldsFrom}
use Rattle.pg_recover.specs.Places.{payloads_from}
use Rattle.pg_recover.proofs.folding.fold_group.Given as goal

abbrev pub invariant-loop-span : goal.invariant-loop-span
invariant-loop-span l = record {
  sound : IsSound l.durable;
  so_far : FoldsFrom l.fn.durable (payloads_from l.cover.at l.bytes (take l.span-index l.spans)) l.durable;
}
