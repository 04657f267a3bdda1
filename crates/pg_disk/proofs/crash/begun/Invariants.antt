use Rattle.std.specs.BTreeMap as tree
use Rattle.pg_disk.specs.MemoryState.{events_of}
use Rattle.pg_disk.proofs.CrashLemmas.{Begins}
use Rattle.pg_disk.proofs.crash.begun.Given as goal

abbrev pub invariant-loop-file : goal.invariant-loop-file
invariant-loop-file l = Begins (events_of l.state) l.contents l.initial.contents

abbrev pub decreases-loop-file : goal.decreases-loop-file
decreases-loop-file l = tree.btree_map_len l.contents
