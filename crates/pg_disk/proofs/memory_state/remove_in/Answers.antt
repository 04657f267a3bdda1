use Rattle.std.proofs.Common.{None}
use Rattle.pg_disk.proofs.ContentLemmas.{comes_removed}
use Rattle.pg_disk.proofs.DerivedOrder.{updates_by}
use Rattle.pg_disk.proofs.memory_state.remove_in.Goals as goal

pub returns-then-done : goal.returns-then-done
returns-then-done c = comes_removed c.args.contents.now c.remove.new.self c.args.file c.args.done c.if-done.true (updates_by c.args.contents.now c.remove.new.self c.args.file None c.remove.ensures.updates)
