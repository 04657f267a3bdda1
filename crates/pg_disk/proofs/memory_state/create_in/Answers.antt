use Rattle.std.proofs.Common.{Some}
use Rattle.pg_disk.proofs.ContentLemmas.{comes_created}
use Rattle.pg_disk.proofs.DerivedOrder.{updates_by}
use Rattle.pg_disk.proofs.memory_state.create_in.Goals as goal

pub returns-clause-ok : goal.returns-clause-ok
returns-clause-ok c =
    let updates = updates_by c.args.contents.now c.insert.new.self c.args.file (Some c.new.result) c.in_ok-insert.ensures.updates in
    comes_created c.args.contents.now c.insert.new.self c.args.file c.new.result c.args.done c.if-not-done.false c.new.ensures.items updates
