use Rattle.pg_disk.proofs.RedoLemmas.{redoes_put}
use Rattle.pg_disk.proofs.DerivedOrder.{updates_by}
use Rattle.std.proofs.Common.{Some, refl}
use Rattle.pg_disk.proofs.crash.Remains.put.Goals as goal

pub returns : goal.returns
returns c =
    let r = c.args.self.now in
    redoes_put r _ c.args.file c.in_ok-content.content c.in_ok-content-2.content c.args.bytes.now c.in_ok-content.ensures.items c.in_ok-content-2.ensures.items
    (updates_by r.read c.insert.new.self c.args.file (Some c.in_ok-content.content) c.in_ok-insert.ensures.updates)
    (updates_by r.left c.insert-2.new.self c.args.file (Some c.in_ok-content-2.content) c.in_ok-insert-2.ensures.updates) refl
