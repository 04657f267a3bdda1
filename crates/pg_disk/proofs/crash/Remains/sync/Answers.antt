use Rattle.std.proofs.Common.{Some, refl, sym, ◌∙◌}
use Rattle.pg_disk.proofs.RedoLemmas.{redoes_sync_none, redoes_sync_there, redoes_sync_absent}
use Rattle.pg_disk.proofs.DerivedOrder.{updates_by, get_by_file}
use Rattle.pg_disk.proofs.crash.Remains.sync.Goals as goal

pub returns-then-not-done : goal.returns-then-not-done
returns-then-not-done c = redoes_sync_none c.args.self.now c.args.file c.args.done c.if-not-done.true

pub returns-in_ok-insert : goal.returns-in_ok-insert
returns-in_ok-insert c =
    let r = c.args.self.now in
    let f = c.args.file in
    let v = c.in_ok-content.content in
    redoes_sync_there r _ f c.args.done c.in-Some.content.now v c.if-not-done.false (sym (get_by_file r.read f) ∙ sym c.in-Some.ensures.value)
    (c.in_ok-content.ensures.items ∙ c.deref.ensures.value) refl refl (updates_by r.left c.insert.new.self f (Some v) c.in_ok-insert.ensures.updates)

pub returns-in_default : goal.returns-in_default
returns-in_default c =
    let r = c.args.self.now in
    redoes_sync_absent r c.args.file c.args.done c.if-not-done.false (sym (get_by_file r.read c.args.file) ∙ sym c.in_default.ensures.value)
