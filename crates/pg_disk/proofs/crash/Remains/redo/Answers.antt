use Rattle.std.proofs.Common.{ℕ, true, List, OnOk, subst}
use Rattle.pg_disk.specs.declared.call_record.Event.TheVariants as event
use Rattle.pg_disk.specs.Crash.{Redoes}
use Rattle.pg_disk.specs.Left.{left_of_write}
use Rattle.pg_disk.specs.Replay.{after_write, after_emit, after_put}
use Rattle.pg_disk.proofs.RedoLemmas.{redoes_as, redoes_is}
use Rattle.pg_disk.proofs.crash.Remains.redo.Goals as goal

pub returns-in-Write : goal.returns-in-Write
returns-in-Write c =
    let w = c.in-Write in
    redoes_as c.write.result c.args.pick c.args.self.now c.write.new.self c.args.event.now (event.Write w.file w.at w.bytes w.done) w.is
    (subst (λ (bytes : List ℕ). OnOk c.write.result (Redoes (after_write w.file w.at bytes w.done) (λ a. left_of_write c.args.pick w.file w.at bytes w.done) c.args.self.now c.write.new.self)) c.deref.ensures.value c.write.ensures)

pub returns-in-Sync : goal.returns-in-Sync
returns-in-Sync c = redoes_as c.sync.result c.args.pick c.args.self.now c.sync.new.self c.args.event.now (event.Sync c.in-Sync.file c.in-Sync.done) c.in-Sync.is c.sync.ensures

pub returns-in-Create : goal.returns-in-Create
returns-in-Create c = redoes_as c.create.result c.args.pick c.args.self.now c.create.new.self c.args.event.now (event.Create c.in-Create.file c.in-Create.done) c.in-Create.is c.create.ensures

pub returns-in-Remove : goal.returns-in-Remove
returns-in-Remove c = redoes_is c.args.pick c.args.self.now c.remove.new.self c.args.event.now (event.Remove c.in-Remove.file c.in-Remove.done) c.in-Remove.is c.remove.ensures

pub returns-in-Emit : goal.returns-in-Emit
returns-in-Emit c =
    redoes_as c.tell.result c.args.pick c.args.self.now c.tell.new.self c.args.event.now (event.Emit c.in-Emit.bytes c.in-Emit.done) c.in-Emit.is
    (subst (λ (bytes : List ℕ). OnOk c.tell.result (Redoes (after_emit bytes c.in-Emit.done) (λ a l. l) c.args.self.now c.tell.new.self)) c.deref-in-Emit.ensures.value c.tell.ensures)

pub returns-in-Told : goal.returns-in-Told
returns-in-Told c =
    redoes_as c.tell-in-Told.result c.args.pick c.args.self.now c.tell-in-Told.new.self c.args.event.now (event.Told c.in-Told.bytes) c.in-Told.is
    (subst (λ (bytes : List ℕ). OnOk c.tell-in-Told.result (Redoes (after_emit bytes true) (λ a l. l) c.args.self.now c.tell-in-Told.new.self)) c.deref-in-Told.ensures.value c.tell-in-Told.ensures)

pub returns-in-Put : goal.returns-in-Put
returns-in-Put c =
    redoes_as c.put.result c.args.pick c.args.self.now c.put.new.self c.args.event.now (event.Put c.in-Put.file c.in-Put.bytes) c.in-Put.is
    (subst (λ (bytes : List ℕ). OnOk c.put.result (Redoes (after_put c.in-Put.file bytes) (λ a. after_put c.in-Put.file bytes) c.args.self.now c.put.new.self)) c.deref-in-Put.ensures.value c.put.ensures)
