use Rattle.std.proofs.Common.{◌≡◌, ◌∙◌, ⊎_elim, ℕ, true, List, OnOk, ap, sym, subst}
use Rattle.pg_disk.specs.declared.call_record.Event.TheVariants as event
use Rattle.pg_disk.specs.Crash.{Redoes}
use Rattle.pg_disk.specs.Left.{left_of_write, left_after}
use Rattle.pg_disk.specs.Replay.{completed, step, after_write}
use Rattle.pg_disk.proofs.RedoLemmas.{completes_as, completes_is}
use Rattle.pg_disk.proofs.crash.Remains.complete.Goals as goal

pub returns-in-Write : goal.returns-in-Write
returns-in-Write c =
    let w = c.in-Write in
    completes_as c.write.result c.args.pick c.args.self.now c.write.new.self c.args.event.now (event.Write w.file w.at w.bytes w.field-3) w.is
    (subst (λ (bytes : List ℕ). OnOk c.write.result (Redoes (after_write w.file w.at bytes true) (λ a. left_of_write c.args.pick w.file w.at bytes true) c.args.self.now c.write.new.self)) c.deref.ensures.value c.write.ensures)

pub returns-in-Create : goal.returns-in-Create
returns-in-Create c = completes_as c.create.result c.args.pick c.args.self.now c.create.new.self c.args.event.now (event.Create c.in-Create.file c.in-Create.field-1) c.in-Create.is c.create.ensures

pub returns-in-Remove : goal.returns-in-Remove
returns-in-Remove c = completes_is c.args.pick c.args.self.now c.remove.new.self c.args.event.now (event.Remove c.in-Remove.file c.in-Remove.field-1) c.in-Remove.is c.remove.ensures

pub returns-in-List : goal.returns-in-List
returns-in-List c =
    let same : completed c.args.event.now ≡ c.args.event.now = ⊎_elim (λ p. ap completed p ∙ sym p)
    (⊎_elim (λ q. ap completed q.1 ∙ sym q.1)
    (⊎_elim (λ q. ap completed q.2 ∙ sym q.2)
    (⊎_elim (λ q. ap completed q.2 ∙ sym q.2)
    (⊎_elim (λ q. ap completed q.2 ∙ sym q.2) (⊎_elim (λ q. ap completed q.2 ∙ sym q.2) (λ q. ap completed q.1 ∙ sym q.1)))))) c.in-List.is in
    subst (λ e. OnOk c.redo.result (Redoes (step e) (left_after c.args.pick e) c.args.self.now c.redo.new.self)) (sym same) c.redo.ensures
