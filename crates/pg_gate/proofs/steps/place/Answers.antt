use Rattle.std.proofs.Common.{◌+◌, refl, arith}
use Rattle.std.specs.Int.{to_be_bytes, w64}
use Rattle.pg_disk.proofs.Composing.{goes_on}
use Rattle.pg_disk.proofs.Runs.{left_at}
use Rattle.pg_disk.specs.Image.{LeavesAt}
use Rattle.pg_disk.specs.Calls.{There, Wrote}
use Rattle.pg_gate.specs.Gated.{Keeps}
use Rattle.pg_disk.proofs.Rewriting.{rewrote_none, then_wrote}
use Rattle.pg_gate.proofs.Stages.{at_first}
use Rattle.pg_gate.proofs.Adding.{write_left}
use Rattle.pg_gate.proofs.steps.place.Goals as goal

pub returns-then-filling-clause-any_moment : goal.returns-then-filling-clause-any_moment
returns-then-filling-clause-any_moment g c =
    at_first c.args.filling (to_be_bytes w64 c.args.filling.length) refl g.D.Disk c.args.filling.file c.args.disk.now (g.met.D.Disk.only_now c.args.disk.now)

pub returns-in_err-write-clause-any_moment : goal.returns-in_err-write-clause-any_moment
returns-in_err-write-clause-any_moment g c =
    goes_on g.D.Disk c.args.disk.now c.args.disk.now c.write.new.self (LeavesAt c.args.filling.file (Keeps c.args.filling)) _
    (at_first c.args.filling (to_be_bytes w64 c.args.filling.length) refl g.D.Disk c.args.filling.file c.args.disk.now (g.met.D.Disk.only_now c.args.disk.now))
    c.write.ensures.time
    (left_at c.args.filling.file (g.D.Disk.tells c.args.disk.now) (g.D.Disk.tells c.write.new.self) (There (Wrote _ _ _)) (Keeps c.args.filling) c.write.ensures.step (λ s left. write_left c.args.filling _ _ (omega arith) _ _ s left))

pub returns-clause-any_moment : goal.returns-clause-any_moment
returns-clause-any_moment g c =
    goes_on g.D.Disk c.args.disk.now c.args.disk.now c.write.new.self (LeavesAt c.args.filling.file (Keeps c.args.filling)) _
    (at_first c.args.filling (to_be_bytes w64 c.args.filling.length) refl g.D.Disk c.args.filling.file c.args.disk.now (g.met.D.Disk.only_now c.args.disk.now))
    c.write.ensures.time
    (left_at c.args.filling.file (g.D.Disk.tells c.args.disk.now) (g.D.Disk.tells c.write.new.self) (There (Wrote _ _ _)) (Keeps c.args.filling) c.write.ensures.step (λ s left. write_left c.args.filling _ _ (omega arith) _ _ s left))

pub returns-then-filling-clause-all_else : goal.returns-then-filling-clause-all_else
returns-then-filling-clause-all_else g c = rewrote_none c.args.filling.file (g.D.Disk.tells c.args.disk.now) (c.args.filling.gate + 1) (c.args.filling.gate + 9)

pub returns-in_err-write-clause-all_else : goal.returns-in_err-write-clause-all_else
returns-in_err-write-clause-all_else g c =
    then_wrote c.args.filling.file (g.D.Disk.tells c.args.disk.now) (g.D.Disk.tells c.args.disk.now) (g.D.Disk.tells c.write.new.self) (c.args.filling.gate + 1) (c.args.filling.gate + 9) _ _ _
    (rewrote_none c.args.filling.file (g.D.Disk.tells c.args.disk.now) (c.args.filling.gate + 1) (c.args.filling.gate + 9)) c.write.ensures.step (omega arith) (omega arith)

pub returns-clause-all_else : goal.returns-clause-all_else
returns-clause-all_else g c =
    then_wrote c.args.filling.file (g.D.Disk.tells c.args.disk.now) (g.D.Disk.tells c.args.disk.now) (g.D.Disk.tells c.write.new.self) (c.args.filling.gate + 1) (c.args.filling.gate + 9) _ _ _
    (rewrote_none c.args.filling.file (g.D.Disk.tells c.args.disk.now) (c.args.filling.gate + 1) (c.args.filling.gate + 9)) c.write.ensures.step (omega arith) (omega arith)
