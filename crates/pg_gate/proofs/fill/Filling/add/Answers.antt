use Rattle.std.proofs.Common.{refl, arith}
use Rattle.std.specs.Int.{to_be_bytes, w64}
use Rattle.std.proofs.Common.{◌+◌, length}
use Rattle.pg_disk.proofs.Rewriting.{rewrote_none, then_rewrote, then_wrote}
use Rattle.pg_gate.proofs.Stages.{at_first}
use Rattle.pg_gate.proofs.Adding.{in_write, can_write, all_added}
use Rattle.pg_gate.proofs.fill.Filling.add.Goals as goal

pub returns-then-end-gt-LIMIT-clause-any_moment : goal.returns-then-end-gt-LIMIT-clause-any_moment
returns-then-end-gt-LIMIT-clause-any_moment g c =
    at_first c.args.self (to_be_bytes w64 c.args.self.length) refl g.D.Disk c.args.self.file c.args.disk.now (g.met.D.Disk.only_now c.args.disk.now)

pub write-requires : goal.write-requires
write-requires g c = can_write c.args.self c.in_ok-filling.filling c.args.bytes.now c.saturating_add-end.result (c.in_ok-filling.ensures.same.1) (c.in_ok-filling.ensures.same.2) (c.in_ok-filling.ensures.same.3) (omega arith) g.D.Disk c.args.self.file c.args.disk.now c.place.new.disk c.place.ensures.any_moment c.in_ok-filling.ensures.placed c.requires

pub returns-in_err-write-clause-any_moment : goal.returns-in_err-write-clause-any_moment
returns-in_err-write-clause-any_moment g c = in_write c.args.self c.in_ok-filling.filling c.args.bytes.now c.saturating_add-end.result (c.in_ok-filling.ensures.same.1) (c.in_ok-filling.ensures.same.2) (c.in_ok-filling.ensures.same.3) (omega arith) g.D.Disk c.args.self.file c.args.disk.now c.place.new.disk c.place.ensures.any_moment c.in_ok-filling.ensures.placed _ c.write.new.self c.write.ensures.time c.write.ensures.step

pub returns-clause-any_moment : goal.returns-clause-any_moment
returns-clause-any_moment g c = in_write c.args.self c.in_ok-filling.filling c.args.bytes.now c.saturating_add-end.result (c.in_ok-filling.ensures.same.1) (c.in_ok-filling.ensures.same.2) (c.in_ok-filling.ensures.same.3) (omega arith) g.D.Disk c.args.self.file c.args.disk.now c.place.new.disk c.place.ensures.any_moment c.in_ok-filling.ensures.placed _ c.write.new.self c.write.ensures.time c.write.ensures.step

pub returns-clause-added : goal.returns-clause-added
returns-clause-added g c = all_added c.args.self c.in_ok-filling.filling c.args.bytes.now c.saturating_add-end.result (c.in_ok-filling.ensures.same.1) (c.in_ok-filling.ensures.same.2) (c.in_ok-filling.ensures.same.3) (omega arith) g.D.Disk c.args.self.file c.args.disk.now c.place.new.disk c.place.ensures.any_moment c.in_ok-filling.ensures.placed _ c.write.new.self refl refl refl c.in_ok-write.ensures.step

pub returns-then-end-gt-LIMIT-clause-all_else : goal.returns-then-end-gt-LIMIT-clause-all_else
returns-then-end-gt-LIMIT-clause-all_else g c = rewrote_none c.args.self.file (g.D.Disk.tells c.args.disk.now) (c.args.self.gate + 1) (c.args.self.gate + 1 + 8 + c.args.self.length + length c.args.bytes.now)

pub returns-in_err-filling-clause-all_else : goal.returns-in_err-filling-clause-all_else
returns-in_err-filling-clause-all_else g c =
    then_rewrote c.args.self.file (g.D.Disk.tells c.args.disk.now) (g.D.Disk.tells c.args.disk.now) (g.D.Disk.tells c.place.new.disk) (c.args.self.gate + 1) (c.args.self.gate + 1 + 8 + c.args.self.length + length c.args.bytes.now) _ _
    (rewrote_none c.args.self.file (g.D.Disk.tells c.args.disk.now) (c.args.self.gate + 1) (c.args.self.gate + 1 + 8 + c.args.self.length + length c.args.bytes.now)) c.place.ensures.all_else (omega arith) (omega arith)

pub returns-in_err-write-clause-all_else : goal.returns-in_err-write-clause-all_else
returns-in_err-write-clause-all_else g c =
    then_wrote c.args.self.file (g.D.Disk.tells c.args.disk.now) (g.D.Disk.tells c.place.new.disk) (g.D.Disk.tells c.write.new.self) (c.args.self.gate + 1) (c.args.self.gate + 1 + 8 + c.args.self.length + length c.args.bytes.now) _ _ _
    (then_rewrote c.args.self.file (g.D.Disk.tells c.args.disk.now) (g.D.Disk.tells c.args.disk.now) (g.D.Disk.tells c.place.new.disk) (c.args.self.gate + 1) (c.args.self.gate + 1 + 8 + c.args.self.length + length c.args.bytes.now) _ _
    (rewrote_none c.args.self.file (g.D.Disk.tells c.args.disk.now) (c.args.self.gate + 1) (c.args.self.gate + 1 + 8 + c.args.self.length + length c.args.bytes.now)) c.place.ensures.all_else (omega arith) (omega arith)) c.write.ensures.step (omega arith) (omega arith)

pub returns-clause-all_else : goal.returns-clause-all_else
returns-clause-all_else g c =
    then_wrote c.args.self.file (g.D.Disk.tells c.args.disk.now) (g.D.Disk.tells c.place.new.disk) (g.D.Disk.tells c.write.new.self) (c.args.self.gate + 1) (c.args.self.gate + 1 + 8 + c.args.self.length + length c.args.bytes.now) _ _ _
    (then_rewrote c.args.self.file (g.D.Disk.tells c.args.disk.now) (g.D.Disk.tells c.args.disk.now) (g.D.Disk.tells c.place.new.disk) (c.args.self.gate + 1) (c.args.self.gate + 1 + 8 + c.args.self.length + length c.args.bytes.now) _ _
    (rewrote_none c.args.self.file (g.D.Disk.tells c.args.disk.now) (c.args.self.gate + 1) (c.args.self.gate + 1 + 8 + c.args.self.length + length c.args.bytes.now)) c.place.ensures.all_else (omega arith) (omega arith)) c.write.ensures.step (omega arith) (omega arith)
