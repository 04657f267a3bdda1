use Rattle.std.proofs.Common.{arith}
use Rattle.std.proofs.Common.{◌+◌}
use Rattle.pg_disk.proofs.Rewriting.{rewrote_none, then_rewrote}
use Rattle.pg_gate.proofs.Stages.{nothing_done, in_stage, can_open, in_opening, all_sealed}
use Rattle.pg_gate.proofs.fill.Filling.seal.Goals as goal

pub returns-then-end-ge-LIMIT-clause-any_moment : goal.returns-then-end-ge-LIMIT-clause-any_moment
returns-then-end-ge-LIMIT-clause-any_moment g c =
    nothing_done c.args.self g.D.Disk c.args.disk.now (g.met.D.Disk.only_now c.args.disk.now)

pub returns-in_err-stage-clause-any_moment : goal.returns-in_err-stage-clause-any_moment
returns-in_err-stage-clause-any_moment g c =
    in_stage c.args.self g.D.Disk c.args.disk.now (g.met.D.Disk.only_now c.args.disk.now) c.stage.new.disk c.stage.ensures.any_moment

pub open-requires : goal.open-requires
open-requires g c =
    can_open c.args.self g.D.Disk c.args.disk.now (g.met.D.Disk.only_now c.args.disk.now) c.stage.new.disk c.stage.ensures.any_moment c.in_ok-stage.ensures.staged c.requires

pub returns-in_err-open-clause-any_moment : goal.returns-in_err-open-clause-any_moment
returns-in_err-open-clause-any_moment g c =
    in_opening c.args.self g.D.Disk c.args.disk.now (g.met.D.Disk.only_now c.args.disk.now) c.stage.new.disk c.stage.ensures.any_moment c.in_ok-stage.ensures.staged c.open.new.disk c.open.ensures.any_moment

pub returns-clause-any_moment : goal.returns-clause-any_moment
returns-clause-any_moment g c =
    in_opening c.args.self g.D.Disk c.args.disk.now (g.met.D.Disk.only_now c.args.disk.now) c.stage.new.disk c.stage.ensures.any_moment c.in_ok-stage.ensures.staged c.open.new.disk c.open.ensures.any_moment

pub returns-clause-sealed : goal.returns-clause-sealed
returns-clause-sealed g c =
    all_sealed c.args.self g.D.Disk c.args.disk.now (g.met.D.Disk.only_now c.args.disk.now) c.stage.new.disk c.stage.ensures.any_moment c.in_ok-stage.ensures.staged c.open.new.disk _ (omega arith) c.in_ok-open.ensures.opened

pub returns-then-end-ge-LIMIT-clause-all_else : goal.returns-then-end-ge-LIMIT-clause-all_else
returns-then-end-ge-LIMIT-clause-all_else g c = rewrote_none c.args.self.file (g.D.Disk.tells c.args.disk.now) c.args.self.gate (c.args.self.gate + 1 + 9 + c.args.self.length)

pub returns-in_err-stage-clause-all_else : goal.returns-in_err-stage-clause-all_else
returns-in_err-stage-clause-all_else g c =
    then_rewrote c.args.self.file (g.D.Disk.tells c.args.disk.now) (g.D.Disk.tells c.args.disk.now) (g.D.Disk.tells c.stage.new.disk) c.args.self.gate (c.args.self.gate + 1 + 9 + c.args.self.length) _ _
    (rewrote_none c.args.self.file (g.D.Disk.tells c.args.disk.now) c.args.self.gate (c.args.self.gate + 1 + 9 + c.args.self.length)) c.stage.ensures.all_else (omega arith) (omega arith)

pub returns-in_err-open-clause-all_else : goal.returns-in_err-open-clause-all_else
returns-in_err-open-clause-all_else g c =
    then_rewrote c.args.self.file (g.D.Disk.tells c.args.disk.now) (g.D.Disk.tells c.stage.new.disk) (g.D.Disk.tells c.open.new.disk) c.args.self.gate (c.args.self.gate + 1 + 9 + c.args.self.length) _ _
    (then_rewrote c.args.self.file (g.D.Disk.tells c.args.disk.now) (g.D.Disk.tells c.args.disk.now) (g.D.Disk.tells c.stage.new.disk) c.args.self.gate (c.args.self.gate + 1 + 9 + c.args.self.length) _ _
    (rewrote_none c.args.self.file (g.D.Disk.tells c.args.disk.now) c.args.self.gate (c.args.self.gate + 1 + 9 + c.args.self.length)) c.stage.ensures.all_else (omega arith) (omega arith)) c.open.ensures.all_else (omega arith) (omega arith)

pub returns-clause-all_else : goal.returns-clause-all_else
returns-clause-all_else g c =
    then_rewrote c.args.self.file (g.D.Disk.tells c.args.disk.now) (g.D.Disk.tells c.stage.new.disk) (g.D.Disk.tells c.open.new.disk) c.args.self.gate (c.args.self.gate + 1 + 9 + c.args.self.length) _ _
    (then_rewrote c.args.self.file (g.D.Disk.tells c.args.disk.now) (g.D.Disk.tells c.args.disk.now) (g.D.Disk.tells c.stage.new.disk) c.args.self.gate (c.args.self.gate + 1 + 9 + c.args.self.length) _ _
    (rewrote_none c.args.self.file (g.D.Disk.tells c.args.disk.now) c.args.self.gate (c.args.self.gate + 1 + 9 + c.args.self.length)) c.stage.ensures.all_else (omega arith) (omega arith)) c.open.ensures.all_else (omega arith) (omega arith)
