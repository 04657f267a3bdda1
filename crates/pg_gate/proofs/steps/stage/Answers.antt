use Rattle.std.proofs.Common.{◌+◌, arith}
use Rattle.pg_disk.proofs.Rewriting.{rewrote_none, then_synced, then_wrote}
use Rattle.pg_gate.proofs.Stages.{in_first, in_second, in_third, all_staged}
use Rattle.pg_gate.proofs.steps.stage.Goals as goal

pub returns-in_err-write-clause-any_moment : goal.returns-in_err-write-clause-any_moment
returns-in_err-write-clause-any_moment g c =
    in_first c.args.filling.now c.to_be_bytes-size.result c.to_be_bytes-size.ensures g.D.Disk c.args.filling.now.file c.args.disk.now (g.met.D.Disk.only_now c.args.disk.now) _ c.write.new.self c.write.ensures.time c.write.ensures.step

pub returns-in_err-write-2-clause-any_moment : goal.returns-in_err-write-2-clause-any_moment
returns-in_err-write-2-clause-any_moment g c =
    in_second c.args.filling.now c.to_be_bytes-size.result c.to_be_bytes-size.ensures g.D.Disk c.args.filling.now.file c.args.disk.now (g.met.D.Disk.only_now c.args.disk.now) c.write.new.self c.write.ensures.time c.in_ok-write.ensures.step
    _ c.write-2.new.self c.write-2.ensures.time c.write-2.ensures.step

pub returns-clause-any_moment : goal.returns-clause-any_moment
returns-clause-any_moment g c =
    search (in_third c.args.filling.now c.to_be_bytes-size.result c.to_be_bytes-size.ensures g.D.Disk c.args.filling.now.file c.args.disk.now (g.met.D.Disk.only_now c.args.disk.now) c.write.new.self c.write.ensures.time c.in_ok-write.ensures.step
    c.write-2.new.self c.write-2.ensures.time c.in_ok-write-2.ensures.step)

pub returns-clause-staged : goal.returns-clause-staged
returns-clause-staged g c =
    search (all_staged c.args.filling.now c.to_be_bytes-size.result c.to_be_bytes-size.ensures g.D.Disk c.args.filling.now.file c.args.disk.now (g.met.D.Disk.only_now c.args.disk.now) c.write.new.self c.write.ensures.time c.in_ok-write.ensures.step
    c.write-2.new.self c.write-2.ensures.time c.in_ok-write-2.ensures.step)

pub returns-in_err-write-clause-all_else : goal.returns-in_err-write-clause-all_else
returns-in_err-write-clause-all_else g c =
    then_wrote c.args.filling.now.file (g.D.Disk.tells c.args.disk.now) (g.D.Disk.tells c.args.disk.now) (g.D.Disk.tells c.write.new.self) (c.args.filling.now.gate + 1) (c.args.filling.now.gate + 10 + c.args.filling.now.length) _ _ _
    (rewrote_none c.args.filling.now.file (g.D.Disk.tells c.args.disk.now) (c.args.filling.now.gate + 1) (c.args.filling.now.gate + 10 + c.args.filling.now.length)) c.write.ensures.step (omega arith) (omega arith)

pub returns-in_err-write-2-clause-all_else : goal.returns-in_err-write-2-clause-all_else
returns-in_err-write-2-clause-all_else g c =
    then_wrote c.args.filling.now.file (g.D.Disk.tells c.args.disk.now) (g.D.Disk.tells c.write.new.self) (g.D.Disk.tells c.write-2.new.self) (c.args.filling.now.gate + 1) (c.args.filling.now.gate + 10 + c.args.filling.now.length) _ _ _
    (then_wrote c.args.filling.now.file (g.D.Disk.tells c.args.disk.now) (g.D.Disk.tells c.args.disk.now) (g.D.Disk.tells c.write.new.self) (c.args.filling.now.gate + 1) (c.args.filling.now.gate + 10 + c.args.filling.now.length) _ _ _
    (rewrote_none c.args.filling.now.file (g.D.Disk.tells c.args.disk.now) (c.args.filling.now.gate + 1) (c.args.filling.now.gate + 10 + c.args.filling.now.length)) c.write.ensures.step (omega arith) (omega arith)) c.write-2.ensures.step (omega arith) (omega arith)

pub returns-clause-all_else : goal.returns-clause-all_else
returns-clause-all_else g c =
    then_synced c.args.filling.now.file (g.D.Disk.tells c.args.disk.now) (g.D.Disk.tells c.write-2.new.self) (g.D.Disk.tells c.sync.new.self) (c.args.filling.now.gate + 1) (c.args.filling.now.gate + 10 + c.args.filling.now.length) _
    (then_wrote c.args.filling.now.file (g.D.Disk.tells c.args.disk.now) (g.D.Disk.tells c.write.new.self) (g.D.Disk.tells c.write-2.new.self) (c.args.filling.now.gate + 1) (c.args.filling.now.gate + 10 + c.args.filling.now.length) _ _ _
    (then_wrote c.args.filling.now.file (g.D.Disk.tells c.args.disk.now) (g.D.Disk.tells c.args.disk.now) (g.D.Disk.tells c.write.new.self) (c.args.filling.now.gate + 1) (c.args.filling.now.gate + 10 + c.args.filling.now.length) _ _ _
    (rewrote_none c.args.filling.now.file (g.D.Disk.tells c.args.disk.now) (c.args.filling.now.gate + 1) (c.args.filling.now.gate + 10 + c.args.filling.now.length)) c.write.ensures.step (omega arith) (omega arith)) c.write-2.ensures.step (omega arith) (omega arith)) c.sync.ensures.step
