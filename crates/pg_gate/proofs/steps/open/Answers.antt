use Rattle.std.proofs.Common.{◌+◌, arith}
use Rattle.pg_disk.proofs.Rewriting.{rewrote_none, then_synced, then_wrote}
use Rattle.pg_gate.proofs.Stages.{in_open, in_open_sync, all_opened}
use Rattle.pg_gate.proofs.steps.open.Goals as goal

pub returns-in_err-write-clause-any_moment : goal.returns-in_err-write-clause-any_moment
returns-in_err-write-clause-any_moment g c =
    in_open c.args.gate g.D.Disk c.args.file c.args.disk.now (g.met.D.Disk.only_now c.args.disk.now) _ c.write.new.self c.write.ensures.time c.write.ensures.step

pub returns-clause-any_moment : goal.returns-clause-any_moment
returns-clause-any_moment g c =
    search (in_open_sync c.args.gate g.D.Disk c.args.file c.args.disk.now (g.met.D.Disk.only_now c.args.disk.now) c.write.new.self c.write.ensures.time c.in_ok-write.ensures.step)

pub returns-clause-opened : goal.returns-clause-opened
returns-clause-opened g c =
    search (all_opened c.args.gate g.D.Disk c.args.file c.args.disk.now (g.met.D.Disk.only_now c.args.disk.now) c.write.new.self c.write.ensures.time c.in_ok-write.ensures.step)

pub returns-in_err-write-clause-all_else : goal.returns-in_err-write-clause-all_else
returns-in_err-write-clause-all_else g c =
    then_wrote c.args.file (g.D.Disk.tells c.args.disk.now) (g.D.Disk.tells c.args.disk.now) (g.D.Disk.tells c.write.new.self) c.args.gate (c.args.gate + 1) _ _ _
    (rewrote_none c.args.file (g.D.Disk.tells c.args.disk.now) c.args.gate (c.args.gate + 1)) c.write.ensures.step (omega arith) (omega arith)

pub returns-clause-all_else : goal.returns-clause-all_else
returns-clause-all_else g c =
    then_synced c.args.file (g.D.Disk.tells c.args.disk.now) (g.D.Disk.tells c.write.new.self) (g.D.Disk.tells c.sync.new.self) c.args.gate (c.args.gate + 1) _
    (then_wrote c.args.file (g.D.Disk.tells c.args.disk.now) (g.D.Disk.tells c.args.disk.now) (g.D.Disk.tells c.write.new.self) c.args.gate (c.args.gate + 1) _ _ _
    (rewrote_none c.args.file (g.D.Disk.tells c.args.disk.now) c.args.gate (c.args.gate + 1)) c.write.ensures.step (omega arith) (omega arith)) c.sync.ensures.step
