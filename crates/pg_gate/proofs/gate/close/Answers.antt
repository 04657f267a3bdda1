use Rattle.pg_gate.proofs.Laying.{in_gate, in_gate_sync, all_closed}
use Rattle.pg_gate.proofs.gate.close.Goals as goal

pub returns-in_err-write-clause-any_moment : goal.returns-in_err-write-clause-any_moment
returns-in_err-write-clause-any_moment g c =
    in_gate g.D.Disk c.args.file c.args.disk.now c.requires (g.met.D.Disk.only_now c.args.disk.now) _ c.write.new.self c.write.ensures.time c.write.ensures.step

pub returns-clause-any_moment : goal.returns-clause-any_moment
returns-clause-any_moment g c =
    search (in_gate_sync g.D.Disk c.args.file c.args.disk.now c.requires (g.met.D.Disk.only_now c.args.disk.now) c.write.new.self c.write.ensures.time c.in_ok-write.ensures.step)

pub returns-clause-closed : goal.returns-clause-closed
returns-clause-closed g c =
    search (all_closed g.D.Disk c.args.file c.args.disk.now c.requires (g.met.D.Disk.only_now c.args.disk.now) c.write.new.self c.write.ensures.time c.in_ok-write.ensures.step)
