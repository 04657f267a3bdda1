use Rattle.pg_gate.proofs.Laying.{in_create, can_close, in_close, all_laid}
use Rattle.pg_gate.proofs.gate.lay.Goals as goal

pub returns-in_err-create-clause-any_moment : goal.returns-in_err-create-clause-any_moment
returns-in_err-create-clause-any_moment g c =
    in_create g.D.Disk c.args.file c.args.disk.now c.requires (g.met.D.Disk.only_now c.args.disk.now) c.create.new.self c.create.ensures.time

pub close-requires : goal.close-requires
close-requires g c =
    can_close g.D.Disk c.args.file c.args.disk.now c.requires (g.met.D.Disk.only_now c.args.disk.now) c.create.new.self c.create.ensures.time c.in_ok-create.ensures.step

pub returns-in_err-close-clause-any_moment : goal.returns-in_err-close-clause-any_moment
returns-in_err-close-clause-any_moment g c =
    in_close g.D.Disk c.args.file c.args.disk.now c.requires (g.met.D.Disk.only_now c.args.disk.now) c.create.new.self c.create.ensures.time c.in_ok-create.ensures.step c.close.new.disk c.close.ensures.any_moment

pub returns-clause-any_moment : goal.returns-clause-any_moment
returns-clause-any_moment g c =
    in_close g.D.Disk c.args.file c.args.disk.now c.requires (g.met.D.Disk.only_now c.args.disk.now) c.create.new.self c.create.ensures.time c.in_ok-create.ensures.step c.close.new.disk c.close.ensures.any_moment

pub returns-clause-laid : goal.returns-clause-laid
returns-clause-laid g c =
    all_laid g.D.Disk c.args.file c.args.disk.now c.requires (g.met.D.Disk.only_now c.args.disk.now) c.create.new.self c.create.ensures.time c.in_ok-create.ensures.step c.close.new.disk c.in_ok-close.ensures.closed
