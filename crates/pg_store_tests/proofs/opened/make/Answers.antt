use Rattle.pg_store_tests.proofs.Empty.{none_behind, none_later}
use Rattle.pg_store_tests.proofs.opened.make.Goals as goal

pub returns-clause-behind : goal.returns-clause-behind
returns-clause-behind g c =
    none_behind c.args.number (g.D.Disk.tells c.write.new.self) (g.D.Disk.tells c.sync.new.self) c.sync.ensures.step.back (λ h. (c.sync.ensures.step.step h).others)
    (none_behind c.args.number (g.D.Disk.tells c.create.new.self) (g.D.Disk.tells c.write.new.self) c.write.ensures.step.back (λ h. (c.write.ensures.step.step h).others)
    (none_behind c.args.number (g.D.Disk.tells c.args.disk.now) (g.D.Disk.tells c.create.new.self) c.create.ensures.step.back (λ h. (c.create.ensures.step.step h).others) (none_later c.args.number (g.D.Disk.tells c.args.disk.now) c.requires)))
