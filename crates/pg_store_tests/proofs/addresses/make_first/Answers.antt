use Rattle.std.proofs.Common.{arith}
use Rattle.pg_disk.specs.Account.{account}
use Rattle.pg_store_tests.proofs.Two.{fewer, none_more}
use Rattle.pg_store_tests.proofs.addresses.make_first.Goals as goal

pub returns-clause-behind : goal.returns-clause-behind
returns-clause-behind g c =
    none_more (g.D.Disk.tells c.write.new.self) (g.D.Disk.tells c.sync.new.self) c.sync.ensures.step.back (λ h. (c.sync.ensures.step.step h).others)
    (none_more (g.D.Disk.tells c.create.new.self) (g.D.Disk.tells c.write.new.self) c.write.ensures.step.back (λ h. (c.write.ensures.step.step h).others)
    (none_more (g.D.Disk.tells c.args.disk.now) (g.D.Disk.tells c.create.new.self) c.create.ensures.step.back (λ h. (c.create.ensures.step.step h).others) (λ h. fewer (account (g.D.Disk.tells c.args.disk.now)).files (c.requires h))))

pub create-requires : goal.create-requires
create-requires g c = λ h. (c.requires h).0 1 (omega arith)
