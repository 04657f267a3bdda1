use Rattle.pg_store_tests.proofs.Two.{two_ready}
use Rattle.pg_store_tests.proofs.addresses.open_two.Goals as goal

pub returns-clause-ready : goal.returns-clause-ready
returns-clause-ready g c =
    two_ready c.new-stores.result c.open_next.new.self c.add.new.self (g.D.Disk.tells c.args.disk.now) (g.D.Disk.tells c.open_next.new.disk) c.new-stores.ensures c.in_ok-open_next.ensures.added c.in_ok-open_next.ensures.opened c.open_next.ensures.stays c.in_ok-add.ensures.added c.requires
