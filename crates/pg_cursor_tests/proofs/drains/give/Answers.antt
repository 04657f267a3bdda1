use Rattle.pg_cursor_tests.proofs.Standing.{give_there}
use Rattle.pg_cursor_tests.proofs.drains.give.Goals as goal

pub returns-clause-there : goal.returns-clause-there
returns-clause-there g c = give_there c.args.last (g.D.Disk.tells c.args.disk.now) (g.D.Disk.tells c.next_ready.new.disk) c.next_ready.ensures.same.0 c.next_ready.ensures.same.1 c.args.cursor c.next_ready.result c.next_ready.ensures.takes c.requires.there
