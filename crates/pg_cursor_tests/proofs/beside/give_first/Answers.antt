use Rattle.std.proofs.Common.{refl}
use Rattle.pg_cursor_tests.proofs.Standing.{rests_there, there_then}
use Rattle.pg_cursor_tests.proofs.beside.give_first.Goals as goal

pub returns-clause-first_there : goal.returns-clause-first_there
returns-clause-first_there g c = there_then (g.D.Disk.tells c.args.disk.now) (g.D.Disk.tells c.next_ready.new.disk) c.next_ready.ensures.same.0 c.next_ready.ensures.same.1 c.args.first.address c.in_ok-first.first.address c.in_ok-first.ensures.takes.address c.args.last c.args.first.tail c.in_ok-first.first.tail c.in_ok-first.first.tail c.in_ok-first.ensures.takes.tail refl c.requires.first_there

pub returns-clause-second_there : goal.returns-clause-second_there
returns-clause-second_there g c = rests_there (g.D.Disk.tells c.args.disk.now) (g.D.Disk.tells c.next_ready.new.disk) c.next_ready.ensures.same.0 c.next_ready.ensures.same.1 c.args.last c.args.second c.requires.second_there
