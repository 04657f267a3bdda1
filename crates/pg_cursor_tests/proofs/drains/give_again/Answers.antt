use Rattle.pg_cursor_tests.proofs.Standing.{there_alike}
use Rattle.pg_cursor_tests.proofs.drains.give_again.Goals as goal

pub give-requires-2-clause-there : goal.give-requires-2-clause-there
give-requires-2-clause-there g c = λ h. there_alike c.args.last _ c.in_ok-next.next c.put_back.new.self c.in_ok-put_back.ensures.ok.address c.in_ok-put_back.ensures.ok.tail (c.in_ok-next.ensures.there h)
