use Rattle.pg_cursor_tests.proofs.Standing.{first_there}
use Rattle.pg_cursor_tests.proofs.drains.given_from.Goals as goal

pub take_all-requires-clause-there : goal.take_all-requires-clause-there
take_all-requires-clause-there c = λ honest. first_there c.new-cursor.result c.args.queue c.args.before c.args.first c.in_ok-last.last c.new-cursor.ensures.new _ c.requires c.in_ok-last.ensures.there
