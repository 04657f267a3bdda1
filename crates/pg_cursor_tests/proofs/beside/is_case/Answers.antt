use Rattle.std.proofs.Common.{arith}
use Rattle.pg_cursor_tests.proofs.Standing.{first_there}
use Rattle.pg_cursor_tests.proofs.beside.is_case.Goals as goal

pub are_given-requires-clause-first_there : goal.are_given-requires-clause-first_there
are_given-requires-clause-first_there c = λ honest. first_there c.new-first.result 1 0 1 c.in_ok-last.last c.new-first.ensures.new _ (omega arith) c.in_ok-last.ensures.there

pub are_given-requires-clause-second_there : goal.are_given-requires-clause-second_there
are_given-requires-clause-second_there c = λ honest. first_there c.new-second.result 2 0 1 c.in_ok-last.last c.new-second.ensures.new _ (omega arith) c.in_ok-last.ensures.there
