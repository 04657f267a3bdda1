use Rattle.pg_eval.proofs.TruthLaws.{not_twice, not_of_and, not_of_or, between_is_two}
use Rattle.pg_eval.proofs.laws.as_in_logic.Goals as goal

pub returns-clause-not_not : goal.returns-clause-not_not
returns-clause-not_not c = not_twice

pub returns-clause-not_and : goal.returns-clause-not_and
returns-clause-not_and c = not_of_and

pub returns-clause-not_or : goal.returns-clause-not_or
returns-clause-not_or c = not_of_or

pub returns-clause-between : goal.returns-clause-between
returns-clause-between c = between_is_two
