use Rattle.pg_queue.proofs.EntryLaws.{first_is_there, marked_itself, marked_others}
use Rattle.pg_queue.proofs.laws.marks_stay_apart.Goals as goal

pub returns-clause-itself : goal.returns-clause-itself
returns-clause-itself c = marked_itself

pub returns-clause-others : goal.returns-clause-others
returns-clause-others c = marked_others

pub returns-clause-given : goal.returns-clause-given
returns-clause-given c = first_is_there
