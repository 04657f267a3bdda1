use Rattle.pg_queue.proofs.EntryLaws.{those_added, those_left, those_marked}
use Rattle.pg_queue.proofs.laws.as_the_rows_say.Goals as goal

pub returns-clause-added : goal.returns-clause-added
returns-clause-added c = those_added

pub returns-clause-marked : goal.returns-clause-marked
returns-clause-marked c = those_marked

pub returns-clause-left : goal.returns-clause-left
returns-clause-left c = those_left
