use Rattle.pg_queue.proofs.OtherEntries.{added_has, added_waits, left_has, left_taken, marked_stay}
use Rattle.pg_queue.proofs.laws.others_stay.Goals as goal

pub returns-clause-marked : goal.returns-clause-marked
returns-clause-marked c = marked_stay

pub returns-clause-added : goal.returns-clause-added
returns-clause-added c = added_has

pub returns-clause-added_waits : goal.returns-clause-added_waits
returns-clause-added_waits c = added_waits

pub returns-clause-left : goal.returns-clause-left
returns-clause-left c = left_has

pub returns-clause-left_taken : goal.returns-clause-left_taken
returns-clause-left_taken c = left_taken
