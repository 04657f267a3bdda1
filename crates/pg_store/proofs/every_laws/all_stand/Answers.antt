use Rattle.pg_store.proofs.AllFrames.{added_ready, added_stand, all_ready_so, all_ready_still, all_still, none_stand}
use Rattle.pg_store.proofs.every_laws.all_stand.Goals as goal

pub returns-clause-none : goal.returns-clause-none
returns-clause-none c = none_stand

pub returns-clause-ready : goal.returns-clause-ready
returns-clause-ready c = all_ready_so

pub returns-clause-ready_elsewhere : goal.returns-clause-ready_elsewhere
returns-clause-ready_elsewhere c = all_ready_still

pub returns-clause-elsewhere : goal.returns-clause-elsewhere
returns-clause-elsewhere c = all_still

pub returns-clause-ready_added : goal.returns-clause-ready_added
returns-clause-ready_added c = added_ready

pub returns-clause-added : goal.returns-clause-added
returns-clause-added c = added_stand
