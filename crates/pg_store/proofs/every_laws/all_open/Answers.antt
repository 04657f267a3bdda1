use Rattle.pg_store.proofs.AllFrames.{opened_ready, opened_stand}
use Rattle.pg_store.proofs.every_laws.all_open.Goals as goal

pub returns-clause-ready : goal.returns-clause-ready
returns-clause-ready c = λ stores next first last files now added opened. opened_ready stores next first last files now added opened

pub returns-clause-stand : goal.returns-clause-stand
returns-clause-stand c = λ stores next first last frames files now added opened. opened_stand stores next first last files now added opened frames
