use Rattle.pg_run.proofs.OneRun as proved
use Rattle.pg_run.proofs.laws.one_run.Goals as goal

pub returns : goal.returns
returns c = proved.one_run
