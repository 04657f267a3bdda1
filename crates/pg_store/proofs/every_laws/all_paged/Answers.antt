use Rattle.pg_store.proofs.AllFrames.{all_stand_paged}
use Rattle.pg_store.proofs.every_laws.all_paged.Goals as goal

pub returns : goal.returns
returns c = all_stand_paged
