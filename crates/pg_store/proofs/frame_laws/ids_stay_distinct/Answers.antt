use Rattle.pg_store.proofs.Ids.{stand_once}
use Rattle.pg_store.proofs.frame_laws.ids_stay_distinct.Goals as goal

pub returns : goal.returns
returns c = stand_once
