use Rattle.pg_run.proofs.SightLaws.{one_sight, pages_seen}
use Rattle.pg_run.proofs.laws.one_view.Goals as goal

pub returns : goal.returns
returns c = record { view = one_sight; paging = pages_seen }
