use Rattle.pg_cursor.proofs.Kept.{same_stands, same_tracks}
use Rattle.pg_cursor.proofs.laws.same_pages_kept.Goals as goal

pub returns-clause-tracks : goal.returns-clause-tracks
returns-clause-tracks c = same_tracks

pub returns-clause-stands : goal.returns-clause-stands
returns-clause-stands c = same_stands
