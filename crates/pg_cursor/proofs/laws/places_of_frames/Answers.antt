use Rattle.pg_cursor.proofs.Framed.{listed, placed}
use Rattle.pg_cursor.proofs.laws.places_of_frames.Goals as goal

pub returns-clause-listed : goal.returns-clause-listed
returns-clause-listed c = listed

pub returns-clause-placed : goal.returns-clause-placed
returns-clause-placed c = placed
