use Rattle.pg_cursor.proofs.Framed.{appended}
use Rattle.pg_cursor.proofs.Kept.{not_yet_there, tail_stands, tracks_behind}
use Rattle.pg_cursor.proofs.laws.kept_behind.Goals as goal

pub returns-clause-frame : goal.returns-clause-frame
returns-clause-frame c = appended

pub returns-clause-tracks : goal.returns-clause-tracks
returns-clause-tracks c = tracks_behind

pub returns-clause-stands : goal.returns-clause-stands
returns-clause-stands c = tail_stands

pub returns-clause-behind : goal.returns-clause-behind
returns-clause-behind c = not_yet_there
