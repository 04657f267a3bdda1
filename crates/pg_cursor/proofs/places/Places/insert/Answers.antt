use Rattle.std.specs.Prelude.{Some}
use Rattle.pg_cursor.proofs.Keeping.{changes}
use Rattle.pg_cursor.proofs.places.Places.insert.Goals as goal

pub returns-clause-ok : goal.returns-clause-ok
returns-clause-ok c =
    changes c.self.inside.offsets c.insert.new.self c.args.self.now c.key.result c.args.place.position (Some c.args.place.offset) c.self.view_is c.key.ensures c.in_ok-insert.ensures.updates
