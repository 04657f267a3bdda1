use Rattle.std.specs.Prelude.{None}
use Rattle.pg_cursor.proofs.Keeping.{changes}
use Rattle.pg_cursor.proofs.places.Places.remove.Goals as goal

pub returns : goal.returns
returns c = changes c.self.inside.offsets c.remove.new.self c.args.self.now c.key.result c.args.position None c.self.view_is c.key.ensures c.remove.ensures.updates
