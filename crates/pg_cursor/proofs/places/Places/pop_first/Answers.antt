use Rattle.std.proofs.Common.{refl}
use Rattle.std.specs.Prelude.{None}
use Rattle.pg_cursor.proofs.Keeping.{changes, first_is}
use Rattle.pg_cursor.proofs.places.Places.pop_first.Goals as goal

pub returns-clause-first : goal.returns-clause-first
returns-clause-first c =
    let key = c.in_ok-key.key in
    first_is c.self.inside.offsets c.args.self.now (record { page = key.0; index = key.1 }) c.in_ok-key.offset c.self.view_is c.in_ok-key.ensures.value c.in_ok-key.ensures.least

pub returns-clause-rest : goal.returns-clause-rest
returns-clause-rest c =
    let key = c.in_ok-key.key in
    changes c.self.inside.offsets c.pop_first.new.self c.args.self.now key (record { page = key.0; index = key.1 }) None c.self.view_is refl c.in_ok-key.ensures.updates
