use Rattle.std.proofs.Common.{subst}
use Rattle.pg_cursor.specs.Counting.{AreOnce}
use Rattle.pg_cursor.proofs.Counted.{kept_once}
use Rattle.pg_cursor.proofs.places.Places.count.Goals as goal

pub returns-clause-once : goal.returns-clause-once
returns-clause-once c = subst AreOnce c.self.view_is (kept_once c.self.inside.offsets.entries c.self.invariant)
