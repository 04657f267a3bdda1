use Rattle.std.proofs.Common.{subst}
use Rattle.pg_flight.specs.Deliveries.{AreAscending}
use Rattle.pg_flight.proofs.Keyed.{ascending}
use Rattle.pg_flight.proofs.deliveries.Deliveries.to_vec.Goals as goal

pub returns-clause-ascending : goal.returns-clause-ascending
returns-clause-ascending c = subst AreAscending c.self.view_is (ascending c.self.inside.by_id.entries c.self.invariant.keyed c.self.invariant.ordered)
