use Rattle.std.proofs.Common.{arith}
use Rattle.std.proofs.lemmas.Grind.{common_steps}
use Rattle.pg_flight.proofs.Keyed.{found}
use Rattle.pg_flight.proofs.deliveries.Deliveries.get.Goals as goal

pub returns : goal.returns
returns c =
    let inside = c.self.inside in
    let its = found c.args.id inside.by_id.entries c.self.invariant.keyed in
    grind (arith, common_steps, its, c.get.ensures.value, c.key.ensures, c.self.view_is)
