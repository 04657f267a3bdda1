use Rattle.std.proofs.Common.{◌≡◌, true, sym, subst}
use Rattle.pg_model.specs.Changes.{with_id}
use Rattle.pg_plain.specs.Kept.{are_live}
use Rattle.pg_plain.proofs.KeptLemmas.{live_flights}
use Rattle.pg_plain.proofs.plain.Plain.with_flight.Goals as goal

pub invariant_of-result : goal.invariant_of-result
invariant_of-result c =
    subst (λ (l : _). are_live c.self.inside.queues.items l ≡ true) (sym c.in_ok-take_up.ensures)
    (live_flights c.args.consumer.now (with_id c.args.id) c.self.inside.queues.items c.self.inside.consumers.items c.self.invariant)
