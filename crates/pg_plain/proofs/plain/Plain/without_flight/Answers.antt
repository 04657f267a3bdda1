use Rattle.std.proofs.Common.{◌≡◌, true, sym, subst}
use Rattle.pg_model.specs.Changes.{without_id}
use Rattle.pg_plain.specs.Kept.{are_live}
use Rattle.pg_plain.proofs.KeptLemmas.{live_flights}
use Rattle.pg_plain.proofs.plain.Plain.without_flight.Goals as goal

pub invariant_of-self : goal.invariant_of-self
invariant_of-self c =
    subst (λ (l : _). are_live c.self.inside.queues.items l ≡ true) (sym c.let_go.ensures)
    (live_flights c.args.consumer.now (without_id c.args.id) c.self.inside.queues.items c.self.inside.consumers.items c.self.invariant)
