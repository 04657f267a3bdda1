use Rattle.std.proofs.Common.{◌≡◌, true, not, sym, subst}
use Rattle.std.specs.Str.{bytes_eq}
use Rattle.pg_model.specs.Broker.{Consumer}
use Rattle.pg_plain.specs.Kept.{are_live}
use Rattle.pg_plain.proofs.KeptLemmas.{live_closed}
use Rattle.pg_plain.proofs.plain.Plain.without_consumer.Goals as goal

pub invariant_of-self : goal.invariant_of-self
invariant_of-self c =
    subst (λ (l : _). are_live c.self.inside.queues.items l ≡ true) (sym c.close.ensures)
    (live_closed (λ (a : Consumer). not (bytes_eq c.args.consumer.now a.name)) c.self.inside.queues.items c.self.inside.consumers.items c.self.invariant)
