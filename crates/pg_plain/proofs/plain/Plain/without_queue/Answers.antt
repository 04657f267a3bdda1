use Rattle.std.proofs.Common.{◌≡◌, ◌==◌, true, false, sym, subst}
use Rattle.std.specs.List.{list_any}
use Rattle.pg_model.specs.Broker.{Broker, Consumer}
use Rattle.pg_plain.specs.Kept.{are_live}
use Rattle.pg_plain.proofs.KeptLemmas.{live_dropped}
use Rattle.pg_plain.proofs.plain.Plain.without_queue.Goals as goal

pub invariant_of-self : goal.invariant_of-self
invariant_of-self c =
    subst (λ (l : _). are_live l c.self.inside.consumers.items ≡ true) (sym c.take_out.ensures)
    (live_dropped c.args.id c.self.inside.queues.items c.self.inside.consumers.items
    (subst (λ (b : Broker). list_any (λ (a : Consumer). a.queue == c.args.id) b.running.consumers ≡ false) (sym c.self.view_is) c.requires) c.self.invariant)
