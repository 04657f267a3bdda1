use Rattle.std.proofs.Common.{◌≡◌, true, sym, subst}
use Rattle.pg_plain.specs.Kept.{are_live}
use Rattle.pg_plain.proofs.KeptLemmas.{live_acknowledged}
use Rattle.pg_plain.proofs.plain.Plain.without_message.Goals as goal

pub invariant_of-self : goal.invariant_of-self
invariant_of-self c =
    subst (λ (l : _). are_live l c.self.inside.consumers.items ≡ true) (sym c.relieve.ensures)
    (live_acknowledged c.args.queue c.args.id c.self.inside.queues.items c.self.inside.consumers.items c.self.invariant)
