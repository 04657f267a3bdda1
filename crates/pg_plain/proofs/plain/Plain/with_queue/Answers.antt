use Rattle.std.proofs.Common.{◌≡◌, true, sym, subst}
use Rattle.pg_plain.specs.Kept.{are_live}
use Rattle.pg_plain.proofs.KeptLemmas.{live_made}
use Rattle.pg_plain.proofs.plain.Plain.with_queue.Goals as goal

pub invariant_of-self-2 : goal.invariant_of-self-2
invariant_of-self-2 c =
    subst (λ (l : _). are_live l c.self.inside.consumers.items ≡ true) (sym c.in_ok-push.ensures.items)
    (live_made c.self.inside.queues.items _ c.self.inside.consumers.items c.self.invariant)
