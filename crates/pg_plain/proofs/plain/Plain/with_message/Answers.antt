use Rattle.std.proofs.Common.{◌≡◌, true, sym, subst}
use Rattle.pg_plain.specs.Kept.{are_live}
use Rattle.pg_plain.proofs.KeptLemmas.{live_given}
use Rattle.pg_plain.proofs.plain.Plain.with_message.Goals as goal

pub invariant_of-result : goal.invariant_of-result
invariant_of-result c =
    subst (λ (l : _). are_live l c.self.inside.consumers.items ≡ true) (sym c.in_ok-give.ensures)
    (live_given c.args.numbers.now c.args.message.now c.self.inside.queues.items c.self.inside.consumers.items c.self.invariant)
