use Rattle.std.proofs.Common.{◌<◌, sym, subst}
use Rattle.std.specs.Prelude.{All, List}
use Rattle.pg_queue.specs.Entries.{Contents}
use Rattle.pg_dispatch.specs.Dispatch.{Dispatch}
use Rattle.pg_dispatch.specs.Matching.{AreMatched}
use Rattle.pg_dispatch.proofs.Steps.{all_below, either_way, matched_with_queue}
use Rattle.pg_dispatch.proofs.dispatcher.Dispatcher.add_queue.Goals as goal

pub add_queue-requires : goal.add_queue-requires
add_queue-requires c =
    all_below c.args.queue c.self.inside.queues (subst (λ (d : Dispatch). All (λ line. line.queue < c.args.queue) d.lines) (sym c.self.view_is) c.requires)

pub invariant_of-self : goal.invariant_of-self
invariant_of-self c =
    let inside = c.self.inside in
    either_way c.add_queue.result c.add_queue.ensures.ok c.add_queue.ensures.err
    (λ new. subst (λ (queues : List Contents). AreMatched queues inside.consumers) (sym new) (matched_with_queue c.args.queue inside.queues inside.consumers c.self.invariant))
    (λ old. subst (λ (queues : List Contents). AreMatched queues inside.consumers) (sym old) c.self.invariant)
