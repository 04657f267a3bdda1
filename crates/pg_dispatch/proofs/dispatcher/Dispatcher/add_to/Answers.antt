use Rattle.std.proofs.Common.{◌∙◌, ap, sym, subst, List}
use Rattle.pg_queue.specs.Entries.{Contents}
use Rattle.pg_dispatch.specs.Matching.{AreMatched, given_once, seen}
use Rattle.pg_dispatch.proofs.Steps.{either_way, has_as_seen, matched_added, ok_then, once_new, once_there, seen_added}
use Rattle.pg_dispatch.proofs.dispatcher.Dispatcher.add_to.Goals as goal

pub returns-then-has-clause-ok : goal.returns-then-has-clause-ok
returns-then-has-clause-ok c =
    let inside = c.self.inside in
    let has = sym (has_as_seen c.args.queue c.args.id inside.queues inside.consumers c.self.invariant) ∙ sym c.has.ensures ∙ c.if-has.true in
    sym c.self.view_is ∙ sym (once_there c.args.queue c.args.id (seen inside.queues inside.consumers) has) ∙ ap (given_once c.args.queue c.args.id) c.self.view_is

pub invariant_of-self : goal.invariant_of-self
invariant_of-self c =
    let inside = c.self.inside in
    let none = sym (has_as_seen c.args.queue c.args.id inside.queues inside.consumers c.self.invariant) ∙ sym c.has.ensures ∙ c.if-has.false in
    either_way c.add.result c.add.ensures.ok c.add.ensures.err
    (λ new. subst (λ (queues : List Contents). AreMatched queues inside.consumers) (sym new) (matched_added c.args.queue c.args.id inside.queues inside.consumers c.self.invariant none))
    (λ old. subst (λ (queues : List Contents). AreMatched queues inside.consumers) (sym old) c.self.invariant)

pub returns-clause-ok : goal.returns-clause-ok
returns-clause-ok c =
    let inside = c.self.inside in
    let none = sym (has_as_seen c.args.queue c.args.id inside.queues inside.consumers c.self.invariant) ∙ sym c.has.ensures ∙ c.if-has.false in
    ok_then c.add.result c.add.ensures.ok
    (λ new.
    ap (λ (queues : List Contents). seen queues inside.consumers) new
    ∙ seen_added c.args.queue c.args.id inside.queues inside.consumers c.self.invariant
    ∙ sym (once_new c.args.queue c.args.id (seen inside.queues inside.consumers) none)
    ∙ ap (given_once c.args.queue c.args.id) c.self.view_is)
