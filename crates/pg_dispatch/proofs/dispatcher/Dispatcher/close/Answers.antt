use Rattle.std.proofs.Common.{◌∙◌, ap, sym, subst}
use Rattle.pg_dispatch.specs.Dispatch.{Dispatch, closed}
use Rattle.pg_dispatch.specs.Matching.{AreMatched, seen}
use Rattle.pg_dispatch.proofs.Steps.{matched_emptied, seen_closed}
use Rattle.pg_dispatch.proofs.dispatcher.Dispatcher.close.Goals as goal

pub invariant_of-self-2 : goal.invariant_of-self-2
invariant_of-self-2 c =
    let inside = c.self.inside in
    subst (AreMatched inside.queues) (sym c.in_ok-close.ensures.left)
    (matched_emptied c.args.name.now inside.queues inside.consumers c.cancel_all.new.self c.self.invariant c.self.view_is c.in_ok-cancel_all.ensures.open c.in_ok-cancel_all.ensures.none)

pub returns-clause-closed : goal.returns-clause-closed
returns-clause-closed c =
    let inside = c.self.inside in
    ap (seen inside.queues) c.in_ok-close.ensures.left
    ∙ seen_closed c.args.name.now inside.queues inside.consumers
    ∙ ap (closed c.args.name.now) c.self.view_is
    ∙ c.in_ok-cancel_all.ensures.others

pub returns-clause-lines : goal.returns-clause-lines
returns-clause-lines c =
    let inside = c.self.inside in
    ap (λ (d : Dispatch). d.lines)
    (ap (seen inside.queues) c.in_ok-close.ensures.left
    ∙ seen_closed c.args.name.now inside.queues inside.consumers
    ∙ ap (closed c.args.name.now) c.self.view_is
    ∙ c.in_ok-cancel_all.ensures.others)
