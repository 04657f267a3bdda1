use Rattle.std.proofs.Common.{◌≡◌, sym, subst}
use Rattle.std.specs.Prelude.{None, true}
use Rattle.pg_model.specs.Broker.{consumer_named}
use Rattle.pg_dispatch.specs.Dispatch.{Dispatch, has_line}
use Rattle.pg_dispatch.specs.Matching.{AreMatched}
use Rattle.pg_dispatch.proofs.Steps.{either_way, matched_opened, not_open}
use Rattle.pg_dispatch.proofs.dispatcher.Dispatcher.open.Goals as goal

pub open-requires : goal.open-requires
open-requires c = not_open c.args.name c.self.inside.consumers (subst (λ (d : Dispatch). consumer_named d.consumers c.args.name ≡ None) (sym c.self.view_is) c.requires.new)

pub invariant_of-self : goal.invariant_of-self
invariant_of-self c =
    let inside = c.self.inside in
    let none = subst (λ (d : Dispatch). consumer_named d.consumers c.args.name ≡ None) (sym c.self.view_is) c.requires.new in
    let there = subst (λ (d : Dispatch). has_line c.args.queue d.lines ≡ true) (sym c.self.view_is) c.requires.there in
    either_way c.open.result c.open.ensures.ok c.open.ensures.err
    (λ new. subst (AreMatched inside.queues) (sym new) (matched_opened c.args.name c.args.queue inside.queues inside.consumers none there c.self.invariant))
    (λ old. subst (AreMatched inside.queues) (sym old) c.self.invariant)
