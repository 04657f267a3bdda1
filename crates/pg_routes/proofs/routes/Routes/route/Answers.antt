use Rattle.std.proofs.Common.{◌≡◌, ◌∙◌, ap, sym, subst, filter}
use Rattle.std.proofs.lemmas.List.Kept.{IsStrictlySortedBy-filter}
use Rattle.std.proofs.lemmas.Result.{IfOk-weaker}
use Rattle.std.specs.List.Sorted.{IsStrictlySortedBy}
use Rattle.std.specs.Ordering.{nat_cmp}
use Rattle.pg_routes.specs.Kept.{takes}
use Rattle.pg_routes.specs.Names.{queue_ids_at, routed_at}
use Rattle.pg_routes.proofs.Takers.{routed_kept}
use Rattle.pg_routes.proofs.routes.Routes.route.Goals as goal

pub returns-clause-ids : goal.returns-clause-ids
returns-clause-ids c =
    let inside = c.self.inside in
    let test = takes inside.queues c.args.properties.now in
    IfOk-weaker c.takers.result (λ ids. ids.items ≡ filter test c.queues_at.result.now) (λ ids. ids.items ≡ routed_at c.args.address c.args.properties.now c.args.self.now)
    (λ ids is.
    is
    ∙ ap (filter test) (c.queues_at.ensures.ids ∙ ap (queue_ids_at c.args.address) (sym c.self.view_is))
    ∙ routed_kept inside.addresses inside.queues inside.address_ids inside.queue_ids inside.lists c.args.properties.now c.args.address c.self.invariant
    ∙ ap (routed_at c.args.address c.args.properties.now) c.self.view_is)
    c.takers.ensures

pub returns-clause-ascending : goal.returns-clause-ascending
returns-clause-ascending c =
    let test = takes c.self.inside.queues c.args.properties.now in
    IfOk-weaker c.takers.result (λ ids. ids.items ≡ filter test c.queues_at.result.now) (λ ids. IsStrictlySortedBy nat_cmp ids.items)
    (λ ids is. subst (IsStrictlySortedBy nat_cmp) (sym is) (IsStrictlySortedBy-filter nat_cmp test c.queues_at.result.now c.queues_at.ensures.ascending))
    c.takers.ensures
