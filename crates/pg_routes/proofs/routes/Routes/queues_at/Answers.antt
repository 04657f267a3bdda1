use Rattle.std.proofs.Common.{◌≡◌, ◌∙◌, ap, subst, arith}
use Rattle.std.proofs.lemmas.Grind.{common_steps}
use Rattle.std.specs.List.Sorted.{IsStrictlySortedBy}
use Rattle.std.specs.Ordering.{nat_cmp}
use Rattle.pg_routes.specs.Lists.{ids_at}
use Rattle.pg_routes.specs.Names.{AreAscending, queue_ids_at}
use Rattle.pg_routes.proofs.Keeping.{all_ascend, listed_ascend}
use Rattle.pg_routes.proofs.routes.Routes.queues_at.Goals as goal

pub returns-in-Some-clause-ids : goal.returns-in-Some-clause-ids
returns-in-Some-clause-ids c =
    grind (arith, common_steps, c.in-Some.ensures.value, c.as_slice.ensures.value) ∙ c.self.invariant.listed c.args.address ∙ ap (queue_ids_at c.args.address) c.self.view_is

pub returns-in-Some-clause-ascending : goal.returns-in-Some-clause-ascending
returns-in-Some-clause-ascending c =
    let inside = c.self.inside in
    let is : ids_at inside.lists c.args.address ≡ c.as_slice.result.now = grind (arith, common_steps, c.in-Some.ensures.value, c.as_slice.ensures.value) in
    subst (IsStrictlySortedBy nat_cmp) is (listed_ascend inside.addresses inside.queues inside.address_ids inside.queue_ids inside.lists c.args.address c.self.invariant)

pub returns-in-None-clause-ids : goal.returns-in-None-clause-ids
returns-in-None-clause-ids c =
    grind (arith, common_steps, c.in-None.ensures.value) ∙ c.self.invariant.listed c.args.address ∙ ap (queue_ids_at c.args.address) c.self.view_is

pub returns-in-None-clause-ascending : goal.returns-in-None-clause-ascending
unfolding IsStrictlySortedBy
returns-in-None-clause-ascending c = tt

pub returns-in-Some-clause-all_ascend : goal.returns-in-Some-clause-all_ascend
returns-in-Some-clause-all_ascend c =
    let inside = c.self.inside in
    subst AreAscending c.self.view_is (all_ascend inside.addresses inside.queues inside.address_ids inside.queue_ids inside.lists c.self.invariant)

pub returns-in-None-clause-all_ascend : goal.returns-in-None-clause-all_ascend
returns-in-None-clause-all_ascend c =
    let inside = c.self.inside in
    subst AreAscending c.self.view_is (all_ascend inside.addresses inside.queues inside.address_ids inside.queue_ids inside.lists c.self.invariant)
