use Rattle.std.proofs.Common.{◌≡◌, ◌==◌, false, ltb, subst, sym, ◌∙◌, arith, rules}
use Rattle.std.proofs.lemmas.Grind.{common_steps}
use Rattle.std.proofs.lemmas.List.Sorted.{IsPartitionPoint-from_clause, IsPartitionedBy-ltb}
use Rattle.std.proofs.lemmas.Map.Keys.{non_decreasing_from_sorted}
use Rattle.std.specs.List.{insert, list_any}
use Rattle.std.specs.List.Sorted.{IsStrictlySortedBy}
use Rattle.std.specs.Ordering.{nat_cmp}
use Rattle.pg_routes.specs.Lists.{ids_at, with_id}
use Rattle.pg_routes.proofs.Placing.{inserted}
use Rattle.pg_routes.proofs.lists.put_in.Goals as goal

pub returns-in_ok-insert-clause-ok : goal.returns-in_ok-insert-clause-ok
returns-in_ok-insert-clause-ok c =
    let its : ids_at c.args.lists.now c.args.address ≡ c.in-Some.ids.now.items = grind (arith, common_steps, c.in-Some.ensures.value) in
    let ids = c.deref.result.now in
    let same : ids_at c.args.lists.now c.args.address ≡ ids = its ∙ sym c.deref.ensures.value in
    let ascending : IsStrictlySortedBy nat_cmp ids = subst (IsStrictlySortedBy nat_cmp) same c.requires.ascending in
    let new : list_any (λ other. other == c.args.id) ids ≡ false = subst (λ xs. list_any (λ other. other == c.args.id) xs ≡ false) same c.requires.new in
    let parted = IsPartitionedBy-ltb (λ x. x) ids c.args.id (non_decreasing_from_sorted ids ascending) in
    let point = IsPartitionPoint-from_clause (λ x. ltb x c.args.id) _ _ c.partition_point-place.ensures.partitioned parted (λ a r q k. search rules) in
    let put : insert ids c.partition_point-place.result c.args.id ≡ with_id c.args.id ids =
    inserted c.args.id c.partition_point-place.result ids point.0 point.1 new c.partition_point-place.ensures.bound in
    let told = (c.get_mut.follows.holds c.insert.new.self).3 (search rules) in
    λ other. grind (arith, common_steps, told.0 other, put, its, same, c.in_ok-insert.ensures.items)
