use Rattle.std.proofs.Common.{◌≡◌, ◌==◌, not, arith, rules}
use Rattle.std.proofs.lemmas.Grind.{common_steps}
use Rattle.std.proofs.lemmas.Fn.{filter_same}
use Rattle.pg_routes.specs.Lists.{ids_at, without_id}
use Rattle.pg_routes.proofs.lists.take_out.Goals as goal

pub returns-in-Some : goal.returns-in-Some
returns-in-Some c =
    let ids = c.in-Some.ids.now.items in
    let its : ids_at c.args.lists.now c.args.address ≡ ids = grind (arith, common_steps, c.in-Some.ensures.value) in
    let left : c.retain.new.self.items ≡ without_id c.args.id ids = filter_same _ (λ other. not (other == c.args.id)) _ (λ x b f' k. search rules) _ _ c.retain.ensures.filtered in
    let told = (c.get_mut.follows.holds c.retain.new.self).3 (search rules) in
    λ other. grind (arith, common_steps, told.0 other, left, its)
