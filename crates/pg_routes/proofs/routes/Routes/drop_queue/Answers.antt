use Rattle.std.proofs.Common.{◌≡◌, ◌∙◌, ap, subst, map, List, Some, None, not, ◌==◌, string_bytes, arith}
use Rattle.std.proofs.lemmas.Grind.{common_steps}
use Rattle.std.specs.Ordering.{nat_cmp}
use Rattle.std.specs.BTreeMap.{get}
use Rattle.std.specs.HashMap as hash
use Rattle.std.specs.Str.{bytes_eq}
use Rattle.std.specs.String.{string_eq}
use Rattle.pg_routes.specs.Kept.{queue_of, seen}
use Rattle.pg_routes.specs.Names.{QueueName, without_queue}
use Rattle.pg_routes.proofs.Keeping.{kept_less}
use Rattle.pg_routes.proofs.Rows.{map_filter, row_left}
use Rattle.pg_routes.proofs.routes.Routes.drop_queue.Goals as goal

pub invariant_of-self : goal.invariant_of-self
invariant_of-self c =
    let inside = c.self.inside in
    let its : get nat_cmp inside.queues c.args.id ≡ Some c.in-Some.queue = grind (arith, common_steps, c.remove.ensures.value, c.in-Some.is) in
    let gone = subst (λ name. hash.UpdatesBy string_eq (λ key. bytes_eq name (string_bytes key)) inside.queue_ids c.swap_remove.new.self None) c.as_str.ensures.value c.swap_remove.ensures.updates in
    kept_less inside.addresses inside.queues c.remove.new.self inside.address_ids inside.queue_ids c.swap_remove.new.self inside.lists c.take_out.new.lists c.in-Some.queue c.args.id c.self.invariant its gone
    c.remove.ensures.updates c.remove.ensures.ordered c.remove.ensures.entries c.take_out.ensures

pub returns-in-Some : goal.returns-in-Some
returns-in-Some c =
    let inside = c.self.inside in
    ap (λ (queues : List QueueName). record (seen inside.addresses inside.queues) { queues = queues })
    (ap (map queue_of) (c.remove.ensures.entries ∙ row_left c.args.id inside.queues.entries c.self.invariant.queues_ordered)
    ∙ map_filter queue_of (λ queue. not (queue.id == c.args.id)) inside.queues.entries)
    ∙ ap (without_queue c.args.id) c.self.view_is

pub returns-in_default : goal.returns-in_default
returns-in_default c =
    let inside = c.self.inside in
    ap (λ (queues : List QueueName). record (seen inside.addresses inside.queues) { queues = queues })
    (ap (map queue_of) (c.remove.ensures.entries ∙ row_left c.args.id inside.queues.entries c.self.invariant.queues_ordered)
    ∙ map_filter queue_of (λ queue. not (queue.id == c.args.id)) inside.queues.entries)
    ∙ ap (without_queue c.args.id) c.self.view_is
