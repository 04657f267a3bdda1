use Rattle.std.proofs.Common.{◌≡◌, ◌∙◌, ap, Some, None, arith}
use Rattle.std.proofs.lemmas.Grind.{common_steps}
use Rattle.std.specs.Prelude.{true, false}
use Rattle.std.specs.BTreeMap.{get}
use Rattle.std.specs.Ordering.{nat_cmp}
use Rattle.std.specs.Str.{bytes_eq}
use Rattle.indexmap.specs.IndexMap.{get_by_text}
use Rattle.pg_routes.specs.Names.{queue_named}
use Rattle.pg_routes.proofs.Naming.{a_queue, no_queue}
use Rattle.pg_routes.proofs.routes.Routes.queue_id.Goals as goal

pub returns-in_err-id : goal.returns-in_err-id
returns-in_err-id c =
    let inside = c.self.inside in
    let nowhere : get_by_text inside.queue_ids c.args.name.now ≡ None = grind (arith, common_steps, c.get.ensures.value, c.copied.ensures, c.in_err-id.was) in
    c.from_residual.ensures
    ∙ no_queue inside.queue_ids inside.addresses inside.queues c.args.name.now c.self.invariant.queues_ordered c.self.invariant.queues_found (λ id row leads at. absurd (grind (arith, common_steps, nowhere, leads)))
    ∙ ap (queue_named c.args.name.now) c.self.view_is

pub returns-in_err-queue : goal.returns-in_err-queue
returns-in_err-queue c =
    let inside = c.self.inside in
    let its : get_by_text inside.queue_ids c.args.name.now ≡ Some c.in_ok-id.id = grind (arith, common_steps, c.get.ensures.value, c.copied.ensures, c.in_ok-id.was) in
    let gone : get nat_cmp inside.queues c.in_ok-id.id ≡ None = grind (arith, common_steps, c.in_err-queue.ensures.value) in
    c.from_residual-in_err-queue.ensures
    ∙ no_queue inside.queue_ids inside.addresses inside.queues c.args.name.now c.self.invariant.queues_ordered c.self.invariant.queues_found
    (λ id row leads at. absurd (grind (arith, common_steps, its, gone, leads, at)))
    ∙ ap (queue_named c.args.name.now) c.self.view_is

pub returns-then-eq : goal.returns-then-eq
returns-then-eq c =
    let inside = c.self.inside in
    let row = c.in_ok-queue.queue.now in
    let its : get_by_text inside.queue_ids c.args.name.now ≡ Some c.in_ok-id.id = grind (arith, common_steps, c.get.ensures.value, c.copied.ensures, c.in_ok-id.was) in
    let at : get nat_cmp inside.queues c.in_ok-id.id ≡ Some row = grind (arith, common_steps, c.in_ok-queue.ensures.value) in
    let same : bytes_eq c.args.name.now row.name ≡ true = grind (arith, common_steps, c.as_str.ensures.value, c.if-eq.ensures) in
    a_queue inside.queue_ids inside.addresses inside.queues c.args.name.now c.in_ok-id.id row c.self.invariant.queues_ordered c.self.invariant.queues_found its at same
    ∙ ap (queue_named c.args.name.now) c.self.view_is

pub returns-else-eq : goal.returns-else-eq
returns-else-eq c =
    let inside = c.self.inside in
    let row = c.in_ok-queue.queue.now in
    let its : get_by_text inside.queue_ids c.args.name.now ≡ Some c.in_ok-id.id = grind (arith, common_steps, c.get.ensures.value, c.copied.ensures, c.in_ok-id.was) in
    let at : get nat_cmp inside.queues c.in_ok-id.id ≡ Some row = grind (arith, common_steps, c.in_ok-queue.ensures.value) in
    let differs : bytes_eq c.args.name.now row.name ≡ false = grind (arith, common_steps, c.as_str.ensures.value, c.if-eq.ensures) in
    no_queue inside.queue_ids inside.addresses inside.queues c.args.name.now c.self.invariant.queues_ordered c.self.invariant.queues_found
    (λ id other leads found. grind (arith, common_steps, its, leads, at, found, differs))
    ∙ ap (queue_named c.args.name.now) c.self.view_is
