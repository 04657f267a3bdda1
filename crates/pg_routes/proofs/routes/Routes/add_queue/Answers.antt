use Rattle.std.proofs.Common.{◌≡◌, ◌∙◌, ap, false, None, string_bytes, List, map}
use Rattle.pg_routes.specs.Kept.{queue_of, seen}
use Rattle.pg_routes.specs.Names.{QueueName, has_queue, queue_named, with_queue}
use Rattle.pg_routes.proofs.Keeping.{kept_again, kept_queue, kept_queue_told, listed_ascend, name_told, not_listed}
use Rattle.pg_routes.proofs.Listing.{queue_absent, queue_placed}
use Rattle.pg_routes.proofs.routes.Routes.add_queue.Goals as goal

pub invariant_of-self-in_err-begin_list : goal.invariant_of-self-in_err-begin_list
invariant_of-self-in_err-begin_list c =
    let inside = c.self.inside in
    let is : string_bytes c.in_ok-key.key ≡ c.args.name = c.in_ok-key.ensures.ok ∙ c.as_str.ensures.value in
    let none : queue_named c.args.name (seen inside.addresses inside.queues) ≡ None = ap (queue_named c.args.name) c.self.view_is ∙ c.requires.new_name in
    kept_queue_told inside.addresses inside.queues inside.address_ids inside.queue_ids c.insert.new.self inside.lists c.begin_list.new.lists c.in_ok-key.key c.args.name c.args.id c.self.invariant none is
    c.in_ok-insert.ensures.updates c.begin_list.ensures.same

pub put_in-requires-clause-ascending : goal.put_in-requires-clause-ascending
put_in-requires-clause-ascending c =
    let inside = c.self.inside in
    let is : string_bytes c.in_ok-key.key ≡ c.args.name = c.in_ok-key.ensures.ok ∙ c.as_str.ensures.value in
    let none : queue_named c.args.name (seen inside.addresses inside.queues) ≡ None = ap (queue_named c.args.name) c.self.view_is ∙ c.requires.new_name in
    let ahead = kept_queue_told inside.addresses inside.queues inside.address_ids inside.queue_ids c.insert.new.self inside.lists c.begin_list.new.lists c.in_ok-key.key c.args.name c.args.id c.self.invariant none is
    c.in_ok-insert.ensures.updates c.begin_list.ensures.same in
    listed_ascend inside.addresses inside.queues inside.address_ids c.insert.new.self c.begin_list.new.lists c.args.address ahead

pub put_in-requires-clause-new : goal.put_in-requires-clause-new
put_in-requires-clause-new c =
    let inside = c.self.inside in
    let is : string_bytes c.in_ok-key.key ≡ c.args.name = c.in_ok-key.ensures.ok ∙ c.as_str.ensures.value in
    let none : queue_named c.args.name (seen inside.addresses inside.queues) ≡ None = ap (queue_named c.args.name) c.self.view_is ∙ c.requires.new_name in
    let new : has_queue c.args.id (seen inside.addresses inside.queues) ≡ false = ap (has_queue c.args.id) c.self.view_is ∙ c.requires.new_id in
    let ahead = kept_queue_told inside.addresses inside.queues inside.address_ids inside.queue_ids c.insert.new.self inside.lists c.begin_list.new.lists c.in_ok-key.key c.args.name c.args.id c.self.invariant none is
    c.in_ok-insert.ensures.updates c.begin_list.ensures.same in
    not_listed inside.addresses inside.queues inside.address_ids c.insert.new.self c.begin_list.new.lists c.args.id c.args.address ahead new

pub invariant_of-self-in_err-put_in : goal.invariant_of-self-in_err-put_in
invariant_of-self-in_err-put_in c =
    let inside = c.self.inside in
    let is : string_bytes c.in_ok-key.key ≡ c.args.name = c.in_ok-key.ensures.ok ∙ c.as_str.ensures.value in
    let none : queue_named c.args.name (seen inside.addresses inside.queues) ≡ None = ap (queue_named c.args.name) c.self.view_is ∙ c.requires.new_name in
    kept_queue_told inside.addresses inside.queues inside.address_ids inside.queue_ids c.insert.new.self inside.lists c.put_in.new.lists c.in_ok-key.key c.args.name c.args.id c.self.invariant none is
    c.in_ok-insert.ensures.updates (λ address. c.in_err-put_in.ensures.err address ∙ c.begin_list.ensures.same address)

pub invariant_of-self-in-Ok : goal.invariant_of-self-in-Ok
invariant_of-self-in-Ok c =
    let inside = c.self.inside in
    let is : string_bytes c.in_ok-key.key ≡ c.args.name = c.in_ok-key.ensures.ok ∙ c.as_str.ensures.value in
    let none : queue_named c.args.name (seen inside.addresses inside.queues) ≡ None = ap (queue_named c.args.name) c.self.view_is ∙ c.requires.new_name in
    let new : has_queue c.args.id (seen inside.addresses inside.queues) ≡ false = ap (has_queue c.args.id) c.self.view_is ∙ c.requires.new_id in
    let ahead = kept_queue_told inside.addresses inside.queues inside.address_ids inside.queue_ids c.insert.new.self inside.lists c.begin_list.new.lists c.in_ok-key.key c.args.name c.args.id c.self.invariant none is
    c.in_ok-insert.ensures.updates c.begin_list.ensures.same in
    kept_queue inside.addresses inside.queues c.insert-2.new.self inside.address_ids c.insert.new.self c.begin_list.new.lists c.put_in.new.lists
    (record { address = c.args.address; name = c.args.name; filter = c.args.filter }) c.args.id ahead new
    (name_told inside.queue_ids c.insert.new.self c.in_ok-key.key c.args.name c.args.id is c.in_ok-insert.ensures.updates) c.in-Ok.ensures.updates c.in-Ok.ensures.ordered c.in-Ok.ensures.entries c.in_ok-put_in.ensures.ok

pub invariant_of-self-in-Err : goal.invariant_of-self-in-Err
invariant_of-self-in-Err c =
    let inside = c.self.inside in
    let is : string_bytes c.in_ok-key.key ≡ c.args.name = c.in_ok-key.ensures.ok ∙ c.as_str.ensures.value in
    let none : queue_named c.args.name (seen inside.addresses inside.queues) ≡ None = ap (queue_named c.args.name) c.self.view_is ∙ c.requires.new_name in
    let new : has_queue c.args.id (seen inside.addresses inside.queues) ≡ false = ap (has_queue c.args.id) c.self.view_is ∙ c.requires.new_id in
    let ahead = kept_queue_told inside.addresses inside.queues inside.address_ids inside.queue_ids c.insert.new.self inside.lists c.begin_list.new.lists c.in_ok-key.key c.args.name c.args.id c.self.invariant none is
    c.in_ok-insert.ensures.updates c.begin_list.ensures.same in
    kept_again inside.addresses inside.queues c.insert-2.new.self inside.address_ids c.insert.new.self c.begin_list.new.lists c.put_in.new.lists c.take_out.new.lists c.args.id c.args.address ahead new
    c.in-Err.ensures.err c.in_ok-put_in.ensures.ok c.take_out.ensures

pub returns-in-Ok-clause-ok : goal.returns-in-Ok-clause-ok
returns-in-Ok-clause-ok c =
    let inside = c.self.inside in
    let new : has_queue c.args.id (seen inside.addresses inside.queues) ≡ false = ap (has_queue c.args.id) c.self.view_is ∙ c.requires.new_id in
    ap (λ (queues : List QueueName). record (seen inside.addresses inside.queues) { queues = queues })
    (ap (map queue_of) c.in-Ok.ensures.entries
    ∙ queue_placed c.args.id (record { address = c.args.address; name = c.args.name; filter = c.args.filter }) inside.queues.entries c.self.invariant.queues_ordered (queue_absent c.args.id inside.queues.entries new))
    ∙ ap (with_queue (record { id = c.args.id; address = c.args.address; name = c.args.name; filter = c.args.filter })) c.self.view_is
