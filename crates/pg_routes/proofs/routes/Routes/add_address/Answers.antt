use Rattle.std.proofs.Common.{◌≡◌, ◌∙◌, ap, false, None, string_bytes, List, map}
use Rattle.pg_routes.specs.Kept.{address_of, seen}
use Rattle.pg_routes.specs.Names.{AddressName, address_named, has_address, with_address}
use Rattle.pg_routes.proofs.Keeping.{kept_address, kept_same, kept_told, name_told}
use Rattle.pg_routes.proofs.Listing.{address_absent, address_placed}
use Rattle.pg_routes.proofs.routes.Routes.add_address.Goals as goal

pub invariant_of-self-in_err-insert-2 : goal.invariant_of-self-in_err-insert-2
invariant_of-self-in_err-insert-2 c =
    let inside = c.self.inside in
    let is : string_bytes c.in_ok-key.key ≡ c.args.name = c.in_ok-key.ensures.ok ∙ c.as_str.ensures.value in
    let none : address_named c.args.name (seen inside.addresses inside.queues) ≡ None = ap (address_named c.args.name) c.self.view_is ∙ c.requires.new_name in
    kept_same inside.addresses c.insert-2.new.self inside.queues c.insert.new.self inside.queue_ids inside.lists
    (kept_told inside.addresses inside.queues inside.address_ids c.insert.new.self inside.queue_ids inside.lists c.in_ok-key.key c.args.name c.args.id c.self.invariant none is c.in_ok-insert.ensures.updates)
    c.in_err-insert-2.ensures.err

pub invariant_of-self-2 : goal.invariant_of-self-2
invariant_of-self-2 c =
    let inside = c.self.inside in
    let is : string_bytes c.in_ok-key.key ≡ c.args.name = c.in_ok-key.ensures.ok ∙ c.as_str.ensures.value in
    let none : address_named c.args.name (seen inside.addresses inside.queues) ≡ None = ap (address_named c.args.name) c.self.view_is ∙ c.requires.new_name in
    kept_address inside.addresses c.insert-2.new.self inside.queues c.insert.new.self inside.queue_ids inside.lists c.args.name c.args.id
    (kept_told inside.addresses inside.queues inside.address_ids c.insert.new.self inside.queue_ids inside.lists c.in_ok-key.key c.args.name c.args.id c.self.invariant none is c.in_ok-insert.ensures.updates)
    (name_told inside.address_ids c.insert.new.self c.in_ok-key.key c.args.name c.args.id is c.in_ok-insert.ensures.updates) c.in_ok-insert-2.ensures.updates c.in_ok-insert-2.ensures.ordered

pub returns-clause-ok : goal.returns-clause-ok
returns-clause-ok c =
    let inside = c.self.inside in
    let new : has_address c.args.id (seen inside.addresses inside.queues) ≡ false = ap (has_address c.args.id) c.self.view_is ∙ c.requires.new_id in
    ap (λ (addresses : List AddressName). record (seen inside.addresses inside.queues) { addresses = addresses })
    (ap (map address_of) c.in_ok-insert-2.ensures.entries ∙ address_placed c.args.id c.args.name inside.addresses.entries c.self.invariant.addresses_ordered (address_absent c.args.id inside.addresses.entries new))
    ∙ ap (with_address (record { id = c.args.id; name = c.args.name })) c.self.view_is
