use Rattle.std.proofs.Common.{◌∙◌, List, ap, subst, IfOk}
use Rattle.std.proofs.lemmas.List.{take_all}
use Rattle.pg_routes.specs.Names.{AddressName, RouteNames}
use Rattle.pg_engine.specs.Kept.{AreNamed}
use Rattle.pg_engine.proofs.NamingLemmas.{addresses_alone, more_address, new_address_id, new_address_name}
use Rattle.pg_engine.proofs.naming.named_routes.Goals as goal

pub add_address-requires-clause-new_id : goal.add_address-requires-clause-new_id
add_address-requires-clause-new_id c =
    new_address_id c.args.addresses.now c.loop-row.row-index c.row-item.result c.loop-row-test.true c.row-item.is c.loop-row.routes c.loop-row.invariant c.requires.addresses.numbered

pub add_address-requires-clause-new_name : goal.add_address-requires-clause-new_name
add_address-requires-clause-new_name c =
    new_address_name c.args.addresses.now c.loop-row.row-index c.row-item.result c.loop-row-test.true c.row-item.is c.loop-row.routes c.loop-row.invariant c.requires.addresses.names c.in_ok-copy.field-0 c.in_ok-copy.ensures

pub loop-row-preserved : goal.loop-row-preserved
loop-row-preserved c =
    more_address c.args.addresses.now c.loop-row.row-index c.row-item.result c.loop-row-test.true c.row-item.is c.loop-row.routes c.loop-row.invariant c.requires.addresses.numbered _ c.in_ok-copy.field-0 c.in_ok-copy.ensures
    c.in_ok-add_address.ensures.ok

pub returns : goal.returns
returns c =
    let all = c.loop-row.invariant ∙ ap addresses_alone (take_all c.loop-row.row-index c.args.addresses.now c.loop-row-test.false) in
    subst (λ (l : List AddressName). IfOk c.name_queues.result (AreNamed l c.args.queues.now)) (ap (λ (r : RouteNames). r.addresses) all) c.name_queues.ensures
