use Rattle.std.proofs.Common.{◌≡◌, ◌∙◌, length, is_some, ap, sym, arith}
use Rattle.pg_model.specs.Broker.{Address, Broker, address_named}
use Rattle.pg_plain.proofs.StepLemmas.{address_taken, address_many, is_some_of, is_none_of}
use Rattle.pg_plain.proofs.plain.Plain.add_address.Goals as goal

pub returns-then-is_some : goal.returns-then-is_some
returns-then-is_some c =
    let same : c.address_id.result ≡ address_named c.args.self.durable.addresses c.args.row.name = c.address_id.ensures ∙ ap (λ (a : Address). address_named c.args.self.durable.addresses a.name) c.row.view_is in
    let found = is_some_of (address_named c.args.self.durable.addresses c.args.row.name) (ap is_some (sym same) ∙ sym c.is_some.ensures ∙ c.if-is_some.true) in
    address_taken c.args.self c.args.row.name c.args.row.settings found.0 found.1

pub returns-then-len-ge-MOST_ADDRESSES : goal.returns-then-len-ge-MOST_ADDRESSES
returns-then-len-ge-MOST_ADDRESSES c =
    let same : c.address_id.result ≡ address_named c.args.self.durable.addresses c.args.row.name = c.address_id.ensures ∙ ap (λ (a : Address). address_named c.args.self.durable.addresses a.name) c.row.view_is in
    address_many c.args.self c.args.row.name c.args.row.settings (is_none_of (address_named c.args.self.durable.addresses c.args.row.name) (ap is_some (sym same) ∙ sym c.is_some.ensures ∙ c.if-is_some.false))
    (omega (arith, c.if-len-ge-MOST_ADDRESSES.true, c.len.ensures, ap (λ (b : Broker). length b.durable.addresses) c.self.view_is))
