use Rattle.std.proofs.Common.{◌∙◌, List, length, is_some, Some, ap, sym, subst, arith}
use Rattle.pg_fold.specs.declared.rows.AddressRow.{AddressRow}
use Rattle.pg_model.specs.Actions.{MakeAddress}
use Rattle.pg_engine.specs.Kept.{Kept}
use Rattle.pg_engine.specs.Outcomes.{IsOutcome, settings_of}
use Rattle.pg_engine.proofs.LookupLemmas.{none_id}
use Rattle.pg_engine.proofs.StepLemmas.{address_taken, address_many}
use Rattle.pg_engine.proofs.state.State.add_address.Goals as goal

pub returns-then-is_some-clause-outcome : goal.returns-then-is_some-clause-outcome
returns-then-is_some-clause-outcome c =
    subst (λ o. IsOutcome c.args.self (Some (MakeAddress c.args.name (settings_of c.args.settings))) o) (sym c.refused.ensures)
    (address_taken c.args.self c.args.name (settings_of c.args.settings) (ap is_some (sym c.address_id.ensures) ∙ sym c.is_some.ensures ∙ c.if-is_some.true))

pub returns-then-as_slice-ge-MOST_ADDRESSES-clause-outcome : goal.returns-then-as_slice-ge-MOST_ADDRESSES-clause-outcome
returns-then-as_slice-ge-MOST_ADDRESSES-clause-outcome c =
    let none = none_id c.address_id.result (sym c.is_some.ensures ∙ c.if-is_some.false) in
    subst (λ o. IsOutcome c.args.self (Some (MakeAddress c.args.name (settings_of c.args.settings))) o) (sym c.refused-then-as_slice-ge-MOST_ADDRESSES.ensures)
    (address_many c.args.self c.args.name (settings_of c.args.settings) (sym c.address_id.ensures ∙ none)
    (omega (arith, c.if-as_slice-ge-MOST_ADDRESSES.true, ap (λ (l : List AddressRow). length l) c.as_slice.ensures, ap (λ (k : Kept). length k.durable.addresses) c.self.view_is)))

pub make_address-requires-clause-new : goal.make_address-requires-clause-new
make_address-requires-clause-new c = sym c.address_id.ensures ∙ none_id c.address_id.result (sym c.is_some.ensures ∙ c.if-is_some.false)

pub make_address-requires-clause-few : goal.make_address-requires-clause-few
make_address-requires-clause-few c =
    omega (arith, c.if-as_slice-ge-MOST_ADDRESSES.false, ap (λ (l : List AddressRow). length l) c.as_slice.ensures, ap (λ (k : Kept). length k.durable.addresses) c.self.view_is)
