use Rattle.std.proofs.Common.{◌≡◌, ◌∙◌, ap, sym, [], subst}
use Rattle.std.specs.Prelude.{Some, is_some, IsSome, map, OnErr, Ok, Err}
use Rattle.std.specs.Option.{option_copied_mut, unwrap_or}
use Rattle.std.specs.String.{string_bytes}
use Rattle.std.proofs.lemmas.Map.Steps.{set_value_same}
use Rattle.pg_flight.specs.Deliveries.{with_delivery}
use Rattle.pg_flight.specs.Flights.{seen}
use Rattle.pg_flight.proofs.Seen.{changed, held, holder_of}
use Rattle.pg_flight.proofs.flights.Flights.deliver.Goals as goal

pub returns-in-Some-clause-ok : goal.returns-in-Some-clause-ok
returns-in-Some-clause-ok c =
    let found = held c.self.inside.consumers c.args.self.now c.args.consumer.now c.as_str.result.now _ c.self.view_is c.as_str.ensures.value c.get_mut.ensures.value in
    let there : IsSome (option_copied_mut c.get_mut.result) = ap (λ own. is_some (option_copied_mut own)) c.in-Some.is in
    changed c.self.inside.consumers (c.get_mut.follows.lender c.put.new.self) c.args.self.now c.args.consumer.now c.as_str.result.now (Some c.put.new.self) (with_delivery c.args.delivery) c.self.view_is c.as_str.ensures.value
    ((c.get_mut.follows.holds c.put.new.self).3 (subst IsSome c.get_mut.ensures.value there))
    (c.in_ok-put.ensures.ok ∙ sym (ap (with_delivery c.args.delivery) (found ∙ ap (λ own. unwrap_or (option_copied_mut own) []) c.in-Some.is)))

pub returns-in_err-put-clause-err : goal.returns-in_err-put-clause-err
returns-in_err-put-clause-err c =
    let entries = c.self.inside.consumers.entries in
    let its = ap option_copied_mut (sym c.in-Some.is) ∙ c.get_mut.ensures.value in
    let same = (c.get_mut.follows.holds c.put.new.self).0 ∙ set_value_same _ entries c.put.new.self (sym its ∙ ap Some (sym c.in_err-put.ensures.err)) in
    elim c.from_residual.result as (λ r. OnErr r (seen (c.get_mut.follows.lender c.put.new.self) ≡ c.args.self.now)) [ Ok v ↦ tt | Err e ↦ ap (map holder_of) same ∙ c.self.view_is ]

pub returns-clause-ok : goal.returns-clause-ok
returns-clause-ok c =
    let found = held c.self.inside.consumers c.args.self.now c.args.consumer.now c.as_str.result.now _ c.self.view_is c.as_str.ensures.value c.get_mut.ensures.value in
    let none = found ∙ ap (λ own. unwrap_or (option_copied_mut own) []) c.in_default.is in
    changed c.get_mut.follows.lender-at-none c.insert.new.self c.args.self.now c.args.consumer.now (string_bytes c.into_string.result) (Some c.put-2.new.self) (with_delivery c.args.delivery)
    (ap seen c.get_mut.follows.holds-at-none ∙ c.self.view_is) (c.into_string.ensures ∙ c.in_ok-copy.ensures) c.in_ok-insert.ensures.updates
    (c.in_ok-put-2.ensures.ok ∙ ap (with_delivery c.args.delivery) (c.new-own.ensures ∙ sym none))
