use Rattle.std.proofs.Common.{◌∙◌, ap, sym, refl, [], subst}
use Rattle.std.specs.Prelude.{Some, is_some, IsSome}
use Rattle.std.specs.Option.{option_copied_mut, unwrap_or}
use Rattle.pg_flight.specs.Deliveries.{delivery_with, without_delivery}
use Rattle.pg_flight.specs.Flights.{ChangesAt, seen}
use Rattle.pg_flight.proofs.Seen.{changed, held, unchanged}
use Rattle.pg_flight.proofs.flights.Flights.take.Goals as goal

pub returns-in_err-own-clause-given : goal.returns-in_err-own-clause-given
returns-in_err-own-clause-given c =
    let found = held c.self.inside.consumers c.args.self.now c.args.consumer.now c.as_str.result.now _ c.self.view_is c.as_str.ensures.value c.get_mut.ensures.value in
    c.from_residual.ensures ∙ sym (ap (delivery_with c.args.id) (found ∙ ap (λ own. unwrap_or (option_copied_mut own) []) c.in_err-own.was))

pub returns-in_err-own-clause-left : goal.returns-in_err-own-clause-left
returns-in_err-own-clause-left c =
    let found = held c.self.inside.consumers c.args.self.now c.args.consumer.now c.as_str.result.now _ c.self.view_is c.as_str.ensures.value c.get_mut.ensures.value in
    subst (ChangesAt c.args.consumer.now (without_delivery c.args.id) c.args.self.now) (sym (ap seen c.get_mut.follows.holds-at-none ∙ c.self.view_is))
    (unchanged c.args.self.now c.args.consumer.now (without_delivery c.args.id) (found ∙ ap (λ own. unwrap_or (option_copied_mut own) []) c.in_err-own.was) refl)

pub returns-clause-given : goal.returns-clause-given
returns-clause-given c =
    let found = held c.self.inside.consumers c.args.self.now c.args.consumer.now c.as_str.result.now _ c.self.view_is c.as_str.ensures.value c.get_mut.ensures.value in
    c.take.ensures.given ∙ sym (ap (delivery_with c.args.id) (found ∙ ap (λ own. unwrap_or (option_copied_mut own) []) c.in_ok-own.was))

pub returns-clause-left : goal.returns-clause-left
returns-clause-left c =
    let found = held c.self.inside.consumers c.args.self.now c.args.consumer.now c.as_str.result.now _ c.self.view_is c.as_str.ensures.value c.get_mut.ensures.value in
    let there : IsSome (option_copied_mut c.get_mut.result) = ap (λ own. is_some (option_copied_mut own)) c.in_ok-own.was in
    changed c.self.inside.consumers (c.get_mut.follows.lender c.take.new.self) c.args.self.now c.args.consumer.now c.as_str.result.now (Some c.take.new.self) (without_delivery c.args.id) c.self.view_is c.as_str.ensures.value
    ((c.get_mut.follows.holds c.take.new.self).3 (subst IsSome c.get_mut.ensures.value there))
    (c.take.ensures.left ∙ sym (ap (without_delivery c.args.id) (found ∙ ap (λ own. unwrap_or (option_copied_mut own) []) c.in_ok-own.was)))
