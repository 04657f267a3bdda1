use Rattle.std.proofs.Common.{◌∙◌, ap, sym, []}
use Rattle.std.specs.Option.{option_copied, unwrap_or}
use Rattle.pg_flight.specs.Deliveries.{delivery_with}
use Rattle.pg_flight.proofs.Seen.{held}
use Rattle.pg_flight.proofs.flights.Flights.get.Goals as goal

pub returns-in_err-own : goal.returns-in_err-own
returns-in_err-own c =
    let found = held c.self.inside.consumers c.args.self.now c.args.consumer.now c.as_str.result.now _ c.self.view_is c.as_str.ensures.value c.get.ensures.value in
    c.from_residual.ensures ∙ sym (ap (delivery_with c.args.id) (found ∙ ap (λ own. unwrap_or (option_copied own) []) c.in_err-own.was))

pub returns : goal.returns
returns c =
    let found = held c.self.inside.consumers c.args.self.now c.args.consumer.now c.as_str.result.now _ c.self.view_is c.as_str.ensures.value c.get.ensures.value in
    c.get-2.ensures ∙ sym (ap (delivery_with c.args.id) (found ∙ ap (λ own. unwrap_or (option_copied own) []) c.in_ok-own.was))
