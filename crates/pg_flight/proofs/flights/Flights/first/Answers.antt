use Rattle.std.proofs.Common.{◌∙◌, ap, sym, []}
use Rattle.std.specs.Prelude.{slice_get}
use Rattle.std.specs.Option.{option_copied, unwrap_or}
use Rattle.pg_flight.proofs.Seen.{held}
use Rattle.pg_flight.proofs.flights.Flights.first.Goals as goal

pub returns-in_err-own : goal.returns-in_err-own
returns-in_err-own c =
    let found = held c.self.inside.consumers c.args.self.now c.args.consumer.now c.as_str.result.now _ c.self.view_is c.as_str.ensures.value c.get.ensures.value in
    c.from_residual.ensures ∙ sym (ap (λ deliveries. slice_get deliveries 0) (found ∙ ap (λ own. unwrap_or (option_copied own) []) c.in_err-own.was))

pub returns : goal.returns
returns c =
    let found = held c.self.inside.consumers c.args.self.now c.args.consumer.now c.as_str.result.now _ c.self.view_is c.as_str.ensures.value c.get.ensures.value in
    c.first.ensures ∙ sym (ap (λ deliveries. slice_get deliveries 0) (found ∙ ap (λ own. unwrap_or (option_copied own) []) c.in_ok-own.was))
