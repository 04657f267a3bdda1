use Rattle.std.proofs.Common.{◌∙◌, ap, sym, refl, []}
use Rattle.std.specs.Prelude.{None}
use Rattle.std.specs.Option.{option_copied, unwrap_or}
use Rattle.pg_flight.specs.Flights.{cleared}
use Rattle.pg_flight.proofs.Seen.{changed, held, unchanged}
use Rattle.pg_flight.proofs.flights.Flights.close.Goals as goal

pub returns-in_default-clause-given : goal.returns-in_default-clause-given
returns-in_default-clause-given c =
    let found = held c.self.inside.consumers c.args.self.now c.args.consumer.now c.as_str.result.now _ c.self.view_is c.as_str.ensures.value c.get.ensures.value in
    c.new.ensures.items ∙ sym (found ∙ ap (λ own. unwrap_or (option_copied own) []) c.in_default.is)

pub returns-in_default-clause-left : goal.returns-in_default-clause-left
returns-in_default-clause-left c =
    let found = held c.self.inside.consumers c.args.self.now c.args.consumer.now c.as_str.result.now _ c.self.view_is c.as_str.ensures.value c.get.ensures.value in
    unchanged c.args.self.now c.args.consumer.now cleared (found ∙ ap (λ own. unwrap_or (option_copied own) []) c.in_default.is) refl

pub returns-clause-given : goal.returns-clause-given
returns-clause-given c =
    let found = held c.self.inside.consumers c.args.self.now c.args.consumer.now c.as_str.result.now _ c.self.view_is c.as_str.ensures.value c.get.ensures.value in
    c.in_ok-deliveries.ensures.all ∙ sym (found ∙ ap (λ own. unwrap_or (option_copied own) []) c.in-Some.is)

pub returns-clause-left : goal.returns-clause-left
returns-clause-left c =
    changed c.self.inside.consumers c.remove.new.self c.args.self.now c.args.consumer.now c.as_str-2.result.now None cleared c.self.view_is c.as_str-2.ensures.value c.remove.ensures.updates refl
