use Rattle.std.proofs.Common.{◌≡◌, ◌∙◌, ap, sym, subst}
use Rattle.std.specs.Prelude.{option_map, true}
use Rattle.pg_flight.specs.declared.delivery.Delivery.{Delivery}
use Rattle.pg_dispatch.specs.Dispatch.{Dispatch, flight_from, has_in_line}
use Rattle.pg_dispatch.specs.Matching.{consumers_seen, lines_seen}
use Rattle.pg_dispatch.proofs.LineLaws.{found_in_line}
use Rattle.pg_dispatch.proofs.Seen.{flight_delivered, flight_seen}
use Rattle.pg_dispatch.proofs.Steps.{is_flown}
use Rattle.pg_dispatch.proofs.dispatcher.Dispatcher.flight.Goals as goal

pub returns-in_err-delivery-clause-from : goal.returns-in_err-delivery-clause-from
returns-in_err-delivery-clause-from c =
    c.from_residual.ensures
    ∙ ap (option_map (λ (delivery : Delivery). delivery.queue)) (sym c.in_err-delivery.was ∙ c.get.ensures)
    ∙ sym (flight_seen c.args.name.now c.args.id c.self.inside.consumers c.self.invariant.theirs)
    ∙ ap (λ (d : Dispatch). flight_from c.args.name.now c.args.id d.consumers) c.self.view_is

pub returns-clause-from : goal.returns-clause-from
returns-clause-from c =
    ap (option_map (λ (delivery : Delivery). delivery.queue)) (sym c.in_ok-delivery.was ∙ c.get.ensures)
    ∙ sym (flight_seen c.args.name.now c.args.id c.self.inside.consumers c.self.invariant.theirs)
    ∙ ap (λ (d : Dispatch). flight_from c.args.name.now c.args.id d.consumers) c.self.view_is

pub returns-clause-held : goal.returns-clause-held
returns-clause-held c =
    let inside = c.self.inside in
    let flight = flight_delivered c.args.name.now c.args.id inside.consumers c.in_ok-delivery.delivery c.self.invariant.theirs (sym c.get.ensures ∙ c.in_ok-delivery.was) in
    let queue = c.in_ok-delivery.delivery.queue in
    let held = c.self.invariant.whole.held queue c.args.id (is_flown c.args.name.now c.args.id queue (consumers_seen inside.consumers) flight) in
    subst (λ (d : Dispatch). has_in_line queue c.args.id d.lines ≡ true) c.self.view_is (found_in_line queue c.args.id (lines_seen inside.queues) held)
