use Rattle.std.proofs.Common.{◌∙◌, ap, sym}
use Rattle.std.specs.Prelude.{option_map, slice_get}
use Rattle.pg_flight.specs.declared.delivery.Delivery.{Delivery}
use Rattle.pg_dispatch.specs.Dispatch.{Dispatch}
use Rattle.pg_dispatch.specs.Matching.{flights_to}
use Rattle.pg_dispatch.proofs.Seen.{first_seen}
use Rattle.pg_dispatch.proofs.dispatcher.Dispatcher.first_flight.Goals as goal

pub returns-in_err-delivery : goal.returns-in_err-delivery
returns-in_err-delivery c =
    c.from_residual.ensures
    ∙ ap (option_map (λ (delivery : Delivery). delivery.id)) (sym c.in_err-delivery.was ∙ c.first.ensures)
    ∙ sym (first_seen c.args.name.now c.self.inside.consumers)
    ∙ ap (λ (d : Dispatch). slice_get (flights_to c.args.name.now d.consumers) 0) c.self.view_is

pub returns : goal.returns
returns c =
    ap (option_map (λ (delivery : Delivery). delivery.id)) (sym c.in_ok-delivery.was ∙ c.first.ensures)
    ∙ sym (first_seen c.args.name.now c.self.inside.consumers)
    ∙ ap (λ (d : Dispatch). slice_get (flights_to c.args.name.now d.consumers) 0) c.self.view_is
