use Rattle.std.proofs.Common.{◌∙◌, sym}
use Rattle.pg_dispatch.specs.Matching.{flights_to}
use Rattle.pg_dispatch.proofs.Closing.{closing_on, fewer, flies_first, none_left}
use Rattle.pg_dispatch.proofs.dispatcher.Dispatcher.cancel_all.Goals as goal

pub cancel-requires : goal.cancel-requires
cancel-requires c = flies_first c.args.name.now c.in-Some.id c.loop-id.self.consumers (sym c.in-Some.is ∙ c.first_flight.ensures)

pub loop-id-smaller : goal.loop-id-smaller
loop-id-smaller c =
    fewer c.args.name.now c.in-Some.id c.loop-id.self c.cancel.new.self c.loop-id.invariant.0 (sym c.in-Some.is ∙ c.first_flight.ensures) c.in_ok-cancel.ensures.ok

pub loop-id-preserved : goal.loop-id-preserved
loop-id-preserved c = closing_on c.args.name.now c.in-Some.id c.args.self.now c.loop-id.self c.cancel.new.self c.loop-id.invariant c.in_ok-cancel.ensures.ok

pub returns-clause-none : goal.returns-clause-none
returns-clause-none c = none_left (flights_to c.args.name.now c.loop-id.self.consumers) (sym c.in_default.is ∙ c.first_flight.ensures)
