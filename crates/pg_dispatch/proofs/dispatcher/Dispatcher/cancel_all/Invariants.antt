use Rattle.std.proofs.Common.{◌≡◌, length, true}
use Rattle.std.specs.Prelude.{is_some}
use Rattle.pg_model.specs.Broker.{consumer_named}
use Rattle.pg_dispatch.specs.Dispatch.{closed}
use Rattle.pg_dispatch.specs.Matching.{flights_to}
use Rattle.pg_dispatch.proofs.dispatcher.Dispatcher.cancel_all.Given as goal

abbrev pub invariant-loop-id : goal.invariant-loop-id
invariant-loop-id l = (is_some (consumer_named l.self.consumers l.name) ≡ true) × (closed l.name l.self ≡ closed l.name l.fn.self)

abbrev pub decreases-loop-id : goal.decreases-loop-id
decreases-loop-id l = length (flights_to l.name l.self.consumers)
