use Rattle.pg_model.specs.Routing.{queues_of}
use Rattle.pg_model.proofs.RoutingLaws.{goes_once, routed_somewhere}
use Rattle.pg_model.proofs.laws.one_routing.Goals as goal

pub returns-clause-one : goal.returns-clause-one
returns-clause-one c = λ s address properties a b. goes_once properties (queues_of address s.durable.queues) a b

pub returns-clause-some : goal.returns-clause-some
returns-clause-some c = routed_somewhere
