use Rattle.std.proofs.Common.{ap}
use Rattle.pg_model.specs.Broker.{Broker}
use Rattle.pg_routes.proofs.laws.undecided.Goals as goal

pub returns-clause-begin : goal.returns-clause-begin
returns-clause-begin c = λ view s t tx reply step. ap (λ (b : Broker). b.durable) step.1

pub returns-clause-send : goal.returns-clause-send
returns-clause-send c = λ view s t address tx dup properties body reply step. ap (λ (b : Broker). b.durable) step.1

pub returns-clause-rollback : goal.returns-clause-rollback
returns-clause-rollback c = λ view s t tx reply step. ap (λ (b : Broker). b.durable) step.1
