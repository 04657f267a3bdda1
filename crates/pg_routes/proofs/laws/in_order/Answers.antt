use Rattle.pg_model.specs.Steps.{asked}
use Rattle.pg_routes.proofs.Ordering.{acts_go_on, takes_go_on}
use Rattle.pg_routes.proofs.laws.in_order.Goals as goal

pub returns-clause-acts : goal.returns-clause-acts
returns-clause-acts c = λ view s t action reply q r valid acts first second same. acts_go_on view s t action reply valid acts q r first second same

pub returns-clause-step : goal.returns-clause-step
returns-clause-step c = λ view s t item reply q r valid step first second same. takes_go_on view s t (asked item) reply valid step q r first second same
