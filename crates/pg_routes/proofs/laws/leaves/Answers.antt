use Rattle.pg_model.specs.Steps.{asked}
use Rattle.pg_routes.proofs.Leaving.{stays_acts, stays_takes}
use Rattle.pg_routes.proofs.laws.leaves.Goals as goal

pub returns-clause-acts : goal.returns-clause-acts
returns-clause-acts c = λ view s t action reply queue m acts is. stays_acts view s t action reply queue m acts is

pub returns-clause-step : goal.returns-clause-step
returns-clause-step c = λ view s t item reply queue m step is. stays_takes view s t (asked item) reply queue m step is

pub returns-clause-opened : goal.returns-clause-opened
returns-clause-opened c = λ d ids queue m is. is
