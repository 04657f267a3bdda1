use Rattle.pg_model.specs.Steps.{asked}
use Rattle.pg_routes.proofs.Determining.{AreOne, acts_once, takes_once}
use Rattle.pg_routes.proofs.laws.determined.Goals as goal

pub returns-clause-acts : goal.returns-clause-acts
returns-clause-acts c = λ view s t u action reply other this that.
    let one : AreOne reply other t u = acts_once view s t u action reply other this that in (one.replies, one.states)

pub returns-clause-step : goal.returns-clause-step
returns-clause-step c = λ view s t u item reply other this that.
    let one : AreOne reply other t u = takes_once view s t u (asked item) reply other this that in (one.replies, one.states)
