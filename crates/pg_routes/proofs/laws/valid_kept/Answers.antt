use Rattle.pg_model.specs.Steps.{asked}
use Rattle.pg_routes.proofs.Validity.{valid_acts, valid_takes, valid_run, valid_later}
use Rattle.pg_routes.proofs.laws.valid_kept.Goals as goal

pub returns-clause-acts : goal.returns-clause-acts
returns-clause-acts c = λ view s t action reply valid acts. valid_acts view s t action reply acts valid

pub returns-clause-step : goal.returns-clause-step
returns-clause-step c = λ view s t item reply valid step. valid_takes view s t (asked item) reply step valid

pub returns-clause-run : goal.returns-clause-run
returns-clause-run c = λ s items replies states valid run. valid_run s items replies states valid run

pub returns-clause-later : goal.returns-clause-later
returns-clause-later c = λ s t valid later. valid_later later valid
