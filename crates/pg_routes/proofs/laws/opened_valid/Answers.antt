use Rattle.pg_model.specs.Broker.{fresh}
use Rattle.pg_routes.proofs.Validity.{valid_opened, may_open, may_open_fresh}
use Rattle.pg_routes.proofs.laws.opened_valid.Goals as goal

pub returns-clause-valid : goal.returns-clause-valid
returns-clause-valid c = λ d ids may. valid_opened d ids may

pub returns-clause-durable : goal.returns-clause-durable
returns-clause-durable c = λ s valid. may_open s valid

pub returns-clause-fresh : goal.returns-clause-fresh
returns-clause-fresh c = λ ids. valid_opened fresh ids may_open_fresh
