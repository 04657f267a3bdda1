use Rattle.pg_flight.proofs.DeliveryLaws.{found_with, found_without}
use Rattle.pg_flight.proofs.laws.found_by_message.Goals as goal

pub returns-clause-put : goal.returns-clause-put
returns-clause-put c = found_with

pub returns-clause-taken : goal.returns-clause-taken
returns-clause-taken c = found_without
