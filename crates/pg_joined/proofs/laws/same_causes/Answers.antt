use Rattle.pg_joined.proofs.Causing.{first_broker, first_whole}
use Rattle.pg_joined.proofs.laws.same_causes.Goals as goal

pub returns-clause-of_whole : goal.returns-clause-of_whole
returns-clause-of_whole c = λ view s paged flights action refusal asks first. first_whole view paged flights s action refusal asks first

pub returns-clause-of_broker : goal.returns-clause-of_broker
returns-clause-of_broker c = λ view s paged flights action refusal asks first. first_broker view paged flights s action refusal asks first
