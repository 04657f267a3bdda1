use Rattle.pg_eval.proofs.MatchLaws.{match_one, match_some}
use Rattle.pg_eval.proofs.laws.one_match.Goals as goal

pub returns-clause-one : goal.returns-clause-one
returns-clause-one c = match_one

pub returns-clause-some : goal.returns-clause-some
returns-clause-some c = match_some
