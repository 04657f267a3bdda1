use Rattle.std.proofs.Common.{rules}
use Rattle.pg_eval.specs.Truth.{is_match}
use Rattle.pg_eval.proofs.evaluation.matches.Goals as goal

pub returns-in-Some : goal.returns-in-Some
unfolding is_match
returns-in-Some c = search rules

pub returns-in-None : goal.returns-in-None
unfolding is_match
returns-in-None c = search rules
