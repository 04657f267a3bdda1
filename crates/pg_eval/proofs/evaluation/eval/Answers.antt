use Rattle.std.proofs.Common.{rules}
use Rattle.pg_eval.specs.Truth.{truth_of}
use Rattle.pg_eval.proofs.evaluation.eval.Goals as goal

pub returns : goal.returns
unfolding truth_of
returns c = search rules
