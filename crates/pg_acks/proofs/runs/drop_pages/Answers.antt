use Rattle.std.proofs.Common.{eqb, not, rules}
use Rattle.std.proofs.lemmas.Fn.{filter_same}
use Rattle.pg_acks.specs.Keys.{At}
use Rattle.pg_acks.proofs.runs.drop_pages.Goals as goal

pub returns-clause-left : goal.returns-clause-left
returns-clause-left c = filter_same _ (λ (at : At). not (eqb at.0 c.args.queue)) _ (λ x b f' k. search rules) _ _ c.retain.ensures.filtered
