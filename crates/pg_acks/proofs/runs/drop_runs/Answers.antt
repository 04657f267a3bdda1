use Rattle.std.proofs.Common.{eqb, not, rules}
use Rattle.std.proofs.lemmas.Map.Made.{filter_same_pairs}
use Rattle.pg_acks.proofs.runs.drop_runs.Goals as goal

pub returns-clause-left : goal.returns-clause-left
returns-clause-left c = filter_same_pairs _ (λ run. not (eqb run.0.0.0 c.args.queue)) _ (λ k v b w f' t. search rules) _ _ c.retain.ensures.filtered
