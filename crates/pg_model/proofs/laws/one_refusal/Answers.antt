use Rattle.pg_model.proofs.CauseLaws.{refused_once}
use Rattle.pg_model.proofs.laws.one_refusal.Goals as goal

pub returns : goal.returns
returns c = refused_once
