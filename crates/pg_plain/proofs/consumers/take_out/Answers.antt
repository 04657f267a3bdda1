use Rattle.std.proofs.Common.{not, rules}
use Rattle.std.proofs.lemmas.Fn.{filter_same}
use Rattle.pg_model.specs.Broker.{same_id}
use Rattle.pg_plain.proofs.consumers.take_out.Goals as goal

pub returns : goal.returns
returns c = filter_same _ (λ other. not (same_id other c.args.id)) _ (λ x b f' k. search rules) _ _ c.retain.ensures.filtered
