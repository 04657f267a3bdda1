use Rattle.std.proofs.Common.{not, rules}
use Rattle.std.proofs.lemmas.Fn.{filter_same}
use Rattle.pg_model.specs.Broker.{same_id}
use Rattle.pg_plain.proofs.queues.take_message.Goals as goal

pub returns : goal.returns
returns c = filter_same _ (λ m. not (same_id m.id c.args.id)) _ (λ x b f' k. search rules) _ _ c.retain.ensures.filtered
