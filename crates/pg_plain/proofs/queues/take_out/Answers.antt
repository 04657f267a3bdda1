use Rattle.std.proofs.Common.{not, eqb, rules}
use Rattle.std.proofs.lemmas.Fn.{filter_same}
use Rattle.pg_model.specs.Broker.{Queue}
use Rattle.pg_plain.proofs.queues.take_out.Goals as goal

pub returns : goal.returns
returns c = filter_same _ (λ (q : Queue). not (eqb q.id c.args.id)) _ (λ x b f' k. search rules) _ _ c.retain.ensures.filtered
