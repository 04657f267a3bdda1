use Rattle.std.proofs.Common.{not, rules}
use Rattle.std.proofs.lemmas.Fn.{filter_same}
use Rattle.std.specs.Str.{bytes_eq}
use Rattle.pg_model.specs.Broker.{Consumer}
use Rattle.pg_plain.proofs.consumers.close.Goals as goal

pub returns : goal.returns
returns c = filter_same _ (λ (one : Consumer). not (bytes_eq c.args.name.now one.name)) _ (λ x b f' k. search rules) _ _ c.retain.ensures.filtered
