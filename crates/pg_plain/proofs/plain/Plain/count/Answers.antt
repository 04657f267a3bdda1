use Rattle.std.proofs.Common.{sym, length}
use Rattle.pg_model.specs.Broker.{Queue}
use Rattle.pg_plain.proofs.StepLemmas.{count_nowhere, none_of}
use Rattle.pg_plain.proofs.plain.Plain.count.Goals as goal

pub returns-in-None : goal.returns-in-None
returns-in-None c = count_nowhere c.args.self c.args.queue.now (none_of (λ (q : Queue). length q.messages) _ (sym c.in-None.ensures))
