use Rattle.std.proofs.Common.{sym, ap, ◌∙◌}
use Rattle.pg_fold.specs.Fold.{rule_of}
use Rattle.pg_fold.proofs.durable.Durable.broken_by.Goals as goal

pub returns-in-Queue : goal.returns-in-Queue
returns-in-Queue c = c.broken_by_queue.ensures ∙ ap (rule_of c.args.self.now) (sym c.in-Queue.is)
