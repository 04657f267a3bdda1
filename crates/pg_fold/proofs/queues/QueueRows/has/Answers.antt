use Rattle.std.proofs.Common.{◌∙◌}
use Rattle.pg_fold.proofs.QueueLemmas.{is_there}
use Rattle.pg_fold.proofs.queues.QueueRows.has.Goals as goal

pub returns : goal.returns
returns c = c.is_some.ensures ∙ is_there c.args.self.now c.args.id c.place_of.result c.place_of.ensures.found c.place_of.ensures.none
