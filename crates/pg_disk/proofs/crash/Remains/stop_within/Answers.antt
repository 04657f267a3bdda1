use Rattle.std.proofs.Common.{sym, ◌∙◌}
use Rattle.pg_disk.proofs.RedoLemmas.{redoes_last}
use Rattle.pg_disk.proofs.crash.Remains.stop_within.Goals as goal

pub returns : goal.returns
returns c = redoes_last c.complete.result c.args.pick c.args.self.now c.complete.new.self c.args.event.now (sym c.counts_as_done.ensures ∙ c.if-not-counts_as_done.false) c.complete.ensures
