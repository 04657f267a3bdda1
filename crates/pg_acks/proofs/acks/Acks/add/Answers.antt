use Rattle.std.proofs.Common.{◌∙◌, sym}
use Rattle.pg_acks.proofs.Changing.{alone_single, already, one_run}
use Rattle.pg_acks.proofs.acks.Acks.add.Goals as goal

pub returns-then-has_single-clause-ok : goal.returns-then-has_single-clause-ok
returns-then-has_single-clause-ok c = already c.args.self.now c.args.queue c.args.position (sym c.has_single.ensures ∙ c.if-has_single.true)

pub put_run-requires : goal.put_run-requires
put_run-requires c = alone_single c.args.self.now c.args.queue c.args.position (sym c.has_single.ensures ∙ c.if-has_single.false)

pub returns-clause-ok : goal.returns-clause-ok
returns-clause-ok c = c.in_ok-put_run.ensures.ok ∙ one_run c.args.self.now c.args.queue c.args.position
