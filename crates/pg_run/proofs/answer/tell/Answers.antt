use Rattle.pg_run.proofs.AnswerLemmas.{told_within}
use Rattle.pg_run.proofs.answer.tell.Goals as goal

pub returns-then-is_err-clause-any_moment : goal.returns-then-is_err-clause-any_moment
returns-then-is_err-clause-any_moment g c =
    told_within g.S.Disk c.args.site.now (g.met.S.Disk.only_now c.args.site.now) c.args.line.now c.emit.new.self c.emit.ensures.time

pub returns-clause-any_moment : goal.returns-clause-any_moment
returns-clause-any_moment g c =
    told_within g.S.Disk c.args.site.now (g.met.S.Disk.only_now c.args.site.now) c.args.line.now c.emit.new.self c.emit.ensures.time
