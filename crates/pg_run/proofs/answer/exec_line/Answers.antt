use Rattle.std.proofs.Common.{inl, inr, ⊎_elim, None, Some, subst}
use Rattle.pg_text.specs.Spelling.{ReadsAs}
use Rattle.pg_engine.proofs.Executing.{unread}
use Rattle.pg_run.proofs.answer.exec_line.Goals as goal

pub returns-in-None-clause-executes : goal.returns-in-None-clause-executes
returns-in-None-clause-executes g c honest =
    inr (
      None,
      subst (λ o. ReadsAs c.args.line.now o) c.in-None.is c.in_ok-command.ensures,
      unread g.D.Disk c.args.disk.now (g.met.D.Disk.only_now c.args.disk.now) c.args.engine (c.requires honest) honest,
    )

pub returns-in-Some-clause-executes : goal.returns-in-Some-clause-executes
returns-in-Some-clause-executes g c honest =
    ⊎_elim (λ nothing. inl nothing) (λ executes. inr (Some c.in-Some.command, subst (λ o. ReadsAs c.args.line.now o) c.in-Some.is c.in_ok-command.ensures, executes)) (c.exec.ensures.executes honest)
