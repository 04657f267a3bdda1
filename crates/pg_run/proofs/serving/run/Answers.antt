use Rattle.std.proofs.Common.{ℕ, [], ◌∷◌, subst, sym}
use Rattle.pg_disk.specs.declared.fault.SiteFault.TheVariants.{Disk}
use Rattle.pg_run.specs.declared.run.Stop.TheVariants.{Site}
use Rattle.pg_run.specs.declared.status.Status.TheVariants as ended
use Rattle.pg_run.specs.Ran.{RanOpened}
use Rattle.pg_run.specs.Statuses.{IsAnyBut, status_of}
use Rattle.pg_run.proofs.AnswerLemmas.{err_weaker}
use Rattle.pg_run.proofs.Ending.{status_err}
use Rattle.pg_run.proofs.ServingLemmas.{failed_denoted, opened_ran, spent_unopened, unopened_ran}
use Rattle.pg_run.proofs.serving.run.Goals as goal

pub returns-in_err-engine-clause-ran : goal.returns-in_err-engine-clause-ran
returns-in_err-engine-clause-ran g c = subst
    (λ (n : ℕ). RanOpened g.S.Disk c.args.limits.now (record { old = g.R.Source.rest c.args.source.now; new = g.R.Source.rest c.args.source.now; limit = c.args.limits.now.input }) c.args.site.now c.open.new.disk n)
    (status_err c.from_residual.result (Site (Disk c.in_err-engine.field-0.0)) c.from_residual.ensures.0 c.from_residual.ensures.1)
    (unopened_ran g.S.Disk c.args.site.now c.args.limits.now (g.R.Source.rest c.args.source.now) c.open.new.disk c.in_err-engine.field-0.0
    (spent_unopened g.S.Disk.tells c.args.site.now c.open.new.disk c.args.limits.now.epochs c.in_err-engine.field-0.0 c.in_err-engine.ensures.spent c.in_err-engine.ensures.kept) c.open.ensures.stays c.open.ensures.any_moment)

pub returns-in_err-engine-clause-denoted : goal.returns-in_err-engine-clause-denoted
returns-in_err-engine-clause-denoted g c other =
    failed_denoted g.S.Disk.tells c.args.site.now c.args.limits.now.epochs c.in_err-engine.field-0.0 c.in_err-engine.ensures.spent
    (subst (IsAnyBut (ended.Damaged ∷ ended.DiskFailed ∷ ended.OutOfMemory ∷ [])) (sym (status_err c.from_residual.result (Site (Disk c.in_err-engine.field-0.0)) c.from_residual.ensures.0 c.from_residual.ensures.1)) other)

pub returns-clause-ran : goal.returns-clause-ran
returns-clause-ran g c =
    opened_ran g.S.Disk c.args.site.now c.args.limits.now c.in_ok-engine.engine (record { old = g.R.Source.rest c.args.source.now; new = g.R.Source.rest c.answer_lines.new.source; limit = c.args.limits.now.input })
    c.open.new.disk c.answer_lines.new.site (status_of c.answer_lines.result) c.in_ok-engine.ensures.opens c.open.ensures.stays c.answer_lines.ensures.ran c.open.ensures.any_moment c.in_ok-engine.ensures.once_quiet

pub returns-clause-damaged : goal.returns-clause-damaged
returns-clause-damaged g c = err_weaker _ _ (λ stop never damaged. absurd (never damaged)) c.answer_lines.result c.answer_lines.ensures.never_damaged
