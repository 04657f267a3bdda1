use Rattle.std.proofs.Common.{inr, ◌∙◌, arith}
use Rattle.pg_run.proofs.ServingLemmas.{completes, input_served}
use Rattle.pg_run.proofs.serving.serve.Goals as goal

pub returns-in-Ok-clause-served : goal.returns-in-Ok-clause-served
returns-in-Ok-clause-served g c _ honest =
    let is = c.in-Ok.ensures.denoted ((λ e. omega (arith, e)), ((λ e. omega (arith, e)), ((λ e. omega (arith, e)), tt))) honest in
    input_served g.S.Disk c.args.limits.now (record { old = g.R.Source.rest c.args.source.now; new = g.R.Source.rest c.run.new.source; limit = c.args.limits.now.input }) c.args.site.now c.run.new.site c.in-Ok.ensures.ran honest is.0 is.1

pub returns-in-Err-clause-complete : goal.returns-in-Err-clause-complete
returns-in-Err-clause-complete g c spared =
    inr (c.stop_code.ensures ∙ completes g.S.Disk c.args.limits.now (record { old = g.R.Source.rest c.args.source.now; new = g.R.Source.rest c.run.new.source; limit = c.args.limits.now.input }) c.args.site.now c.run.new.site
    (record { site_old = g.S.Disk.faults c.args.site.now; site_new = g.S.Disk.faults c.run.new.site; source_old = g.R.Source.faults c.args.source.now; source_new = g.R.Source.faults c.run.new.source })
    spared c.in-Err.stop c.in-Err.ensures.cause (λ is. (c.in-Err.ensures.damaged is).0) c.in-Err.ensures.ran)
