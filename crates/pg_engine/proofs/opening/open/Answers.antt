use Rattle.pg_engine.proofs.OpeningLemmas.{epoch_from, epoch_moments, opened_at}
use Rattle.pg_engine.proofs.opening.open.Goals as goal

pub returns-in_err-parts-clause-any_moment : goal.returns-in_err-parts-clause-any_moment
returns-in_err-parts-clause-any_moment g c =
    epoch_moments g.D.Disk c.args.disk.now c.recover.new.disk c.recover.ensures.any_moment

pub returns-in_err-new-clause-any_moment : goal.returns-in_err-new-clause-any_moment
returns-in_err-new-clause-any_moment g c =
    epoch_moments g.D.Disk c.args.disk.now c.recover.new.disk c.recover.ensures.any_moment

pub returns-clause-opens : goal.returns-clause-opens
returns-clause-opens g c =
    opened_at c.args.limits.now.ids (g.D.Disk.tells c.args.disk.now) (g.D.Disk.tells c.recover.new.disk) c.in_ok-parts.parts c.in_ok-new.field-0 c.in_ok-new.ensures c.recover.ensures.stays c.in_ok-parts.ensures.recovered c.in_ok-parts.ensures.paged c.in_ok-parts.ensures.named c.in_ok-parts.ensures.well c.in_ok-parts.ensures.roomy

pub returns-clause-any_moment : goal.returns-clause-any_moment
returns-clause-any_moment g c =
    epoch_moments g.D.Disk c.args.disk.now c.recover.new.disk c.recover.ensures.any_moment

pub returns-clause-once_quiet : goal.returns-clause-once_quiet
returns-clause-once_quiet g c =
    epoch_from g.D.Disk c.args.disk.now c.recover.new.disk c.in_ok-parts.ensures.once_quiet
