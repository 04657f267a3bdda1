use Rattle.std.proofs.Common.{refl}
use Rattle.pg_disk.proofs.Composing.{goes_on, started}
use Rattle.pg_recover.proofs.RemovingLemmas.{all_left, gone_at_ok, not_removed, one_removed, removing_leaves}
use Rattle.pg_recover.proofs.removing.remove_other.Goals as goal

pub remove-requires : goal.remove-requires
remove-requires g c = λ honest. c.requires honest (c.if-is_other.ensures.0 refl)

pub returns-then-is_other-clause-stays : goal.returns-then-is_other-clause-stays
returns-then-is_other-clause-stays g c = one_removed c.args.keep c.args.file (c.if-is_other.ensures.0 refl) (g.D.Disk.tells c.args.disk.now) (g.D.Disk.tells c.remove.new.self) _ c.remove.ensures.step

pub returns-then-is_other-clause-gone : goal.returns-then-is_other-clause-gone
returns-then-is_other-clause-gone g c = gone_at_ok c.args.keep c.args.file (g.D.Disk.tells c.args.disk.now) (g.D.Disk.tells c.remove.new.self) c.remove.result c.remove.ensures.step

pub returns-then-is_other-clause-any_moment : goal.returns-then-is_other-clause-any_moment
returns-then-is_other-clause-any_moment g c =
    goes_on g.D.Disk c.args.disk.now c.args.disk.now c.remove.new.self _ _
    (started g.D.Disk c.args.disk.now _ (λ d b left. all_left c.args.keep (g.D.Disk.tells c.args.disk.now) d b (g.met.D.Disk.only_now c.args.disk.now d b left)))
    c.remove.ensures.time (removing_leaves c.args.keep c.args.file (c.if-is_other.ensures.0 refl) (g.D.Disk.tells c.args.disk.now))

pub returns-else-is_other-clause-stays : goal.returns-else-is_other-clause-stays
returns-else-is_other-clause-stays g c = not_removed c.args.keep c.args.file (g.D.Disk.tells c.args.disk.now)

pub returns-else-is_other-clause-any_moment : goal.returns-else-is_other-clause-any_moment
returns-else-is_other-clause-any_moment g c = started g.D.Disk c.args.disk.now _ (λ d b left. all_left c.args.keep (g.D.Disk.tells c.args.disk.now) d b (g.met.D.Disk.only_now c.args.disk.now d b left))
