use Rattle.std.proofs.Common.{arith}
use Rattle.std.proofs.Common.{◌+◌, length}
use Rattle.pg_disk.proofs.Rewriting.{rewrote_none, then_rewrote}
use Rattle.pg_gate.proofs.ShortBatch.{in_stage, can_open, in_opening, all_appended}
use Rattle.pg_gate.proofs.small.append_small.Goals as goal

pub returns-in_err-stage_small-clause-any_moment :
    goal.returns-in_err-stage_small-clause-any_moment
returns-in_err-stage_small-clause-any_moment g c =
    in_stage c.args.rest c.args.batch.now c.args.rest.file g.D.Disk c.args.disk.now c.stage_small.new.disk c.stage_small.ensures.any_moment

pub open-requires : goal.open-requires
open-requires g c =
    can_open c.args.rest c.args.batch.now c.args.rest.file g.D.Disk c.args.disk.now c.stage_small.new.disk c.stage_small.ensures.any_moment c.in_ok-stage_small.ensures.staged c.requires.stands

pub returns-in_err-open-clause-any_moment : goal.returns-in_err-open-clause-any_moment
returns-in_err-open-clause-any_moment g c =
    in_opening c.args.rest c.args.batch.now c.args.rest.file g.D.Disk c.args.disk.now c.stage_small.new.disk c.stage_small.ensures.any_moment c.in_ok-stage_small.ensures.staged c.open.new.disk c.open.ensures.any_moment

pub returns-clause-any_moment : goal.returns-clause-any_moment
returns-clause-any_moment g c =
    in_opening c.args.rest c.args.batch.now c.args.rest.file g.D.Disk c.args.disk.now c.stage_small.new.disk c.stage_small.ensures.any_moment c.in_ok-stage_small.ensures.staged c.open.new.disk c.open.ensures.any_moment

pub returns-clause-appended : goal.returns-clause-appended
returns-clause-appended g c =
    all_appended c.args.rest c.args.batch.now c.args.rest.file g.D.Disk c.args.disk.now c.stage_small.new.disk c.stage_small.ensures.any_moment c.in_ok-stage_small.ensures.staged c.open.new.disk _ (omega arith) c.in_ok-open.ensures.opened

pub returns-in_err-stage_small-clause-all_else : goal.returns-in_err-stage_small-clause-all_else
returns-in_err-stage_small-clause-all_else g c =
    then_rewrote c.args.rest.file (g.D.Disk.tells c.args.disk.now) (g.D.Disk.tells c.args.disk.now) (g.D.Disk.tells c.stage_small.new.disk) c.args.rest.gate (c.args.rest.gate + 1 + length c.args.batch.now + 9) _ _
    (rewrote_none c.args.rest.file (g.D.Disk.tells c.args.disk.now) c.args.rest.gate (c.args.rest.gate + 1 + length c.args.batch.now + 9)) c.stage_small.ensures.all_else (omega arith) (omega arith)

pub returns-in_err-open-clause-all_else : goal.returns-in_err-open-clause-all_else
returns-in_err-open-clause-all_else g c =
    then_rewrote c.args.rest.file (g.D.Disk.tells c.args.disk.now) (g.D.Disk.tells c.stage_small.new.disk) (g.D.Disk.tells c.open.new.disk) c.args.rest.gate (c.args.rest.gate + 1 + length c.args.batch.now + 9) _ _
    (then_rewrote c.args.rest.file (g.D.Disk.tells c.args.disk.now) (g.D.Disk.tells c.args.disk.now) (g.D.Disk.tells c.stage_small.new.disk) c.args.rest.gate (c.args.rest.gate + 1 + length c.args.batch.now + 9) _ _
    (rewrote_none c.args.rest.file (g.D.Disk.tells c.args.disk.now) c.args.rest.gate (c.args.rest.gate + 1 + length c.args.batch.now + 9)) c.stage_small.ensures.all_else (omega arith) (omega arith)) c.open.ensures.all_else (omega arith) (omega arith)

pub returns-clause-all_else : goal.returns-clause-all_else
returns-clause-all_else g c =
    then_rewrote c.args.rest.file (g.D.Disk.tells c.args.disk.now) (g.D.Disk.tells c.stage_small.new.disk) (g.D.Disk.tells c.open.new.disk) c.args.rest.gate (c.args.rest.gate + 1 + length c.args.batch.now + 9) _ _
    (then_rewrote c.args.rest.file (g.D.Disk.tells c.args.disk.now) (g.D.Disk.tells c.args.disk.now) (g.D.Disk.tells c.stage_small.new.disk) c.args.rest.gate (c.args.rest.gate + 1 + length c.args.batch.now + 9) _ _
    (rewrote_none c.args.rest.file (g.D.Disk.tells c.args.disk.now) c.args.rest.gate (c.args.rest.gate + 1 + length c.args.batch.now + 9)) c.stage_small.ensures.all_else (omega arith) (omega arith)) c.open.ensures.all_else (omega arith) (omega arith)
