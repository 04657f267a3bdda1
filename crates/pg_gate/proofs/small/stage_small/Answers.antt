use Rattle.std.proofs.Common.{◌+◌, length, arith}
use Rattle.pg_disk.proofs.Rewriting.{rewrote_none, then_synced, then_wrote}
use Rattle.pg_gate.proofs.ShortBatch.{framed_size, in_write, in_write_sync, all_staged}
use Rattle.pg_gate.proofs.small.stage_small.Goals as goal

pub returns-in_err-write-clause-any_moment : goal.returns-in_err-write-clause-any_moment
returns-in_err-write-clause-any_moment g c =
    in_write c.args.rest.now c.args.batch.now _ c.fill.ensures.front g.D.Disk c.args.rest.now.file c.args.disk.now (g.met.D.Disk.only_now c.args.disk.now) _ c.write.new.self c.write.ensures.time c.write.ensures.step

pub returns-clause-any_moment : goal.returns-clause-any_moment
returns-clause-any_moment g c =
    search (in_write_sync c.args.rest.now c.args.batch.now _ c.fill.ensures.front g.D.Disk c.args.rest.now.file c.args.disk.now (g.met.D.Disk.only_now c.args.disk.now) c.write.new.self c.write.ensures.time c.in_ok-write.ensures.step)

pub returns-clause-staged : goal.returns-clause-staged
returns-clause-staged g c =
    search (all_staged c.args.rest.now c.args.batch.now _ c.fill.ensures.front g.D.Disk c.args.rest.now.file c.args.disk.now (g.met.D.Disk.only_now c.args.disk.now) c.write.new.self c.write.ensures.time c.in_ok-write.ensures.step)

pub returns-in_err-write-clause-all_else : goal.returns-in_err-write-clause-all_else
returns-in_err-write-clause-all_else g c =
    then_wrote c.args.rest.now.file (g.D.Disk.tells c.args.disk.now) (g.D.Disk.tells c.args.disk.now) (g.D.Disk.tells c.write.new.self) (c.args.rest.now.gate + 1) (c.args.rest.now.gate + 10 + length c.args.batch.now) _ _ _
    (rewrote_none c.args.rest.now.file (g.D.Disk.tells c.args.disk.now) (c.args.rest.now.gate + 1) (c.args.rest.now.gate + 10 + length c.args.batch.now)) c.write.ensures.step (omega arith) (framed_size c.args.rest.now.gate c.args.batch.now _ c.fill.ensures.front)

pub returns-clause-all_else : goal.returns-clause-all_else
returns-clause-all_else g c =
    then_synced c.args.rest.now.file (g.D.Disk.tells c.args.disk.now) (g.D.Disk.tells c.write.new.self) (g.D.Disk.tells c.sync.new.self) (c.args.rest.now.gate + 1) (c.args.rest.now.gate + 10 + length c.args.batch.now) _
    (then_wrote c.args.rest.now.file (g.D.Disk.tells c.args.disk.now) (g.D.Disk.tells c.args.disk.now) (g.D.Disk.tells c.write.new.self) (c.args.rest.now.gate + 1) (c.args.rest.now.gate + 10 + length c.args.batch.now) _ _ _
    (rewrote_none c.args.rest.now.file (g.D.Disk.tells c.args.disk.now) (c.args.rest.now.gate + 1) (c.args.rest.now.gate + 10 + length c.args.batch.now)) c.write.ensures.step (omega arith) (framed_size c.args.rest.now.gate c.args.batch.now _ c.fill.ensures.front)) c.sync.ensures.step
