use Rattle.std.proofs.Common.{None, true}
use Rattle.pg_disk.specs.Calls.{Emits}
use Rattle.pg_disk.specs.Image.{LeavesPrefix}
use Rattle.pg_disk.specs.MemSite.{events_of, account_of, tells_of}
use Rattle.pg_disk.specs.Replay.{after_emit}
use Rattle.pg_disk.proofs.Effects.{emits_is, emits_none, leaves_emitted}
use Rattle.pg_disk.proofs.SiteLemmas.{settled_step, settled_time, answers_emit}
use Rattle.pg_disk.proofs.memory_site.MemSiteSite.emit.Goals as goal

pub returns-clause-step : goal.returns-clause-step
returns-clause-step c =
    let m = c.args.self.now in
    settled_step (events_of m) c.emit-outcome.new.self.history.events.items None true (after_emit c.args.bytes.now) c.emit-outcome.result c.emit_succeeds-done.result _ _ _ _ c.settle.result c.emit-outcome.ensures c.settle.ensures
    (Emits c.args.bytes.now) (λ b. emits_is c.args.bytes.now b (account_of m)) (emits_none c.args.bytes.now (account_of m))

pub returns-clause-time : goal.returns-clause-time
returns-clause-time c =
    let m = c.args.self.now in
    settled_time (events_of m) c.emit-outcome.new.self.history.events.items None true (after_emit c.args.bytes.now) c.emit-outcome.result c.emit_succeeds-done.result _ _ _ _ c.settle.result c.emit-outcome.ensures c.settle.ensures
    (LeavesPrefix c.args.bytes.now (tells_of m)) (λ b is d t left. leaves_emitted (events_of m) c.args.bytes.now b d t left) (λ b is d t left. leaves_emitted (events_of m) c.args.bytes.now b d t left)

pub returns-clause-answer : goal.returns-clause-answer
returns-clause-answer c = answers_emit c.args.self.now _ c.args.bytes.now c.emit-outcome.result c.emit_succeeds-done.result _ _ c.settle.result c.emit-outcome.ensures c.settle.ensures c.emit_succeeds-done.ensures
