use Rattle.std.proofs.Common.{Some, false, refl, ℕ}
use Rattle.pg_disk.specs.declared.call_record.CallKind.TheVariants as kind
use Rattle.pg_disk.specs.Calls.{Reads}
use Rattle.pg_disk.specs.Image.{Leaves}
use Rattle.pg_disk.specs.MemSite.{events_of, account_of, tells_of}
use Rattle.pg_disk.specs.Replay.{unchanged}
use Rattle.pg_disk.proofs.Effects.{reads_none}
use Rattle.pg_disk.proofs.SiteLemmas.{settled_step, settled_time, answers_call}
use Rattle.pg_disk.proofs.memory_site.MemSiteDisk.length.Goals as goal

pub returns-clause-same : goal.returns-clause-same
returns-clause-same c =
    let m = c.args.self.now in
    let kept = reads_none (account_of m) in
    settled_step (events_of m) c.length-outcome.new.self.history.events.items (Some (kind.Length c.args.file)) false (λ _. unchanged) c.length-outcome.result c.call_succeeds-done.result _ _ _ _ c.settle.result c.length-outcome.ensures.recorded c.settle.ensures
    (λ _. Reads 0) (λ _. kept) kept

pub returns-clause-time : goal.returns-clause-time
returns-clause-time c =
    let m = c.args.self.now in
    settled_time (events_of m) c.length-outcome.new.self.history.events.items (Some (kind.Length c.args.file)) false (λ _. unchanged) c.length-outcome.result c.call_succeeds-done.result _ _ _ _ c.settle.result c.length-outcome.ensures.recorded c.settle.ensures
    (Leaves (tells_of m)) (λ b is d t left. left) (λ b is d t left. left)

pub returns-clause-answer : goal.returns-clause-answer
returns-clause-answer c =
    let m = c.args.self.now in
    answers_call m _ (kind.Length c.args.file) (λ (_ : ℕ). unchanged) c.length-outcome.result c.call_succeeds-done.result _ _ c.settle.result c.length-outcome.ensures.recorded c.settle.ensures c.call_succeeds-done.ensures
    (λ v is was q. refl) (λ v is was. refl)
