use Rattle.std.proofs.Common.{Some, true, false, refl, inr}
use Rattle.pg_disk.specs.declared.call_record.CallKind.TheVariants as kind
use Rattle.pg_disk.specs.Calls.{ChangesFile, Removed}
use Rattle.pg_disk.specs.Image.{LeavesAt, MayBeRemoved}
use Rattle.pg_disk.specs.MemSite.{events_of, account_of, tells_of}
use Rattle.pg_disk.specs.Replay.{after_remove}
use Rattle.pg_disk.proofs.Effects.{removed_is, same_file, leaves_removed, content_removed, told_removed}
use Rattle.pg_disk.proofs.SiteLemmas.{settled_step, settled_time, answers_call}
use Rattle.pg_disk.proofs.memory_site.MemSiteDisk.remove.Goals as goal

pub returns-clause-step : goal.returns-clause-step
returns-clause-step c =
    let m = c.args.self.now in
    let f = c.args.file in
    settled_step (events_of m) c.remove-outcome.new.self.history.events.items (Some (kind.Remove f)) false (after_remove f) c.remove-outcome.result c.call_succeeds-done.result _ _ _ _ c.settle.result c.remove-outcome.ensures c.settle.ensures
    (λ b. ChangesFile f (Removed b)) (λ b. removed_is f b (account_of m)) (same_file f (Removed false) (account_of m) (inr (λ e. cc, refl)))

pub returns-clause-time : goal.returns-clause-time
returns-clause-time c =
    let m = c.args.self.now in
    let f = c.args.file in
    settled_time (events_of m) c.remove-outcome.new.self.history.events.items (Some (kind.Remove f)) false (after_remove f) c.remove-outcome.result c.call_succeeds-done.result _ _ _ _ c.settle.result c.remove-outcome.ensures c.settle.ensures
    (LeavesAt f MayBeRemoved (tells_of m)) (λ b is d t left. leaves_removed (events_of m) f b d t left) (λ b is d t left. leaves_removed (events_of m) f true d t left)

pub returns-clause-answer : goal.returns-clause-answer
returns-clause-answer c =
    let m = c.args.self.now in
    let f = c.args.file in
    let done = c.call_succeeds-done.result in
    answers_call m _ (kind.Remove f) (λ _. after_remove f done) c.remove-outcome.result done _ _ c.settle.result c.remove-outcome.ensures c.settle.ensures c.call_succeeds-done.ensures
    (λ v is was q. content_removed f done is (account_of m) q)
    (λ v is was. told_removed f done (account_of m))
