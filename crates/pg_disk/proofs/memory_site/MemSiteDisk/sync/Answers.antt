use Rattle.std.proofs.Common.{Some, false, refl}
use Rattle.std.specs.FinMap.{get}
use Rattle.pg_disk.specs.declared.call_record.CallKind.TheVariants as kind
use Rattle.pg_disk.specs.Calls.{ChangesFile, There, Synced}
use Rattle.pg_disk.specs.Image.{Leaves}
use Rattle.pg_disk.specs.MemSite.{events_of, account_of, tells_of}
use Rattle.pg_disk.specs.Replay.{after_sync, synced_file}
use Rattle.pg_disk.proofs.Effects.{honest, synced_is, changed_is, same_file, there_same, leaves_synced, content_changed, told_changed}
use Rattle.pg_disk.proofs.ContentLemmas.{bytes-synced}
use Rattle.pg_disk.proofs.SiteLemmas.{settled_step, settled_time, answers_call}
use Rattle.pg_disk.proofs.memory_site.MemSiteDisk.sync.Goals as goal

pub returns-clause-step : goal.returns-clause-step
returns-clause-step c =
    let m = c.args.self.now in
    let f = c.args.file in
    let there = c.requires (honest (events_of m)) in
    settled_step (events_of m) c.sync-outcome.new.self.history.events.items (Some (kind.Sync f)) false (after_sync f) c.sync-outcome.result c.call_succeeds-done.result _ _ _ _ c.settle.result c.sync-outcome.ensures c.settle.ensures
    (λ b. ChangesFile f (There (Synced b))) (λ b. changed_is f (synced_file b) (Synced b) (account_of m) there.0 there.1 (synced_is b there.0)) (same_file f (There (Synced false)) (account_of m) (there_same (Synced false) _ there.0 there.1 (synced_is false there.0)))

pub returns-clause-time : goal.returns-clause-time
returns-clause-time c =
    let m = c.args.self.now in
    let f = c.args.file in
    settled_time (events_of m) c.sync-outcome.new.self.history.events.items (Some (kind.Sync f)) false (after_sync f) c.sync-outcome.result c.call_succeeds-done.result _ _ _ _ c.settle.result c.sync-outcome.ensures c.settle.ensures
    (Leaves (tells_of m)) (λ b is d t left. leaves_synced (events_of m) f b d t left) (λ b is d t left. leaves_synced (events_of m) f b d t left)

pub returns-clause-answer : goal.returns-clause-answer
returns-clause-answer c =
    let m = c.args.self.now in
    let f = c.args.file in
    let done = c.call_succeeds-done.result in
    answers_call m _ (kind.Sync f) (λ _. after_sync f done) c.sync-outcome.result done _ _ c.settle.result c.sync-outcome.ensures c.settle.ensures c.call_succeeds-done.ensures
    (λ v is was q. content_changed f (synced_file done) (account_of m) (get (account_of m).files f) refl (bytes-synced done) q)
    (λ v is was. told_changed f (synced_file done) (account_of m) (get (account_of m).files f))
