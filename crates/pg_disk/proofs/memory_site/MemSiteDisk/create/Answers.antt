use Rattle.std.proofs.Common.{Some, true, false, refl, inr}
use Rattle.pg_disk.specs.declared.call_record.CallKind.TheVariants as kind
use Rattle.pg_disk.specs.Calls.{ChangesFile, Created}
use Rattle.pg_disk.specs.Image.{LeavesAt, MayBeCreated}
use Rattle.pg_disk.specs.MemSite.{events_of, account_of, tells_of}
use Rattle.pg_disk.specs.Replay.{after_create}
use Rattle.pg_disk.proofs.Effects.{honest, created_is, same_file, leaves_created, content_created, told_created}
use Rattle.pg_disk.proofs.SiteLemmas.{settled_step, settled_time, answers_call}
use Rattle.pg_disk.proofs.memory_site.MemSiteDisk.create.Goals as goal

pub returns-clause-step : goal.returns-clause-step
returns-clause-step c =
    let m = c.args.self.now in
    let f = c.args.file in
    settled_step (events_of m) c.create-outcome.new.self.history.events.items (Some (kind.Create f)) false (after_create f) c.create-outcome.result c.call_succeeds-done.result _ _ _ _ c.settle.result c.create-outcome.ensures c.settle.ensures
    (λ b. ChangesFile f (Created b)) (λ b. created_is f b (account_of m)) (same_file f (Created false) (account_of m) (inr (λ e. cc, refl)))

pub returns-clause-time : goal.returns-clause-time
returns-clause-time c =
    let m = c.args.self.now in
    let f = c.args.file in
    settled_time (events_of m) c.create-outcome.new.self.history.events.items (Some (kind.Create f)) false (after_create f) c.create-outcome.result c.call_succeeds-done.result _ _ _ _ c.settle.result c.create-outcome.ensures c.settle.ensures
    (LeavesAt f MayBeCreated (tells_of m))
    (λ b is d t left. leaves_created (events_of m) f b (c.requires (honest (events_of m))) d t left)
    (λ b is d t left. leaves_created (events_of m) f true (c.requires (honest (events_of m))) d t left)

pub returns-clause-answer : goal.returns-clause-answer
returns-clause-answer c =
    let m = c.args.self.now in
    let f = c.args.file in
    let done = c.call_succeeds-done.result in
    answers_call m _ (kind.Create f) (λ _. after_create f done) c.create-outcome.result done _ _ c.settle.result c.create-outcome.ensures c.settle.ensures c.call_succeeds-done.ensures
    (λ v is was q. content_created f done is (account_of m) q)
    (λ v is was. told_created f done (account_of m))
