use Rattle.std.proofs.Common.{Some, false, refl}
use Rattle.std.specs.FinMap.{get}
use Rattle.pg_disk.specs.declared.call_record.CallKind.TheVariants as kind
use Rattle.pg_disk.specs.Calls.{ChangesFile, There, Wrote}
use Rattle.pg_disk.specs.Image.{Leaves}
use Rattle.pg_disk.specs.MemSite.{events_of, account_of}
use Rattle.std.proofs.Common.{sym, subst}
use Rattle.pg_disk.specs.Account.{Account}
use Rattle.pg_disk.specs.Replay.{start, replay, after_write, written_file}
use Rattle.pg_disk.proofs.Effects.{honest, wrote_is, wrote_none, changed_is, same_file, there_same, content_changed, told_changed, bytes_unwritten}
use Rattle.pg_disk.proofs.SiteLemmas.{settled_step, settled_time, answers_call}
use Rattle.pg_disk.proofs.memory_site.MemSiteDisk.write.Goals as goal

pub write-outcome-requires : goal.write-outcome-requires
write-outcome-requires c = c.requires (honest (events_of c.args.self.now))

pub returns-clause-step : goal.returns-clause-step
returns-clause-step c =
    let m = c.args.self.now in
    let f = c.args.file in
    let there = c.requires (honest (events_of m)) in
    settled_step (events_of m) c.write-outcome.new.self.history.events.items (Some (kind.Write f)) false (after_write f c.args.at c.args.bytes.now) c.write-outcome.result c.call_succeeds-done.result _ _ _ _ c.settle.result c.write-outcome.ensures c.settle.ensures
    (λ b. ChangesFile f (There (Wrote c.args.at c.args.bytes.now b))) (λ b. changed_is f (written_file c.args.at c.args.bytes.now b) (Wrote c.args.at c.args.bytes.now b) (account_of m) there.0 there.1 (wrote_is c.args.at c.args.bytes.now b there.0 there.2)) (same_file f (There (Wrote c.args.at c.args.bytes.now false)) (account_of m) (there_same (Wrote c.args.at c.args.bytes.now false) _ there.0 there.1 (wrote_none c.args.at c.args.bytes.now there.0)))

pub returns-clause-time : goal.returns-clause-time
returns-clause-time c =
    let m = c.args.self.now in
    let f = c.args.file in
    settled_time (events_of m) c.write-outcome.new.self.history.events.items (Some (kind.Write f)) false (after_write f c.args.at c.args.bytes.now) c.write-outcome.result c.call_succeeds-done.result _ _ _ _ c.settle.result c.write-outcome.ensures c.settle.ensures
    (Leaves (Some (replay start c.write-outcome.new.self.history.events.items))) (λ b is d t left. subst (λ (a : Account). Leaves (Some a) d t) (sym is) left) (λ b is d t left. subst (λ (a : Account). Leaves (Some a) d t) (sym is) left)

pub returns-clause-answer : goal.returns-clause-answer
returns-clause-answer c =
    let m = c.args.self.now in
    let f = c.args.file in
    let done = c.call_succeeds-done.result in
    answers_call m _ (kind.Write f) (λ _. after_write f c.args.at c.args.bytes.now done) c.write-outcome.result done _ _ c.settle.result c.write-outcome.ensures c.settle.ensures c.call_succeeds-done.ensures
    (λ v is was q. content_changed f (written_file c.args.at c.args.bytes.now done) (account_of m) (get (account_of m).files f) refl (bytes_unwritten c.args.at c.args.bytes.now done is) q)
    (λ v is was. told_changed f (written_file c.args.at c.args.bytes.now done) (account_of m) (get (account_of m).files f))
