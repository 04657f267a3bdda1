use Rattle.std.proofs.Common.{◌≡◌, ℕ, false, IsTrue, Some, length, Result, IfOk, OnErr, refl, sym, subst}
use Rattle.std.specs.FinMap.{get}
use Rattle.std.specs.declared.alloc.AllocError.{AllocError}
use Rattle.pg_disk.specs.declared.call_record.CallKind.TheVariants as kind
use Rattle.pg_disk.specs.Account.{FileState, IsHonest}
use Rattle.pg_disk.specs.Calls.{Changes, Reads, ReadsAt}
use Rattle.pg_disk.specs.Image.{Leaves}
use Rattle.pg_disk.specs.MemSite.{events_of, account_of, tells_of}
use Rattle.pg_disk.specs.Elapsing.{Elapses}
use Rattle.pg_disk.specs.Recorded.{Recorded}
use Rattle.pg_disk.specs.Replay.{start, replay, after_read, LeftSince}
use Rattle.pg_disk.proofs.Effects.{reads_is, reads_none, leaves_read}
use Rattle.pg_disk.proofs.SiteLemmas.{by_cases, changes_after, changes_same, elapses_after, elapses_none, answers_call}
use Rattle.pg_disk.proofs.memory_site.MemSiteDisk.read.Goals as goal

pub returns-clause-bytes : goal.returns-clause-bytes
returns-clause-bytes c =
    let m = c.args.self.now in
    let new = c.read-outcome.new.self.history.events.items in
    let Reads = λ (n : ℕ). (s : FileState) → get (account_of m).files c.args.file ≡ Some s → ReadsAt c.args.at n s.bytes c.args.buf.now c.read-outcome.new.buf in
    by_cases (λ (n : ℕ). Recorded (events_of m) new (Some (kind.Read c.args.file)) false (after_read n)) (new ≡ events_of m) c.read-outcome.result c.call_succeeds-done.result _ _ _ _ c.settle.result
    (λ r. IfOk r (λ n. IsHonest (tells_of m) → Reads n)) c.read-outcome.ensures.recorded c.settle.ensures
    (λ v is rec was same honest. subst (λ (o : Result ℕ AllocError). IfOk o (λ n. IsTrue c.call_succeeds-done.result → Reads n)) was c.read-outcome.ensures.bytes is)
    (λ v e is rec was same. tt) (λ e same rose. tt)

pub returns-clause-same : goal.returns-clause-same
returns-clause-same c =
    let m = c.args.self.now in
    let new = c.read-outcome.new.self.history.events.items in
    by_cases (λ (n : ℕ). Recorded (events_of m) new (Some (kind.Read c.args.file)) false (after_read n)) (new ≡ events_of m) c.read-outcome.result c.call_succeeds-done.result _ _ _ _ c.settle.result
    (λ r. IfOk r (λ n. Changes (tells_of m) (Some (replay start new)) (Reads n))) c.read-outcome.ensures.recorded c.settle.ensures
    (λ v is rec was same. changes_after (events_of m) new (Some (kind.Read c.args.file)) false (after_read v) rec (Reads v) (reads_is v (account_of m)))
    (λ v e is rec was same. tt) (λ e same rose. tt)

pub returns-clause-same_err : goal.returns-clause-same_err
returns-clause-same_err c =
    let m = c.args.self.now in
    let new = c.read-outcome.new.self.history.events.items in
    by_cases (λ (n : ℕ). Recorded (events_of m) new (Some (kind.Read c.args.file)) false (after_read n)) (new ≡ events_of m) c.read-outcome.result c.call_succeeds-done.result _ _ _ _ c.settle.result
    (λ r. OnErr r (Changes (tells_of m) (Some (replay start new)) (Reads 0))) c.read-outcome.ensures.recorded c.settle.ensures
    (λ v is rec was same. tt)
    (λ v e is rec was same.
    let zero = subst (λ (o : Result ℕ AllocError). IfOk o (λ n. c.call_succeeds-done.result ≡ false → n ≡ 0)) was c.read-outcome.ensures.nothing is in
    changes_after (events_of m) new (Some (kind.Read c.args.file)) false (after_read v) rec (Reads 0) (subst (λ (n : ℕ). Reads 0 (account_of m) (after_read n (account_of m))) (sym zero) (reads_is 0 (account_of m))))
    (λ e same rose. changes_same (events_of m) new (Reads 0) same (reads_none (account_of m)))

pub returns-clause-time : goal.returns-clause-time
returns-clause-time c =
    let m = c.args.self.now in
    let new = c.read-outcome.new.self.history.events.items in
    by_cases (λ (n : ℕ). Recorded (events_of m) new (Some (kind.Read c.args.file)) false (after_read n)) (new ≡ events_of m) c.read-outcome.result c.call_succeeds-done.result _ _ _ _ c.settle.result
    (λ r. Elapses (length (events_of m)) (length new) (LeftSince (events_of m)) (LeftSince new) (Leaves (tells_of m))) c.read-outcome.ensures.recorded c.settle.ensures
    (λ v is rec was same. elapses_after (events_of m) new (Some (kind.Read c.args.file)) false (after_read v) rec (Leaves (tells_of m)) (leaves_read (events_of m) v) (leaves_read (events_of m) v))
    (λ v e is rec was same. elapses_after (events_of m) new (Some (kind.Read c.args.file)) false (after_read v) rec (Leaves (tells_of m)) (leaves_read (events_of m) v) (leaves_read (events_of m) v))
    (λ e same rose. elapses_none (events_of m) new (Leaves (tells_of m)) same)

pub returns-clause-answer : goal.returns-clause-answer
returns-clause-answer c =
    answers_call c.args.self.now _ (kind.Read c.args.file) after_read c.read-outcome.result c.call_succeeds-done.result _ _ c.settle.result c.read-outcome.ensures.recorded c.settle.ensures c.call_succeeds-done.ensures
    (λ v is was q. refl) (λ v is was. refl)
