use Rattle.std.proofs.Common.{Some, false, refl}
use Rattle.pg_disk.specs.declared.call_record.CallKind.TheVariants as kind
use Rattle.pg_disk.specs.Calls.{Reads}
use Rattle.pg_disk.specs.Image.{Leaves}
use Rattle.pg_disk.specs.MemSite.{events_of, account_of, tells_of}
use Rattle.pg_disk.specs.Replay.{unchanged}
use Rattle.pg_disk.proofs.Effects.{reads_none}
use Rattle.pg_disk.proofs.SiteLemmas.{changes_after, elapses_after, made_call, kept_by}
use Rattle.pg_disk.proofs.memory_site.MemSiteDisk.list.Goals as goal

pub returns-in-Ok-clause-same : goal.returns-in-Ok-clause-same
returns-in-Ok-clause-same c = changes_after (events_of c.args.self.now) c.list.new.self.history.events.items (Some kind.List) false unchanged c.in-Ok.ensures.recorded (Reads 0) (reads_none (account_of c.args.self.now))

pub returns-in-Ok-clause-time : goal.returns-in-Ok-clause-time
returns-in-Ok-clause-time c = elapses_after (events_of c.args.self.now) c.list.new.self.history.events.items (Some kind.List) false unchanged c.in-Ok.ensures.recorded (Leaves (tells_of c.args.self.now)) (λ d t left. left) (λ d t left. left)

pub returns-in-Ok-clause-answer : goal.returns-in-Ok-clause-answer
returns-in-Ok-clause-answer c = (made_call c.args.self.now _ kind.List unchanged c.in-Ok.ensures.recorded refl, c.if-done.ensures)

pub returns-in-Ok-2-clause-same : goal.returns-in-Ok-2-clause-same
returns-in-Ok-2-clause-same c = changes_after (events_of c.args.self.now) c.list.new.self.history.events.items (Some kind.List) false unchanged c.in-Ok-2.ensures.recorded (Reads 0) (reads_none (account_of c.args.self.now))

pub returns-in-Ok-2-clause-time : goal.returns-in-Ok-2-clause-time
returns-in-Ok-2-clause-time c = elapses_after (events_of c.args.self.now) c.list.new.self.history.events.items (Some kind.List) false unchanged c.in-Ok-2.ensures.recorded (Leaves (tells_of c.args.self.now)) (λ d t left. left) (λ d t left. left)

pub returns-in-Ok-2-clause-answer : goal.returns-in-Ok-2-clause-answer
returns-in-Ok-2-clause-answer c = record {
  named = c.if-done.ensures;
  made = made_call c.args.self.now _ kind.List unchanged c.in-Ok-2.ensures.recorded refl;
  kept = kept_by c.args.self.now _ (Some kind.List) false unchanged c.in-Ok-2.ensures.recorded (λ q. refl) refl;
}
