use Rattle.std.proofs.Common.{◌≡◌, refl}
use Rattle.std.specs.FinMap.{get}
use Rattle.pg_disk.specs.declared.call_record.Event.TheVariants as event
use Rattle.pg_disk.specs.Contents.{HasContents}
use Rattle.pg_disk.specs.Replay.{start, replay, synced_file}
use Rattle.pg_disk.proofs.ContentLemmas.{changed_contents, told_changed, bytes-synced}
use Rattle.pg_disk.proofs.PushLemmas.{by_push}
use Rattle.pg_disk.proofs.memory_state.MemoryState.sync.Goals as goal

pub invariant_of-self : goal.invariant_of-self
invariant_of-self c =
    let s = c.args.self.now in
    let a = replay start s.history.events.items in
    let e = event.Sync c.args.file c.args.done in
    record {
      contents_of_history = by_push c.push.result (λ b. HasContents s.contents b.files) s.history.events.items _ e c.push.ensures.ok c.push.ensures.err
          (changed_contents s.contents a c.args.file (synced_file c.args.done) (get a.files c.args.file) refl s.contents_of_history (bytes-synced c.args.done)) s.contents_of_history;
      told_of_history = by_push c.push.result (λ b. s.told.items ≡ b.told) s.history.events.items _ e c.push.ensures.ok c.push.ensures.err
          (told_changed c.args.file (synced_file c.args.done) a (get a.files c.args.file) s.told_of_history) s.told_of_history;
    }
