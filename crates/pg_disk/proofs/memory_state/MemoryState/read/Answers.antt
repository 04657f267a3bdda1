use Rattle.std.proofs.Common.{◌≡◌}
use Rattle.pg_disk.specs.declared.call_record.Event.TheVariants as event
use Rattle.pg_disk.specs.Contents.{HasContents}
use Rattle.pg_disk.proofs.PushLemmas.{by_push}
use Rattle.pg_disk.proofs.memory_state.MemoryState.read.Goals as goal

pub invariant_of-self : goal.invariant_of-self
invariant_of-self c =
    let s = c.args.self.now in
    let e = event.Read c.args.file _ in
    record {
      contents_of_history = by_push c.push.result (λ b. HasContents s.contents b.files) s.history.events.items _ e c.push.ensures.ok c.push.ensures.err s.contents_of_history s.contents_of_history;
      told_of_history = by_push c.push.result (λ b. s.told.items ≡ b.told) s.history.events.items _ e c.push.ensures.ok c.push.ensures.err s.told_of_history s.told_of_history;
    }
