use Rattle.std.proofs.Common.{refl}
use Rattle.pg_disk.specs.declared.call_record.Event.TheVariants as event
use Rattle.pg_disk.specs.Replay.{start, replay, after_create}
use Rattle.pg_disk.proofs.ContentLemmas.{contents_by, told_by, told-created}
use Rattle.pg_disk.proofs.memory_state.MemoryState.create.Goals as goal

pub invariant_of-self-2 : goal.invariant_of-self-2
invariant_of-self-2 c =
    let s = c.args.self.now in
    let change = after_create c.args.file c.args.done in
    let e = event.Create c.args.file c.args.done in
    record {
      contents_of_history = contents_by s.contents c.create_in.new.contents change s.history.events.items _ _ e c.reserve.ensures.same c.add.ensures (λ a. refl) c.in_ok-create_in.ensures.ok s.contents_of_history;
      told_of_history = told_by s.told.items change s.history.events.items _ _ e c.reserve.ensures.same c.add.ensures (λ a. refl) (told-created c.args.file c.args.done (replay start s.history.events.items) s.told_of_history);
    }
