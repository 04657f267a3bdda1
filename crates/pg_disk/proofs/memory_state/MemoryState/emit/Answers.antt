use Rattle.std.proofs.Common.{◌∙◌, ◌++◌, ap, List, ℕ}
use Rattle.pg_disk.specs.declared.call_record.Event.TheVariants as event
use Rattle.pg_disk.specs.Replay.{after_emit, if_done}
use Rattle.pg_disk.proofs.ContentLemmas.{contents_by, told_by}
use Rattle.pg_disk.proofs.memory_state.MemoryState.emit.Goals as goal

pub invariant_of-self-2 : goal.invariant_of-self-2
invariant_of-self-2 c =
    let s = c.args.self.now in
    let change = after_emit c.args.bytes.now c.args.done in
    let e = event.Emit c.in_ok-copy.copy c.args.done in
    record {
      contents_of_history = contents_by s.contents s.contents change s.history.events.items _ _ e c.reserve.ensures.same c.add.ensures (λ a. ap (λ (l : List ℕ). after_emit l c.args.done a) c.in_ok-copy.ensures.items) (λ a has. has) s.contents_of_history;
      told_of_history = told_by c.tell.new.told.items change s.history.events.items _ _ e c.reserve.ensures.same c.add.ensures (λ a. ap (λ (l : List ℕ). after_emit l c.args.done a) c.in_ok-copy.ensures.items)
          (c.in_ok-tell.ensures.ok ∙ ap (λ (told : List ℕ). if_done c.args.done (told ++ c.args.bytes.now) told) s.told_of_history);
    }
