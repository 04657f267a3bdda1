use Rattle.std.proofs.Common.{◌∙◌, ◌++◌, ap, List, ℕ}
use Rattle.pg_disk.specs.declared.call_record.Event.TheVariants as event
use Rattle.pg_disk.specs.Replay.{after_told}
use Rattle.pg_disk.proofs.ContentLemmas.{contents_by, told_by}
use Rattle.pg_disk.proofs.memory_state.MemoryState.begin_told.Goals as goal

pub invariant_of-self-2 : goal.invariant_of-self-2
invariant_of-self-2 c =
    let s = c.args.self.now in
    let change = after_told c.args.bytes.now in
    let e = event.Told c.in_ok-copy.copy in
    record {
      contents_of_history = contents_by s.contents s.contents change s.history.events.items _ _ e c.reserve.ensures.same c.add.ensures (λ a. ap (λ (l : List ℕ). after_told l a) c.in_ok-copy.ensures.items) (λ a has. has) s.contents_of_history;
      told_of_history = told_by c.tell.new.told.items change s.history.events.items _ _ e c.reserve.ensures.same c.add.ensures (λ a. ap (λ (l : List ℕ). after_told l a) c.in_ok-copy.ensures.items)
          (c.in_ok-tell.ensures.ok ∙ ap (λ (told : List ℕ). told ++ c.args.bytes.now) s.told_of_history);
    }
