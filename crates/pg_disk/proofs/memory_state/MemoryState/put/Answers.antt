use Rattle.std.proofs.Common.{ap, List, ℕ, Some}
use Rattle.pg_disk.specs.declared.call_record.Event.TheVariants as event
use Rattle.pg_disk.specs.Replay.{after_put}
use Rattle.pg_disk.proofs.ContentLemmas.{contents_by, told_by, comes_put}
use Rattle.pg_disk.proofs.DerivedOrder.{updates_by}
use Rattle.pg_disk.proofs.memory_state.MemoryState.put.Goals as goal

pub invariant_of-self-2 : goal.invariant_of-self-2
invariant_of-self-2 c =
    let s = c.args.self.now in
    let n = c.insert.new.self in
    let v = c.in_ok-content.content in
    let change = after_put c.args.file c.args.bytes.now in
    let e = event.Put c.args.file c.in_ok-copy.copy in
    record {
      contents_of_history = contents_by s.contents n change s.history.events.items _ _ e c.reserve.ensures.same c.add.ensures (λ a. ap (λ (l : List ℕ). after_put c.args.file l a) c.in_ok-copy.ensures.items)
          (comes_put s.contents n c.args.file v c.args.bytes.now c.in_ok-content.ensures.items (updates_by s.contents n c.args.file (Some v) c.in_ok-insert.ensures.updates)) s.contents_of_history;
      told_of_history = told_by s.told.items change s.history.events.items _ _ e c.reserve.ensures.same c.add.ensures (λ a. ap (λ (l : List ℕ). after_put c.args.file l a) c.in_ok-copy.ensures.items) s.told_of_history;
    }
