use Rattle.std.proofs.Common.{ap, List, ℕ}
use Rattle.std.specs.FinMap.{get}
use Rattle.std.specs.BTreeMap as tree
use Rattle.pg_disk.specs.declared.call_record.Event.TheVariants as event
use Rattle.pg_disk.specs.Files.{file_cmp}
use Rattle.pg_disk.specs.Replay.{start, replay, after_write, written_file}
use Rattle.pg_disk.proofs.ContentLemmas.{contents_by, told_by, told_changed, room_for}
use Rattle.pg_disk.proofs.memory_state.MemoryState.write.Goals as goal

pub overwrite_in-requires : goal.overwrite_in-requires
overwrite_in-requires c =
    let s = c.args.self.now in
    let there = c.requires in
    room_for (tree.get file_cmp s.contents c.args.file) (get (replay start s.history.events.items).files c.args.file) there.0 c.args.at (s.contents_of_history c.args.file) there.1 there.2

pub invariant_of-self-2 : goal.invariant_of-self-2
invariant_of-self-2 c =
    let s = c.args.self.now in
    let a = replay start s.history.events.items in
    let change = after_write c.args.file c.args.at c.args.bytes.now c.args.done in
    let e = event.Write c.args.file c.args.at c.in_ok-copy.copy c.args.done in
    record {
      contents_of_history = contents_by s.contents c.overwrite_in.new.contents change s.history.events.items _ _ e c.reserve.ensures.same c.add.ensures (λ a. ap (λ (l : List ℕ). after_write c.args.file c.args.at l c.args.done a) c.in_ok-copy.ensures.items) c.in_ok-overwrite_in.ensures.ok s.contents_of_history;
      told_of_history = told_by s.told.items change s.history.events.items _ _ e c.reserve.ensures.same c.add.ensures (λ a. ap (λ (l : List ℕ). after_write c.args.file c.args.at l c.args.done a) c.in_ok-copy.ensures.items)
          (told_changed c.args.file (written_file c.args.at c.args.bytes.now c.args.done) a (get a.files c.args.file) s.told_of_history);
    }
