use Rattle.std.proofs.Common.{◌∙◌, ap, Some}
use Rattle.pg_disk.proofs.ContentLemmas.{items_of}
use Rattle.pg_disk.proofs.DerivedOrder.{get_by_file}
use Rattle.pg_disk.proofs.memory_state.MemoryState.content.Goals as goal

pub returns : goal.returns
returns c = ap Some c.as_slice.ensures.value ∙ ap items_of c.in_ok-content.ensures.value ∙ ap items_of (get_by_file c.args.self.now.contents c.args.file) ∙ c.args.self.now.contents_of_history c.args.file
