use Rattle.std.proofs.Common.{sym, ◌∙◌, ap, subst, List}
use Rattle.pg_disk.specs.declared.call_record.Event.{Event}
use Rattle.pg_disk.specs.Contents.{HasContents}
use Rattle.pg_disk.specs.Replay.{start, replay}
use Rattle.pg_disk.proofs.ContentLemmas.{no_contents}
use Rattle.pg_disk.proofs.memory_state.MemoryState.new.Goals as goal

pub invariant_of-result : goal.invariant_of-result
invariant_of-result c = record {
  contents_of_history = subst (λ (es : List Event). HasContents c.new-2.result (replay start es).files) (sym c.new.ensures) (no_contents c.new-2.result c.new-2.ensures.empty);
  told_of_history = c.new-3.ensures.items ∙ ap (λ (es : List Event). (replay start es).told) (sym c.new.ensures);
}
