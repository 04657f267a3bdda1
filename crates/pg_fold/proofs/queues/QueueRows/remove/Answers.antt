use Rattle.std.proofs.Common.{ap, sym, ◌∙◌}
use Rattle.pg_fold.specs.Rows.{without_queue}
use Rattle.pg_fold.proofs.QueueIndexLemmas.{without_none, without_removed}
use Rattle.pg_fold.proofs.queues.QueueRows.remove.Goals as goal

pub loop-place-preserved : goal.loop-place-preserved
loop-place-preserved c =
    ap (without_queue c.args.id) c.remove_at.ensures
    ∙ without_removed c.loop-place.self c.in-Some.place c.args.id c.in-Some.ensures.found.0 c.in-Some.ensures.found.1
    ∙ c.loop-place.invariant

pub returns : goal.returns
returns c = sym (without_none c.loop-place.self c.args.id c.in_default.ensures.none) ∙ c.loop-place.invariant
