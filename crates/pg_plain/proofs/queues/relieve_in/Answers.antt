use Rattle.std.proofs.Common.{◌≡◌, set, sym, ap, ◌∙◌}
use Rattle.std.proofs.lemmas.List.Edits.{map_over_more}
use Rattle.pg_model.specs.Changes.{relieved}
use Rattle.pg_plain.proofs.queues.relieve_in.Goals as goal

pub loop-queue-preserved : goal.loop-queue-preserved
loop-queue-preserved c =
    let one = c.queue-item.result in
    let change = relieved c.args.number c.args.id in
    let changed : c.relieve_one.new.queue ≡ change one = c.relieve_one.ensures ∙ ap change (sym c.queue-item.is) in
    ap (set c.loop-queue.queues c.loop-queue.queue-index) changed
    ∙ map_over_more change c.args.queues.now c.loop-queue.queues c.loop-queue.queue-index one c.loop-queue-test.true c.loop-queue.invariant c.queue-item.is
