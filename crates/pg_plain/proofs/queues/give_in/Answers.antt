use Rattle.std.proofs.Common.{◌≡◌, set, sym, ap, ◌∙◌}
use Rattle.std.proofs.lemmas.List.Edits.{map_over_more}
use Rattle.pg_model.specs.Changes.{given_to}
use Rattle.pg_plain.proofs.queues.give_in.Goals as goal

pub loop-queue-preserved : goal.loop-queue-preserved
loop-queue-preserved c =
    let one = c.queue-item.result in
    let change = given_to c.args.numbers.now c.args.message.now in
    let changed : c.give_to.new.queue ≡ change one = c.in_ok-give_to.ensures ∙ ap change (sym c.queue-item.is) in
    ap (set c.loop-queue.queues c.loop-queue.queue-index) changed
    ∙ map_over_more change c.args.queues.now c.loop-queue.queues c.loop-queue.queue-index one c.loop-queue-test.true c.loop-queue.invariant c.queue-item.is
