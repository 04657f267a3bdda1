use Rattle.std.proofs.Common.{◌≡◌, set, sym, ap, ◌∙◌}
use Rattle.std.proofs.lemmas.List.Edits.{map_over_more}
use Rattle.pg_model.specs.Changes.{without_id}
use Rattle.pg_plain.specs.Kept.{with_flight}
use Rattle.pg_plain.proofs.consumers.let_go_in.Goals as goal

pub loop-consumer-preserved : goal.loop-consumer-preserved
loop-consumer-preserved c =
    let one = c.consumer-item.result in
    let change = with_flight c.args.name.now (without_id c.args.id) in
    let changed : c.let_go_at.new.consumer ≡ change one = c.let_go_at.ensures ∙ ap change (sym c.consumer-item.is) in
    ap (set c.loop-consumer.consumers c.loop-consumer.consumer-index) changed
    ∙ map_over_more change c.args.consumers.now c.loop-consumer.consumers c.loop-consumer.consumer-index one c.loop-consumer-test.true c.loop-consumer.invariant c.consumer-item.is
