use Rattle.std.proofs.Common.{sym, ◌∙◌}
use Rattle.pg_routes.specs.Kept.{takes}
use Rattle.pg_routes.proofs.Takers.{one_left_out, one_taken}
use Rattle.pg_routes.proofs.routing.takers.Goals as goal
use Rattle.pg_routes.proofs.routing.takers.Goals.{then-is_taker+in_ok-push, else-is_taker}

pub loop-id-preserved : goal.loop-id-preserved
loop-id-preserved c =
    let test = takes c.args.queues.now c.args.properties.now in
    elim c.if-is_taker.branch [
      | then-is_taker+in_ok-push w ↦
          rw w.takers-is (rw w.in_ok-push.ensures.items
          (one_taken test c.args.ids.now c.loop-id.takers.items c.loop-id.id-index c.loop-id-test.true c.loop-id.invariant (sym c.is_taker.ensures ∙ w.if-is_taker.true)))
      | else-is_taker w ↦
          rw w.takers-is
          (one_left_out test c.args.ids.now c.loop-id.takers.items c.loop-id.id-index c.loop-id-test.true c.loop-id.invariant (sym c.is_taker.ensures ∙ w.if-is_taker.false))
    ]
