use Rattle.std.proofs.Common.{length, refl}
use Rattle.std.proofs.lemmas.Option.{slice_get_read}
use Rattle.pg_disk.proofs.RedoLemmas.{follows_next}
use Rattle.pg_disk.proofs.crash.redone.Goals as goal

pub loop-event-preserved : goal.loop-event-preserved
loop-event-preserved c =
    let es = c.args.events.now in
    follows_next c.args.pick c.loop-event.remains c.redo.new.self es c.loop-event.event-index c.event-item.result
    (slice_get_read es (length es) c.loop-event.event-index c.event-item.result refl c.loop-event-test.true c.event-item.is) c.in_ok-redo.ensures c.loop-event.invariant
