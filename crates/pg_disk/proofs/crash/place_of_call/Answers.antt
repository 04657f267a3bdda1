use Rattle.std.proofs.Common.{◌≡◌, ◌+◌, cond, length, refl, sym, ◌∙◌, ap, arith}
use Rattle.std.proofs.lemmas.Option.{slice_get_read}
use Rattle.pg_disk.proofs.CrashLemmas.{counts_to}
use Rattle.pg_disk.proofs.crash.place_of_call.Goals as goal
use Rattle.pg_disk.proofs.crash.place_of_call.Goals.{then-is_some+else-calls-number, else-is_some}

pub loop-place-preserved : goal.loop-place-preserved
loop-place-preserved c =
    let there = slice_get_read c.args.events.now (length c.args.events.now) c.loop-place.place c.index-events-place.result refl c.loop-place-test.true c.index-events-place.is in
    let counts = counts_to c.args.events.now c.loop-place.place c.loop-place.calls c.index-events-place.result c.call.result c.is_some.result there c.call.ensures c.is_some.ensures c.loop-place.invariant.0 in
    let none : c.loop-place.calls ≡ c.loop-place.calls + 0 = omega arith in
    elim c.if-is_some.branch [
      | then-is_some+else-calls-number w ↦ (w.calls-is ∙ sym (ap (λ b. c.loop-place.calls + cond b 1 0) w.if-is_some.true) ∙ counts, omega arith)
      | else-is_some w ↦ (w.calls-is ∙ none ∙ sym (ap (λ b. c.loop-place.calls + cond b 1 0) w.if-is_some.false) ∙ counts, omega arith)
    ]
