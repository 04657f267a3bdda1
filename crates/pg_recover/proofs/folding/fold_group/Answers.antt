use Rattle.std.proofs.Common.{subst}
use Rattle.std.proofs.lemmas.Result.{err_from_is_err_and}
use Rattle.pg_recover.specs.Folding.{FoldsPayload}
use Rattle.pg_recover.specs.Places.{payload_from}
use Rattle.pg_recover.proofs.FoldingLemmas.{folds_nothing, span_step, span_broken, spans_done, damage_weaker}
use Rattle.pg_recover.proofs.folding.fold_group.Goals as goal

pub loop-span-init : goal.loop-span-init
loop-span-init c = record { sound = c.requires.sound; so_far = folds_nothing _ }

pub loop-span-preserved : goal.loop-span-preserved
loop-span-preserved c = record {
  sound = c.in_ok-durable.ensures.sound;
  so_far = span_step (payload_from c.args.cover.at c.args.bytes.now) c.args.durable c.loop-span.durable c.args.spans.now c.loop-span.span-index _ c.loop-span-test.true c.loop-span.invariant.so_far c.in_ok-durable.durable
      (subst (λ p. FoldsPayload c.loop-span.durable p c.in_ok-durable.durable) c.payload_in-payload.ensures c.in_ok-durable.ensures.folded);
}

pub returns-in_err-durable-clause-damaged : goal.returns-in_err-durable-clause-damaged
returns-in_err-durable-clause-damaged c =
    let is = err_from_is_err_and c.from_residual.result c.from_residual.ensures.1 in
    rw (is.1, is.2) (damage_weaker _ _ c.in_err-durable.field-0.0
    (λ damage named. span_broken (payload_from c.args.cover.at c.args.bytes.now) c.args.durable c.loop-span.durable c.args.spans.now c.loop-span.span-index _ c.loop-span-test.true c.loop-span.invariant.so_far c.args.file damage _ c.payload_in-payload.ensures named)
    c.in_err-durable.ensures.damaged)

pub returns-clause-folded : goal.returns-clause-folded
returns-clause-folded c = spans_done (payload_from c.args.cover.at c.args.bytes.now) c.args.durable c.loop-span.durable c.args.spans.now c.loop-span.span-index c.loop-span-test.false c.loop-span.invariant.so_far
