use Rattle.std.proofs.Common.{◌≡◌, ◌++◌, ◌∷◌, [], sym, subst, ◌∙◌}
use Rattle.std.proofs.lemmas.Result.{err_from_is_err_and}
use Rattle.pg_records.proofs.BatchLaws.{ReadSoFar, shorter, keeps_reading, stops, finishes}
use Rattle.pg_records.proofs.decoding.read_entries.Goals as goal

pub returns-in_err-entry : goal.returns-in_err-entry
returns-in_err-entry c =
    let p = err_from_is_err_and c.from_residual.result c.from_residual.ensures.1 in
    rw (p.1, p.2) (stops c.args.bytes.now c.loop-rest.rest.now c.loop-rest.entries.items c.in_err-entry.field-0.0 c.loop-rest.invariant (sym c.is_empty.ensures ∙ c.loop-rest-test.true) c.in_err-entry.ensures)

pub loop-rest-smaller : goal.loop-rest-smaller
loop-rest-smaller c = shorter c.loop-rest.rest.now (c.in_ok-entry.entry, c.in_ok-entry.behind.now) c.loop-rest.invariant.fits c.in_ok-entry.ensures

pub loop-rest-preserved : goal.loop-rest-preserved
loop-rest-preserved c =
    let pushed : c.push.new.self.items ≡ c.loop-rest.entries.items ++ c.in_ok-entry.entry ∷ [] = rw c.if-is_err.ensures.negation at c.push.ensures.items in
    subst (ReadSoFar c.args.bytes.now c.in_ok-entry.behind.now) (sym pushed)
    (keeps_reading c.args.bytes.now c.loop-rest.rest.now c.loop-rest.entries.items (c.in_ok-entry.entry, c.in_ok-entry.behind.now) c.loop-rest.invariant c.in_ok-entry.ensures)

pub returns : goal.returns
returns c = finishes c.args.bytes.now c.loop-rest.rest.now c.loop-rest.entries.items c.loop-rest.invariant (sym c.is_empty.ensures ∙ c.loop-rest-test.false)
