use Rattle.std.proofs.lemmas.Result.{err_from_is_err_and}
use Rattle.pg_parse.proofs.Tails.{null_gives, null_fault}
use Rattle.pg_parse.proofs.named.null_tail.Goals as goal

pub returns-in_err-negated : goal.returns-in_err-negated
returns-in_err-negated c levels = let p = err_from_is_err_and c.from_residual.result c.from_residual.ensures.1 in
    rw (p.1, p.2) (rw (c.in-Some.is, c.in-Some-behind.ensures) (null_fault c.in-Some.name.now levels c.in-Some-behind.inner.now c.in_err-negated.field-0.0 c.in_err-negated.ensures))

pub returns : goal.returns
returns c levels = rw (c.in-Some.is, c.in-Some-behind.ensures, c.in_ok-inverted_if.ensures, c.in_ok-copy.ensures)
    (null_gives c.in-Some.name.now levels c.args.head c.in-Some-behind.inner.now c.in_ok-negated.negated c.in_ok-negated.rest.now c.in_ok-negated.ensures)
