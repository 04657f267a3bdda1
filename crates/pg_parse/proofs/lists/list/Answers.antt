use Rattle.std.proofs.Common.{subst}
use Rattle.std.proofs.lemmas.Result.{err_from_is_err_and}
use Rattle.pg_parse.specs.Parsing.{Gives, items, listed}
use Rattle.pg_parse.proofs.Leaves.{list_read, list_unclosed, list_fault, list_unopened}
use Rattle.pg_parse.proofs.lists.list.Goals as goal

pub returns-in_default : goal.returns-in_default
returns-in_default c = list_unopened c.args.words.now c.in_default.ensures

pub returns-in_err-texts : goal.returns-in_err-texts
returns-in_err-texts c = let p = err_from_is_err_and c.from_residual.result c.from_residual.ensures.1 in rw (p.1, p.2) (rw c.in-Some.ensures (list_fault c.in-Some.inner.now c.in_err-texts.field-0.0 c.in_err-texts.ensures))

pub returns-in_default-behind : goal.returns-in_default-behind
returns-in_default-behind c = rw c.in-Some.ensures (list_unclosed c.in-Some.inner.now c.in_ok-texts.texts c.in_ok-texts.rest.now c.in_ok-texts.ensures c.in_default-behind.ensures)

pub returns : goal.returns
returns c =
    let inside = subst (λ rest. Gives items listed c.in-Some.inner.now c.in_ok-texts.texts rest) c.in-Some-behind.ensures c.in_ok-texts.ensures in
    rw c.in-Some.ensures (list_read c.in-Some.inner.now c.in_ok-texts.texts c.in-Some-behind.left.now inside)
