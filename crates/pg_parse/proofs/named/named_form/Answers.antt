use Rattle.std.proofs.lemmas.Result.{err_from_is_err_and}
use Rattle.pg_parse.proofs.Tails.{in_gives, in_fault, like_gives, like_fault, form_refused, form_unnamed}
use Rattle.pg_parse.proofs.named.named_form.Goals as goal

pub returns-in_default : goal.returns-in_default
returns-in_default c levels head = rw c.in_default.is (form_unnamed levels c.args.words.now c.requires)

pub returns-in_err-texts : goal.returns-in_err-texts
returns-in_err-texts c levels head = let p = err_from_is_err_and c.from_residual.result c.from_residual.ensures.1 in
    rw (p.1, p.2) (rw (c.in-Some.is, c.in-Some-behind.ensures) (in_fault c.in-Some.name.now levels c.in-Some-behind.inner.now c.in_err-texts.field-0.0 c.in_err-texts.ensures))

pub returns-in-Some-behind : goal.returns-in-Some-behind
returns-in-Some-behind c levels head = rw (c.in-Some.is, c.in-Some-behind.ensures, c.in_ok-copy.ensures) (in_gives c.in-Some.name.now levels head c.in-Some-behind.inner.now c.in_ok-texts.texts c.in_ok-texts.rest.now c.in_ok-texts.ensures)

pub returns-in_err-pattern : goal.returns-in_err-pattern
returns-in_err-pattern c levels head = let p = err_from_is_err_and c.from_residual-in_err-pattern.result c.from_residual-in_err-pattern.ensures.1 in
    rw (p.1, p.2) (rw (c.in-Some.is, c.in-Some-behind-2.ensures) (like_fault c.in-Some.name.now levels c.in-Some-behind-2.inner.now c.in_err-pattern.field-0.0 c.in_err-pattern.ensures))

pub returns-in-Some-behind-2 : goal.returns-in-Some-behind-2
returns-in-Some-behind-2 c levels head = rw (c.in-Some.is, c.in-Some-behind-2.ensures, c.in_ok-copy-2.ensures)
    (like_gives c.in-Some.name.now levels head c.in-Some-behind-2.inner.now (c.in_ok-pattern.pattern, c.in_ok-pattern.escape) c.in_ok-pattern.rest.now c.in_ok-pattern.ensures)

pub returns : goal.returns
returns c levels head = form_refused _ levels c.args.words.now c.requires (λ some. c.in_default-behind.ensures) (λ some. c.in_default-behind-2.ensures)
