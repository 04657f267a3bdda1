use Rattle.std.proofs.lemmas.Result.{err_from_is_err_and}
use Rattle.pg_parse.proofs.Leaves.{pattern_read, pattern_fault, pattern_fault_next}
use Rattle.pg_parse.proofs.lists.pattern.Goals as goal

pub returns-in_err-text : goal.returns-in_err-text
returns-in_err-text c = let p = err_from_is_err_and c.from_residual.result c.from_residual.ensures.1 in rw (p.1, p.2) (pattern_fault c.args.words.now c.in_err-text.field-0.0 c.in_err-text.ensures)

pub returns-in_err-escape : goal.returns-in_err-escape
returns-in_err-escape c = let p = err_from_is_err_and c.from_residual-in_err-escape.result c.from_residual-in_err-escape.ensures.1 in
    rw (p.1, p.2) (pattern_fault_next c.args.words.now c.in_ok-text.text c.in_ok-text.rest.now c.in_err-escape.field-0.0 c.in_ok-text.ensures c.in_err-escape.ensures)

pub returns : goal.returns
returns c = pattern_read c.args.words.now c.in_ok-text.text c.in_ok-escape.escape c.in_ok-text.rest.now c.in_ok-escape.left.now c.in_ok-text.ensures c.in_ok-escape.ensures
