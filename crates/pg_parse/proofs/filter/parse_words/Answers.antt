use Rattle.std.proofs.Common.{arith}
use Rattle.std.proofs.lemmas.Result.{err_from_is_err_and}
use Rattle.pg_parse.proofs.Whole.{fault_refused, fault_only, behind_refused, behind_only, whole_reads, whole_only}
use Rattle.pg_parse.proofs.filter.parse_words.Goals as goal

pub returns-in_err-tree-clause-only : goal.returns-in_err-tree-clause-only
returns-in_err-tree-clause-only c = let p = err_from_is_err_and c.from_residual.result c.from_residual.ensures.1 in rw (p.1, p.2) (fault_only c.args.words.now c.in_err-tree.field-0.0 c.in_err-tree.ensures)

pub returns-in_err-tree-clause-refused : goal.returns-in_err-tree-clause-refused
returns-in_err-tree-clause-refused c = let p = err_from_is_err_and c.from_residual.result c.from_residual.ensures.1 in rw (p.1, p.2) (fault_refused c.args.words.now c.in_err-tree.field-0.0 c.in_err-tree.ensures)

pub returns-then-is_empty-clause-tree : goal.returns-then-is_empty-clause-tree
returns-then-is_empty-clause-tree c = whole_reads c.args.words.now c.in_ok-tree.tree c.in_ok-tree.rest.now (grind arith) c.in_ok-tree.ensures

pub returns-then-is_empty-clause-only : goal.returns-then-is_empty-clause-only
returns-then-is_empty-clause-only c = whole_only c.args.words.now c.in_ok-tree.tree c.in_ok-tree.rest.now (grind arith) c.in_ok-tree.ensures

pub returns-else-is_empty-clause-only : goal.returns-else-is_empty-clause-only
returns-else-is_empty-clause-only c = behind_only c.args.words.now c.in_ok-tree.tree c.in_ok-tree.rest.now (λ e. grind arith) c.in_ok-tree.ensures

pub returns-else-is_empty-clause-refused : goal.returns-else-is_empty-clause-refused
returns-else-is_empty-clause-refused c = behind_refused c.args.words.now c.in_ok-tree.tree c.in_ok-tree.rest.now (λ e. grind arith) c.in_ok-tree.ensures
