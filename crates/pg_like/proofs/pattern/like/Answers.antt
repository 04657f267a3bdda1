use Rattle.std.proofs.Common.{sym, ◌∙◌}
use Rattle.pg_like.proofs.Passing.{passes_like}
use Rattle.pg_like.proofs.Parts.{exactly}
use Rattle.pg_like.proofs.pattern.like.Goals as goal

pub returns-in-All-clause-exact : goal.returns-in-All-clause-exact
returns-in-All-clause-exact c = exactly _ _ _ (sym c.in-All.ensures)

pub returns-in-Any-clause-value : goal.returns-in-Any-clause-value
returns-in-Any-clause-value c = c.some_end.ensures ∙ sym (passes_like _ _ _ _ c.in-Any.ensures)

pub returns-in-Any-clause-exact : goal.returns-in-Any-clause-exact
returns-in-Any-clause-exact c = exactly _ _ _ (c.some_end.ensures ∙ sym (passes_like _ _ _ _ c.in-Any.ensures))

pub returns-in-Nowhere-clause-exact : goal.returns-in-Nowhere-clause-exact
returns-in-Nowhere-clause-exact c = exactly _ _ _ (sym c.in-Nowhere.ensures)
