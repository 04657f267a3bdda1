use Rattle.pg_parse.proofs.Leaves.{not_null_refused, nulls_refused}
use Rattle.pg_parse.proofs.lists.nullness.Goals as goal

pub returns-in_default-behind : goal.returns-in_default-behind
returns-in_default-behind c = rw c.in-Some.ensures (not_null_refused c.in-Some.inner.now c.in_default-behind.ensures)

pub returns-in_default-behind-2 : goal.returns-in_default-behind-2
returns-in_default-behind-2 c = nulls_refused c.args.words.now c.in_default.ensures c.in_default-behind-2.ensures
