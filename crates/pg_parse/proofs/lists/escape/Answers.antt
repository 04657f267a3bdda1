use Rattle.pg_parse.proofs.Leaves.{escape_refused, escape_some}
use Rattle.pg_parse.proofs.lists.escape.Goals as goal

pub returns-in_default-character_next : goal.returns-in_default-character_next
returns-in_default-character_next c = rw c.in-Some.ensures (escape_refused c.in-Some.inner.now c.in_default-character_next.ensures)

pub returns : goal.returns
returns c = rw c.in-Some.ensures (escape_some c.in-Some.inner.now c.in-Some-character_next.c c.in-Some-character_next.rest.now c.in-Some-character_next.ensures)
