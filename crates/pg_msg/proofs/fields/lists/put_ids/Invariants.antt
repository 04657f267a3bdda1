use Rattle.std.proofs.Common.{◌≡◌, ◌++◌, drop}
use Rattle.pg_msg.specs.Lists.{ids_bytes}
use Rattle.pg_msg.proofs.fields.lists.put_ids.Given as goal

abbrev pub invariant-loop-id : goal.invariant-loop-id
invariant-loop-id l = l.out ++ ids_bytes (drop l.id-index l.ids) ≡ l.fn.out ++ ids_bytes l.ids
