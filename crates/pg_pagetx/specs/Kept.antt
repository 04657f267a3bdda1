-- How page transactions are kept: by the epochs and numbers of their ids.
use Rattle.std.specs.Prelude.{ℕ, map}
use Rattle.std.specs.BTreeSet.{BTreeSet}
use Rattle.std.specs.declared.cmp.Ordering.{Ordering}
use Rattle.std.specs.Ordering.{nat_cmp, ordering_then}
use Rattle.pg_msg.specs.declared.message.MessageId.{MessageId}
use Rattle.pg_pagetx.specs.Standings.{Transactions}

abbrev pub Key : Type 0
Key = ℕ × ℕ

abbrev pub key_cmp : Key → Key → Ordering
key_cmp a b = ordering_then (nat_cmp a.0 b.0) (nat_cmp a.1 b.1)

abbrev pub id_of : Key → MessageId
id_of key = record { epoch = key.0; number = key.1 }

abbrev pub seen : BTreeSet Key → BTreeSet Key → Transactions
seen committed pending = record { committed = map id_of committed.keys; pending = map id_of pending.keys }
