use Rattle.std.proofs.Common.{arith}
use Rattle.pg_records.proofs.BatchBytes.{spells_next, spells_all, next_fields}
use Rattle.pg_records.proofs.encoding.encode_batch.Goals as goal

pub put_entry-requires : goal.put_entry-requires
put_entry-requires c = (next_fields _ _ _ c.loop-entry-test.true c.entry-item.is c.loop-entry.invariant.1).0

pub loop-entry-preserved : goal.loop-entry-preserved
loop-entry-preserved c = (
  spells_next _ _ _ _ _ c.loop-entry-test.true c.entry-item.is c.loop-entry.invariant.0 c.in_ok-put_entry.ensures,
  (next_fields _ _ _ c.loop-entry-test.true c.entry-item.is c.loop-entry.invariant.1).1,
)

pub returns : goal.returns
returns c = spells_all _ _ _ (omega arith) c.loop-entry.invariant.0
