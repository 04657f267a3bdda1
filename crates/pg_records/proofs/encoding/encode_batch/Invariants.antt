use Rattle.std.proofs.Common.{◌≡◌, ◌++◌, drop}
use Rattle.pg_records.specs.Entries.{batch_bytes, HaveFields}
use Rattle.pg_records.proofs.encoding.encode_batch.Given as goal

abbrev pub invariant-loop-entry : goal.invariant-loop-entry
invariant-loop-entry l = (l.out ++ batch_bytes (drop l.entry-index l.entries) ≡ batch_bytes l.entries) × HaveFields (drop l.entry-index l.entries)
