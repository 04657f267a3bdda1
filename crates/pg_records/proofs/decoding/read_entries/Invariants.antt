use Rattle.std.proofs.Common.{length}
use Rattle.pg_records.proofs.BatchLaws.{ReadSoFar}
use Rattle.pg_records.proofs.decoding.read_entries.Given as goal

abbrev pub invariant-loop-rest : goal.invariant-loop-rest
invariant-loop-rest l = ReadSoFar l.bytes l.rest l.entries.items

abbrev pub decreases-loop-rest : goal.decreases-loop-rest
decreases-loop-rest l = length l.rest
