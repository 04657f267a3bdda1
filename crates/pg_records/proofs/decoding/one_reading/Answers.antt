use Rattle.std.proofs.Common.{sym, ◌∙◌}
use Rattle.pg_records.proofs.BatchLaws.{same_batch}
use Rattle.pg_records.proofs.decoding.one_reading.Goals as goal

pub returns-clause-spelling : goal.returns-clause-spelling
returns-clause-spelling c = λ entries a b spells_a spells_b. spells_a.bytes ∙ sym spells_b.bytes

pub returns-clause-reading : goal.returns-clause-reading
returns-clause-reading c = λ bytes a b spells_a spells_b. same_batch bytes a b spells_a spells_b
