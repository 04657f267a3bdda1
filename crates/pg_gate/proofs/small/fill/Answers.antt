use Rattle.std.proofs.Common.{◌∙◌}
use Rattle.pg_gate.proofs.ShortBatch.{is_filled}
use Rattle.pg_gate.proofs.small.fill.Goals as goal

pub returns-clause-front : goal.returns-clause-front
returns-clause-front c =
    is_filled c.args.batch.now c.args.buffer.now c.copy_from_slice.new.self c.copy_from_slice-2.new.self (c.copy_from_slice.ensures.after ∙ c.to_be_bytes.ensures) c.copy_from_slice-2.ensures.after c.requires
