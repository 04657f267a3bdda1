use Rattle.std.proofs.lemmas.List.{get_or_default}
use Rattle.pg_msg.specs.Lists.{rows_bytes}
use Rattle.pg_msg.proofs.FieldLaws.{row_bytes, row_chain}
use Rattle.pg_msg.proofs.CountedLoop.{spells_on}
use Rattle.pg_msg.proofs.fields.lists.put_rows.Goals as goal

pub loop-row-preserved : goal.loop-row-preserved
loop-row-preserved c =
    spells_on row_bytes rows_bytes row_chain c.args.rows.now c.loop-row.row-index _ c.args.out.now c.loop-row.out c.put_row.new.out c.loop-row-test.true (get_or_default c.args.rows.now c.loop-row.row-index _ _ c.loop-row-test.true) c.loop-row.invariant c.in_ok-put_row.ensures
