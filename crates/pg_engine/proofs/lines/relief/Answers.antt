use Rattle.std.proofs.Common.{Some, option_map, Bor, ◌≡◌, refl, ap, sym, ◌∙◌}
use Rattle.std.specs.Prelude.{find}
use Rattle.std.proofs.lemmas.List.Elements.{recursion_from_All}
use Rattle.pg_msg.specs.Messages.{HasFields}
use Rattle.pg_fold.specs.declared.rows.JournaledRow.{JournaledRow}
use Rattle.pg_fold.specs.Rows.{same_id}
use Rattle.pg_engine.proofs.LineLemmas.{has_row, row_there}
use Rattle.pg_engine.proofs.LookupLemmas.{row_of}
use Rattle.pg_engine.proofs.lines.relief.Goals as goal

pub unwrap-row-requires : goal.unwrap-row-requires
unwrap-row-requires c = row_there c.args.rows.now c.args.id c.get.result c.get.ensures (has_row c.args.rows.now c.args.id c.args.queue c.requires.held)

pub bytes_without-requires : goal.bytes_without-requires
bytes_without-requires c =
    let found : Some c.unwrap-row.result.now ≡ find (λ (r : JournaledRow). same_id r.message.id c.args.id) c.args.rows.now = sym (ap (option_map (λ (row : Bor JournaledRow). row.now)) c.unwrap-row.ensures) ∙ c.get.ensures in
    row_of (λ (r : JournaledRow). HasFields r.message) (λ (r : JournaledRow). same_id r.message.id c.args.id) c.args.rows.now c.unwrap-row.result.now (recursion_from_All _ c.args.rows.now c.requires.fields) (sym found)

pub returns : goal.returns
returns c =
    let found : Some c.unwrap-row.result.now ≡ find (λ (r : JournaledRow). same_id r.message.id c.args.id) c.args.rows.now = sym (ap (option_map (λ (row : Bor JournaledRow). row.now)) c.unwrap-row.ensures) ∙ c.get.ensures in
    record { row = c.unwrap-row.result.now; found = sym found; address_is = refl; bytes_are = c.bytes_without.ensures }
