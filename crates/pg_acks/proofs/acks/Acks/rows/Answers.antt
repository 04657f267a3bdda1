use Rattle.std.proofs.Common.{◌≡◌, map, subst}
use Rattle.pg_acks.specs.Acked.{AckSets, AreRowsOf}
use Rattle.pg_acks.specs.Kept.{row_of}
use Rattle.pg_acks.proofs.Ordering.{if_ok_map, rows_told}
use Rattle.pg_acks.proofs.acks.Acks.rows.Goals as goal

pub returns : goal.returns
returns c =
    if_ok_map c.rows_of.result (λ rows. rows.items ≡ map row_of c.self.inside.runs.entries) (λ rows. AreRowsOf c.args.self.now rows.items)
    (λ rows is. subst (λ (acks : AckSets). AreRowsOf acks rows.items) c.self.view_is (rows_told c.self.inside.runs c.self.inside.pages c.self.invariant.singles rows.items is))
    c.rows_of.ensures
