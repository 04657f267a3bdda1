use Rattle.std.proofs.Common.{◌≡◌, ◌∙◌, Some, sym, ap, arith}
use Rattle.std.proofs.lemmas.Grind.{common_steps}
use Rattle.std.specs.Prelude.{find}
use Rattle.pg_fold.proofs.JournaledLemmas.{all_found, found_none, found_some, matches}
use Rattle.pg_fold.proofs.journaled.JournaledRows.get.Goals as goal

pub returns-in_err-number : goal.returns-in_err-number
returns-in_err-number c =
    let inside = c.self.inside in
    let none = found_none inside.rows inside.numbers c.args.id c.in_err-number.ensures.none inside.rows.entries (all_found inside.next inside.rows inside.numbers c.self.invariant) in
    grind (arith, common_steps, c.from_residual.ensures) ∙ sym none ∙ ap (find (matches c.args.id)) c.self.view_is

pub returns : goal.returns
returns c =
    let inside = c.self.inside in
    let its = c.in_ok-number.ensures.found in
    let some = found_some inside.rows inside.numbers c.args.id c.in_ok-number.number its.0 its.1 inside.rows.entries (all_found inside.next inside.rows inside.numbers c.self.invariant) its.1.there in
    let row : Some c.row.result.now ≡ Some its.0 = grind (arith, common_steps, c.row.ensures, c.get.ensures.value, c.in_ok-held.is, its.1.there) in
    row ∙ sym some ∙ ap (find (matches c.args.id)) c.self.view_is
