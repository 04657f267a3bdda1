use Rattle.std.proofs.Common.{◌≡◌, ◌∙◌, ap, sym, subst, arith}
use Rattle.std.proofs.lemmas.Grind.{common_steps}
use Rattle.std.specs.Prelude.{Some, option_map}
use Rattle.pg_flight.specs.declared.names.Row.{Row}
use Rattle.pg_flight.specs.Names.{AreApart, named}
use Rattle.pg_flight.proofs.NamedRows.{all_others, apart, named_by_number, none_named}
use Rattle.pg_flight.proofs.names.Names.queue_of.Goals as goal

pub returns-in_err-number-clause-queue : goal.returns-in_err-number-clause-queue
returns-in_err-number-clause-queue c =
    let inside = c.self.inside in
    let name = c.args.name.now in
    let none = none_named name inside.rows.entries (all_others inside.next inside.rows inside.numbers name c.self.invariant c.in_err-number.ensures.none) in
    c.from_residual.ensures ∙ sym (ap (option_map (λ (row : Row). row.queue)) (ap (named name) (sym c.self.view_is) ∙ none))

pub returns-in_err-number-clause-apart : goal.returns-in_err-number-clause-apart
returns-in_err-number-clause-apart c = subst AreApart c.self.view_is (apart c.self.inside.next c.self.inside.rows c.self.inside.numbers c.self.invariant)

pub returns-clause-queue : goal.returns-clause-queue
returns-clause-queue c =
    let inside = c.self.inside in
    let name = c.args.name.now in
    let its = named_by_number inside.next inside.rows inside.numbers name c.in_ok-number.number c.self.invariant c.in_ok-number.ensures.found in
    let is : named name c.args.self.now ≡ Some c.in_ok-number.ensures.found.row = ap (named name) (sym c.self.view_is) ∙ its in
    grind (arith, common_steps, is, c.in_ok-number.ensures.found.there, c.get.ensures.value, c.in_ok-row.was)

pub returns-clause-apart : goal.returns-clause-apart
returns-clause-apart c = subst AreApart c.self.view_is (apart c.self.inside.next c.self.inside.rows c.self.inside.numbers c.self.invariant)
