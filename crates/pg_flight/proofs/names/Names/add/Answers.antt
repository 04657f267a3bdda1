use Rattle.std.proofs.Common.{◌≡◌, ◌∙◌, ◌+◌, ◌++◌, ◌∷◌, [], ap, sym, subst, arith}
use Rattle.std.proofs.lemmas.Grind.{common_steps}
use Rattle.std.specs.Prelude.{Some}
use Rattle.std.specs.String.{string_bytes}
use Rattle.pg_flight.specs.declared.names.Row.{Row}
use Rattle.pg_flight.specs.Names.{AreNumbered, named}
use Rattle.pg_flight.proofs.Numbering.{leads_by_bytes, numbered_ahead, numbered_same, numbered_with, one_more, told_itself}
use Rattle.pg_flight.proofs.names.Names.add.Goals as goal

pub invariant_of-self-in_err-insert-2 : goal.invariant_of-self-in_err-insert-2
invariant_of-self-in_err-insert-2 c =
    let inside = c.self.inside in
    let name = c.args.name in
    let told = leads_by_bytes (string_bytes c.in_ok-from_str.field-0) name inside.numbers c.insert.new.self (Some inside.next) (c.in_ok-from_str.ensures.ok ∙ c.as_str.ensures.value) c.in_ok-insert.ensures.updates in
    let ahead = numbered_ahead inside.next inside.next inside.rows inside.numbers c.insert.new.self name c.self.invariant (ap (named name) c.self.view_is ∙ c.requires) told in
    numbered_same inside.next inside.rows c.insert-2.new.self c.insert.new.self ahead c.in_err-insert-2.ensures.err

pub invariant_of-self-2 : goal.invariant_of-self-2
invariant_of-self-2 c =
    let inside = c.self.inside in
    let name = c.args.name in
    let told = leads_by_bytes (string_bytes c.in_ok-from_str.field-0) name inside.numbers c.insert.new.self (Some inside.next) (c.in_ok-from_str.ensures.ok ∙ c.as_str.ensures.value) c.in_ok-insert.ensures.updates in
    let ahead = numbered_ahead inside.next inside.next inside.rows inside.numbers c.insert.new.self name c.self.invariant (ap (named name) c.self.view_is ∙ c.requires) told in
    let next : c.in-Some.next ≡ inside.next + 1 = grind (arith, common_steps, c.checked_add.ensures, c.in-Some.is) in
    subst (λ n. AreNumbered n c.insert-2.new.self c.insert.new.self) (sym next)
    (numbered_with inside.next inside.rows c.insert-2.new.self c.insert.new.self (record { name = name; queue = c.args.queue }) ahead
    (told_itself inside.numbers c.insert.new.self name (Some inside.next) told) c.in_ok-insert-2.ensures.updates c.in_ok-insert-2.ensures.ordered)

pub returns-clause-ok : goal.returns-clause-ok
returns-clause-ok c =
    let inside = c.self.inside in
    let row : Row = record { name = c.args.name; queue = c.args.queue } in
    one_more inside.next inside.rows c.insert-2.new.self inside.numbers row c.self.invariant c.in_ok-insert-2.ensures.entries
    ∙ ap (λ rows. rows ++ row ∷ []) c.self.view_is
