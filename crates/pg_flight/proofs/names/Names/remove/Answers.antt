use Rattle.std.proofs.Common.{◌∙◌, ap, sym}
use Rattle.std.specs.Map.{values_of}
use Rattle.std.specs.Prelude.{None}
use Rattle.pg_flight.specs.Names.{without_name}
use Rattle.pg_flight.proofs.NamedRows.{all_found, all_others, none_without}
use Rattle.pg_flight.proofs.Numbering.{leads_by_bytes, numbered_less, one_less}
use Rattle.pg_flight.proofs.names.Names.remove.Goals as goal
use Rattle.pg_flight.proofs.names.Names.remove.Goals.{in-Some-1, in-None-1}

pub invariant_of-self : goal.invariant_of-self
invariant_of-self c =
    let inside = c.self.inside in
    let name = c.args.name.now in
    let lost = leads_by_bytes c.as_str.result.now name inside.numbers c.remove.new.self None c.as_str.ensures.value c.remove.ensures.updates in
    numbered_less inside.next inside.rows c.remove-in-Some.new.self inside.numbers c.remove.new.self name c.in-Some.number c.self.invariant c.in-Some.ensures.found.leads
    c.remove-in-Some.ensures.updates c.remove-in-Some.ensures.ordered lost

pub returns-in-Some : goal.returns-in-Some
returns-in-Some c =
    let inside = c.self.inside in
    let name = c.args.name.now in
    let is = c.in-Some.ensures.found in
    let less =
    ap values_of c.remove-in-Some.ensures.entries
    ∙ one_less inside.rows inside.numbers c.in-Some.number name is.row inside.rows.entries (all_found inside.next inside.rows inside.numbers c.self.invariant) c.self.invariant.ordered
    is.there is.its is.leads
    ∙ ap (without_name name) c.self.view_is
    in
    elim c.match-remove.branch [ in-Some-1 w ↦ w.self-is ∙ less | in-None-1 w ↦ w.self-is ∙ less ]

pub returns-in_default : goal.returns-in_default
returns-in_default c =
    let inside = c.self.inside in
    let name = c.args.name.now in
    let none = none_without name inside.rows.entries (all_others inside.next inside.rows inside.numbers name c.self.invariant c.in_default.ensures.none) in
    sym c.self.view_is ∙ sym none ∙ ap (without_name name) c.self.view_is
