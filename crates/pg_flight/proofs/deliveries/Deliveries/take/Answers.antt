use Rattle.std.proofs.Common.{◌∙◌, ap, sym, subst, arith}
use Rattle.std.proofs.lemmas.Grind.{common_steps}
use Rattle.std.specs.Map.{values_of, remove_entry}
use Rattle.std.specs.BTreeMap.{is_at}
use Rattle.std.specs.List.{AllByRecursion}
use Rattle.pg_flight.specs.Deliveries.{IsKeyed, without_delivery}
use Rattle.pg_flight.specs.Ids.{key_cmp}
use Rattle.pg_flight.proofs.Keyed.{found, still_keyed_without, taken_out}
use Rattle.pg_flight.proofs.deliveries.Deliveries.take.Goals as goal

pub invariant_of-self : goal.invariant_of-self
invariant_of-self c =
    record {
      ordered = c.remove.ensures.ordered;
      keyed = subst (AllByRecursion IsKeyed) (sym c.remove.ensures.entries) (still_keyed_without _ c.self.inside.by_id.entries c.self.invariant.keyed);
    }

pub returns-clause-given : goal.returns-clause-given
returns-clause-given c =
    let its = found c.args.id c.self.inside.by_id.entries c.self.invariant.keyed in
    grind (arith, common_steps, its, c.remove.ensures.value, c.key.ensures, c.self.view_is)

pub returns-clause-left : goal.returns-clause-left
returns-clause-left c =
    let entries = c.self.inside.by_id.entries in
    ap values_of (c.remove.ensures.entries ∙ ap (λ key. remove_entry (is_at (key_cmp key)) entries) c.key.ensures)
    ∙ taken_out c.args.id entries c.self.invariant.keyed c.self.invariant.ordered
    ∙ ap (without_delivery c.args.id) c.self.view_is
