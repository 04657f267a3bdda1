use Rattle.std.proofs.Common.{◌∙◌, ap, sym, subst}
use Rattle.std.specs.Map.{values_of}
use Rattle.std.specs.BTreeMap.{insert_entry}
use Rattle.std.specs.List.{AllByRecursion}
use Rattle.pg_flight.specs.Deliveries.{IsKeyed, with_delivery}
use Rattle.pg_flight.specs.Ids.{key_cmp}
use Rattle.pg_flight.proofs.Keyed.{put_in, still_keyed_with}
use Rattle.pg_flight.proofs.deliveries.Deliveries.put.Goals as goal

pub invariant_of-self-2 : goal.invariant_of-self-2
invariant_of-self-2 c =
    let kept = c.self.invariant in
    record {
      ordered = c.in_ok-insert.ensures.ordered;
      keyed = subst (AllByRecursion IsKeyed) (sym (c.in_ok-insert.ensures.entries ∙ ap (λ key. insert_entry key_cmp c.self.inside.by_id.entries key c.args.delivery) c.key.ensures)) (still_keyed_with c.args.delivery c.self.inside.by_id.entries kept.keyed);
    }

pub returns-clause-ok : goal.returns-clause-ok
returns-clause-ok c =
    let entries = c.self.inside.by_id.entries in
    ap values_of (c.in_ok-insert.ensures.entries ∙ ap (λ key. insert_entry key_cmp entries key c.args.delivery) c.key.ensures)
    ∙ put_in c.args.delivery entries c.self.invariant.keyed
    ∙ ap (with_delivery c.args.delivery) c.self.view_is
