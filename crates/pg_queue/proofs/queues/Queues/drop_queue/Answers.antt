use Rattle.std.proofs.Common.{◌∙◌, ap, sym, subst}
use Rattle.std.specs.List.{AllByRecursion}
use Rattle.std.specs.Map.{values_of}
use Rattle.pg_queue.specs.Queues.{StandsAtItsId, without_queue}
use Rattle.pg_queue.proofs.ByIds.{seen_without, still_at_without}
use Rattle.pg_queue.proofs.queues.Queues.drop_queue.Goals as goal

pub invariant_of-self : goal.invariant_of-self
invariant_of-self c =
    record {
      ordered = c.remove.ensures.ordered;
      at_id = subst (AllByRecursion StandsAtItsId) (sym c.remove.ensures.entries) (still_at_without _ c.self.inside.by_id.entries c.self.invariant.at_id);
    }

pub returns : goal.returns
returns c =
    ap values_of c.remove.ensures.entries
    ∙ seen_without c.args.id c.self.inside.by_id.entries c.self.invariant.at_id c.self.invariant.ordered
    ∙ ap (without_queue c.args.id) c.self.view_is
