use Rattle.std.proofs.Common.{◌∙◌, ◌<◌, ◌++◌, ◌∷◌, [], List, ap, sym, subst}
use Rattle.std.specs.Prelude.{All}
use Rattle.std.specs.List.{AllByRecursion}
use Rattle.std.specs.Map.{values_of}
use Rattle.pg_queue.specs.Entries.{Contents}
use Rattle.pg_queue.specs.Queues.{StandsAtItsId}
use Rattle.pg_queue.proofs.ByIds.{put_last, seen_with, still_at_with}
use Rattle.pg_queue.proofs.queues.Queues.add_queue.Goals as goal

pub invariant_of-self-2 : goal.invariant_of-self-2
invariant_of-self-2 c =
    let entries = c.self.inside.by_id.entries in
    let below = subst (All (λ queue. queue.id < c.args.id)) (sym c.self.view_is) c.requires in
    record {
      ordered = c.in_ok-insert.ensures.ordered;
      at_id = subst (AllByRecursion StandsAtItsId) (sym (c.in_ok-insert.ensures.entries ∙ put_last c.args.id c.new.result entries c.self.invariant.at_id below))
          (still_at_with c.args.id c.new.result entries c.self.invariant.at_id (sym (ap (λ (queue : Contents). queue.id) c.new.ensures)));
    }

pub returns-clause-ok : goal.returns-clause-ok
returns-clause-ok c =
    let entries = c.self.inside.by_id.entries in
    let below = subst (All (λ queue. queue.id < c.args.id)) (sym c.self.view_is) c.requires in
    ap values_of c.in_ok-insert.ensures.entries
    ∙ seen_with c.args.id c.new.result entries c.self.invariant.at_id below
    ∙ ap (λ (queue : Contents). values_of entries ++ queue ∷ []) c.new.ensures
    ∙ ap (λ (queues : List Contents). queues ++ record { id = c.args.id; entries = [] } ∷ []) c.self.view_is
