use Rattle.std.proofs.Common.{◌≡◌, false, ap, subst, sym, ◌∙◌}
use Rattle.std.proofs.lemmas.Bool.{both_ways}
use Rattle.pg_fold.specs.QueueIndex.{AreIndexed}
use Rattle.pg_fold.specs.Rows.{has_queue_named, IsBehind}
use Rattle.pg_fold.proofs.QueueIndexLemmas.{apart_push, counted_push, named_push}
use Rattle.pg_fold.proofs.QueueLemmas.{ascending_push}
use Rattle.pg_fold.proofs.queues.QueueRows.push.Goals as goal
use Rattle.pg_fold.proofs.queues.QueueRows.push.Goals.{then-ascending, else-ascending}

pub invariant_of-result : goal.invariant_of-result
invariant_of-result c =
    let rows = c.self.inside.rows.items in
    let new : has_queue_named rows c.args.row.name ≡ false = ap (λ others. has_queue_named others c.args.row.name) c.self.view_is ∙ c.requires in
    subst (λ others. AreIndexed c.if-ascending.result c.insert.new.self c.count_up.new.counts others) (sym c.in_ok-push.ensures.items)
    (record {
      ids = λ told. elim c.if-ascending.branch [
        | then-ascending w ↦
            ascending_push rows c.args.row (c.self.invariant.ids w.if-ascending.true)
            (subst (IsBehind c.args.row) c.as_slice.ensures.value (c.is_behind-behind.ensures (sym w.result-is ∙ told)))
        | else-ascending w ↦ absurd (both_ways _ w.if-ascending.false (sym w.result-is ∙ told))
      ];
      apart = apart_push rows c.args.row c.self.invariant.apart new;
      named = named_push c.self.inside.names c.insert.new.self _ rows c.args.row c.self.invariant.named (c.into_string.ensures ∙ c.in_ok-name.ensures) c.in_ok-insert.ensures.updates;
      numbers = counted_push c.self.inside.counts c.count_up.new.counts rows c.args.row c.self.invariant.numbers c.in_ok-count_up.ensures;
    })
