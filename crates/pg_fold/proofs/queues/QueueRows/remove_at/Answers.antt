use Rattle.std.proofs.Common.{◌≢◌, ◌<◌, length, subst, sym}
use Rattle.std.proofs.lemmas.List.Quantifiers.{all_pairs_remove}
use Rattle.pg_fold.specs.declared.rows.QueueRow.{QueueRow}
use Rattle.pg_fold.specs.QueueIndex.{AreIndexed}
use Rattle.pg_fold.proofs.QueueIndexLemmas.{counted_remove, named_remove}
use Rattle.pg_fold.proofs.queues.QueueRows.remove_at.Goals as goal

pub invariant_of-self : goal.invariant_of-self
invariant_of-self c =
    let rows = c.self.inside.rows.items in
    let within : c.args.place < length rows = subst (λ others. c.args.place < length others) (sym c.self.view_is) c.requires in
    subst (λ others. AreIndexed c.self.inside.ascending c.swap_remove.new.self c.count_down.new.counts others) (sym c.remove-row.ensures.items)
    (record {
      ids = λ told. all_pairs_remove (λ (row other : QueueRow). row.id < other.id) rows c.args.place within (c.self.invariant.ids told);
      apart = all_pairs_remove (λ (row other : QueueRow). row.name ≢ other.name) rows c.args.place within c.self.invariant.apart;
      named = named_remove c.self.inside.names c.swap_remove.new.self c.as_str.result.now rows c.args.place c.remove-row.result c.self.invariant.apart c.self.invariant.named within c.remove-row.ensures.value c.as_str.ensures.value c.swap_remove.ensures.updates;
      numbers = counted_remove c.self.inside.counts c.count_down.new.counts rows c.args.place c.remove-row.result c.self.invariant.numbers within c.remove-row.ensures.value c.count_down.ensures;
    })
