use Rattle.std.proofs.Common.{◌≡◌, sym, refl, subst, ap, ◌+◌, arith}
use Rattle.std.proofs.lemmas.Grind.{common_steps}
use Rattle.std.specs.Prelude.{false, Some, None}
use Rattle.std.specs.Ordering.{nat_cmp}
use Rattle.std.specs.BTreeMap.{Updates, is_at}
use Rattle.std.specs.Map.{lookup}
use Rattle.pg_flight.specs.Ids.{key_cmp}
use Rattle.pg_queue.specs.Entries.{Contents, added, entry_at, has_entry}
use Rattle.pg_queue.specs.Numbers.{AreNumbered, seen_entries}
use Rattle.pg_queue.proofs.Adding.{none_waits_at_next, numbered_ahead, numbered_same, numbered_with, one_more, undone}
use Rattle.pg_queue.proofs.Onward.{onward}
use Rattle.pg_queue.proofs.queue.Queue.add.Goals as goal

pub invariant_of-self-in_err-insert-2 : goal.invariant_of-self-in_err-insert-2
invariant_of-self-in_err-insert-2 c =
    let inside = c.self.inside in
    let new = subst (λ (queue : Contents). has_entry queue.entries (entry_at c.args.id None) ≡ false) (sym c.self.view_is) c.requires in
    let told = subst (λ key. Updates key_cmp inside.numbers c.insert.new.self key (Some inside.next)) c.key.ensures c.in_ok-insert.ensures.updates in
    let ahead = numbered_ahead inside.next inside.rows inside.waiting inside.numbers c.insert.new.self c.args.id c.self.invariant new told in
    numbered_same inside.next inside.rows inside.rows inside.waiting c.insert-2.new.self c.insert.new.self ahead refl (λ k. ap (lookup (is_at (nat_cmp k))) c.in_err-insert-2.ensures.err)

pub invariant_of-self-in-Ok : goal.invariant_of-self-in-Ok
invariant_of-self-in-Ok c =
    let inside = c.self.inside in
    let new = subst (λ (queue : Contents). has_entry queue.entries (entry_at c.args.id None) ≡ false) (sym c.self.view_is) c.requires in
    let told = subst (λ key. Updates key_cmp inside.numbers c.insert.new.self key (Some inside.next)) c.key.ensures c.in_ok-insert.ensures.updates in
    let ahead = numbered_ahead inside.next inside.rows inside.waiting inside.numbers c.insert.new.self c.args.id c.self.invariant new told in
    let next : c.in-Some.next ≡ inside.next + 1 = grind (arith, common_steps, c.checked_add.ensures, c.in-Some.is) in
    subst (λ n. AreNumbered n c.insert-3.new.self c.insert-2.new.self c.insert.new.self) (sym next)
    (numbered_with inside.next inside.rows c.insert-3.new.self inside.waiting c.insert-2.new.self c.insert.new.self c.args.id ahead told.1
    c.in-Ok.ensures.updates c.in-Ok.ensures.ordered c.in_ok-insert-2.ensures.updates)

pub invariant_of-self-in-Err : goal.invariant_of-self-in-Err
invariant_of-self-in-Err c =
    let inside = c.self.inside in
    let new = subst (λ (queue : Contents). has_entry queue.entries (entry_at c.args.id None) ≡ false) (sym c.self.view_is) c.requires in
    let told = subst (λ key. Updates key_cmp inside.numbers c.insert.new.self key (Some inside.next)) c.key.ensures c.in_ok-insert.ensures.updates in
    let ahead = numbered_ahead inside.next inside.rows inside.waiting inside.numbers c.insert.new.self c.args.id c.self.invariant new told in
    numbered_same inside.next inside.rows c.insert-3.new.self inside.waiting c.remove.new.self c.insert.new.self ahead c.in-Err.ensures.err
    (undone inside.waiting c.insert-2.new.self c.remove.new.self inside.next c.args.id (none_waits_at_next inside.next inside.rows inside.waiting inside.numbers c.self.invariant) c.in_ok-insert-2.ensures.updates c.remove.ensures.updates)

pub returns-in-Ok-clause-ok : goal.returns-in-Ok-clause-ok
returns-in-Ok-clause-ok c =
    let inside = c.self.inside in
    onward inside.id (seen_entries inside.waiting inside.rows) (seen_entries c.insert-2.new.self c.insert-3.new.self) c.args.self.now (added (entry_at c.args.id None))
    (one_more inside.next inside.rows c.insert-3.new.self inside.waiting c.insert-2.new.self inside.numbers c.args.id c.self.invariant c.in-Ok.ensures.entries c.in_ok-insert-2.ensures.updates)
    c.self.view_is
