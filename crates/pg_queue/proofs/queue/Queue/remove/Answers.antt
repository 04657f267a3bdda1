use Rattle.std.proofs.Common.{◌≡◌, ◌∙◌, true, sym, subst, ap, arith}
use Rattle.std.proofs.lemmas.Grind.{common_steps}
use Rattle.std.specs.Prelude.{map, Some, None}
use Rattle.std.specs.BTreeMap.{get, Updates}
use Rattle.pg_flight.specs.Ids.{key_cmp, key_of}
use Rattle.pg_queue.specs.Entries.{Contents, entry_at, is_taken, without_entry}
use Rattle.pg_queue.specs.Numbers.{seen_at, seen_entries}
use Rattle.pg_queue.proofs.Found.{all_found, its_row, leads}
use Rattle.pg_queue.proofs.Removing.{numbered_less, one_less}
use Rattle.pg_queue.proofs.Onward.{onward}
use Rattle.pg_queue.proofs.queue.Queue.remove.Goals as goal

pub invariant_of-self : goal.invariant_of-self
invariant_of-self c =
    let inside = c.self.inside in
    let taken = subst (λ (queue : Contents). is_taken queue.entries (entry_at c.args.id None) ≡ true) (sym c.self.view_is) c.requires in
    let its : get key_cmp inside.numbers (key_of c.args.id) ≡ Some c.in-Some.number = grind (arith, common_steps, c.remove.ensures.value, c.in-Some.is, c.key.ensures) in
    let lost = subst (λ key. Updates key_cmp inside.numbers c.remove.new.self key None) c.key.ensures c.remove.ensures.updates in
    numbered_less inside.next inside.rows c.remove-in-Some.new.self inside.waiting inside.numbers c.remove.new.self c.args.id c.in-Some.number c.self.invariant taken its
    c.remove-in-Some.ensures.updates c.remove-in-Some.ensures.ordered lost

pub returns-in-Some : goal.returns-in-Some
returns-in-Some c =
    let inside = c.self.inside in
    let kept = c.self.invariant in
    let taken = subst (λ (queue : Contents). is_taken queue.entries (entry_at c.args.id None) ≡ true) (sym c.self.view_is) c.requires in
    let its : get key_cmp inside.numbers (key_of c.args.id) ≡ Some c.in-Some.number = grind (arith, common_steps, c.remove.ensures.value, c.in-Some.is, c.key.ensures) in
    let row = its_row inside.next inside.rows inside.waiting inside.numbers c.args.id c.in-Some.number kept taken its in
    onward inside.id (seen_entries inside.waiting inside.rows) (seen_entries inside.waiting c.remove-in-Some.new.self) c.args.self.now (without_entry (entry_at c.args.id None))
    (ap (map (seen_at inside.waiting)) c.remove-in-Some.ensures.entries
    ∙ one_less inside.waiting inside.rows inside.numbers c.in-Some.number c.args.id inside.rows.entries (all_found inside.next inside.rows inside.waiting inside.numbers kept) kept.ordered row.row its)
    c.self.view_is

pub returns-in_default : goal.returns-in_default
returns-in_default c =
    let inside = c.self.inside in
    let taken = subst (λ (queue : Contents). is_taken queue.entries (entry_at c.args.id None) ≡ true) (sym c.self.view_is) c.requires in
    absurd (leads inside.next inside.rows inside.waiting inside.numbers c.args.id c.self.invariant taken (grind (arith, common_steps, c.remove.ensures.value, c.in_default.is, c.key.ensures)))
