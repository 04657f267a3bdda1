use Rattle.std.proofs.Common.{◌≡◌, true, false, sym, subst, arith}
use Rattle.std.proofs.lemmas.Grind.{common_steps}
use Rattle.std.specs.Prelude.{Some, None}
use Rattle.std.specs.BTreeMap.{get}
use Rattle.pg_flight.specs.Ids.{key_cmp, key_of}
use Rattle.pg_queue.specs.Entries.{Contents, entry_at, is_taken, marked}
use Rattle.pg_queue.specs.Numbers.{seen_entries}
use Rattle.pg_queue.proofs.Found.{leads}
use Rattle.pg_queue.proofs.Marking.{numbered_put_back, put_back}
use Rattle.pg_queue.proofs.Onward.{onward}
use Rattle.pg_queue.proofs.queue.Queue.put_back.Goals as goal

pub invariant_of-self : goal.invariant_of-self
invariant_of-self c =
    let inside = c.self.inside in
    let taken = subst (λ (queue : Contents). is_taken queue.entries (entry_at c.args.id None) ≡ true) (sym c.self.view_is) c.requires in
    let its : get key_cmp inside.numbers (key_of c.args.id) ≡ Some c.in-Some.number = grind (arith, common_steps, c.get.ensures.value, c.copied.ensures, c.in-Some.is, c.key.ensures) in
    numbered_put_back inside.next inside.rows inside.waiting c.insert.new.self inside.numbers c.args.id c.in-Some.number c.self.invariant taken its c.in_ok-insert.ensures.updates

pub returns-in_ok-insert-clause-ok : goal.returns-in_ok-insert-clause-ok
returns-in_ok-insert-clause-ok c =
    let inside = c.self.inside in
    let taken = subst (λ (queue : Contents). is_taken queue.entries (entry_at c.args.id None) ≡ true) (sym c.self.view_is) c.requires in
    let its : get key_cmp inside.numbers (key_of c.args.id) ≡ Some c.in-Some.number = grind (arith, common_steps, c.get.ensures.value, c.copied.ensures, c.in-Some.is, c.key.ensures) in
    onward inside.id (seen_entries inside.waiting inside.rows) (seen_entries c.insert.new.self inside.rows) c.args.self.now (marked false (entry_at c.args.id None))
    (put_back inside.next inside.rows inside.waiting c.insert.new.self inside.numbers c.args.id c.in-Some.number c.self.invariant taken its c.in_ok-insert.ensures.updates) c.self.view_is

pub returns-in_default-clause-ok : goal.returns-in_default-clause-ok
returns-in_default-clause-ok c =
    let inside = c.self.inside in
    let taken = subst (λ (queue : Contents). is_taken queue.entries (entry_at c.args.id None) ≡ true) (sym c.self.view_is) c.requires in
    absurd (leads inside.next inside.rows inside.waiting inside.numbers c.args.id c.self.invariant taken (grind (arith, common_steps, c.get.ensures.value, c.copied.ensures, c.in_default.is, c.key.ensures)))
