use Rattle.std.proofs.Common.{◌∙◌, ap, sym, not}
use Rattle.std.specs.Prelude.{None}
use Rattle.pg_queue.specs.Entries.{Contents, entry_at, is_taken}
use Rattle.pg_queue.proofs.Asking.{none_by_number, none_taken, taken_by_number}
use Rattle.pg_queue.proofs.queue.Queue.is_taken.Goals as goal

pub returns-in-Some : goal.returns-in-Some
returns-in-Some c =
    let inside = c.self.inside in
    ap not c.contains_key.ensures
    ∙ sym (taken_by_number inside.next inside.rows inside.waiting inside.numbers c.args.id c.in-Some.number c.self.invariant c.in-Some.ensures.found)
    ∙ ap (λ (queue : Contents). is_taken queue.entries (entry_at c.args.id None)) c.self.view_is

pub returns-in-None : goal.returns-in-None
returns-in-None c =
    let inside = c.self.inside in
    sym (none_taken inside.waiting c.args.id inside.rows.entries (none_by_number inside.next inside.rows inside.waiting inside.numbers c.args.id c.self.invariant c.in-None.ensures.none))
    ∙ ap (λ (queue : Contents). is_taken queue.entries (entry_at c.args.id None)) c.self.view_is
