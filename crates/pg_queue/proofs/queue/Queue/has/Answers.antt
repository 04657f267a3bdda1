use Rattle.std.proofs.Common.{◌∙◌, ap}
use Rattle.std.specs.Prelude.{None}
use Rattle.pg_queue.specs.Entries.{Contents, entry_at, has_entry}
use Rattle.pg_queue.proofs.Asking.{has_as_numbered}
use Rattle.pg_queue.proofs.queue.Queue.has.Goals as goal

pub returns : goal.returns
returns c =
    let inside = c.self.inside in
    c.is_some.ensures
    ∙ has_as_numbered inside.next inside.rows inside.waiting inside.numbers c.args.id c.number_of.result c.self.invariant c.number_of.ensures.found c.number_of.ensures.none
    ∙ ap (λ (queue : Contents). has_entry queue.entries (entry_at c.args.id None)) c.self.view_is
