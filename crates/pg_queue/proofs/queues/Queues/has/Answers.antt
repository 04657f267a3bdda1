use Rattle.std.proofs.Common.{◌∙◌, ap, sym}
use Rattle.std.specs.Prelude.{None}
use Rattle.std.specs.Option.{option_copied}
use Rattle.pg_queue.specs.Entries.{entry_at, has_entry}
use Rattle.pg_queue.proofs.KeptQueues.{entries_of}
use Rattle.pg_queue.proofs.queues.Queues.has.Goals as goal

pub returns-in-Some : goal.returns-in-Some
returns-in-Some c =
    let its = entries_of c.self.inside.by_id c.args.self.now c.args.id _ c.self.invariant c.self.view_is (sym c.get.ensures.value ∙ ap option_copied c.in-Some.is) in
    c.has.ensures ∙ sym (ap (λ entries. has_entry entries (entry_at c.args.message None)) its)

pub returns-in-None : goal.returns-in-None
returns-in-None c =
    let its = entries_of c.self.inside.by_id c.args.self.now c.args.id _ c.self.invariant c.self.view_is (sym c.get.ensures.value ∙ ap option_copied c.in-None.is) in
    sym (ap (λ entries. has_entry entries (entry_at c.args.message None)) its)
