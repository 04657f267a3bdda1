use Rattle.std.proofs.Common.{◌∙◌, ap, sym}
use Rattle.std.specs.Prelude.{option_map}
use Rattle.std.specs.Option.{option_copied}
use Rattle.pg_queue.specs.Entries.{entry_of, first_waiting}
use Rattle.pg_queue.proofs.KeptQueues.{entries_of}
use Rattle.pg_queue.proofs.queues.Queues.peek.Goals as goal

pub returns-in_err-queue : goal.returns-in_err-queue
returns-in_err-queue c =
    let its = entries_of c.self.inside.by_id c.args.self.now c.args.id _ c.self.invariant c.self.view_is (sym c.get.ensures.value ∙ ap option_copied c.in_err-queue.was) in
    ap (option_map entry_of) c.from_residual.ensures ∙ sym (ap first_waiting its)

pub returns : goal.returns
returns c =
    let its = entries_of c.self.inside.by_id c.args.self.now c.args.id _ c.self.invariant c.self.view_is (sym c.get.ensures.value ∙ ap option_copied c.in_ok-queue.was) in
    c.peek.ensures ∙ sym (ap first_waiting its)
