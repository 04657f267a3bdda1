use Rattle.std.proofs.Common.{◌∙◌, ap, sym, subst}
use Rattle.std.specs.Prelude.{Some, option_map}
use Rattle.std.specs.Option.{option_copied}
use Rattle.pg_queue.specs.Entries.{Contents, count_of}
use Rattle.pg_queue.specs.Queues.{AreAscending}
use Rattle.pg_queue.proofs.ByIds.{ascending}
use Rattle.pg_queue.proofs.KeptQueues.{looked_up}
use Rattle.pg_queue.proofs.queues.Queues.count.Goals as goal

pub returns-in_err-queue-clause-count : goal.returns-in_err-queue-clause-count
returns-in_err-queue-clause-count c =
    let its = looked_up c.self.inside.by_id c.args.self.now c.args.id _ c.self.invariant c.self.view_is (sym c.get.ensures.value ∙ ap option_copied c.in_err-queue.was) in
    c.from_residual.ensures ∙ sym (ap (option_map (λ (queue : Contents). count_of queue.entries)) its)

pub returns-in_err-queue-clause-ascending : goal.returns-in_err-queue-clause-ascending
returns-in_err-queue-clause-ascending c = subst AreAscending c.self.view_is (ascending c.self.inside.by_id.entries c.self.invariant.at_id c.self.invariant.ordered)

pub returns-clause-count : goal.returns-clause-count
returns-clause-count c =
    let its = looked_up c.self.inside.by_id c.args.self.now c.args.id _ c.self.invariant c.self.view_is (sym c.get.ensures.value ∙ ap option_copied c.in_ok-queue.was) in
    ap Some c.count.ensures ∙ sym (ap (option_map (λ (queue : Contents). count_of queue.entries)) its)

pub returns-clause-ascending : goal.returns-clause-ascending
returns-clause-ascending c = subst AreAscending c.self.view_is (ascending c.self.inside.by_id.entries c.self.invariant.at_id c.self.invariant.ordered)
