use Rattle.std.proofs.Common.{◌∙◌, ap, sym, List, ℕ}
use Rattle.std.proofs.lemmas.List.{take_all}
use Rattle.pg_dispatch.specs.Dispatch.{with_message}
use Rattle.pg_dispatch.proofs.EachQueue.{given_more, none_yet, with_lines}
use Rattle.pg_dispatch.proofs.dispatcher.Dispatcher.add.Goals as goal

pub loop-queue-init : goal.loop-queue-init
loop-queue-init c = ap (with_lines c.args.self.now) (sym (none_yet c.args.id c.args.self.now.lines))

pub loop-queue-preserved : goal.loop-queue-preserved
loop-queue-preserved c =
    given_more c.args.queues.now c.loop-queue.queue-index c.args.id c.args.self.now c.loop-queue.self c.add_to.new.self c.loop-queue-test.true c.requires c.loop-queue.invariant c.in_ok-add_to.ensures.ok

pub returns : goal.returns
returns c =
    c.loop-queue.invariant
    ∙ ap (λ (queues : List ℕ). with_message queues c.args.id c.args.self.now) (take_all c.loop-queue.queue-index c.args.queues.now c.loop-queue-test.false)
