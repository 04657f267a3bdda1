use Rattle.std.proofs.Common.{◌≡◌, ◌∙◌, ap, sym, subst}
use Rattle.std.specs.Prelude.{false, List}
use Rattle.std.specs.List.{list_any}
use Rattle.pg_queue.specs.Entries.{Contents}
use Rattle.pg_dispatch.specs.Dispatch.{Dispatch, without_line}
use Rattle.pg_dispatch.specs.Matching.{AreMatched, seen}
use Rattle.pg_dispatch.proofs.Steps.{matched_without_queue, seen_without_queue}
use Rattle.pg_dispatch.proofs.WholeLaws.{is_on}
use Rattle.pg_dispatch.proofs.dispatcher.Dispatcher.drop_queue.Goals as goal

pub invariant_of-self : goal.invariant_of-self
invariant_of-self c =
    let inside = c.self.inside in
    let none = subst (λ (d : Dispatch). list_any (is_on c.args.queue) d.consumers ≡ false) (sym c.self.view_is) c.requires in
    subst (λ (queues : List Contents). AreMatched queues inside.consumers) (sym c.drop_queue.ensures) (matched_without_queue c.args.queue inside.queues inside.consumers none c.self.invariant)

pub returns : goal.returns
returns c =
    let inside = c.self.inside in
    ap (λ (queues : List Contents). seen queues inside.consumers) c.drop_queue.ensures
    ∙ seen_without_queue c.args.queue inside.queues inside.consumers
    ∙ ap (without_line c.args.queue) c.self.view_is
