use Rattle.std.proofs.Common.{◌∙◌, ap, sym}
use Rattle.std.specs.Prelude.{option_map}
use Rattle.std.specs.Option.{option_copied_mut}
use Rattle.pg_queue.specs.Entries.{entry_of, first_waiting}
use Rattle.pg_queue.proofs.KeptQueues.{before_none, changes_given, entries_of, given_id, still_stands}
use Rattle.pg_queue.proofs.queues.Queues.receive.Goals as goal

pub returns-in_err-queue-clause-first : goal.returns-in_err-queue-clause-first
returns-in_err-queue-clause-first c =
    let none = sym c.get_mut.ensures.value ∙ ap option_copied_mut c.in_err-queue.was in
    ap (option_map entry_of) c.from_residual.ensures ∙ sym (ap first_waiting (entries_of c.self.inside.by_id c.args.self.now c.args.id _ c.self.invariant c.self.view_is none))

pub invariant_of-self-2 : goal.invariant_of-self-2
invariant_of-self-2 c =
    let its = sym c.get_mut.ensures.value ∙ ap option_copied_mut c.in_ok-queue.was in
    let follows = c.get_mut.follows.holds c.receive.new.self in
    still_stands c.self.inside.by_id (c.get_mut.follows.lender c.receive.new.self) c.args.id c.in_ok-queue.queue.now c.receive.new.self c.self.invariant its follows.0 follows.4
    (given_id c.receive.result c.in_ok-queue.queue.now c.receive.new.self c.receive.ensures.taken c.receive.ensures.none)

pub returns-clause-first : goal.returns-clause-first
returns-clause-first c =
    let its = sym c.get_mut.ensures.value ∙ ap option_copied_mut c.in_ok-queue.was in
    c.receive.ensures.first ∙ sym (ap first_waiting (entries_of c.self.inside.by_id c.args.self.now c.args.id _ c.self.invariant c.self.view_is its))

pub returns-clause-taken : goal.returns-clause-taken
returns-clause-taken c =
    let its = sym c.get_mut.ensures.value ∙ ap option_copied_mut c.in_ok-queue.was in
    let follows = c.get_mut.follows.holds c.receive.new.self in
    changes_given c.self.inside.by_id (c.get_mut.follows.lender c.receive.new.self) c.args.self.now c.args.id c.receive.result c.in_ok-queue.queue.now c.receive.new.self c.self.invariant c.self.view_is its follows.0 c.receive.ensures.taken

pub returns-clause-none : goal.returns-clause-none
returns-clause-none c =
    let its = sym c.get_mut.ensures.value ∙ ap option_copied_mut c.in_ok-queue.was in
    let follows = c.get_mut.follows.holds c.receive.new.self in
    before_none c.self.inside.by_id (c.get_mut.follows.lender c.receive.new.self) c.args.self.now c.args.id c.receive.result c.in_ok-queue.queue.now c.receive.new.self c.self.view_is its follows.0 c.receive.ensures.none
