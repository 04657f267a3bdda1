use Rattle.std.proofs.Common.{◌∙◌, ap, ap₂, sym}
use Rattle.std.specs.Prelude.{Some, option_map}
use Rattle.pg_queue.specs.Entries.{Entry, entry_of}
use Rattle.pg_dispatch.specs.Dispatch.{given_to}
use Rattle.pg_dispatch.specs.Matching.{seen}
use Rattle.pg_dispatch.proofs.Steps.{available_to, matched_given, matched_where, next_waits, no_queue, none_open, open_on, received, seen_given}
use Rattle.pg_dispatch.proofs.dispatcher.Dispatcher.receive.Goals as goal

pub returns-in_default-clause-given : goal.returns-in_default-clause-given
returns-in_default-clause-given c = λ queue asked.
    let inside = c.self.inside in
    absurd (no_queue c.args.name.now queue inside.queues inside.consumers c.args.self.now c.self.view_is (sym c.in_default.is ∙ c.queue_of.ensures.queue) asked)

pub returns-in_default-peek-clause-given : goal.returns-in_default-peek-clause-given
returns-in_default-peek-clause-given c = λ queue asked.
    let inside = c.self.inside in
    sym (available_to c.args.name.now c.in-Some.queue queue inside.queues inside.consumers c.args.self.now c.self.invariant c.self.view_is (sym c.in-Some.is ∙ c.queue_of.ensures.queue) asked
    ∙ ap (option_map (λ (entry : Entry). entry.id)) (sym c.peek.ensures ∙ ap (option_map entry_of) c.in_default-peek.is))

pub invariant_of-self-2 : goal.invariant_of-self-2
invariant_of-self-2 c =
    let inside = c.self.inside in
    let queue = c.in-Some.queue in
    let id = c.message_of-id.result in
    let first = sym c.peek.ensures ∙ ap (option_map entry_of) c.in-Some-peek.is ∙ ap Some c.message_of-id.ensures in
    let its = open_on c.args.name.now queue inside.consumers (sym c.in-Some.is ∙ c.queue_of.ensures.queue) in
    let next = next_waits c.args.name.now queue id inside.queues inside.consumers c.self.invariant its first in
    matched_where (received queue id c.receive.result inside.queues c.receive.new.self c.receive.ensures.first first c.receive.ensures.taken) c.in_ok-deliver.ensures.ok
    (matched_given c.args.name.now queue id inside.queues inside.consumers c.self.invariant next)

pub returns-clause-given : goal.returns-clause-given
returns-clause-given c = λ queue asked.
    let inside = c.self.inside in
    let first = sym c.peek.ensures ∙ ap (option_map entry_of) c.in-Some-peek.is ∙ ap Some c.message_of-id.ensures in
    sym (available_to c.args.name.now c.in-Some.queue queue inside.queues inside.consumers c.args.self.now c.self.invariant c.self.view_is (sym c.in-Some.is ∙ c.queue_of.ensures.queue) asked
    ∙ ap (option_map (λ (entry : Entry). entry.id)) first)

pub returns-clause-taken : goal.returns-clause-taken
returns-clause-taken c =
    let inside = c.self.inside in
    let queue = c.in-Some.queue in
    let id = c.message_of-id.result in
    let first = sym c.peek.ensures ∙ ap (option_map entry_of) c.in-Some-peek.is ∙ ap Some c.message_of-id.ensures in
    let its = open_on c.args.name.now queue inside.consumers (sym c.in-Some.is ∙ c.queue_of.ensures.queue) in
    let next = next_waits c.args.name.now queue id inside.queues inside.consumers c.self.invariant its first in
    ap₂ seen (received queue id c.receive.result inside.queues c.receive.new.self c.receive.ensures.first first c.receive.ensures.taken) c.in_ok-deliver.ensures.ok
    ∙ seen_given c.args.name.now queue id inside.queues inside.consumers c.self.invariant next
    ∙ ap (given_to c.args.name.now (Some id)) c.self.view_is

pub returns-clause-unopened : goal.returns-clause-unopened
returns-clause-unopened c = λ none.
    let inside = c.self.inside in
    absurd (none_open c.args.name.now c.in-Some.queue inside.queues inside.consumers c.args.self.now c.self.view_is (sym c.in-Some.is ∙ c.queue_of.ensures.queue) none)
