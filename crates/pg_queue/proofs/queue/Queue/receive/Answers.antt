use Rattle.std.proofs.Common.{◌≡◌, ◌∙◌, ap, sym, [], arith}
use Rattle.std.proofs.lemmas.Grind.{common_steps}
use Rattle.std.specs.Prelude.{None, option_map, true}
use Rattle.pg_queue.specs.Entries.{Contents, entry_at, entry_of, first_waiting, marked}
use Rattle.pg_queue.specs.Numbers.{seen_entries}
use Rattle.pg_queue.proofs.Found.{all_found}
use Rattle.pg_queue.proofs.Marking.{least_is_first, marks, none_waits}
use Rattle.pg_queue.proofs.Onward.{onward}
use Rattle.pg_queue.proofs.queue.Queue.receive.Goals as goal

pub returns-in_err-id-clause-first : goal.returns-in_err-id-clause-first
returns-in_err-id-clause-first c =
    let inside = c.self.inside in
    let empty : inside.waiting.entries ≡ [] = grind (arith, common_steps, c.in_err-id.ensures) in
    ap (option_map entry_of) c.from_residual.ensures ∙ sym (none_waits inside.waiting inside.rows.entries empty) ∙ ap (λ queue. first_waiting queue.entries) c.self.view_is

pub returns-clause-first : goal.returns-clause-first
returns-clause-first c =
    let inside = c.self.inside in
    let number = c.in_ok-id.field-0-0 in
    let row = c.self.invariant.waits number c.in_ok-id.id c.in_ok-id.ensures.value in
    sym (least_is_first inside.waiting number c.in_ok-id.id inside.rows.entries c.self.invariant.ordered row c.in_ok-id.ensures.value c.in_ok-id.ensures.least)
    ∙ ap (λ (queue : Contents). first_waiting queue.entries) c.self.view_is

pub returns-clause-taken : goal.returns-clause-taken
returns-clause-taken c =
    let inside = c.self.inside in
    let id = c.in_ok-id.id in
    let number = c.in_ok-id.field-0-0 in
    let row = c.self.invariant.waits number id c.in_ok-id.ensures.value in
    onward inside.id (seen_entries inside.waiting inside.rows) (seen_entries c.pop_first.new.self inside.rows) c.args.self.now (marked true (entry_at id None))
    (marks inside.rows inside.waiting c.pop_first.new.self inside.numbers number id None inside.rows.entries (all_found inside.next inside.rows inside.waiting inside.numbers c.self.invariant)
    (record { row = row; its = c.self.invariant.found number id row; updates = c.in_ok-id.ensures.updates }))
    c.self.view_is
