use Rattle.std.proofs.Common.{◌≡◌, ◌∙◌, ap, sym, [], arith}
use Rattle.std.proofs.lemmas.Grind.{common_steps}
use Rattle.std.specs.Prelude.{option_map}
use Rattle.std.proofs.lemmas.List.{nil_from_length}
use Rattle.pg_queue.specs.Entries.{Contents, entry_of, first_waiting}
use Rattle.pg_queue.proofs.Marking.{least_is_first, none_waits}
use Rattle.pg_queue.proofs.queue.Queue.peek.Goals as goal

pub returns-in_err-id : goal.returns-in_err-id
returns-in_err-id c =
    let inside = c.self.inside in
    let empty : inside.waiting.entries ≡ [] = nil_from_length inside.waiting.entries (grind (arith, common_steps, c.in_err-id.ensures.variant)) in
    ap (option_map entry_of) c.from_residual.ensures ∙ sym (none_waits inside.waiting inside.rows.entries empty) ∙ ap (λ (queue : Contents). first_waiting queue.entries) c.self.view_is

pub returns : goal.returns
returns c =
    let inside = c.self.inside in
    let number = c.in_ok-id.field-0-0.now in
    let row = c.self.invariant.waits number c.in_ok-id.id.now c.in_ok-id.ensures.value in
    sym (least_is_first inside.waiting number c.in_ok-id.id.now inside.rows.entries c.self.invariant.ordered row c.in_ok-id.ensures.value c.in_ok-id.ensures.least)
    ∙ ap (λ (queue : Contents). first_waiting queue.entries) c.self.view_is
