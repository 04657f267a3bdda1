use Rattle.std.proofs.Common.{◌≡◌, ◌∙◌, Bor, List, [], map, ap, false, subst, sym, IfOk}
use Rattle.std.specs.Prelude.{AllPairs}
use Rattle.std.proofs.lemmas.List.{take_all}
use Rattle.pg_fold.specs.declared.rows.JournaledRow.{JournaledRow}
use Rattle.pg_fold.specs.declared.rows.QueueRow.{QueueRow}
use Rattle.pg_fold.specs.Rows.{same_id}
use Rattle.pg_recover.specs.Denotation.{queue_of}
use Rattle.pg_engine.specs.Kept.{line_from}
use Rattle.pg_engine.proofs.LineLemmas.{empty_line, lines_below}
use Rattle.pg_engine.proofs.lines.dispatched.Goals as goal

abbrev rows_of : List (Bor JournaledRow) → List JournaledRow
rows_of rows = map (λ (row : Bor JournaledRow). row.now) rows

pub add_queue-requires : goal.add_queue-requires
add_queue-requires c = lines_below c.args.queues.now c.loop-queue.queue-index c.queue-item.result c.loop-queue.dispatcher c.loop-queue-test.true c.queue-item.is c.requires.ascending c.loop-queue.invariant

pub loop-queue-preserved : goal.loop-queue-preserved
loop-queue-preserved c =
    c.in_ok-add_queue.ensures.ok ∙ empty_line c.args.queues.now c.loop-queue.queue-index c.queue-item.result c.loop-queue.dispatcher c.loop-queue-test.true c.queue-item.is c.loop-queue.invariant

pub add_held-requires-clause-empty : goal.add_held-requires-clause-empty
add_held-requires-clause-empty c =
    c.loop-queue.invariant ∙ ap (λ (l : List QueueRow). record { lines = map line_from (map (queue_of []) l); consumers = [] }) (take_all c.loop-queue.queue-index c.args.queues.now c.loop-queue-test.false)

pub add_held-requires-clause-apart : goal.add_held-requires-clause-apart
add_held-requires-clause-apart c =
    subst (AllPairs (λ (row other : JournaledRow). same_id row.message.id other.message.id ≡ false)) (sym (ap rows_of c.deref.ensures.value ∙ c.in_ok-rows.ensures)) c.requires.apart

pub returns : goal.returns
returns c =
    subst (λ (rows : List JournaledRow). IfOk c.add_held.result (λ done. done ≡ record { lines = map line_from (map (queue_of rows) c.args.queues.now); consumers = [] }))
    (ap rows_of c.deref.ensures.value ∙ c.in_ok-rows.ensures) c.add_held.ensures
