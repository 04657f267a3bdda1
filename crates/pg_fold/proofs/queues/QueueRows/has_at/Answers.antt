use Rattle.std.proofs.Common.{subst, ap, ◌∙◌, rules, of_calls, Ok, Err, length, ◌<◌}
use Rattle.std.specs.List.Sorted.{IsBinarySearchResult}
use Rattle.std.specs.Ordering.{nat_cmp}
use Rattle.std.proofs.lemmas.Fn.{always_returns_same}
use Rattle.pg_fold.specs.declared.rows.QueueRow.{QueueRow}
use Rattle.pg_fold.specs.Rows.{has_queue_at}
use Rattle.pg_fold.proofs.QueueLemmas.{found, absent}
use Rattle.pg_fold.proofs.queues.QueueRows.has_at.Goals as goal

pub returns-in-Ok : goal.returns-in-Ok
returns-in-Ok c =
    let rows = c.self.inside.rows.items in
    let within : c.in-Ok.place < length rows = subst (λ (xs : _). c.in-Ok.place < length xs) c.deref-2.ensures.value c.in-Ok.ensures.bound in
    let search_result : IsBinarySearchResult (λ (row : QueueRow). nat_cmp row.id c.args.id) rows (Ok c.in-Ok.place) = subst (λ (xs : _). IsBinarySearchResult (λ (row : QueueRow). nat_cmp row.id c.args.id) xs (Ok c.in-Ok.place)) c.deref-2.ensures.value (c.in-Ok.ensures.position (λ row. row.id) (always_returns_same _ _ _ (λ a r f k. search (rules, of_calls)))) in
    found rows (c.self.invariant.ids c.if-not-self.false) c.args.address c.args.id c.in-Ok.place c.index.result.now within c.index.ensures search_result
    ∙ ap (λ rows. has_queue_at rows c.args.address c.args.id) c.self.view_is

pub returns-in-Err : goal.returns-in-Err
returns-in-Err c =
    let rows = c.self.inside.rows.items in
    let search_result : IsBinarySearchResult (λ (row : QueueRow). nat_cmp row.id c.args.id) rows (Err c.in-Err.field-0) = subst (λ (xs : _). IsBinarySearchResult (λ (row : QueueRow). nat_cmp row.id c.args.id) xs (Err c.in-Err.field-0)) c.deref-2.ensures.value (c.in-Err.ensures.position (λ row. row.id) (always_returns_same _ _ _ (λ a r f k. search (rules, of_calls)))) in
    absent rows (c.self.invariant.ids c.if-not-self.false) c.args.address c.args.id c.in-Err.field-0 search_result
    ∙ ap (λ rows. has_queue_at rows c.args.address c.args.id) c.self.view_is
