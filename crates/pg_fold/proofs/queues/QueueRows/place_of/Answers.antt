use Rattle.std.proofs.Common.{◌≡◌, subst, sym, ap, ◌∙◌, rules, of_calls, Ok, Err, length, eqb, ◌<◌}
use Rattle.std.specs.Prelude.{List, IfSome, IfNone, false}
use Rattle.std.specs.List.{position}
use Rattle.std.specs.List.Sorted.{IsBinarySearchResult}
use Rattle.std.specs.Ordering.{nat_cmp}
use Rattle.std.proofs.lemmas.Fn.{always_returns_same}
use Rattle.pg_fold.specs.declared.rows.QueueRow.{QueueRow}
use Rattle.pg_fold.specs.Rows.{has_queue, IsPlaceOf}
use Rattle.pg_fold.proofs.QueueLemmas.{first_place, none_has, place_found}
use Rattle.pg_fold.proofs.queues.QueueRows.place_of.Goals as goal

-- what the walk over all of them answers
walked : (c : goal.After-first_place) → IfSome c.first_place.result (IsPlaceOf c.args.self.now c.args.id) × IfNone c.first_place.result (has_queue c.args.self.now c.args.id ≡ false)
walked c =
    first_place c.args.self.now c.args.id c.first_place.result
    (c.first_place.ensures ∙ ap (position (λ (row : QueueRow). eqb row.id c.args.id)) (c.as_slice.ensures.value ∙ c.self.view_is))

pub returns-then-not-self-clause-found : goal.returns-then-not-self-clause-found
returns-then-not-self-clause-found c = (walked c).0

pub returns-then-not-self-clause-none : goal.returns-then-not-self-clause-none
returns-then-not-self-clause-none c = (walked c).1

pub returns-in-Ok-clause-found : goal.returns-in-Ok-clause-found
returns-in-Ok-clause-found c =
    let rows = c.self.inside.rows.items in
    let within : c.in-Ok.place < length rows = subst (λ (xs : _). c.in-Ok.place < length xs) c.deref.ensures.value c.in-Ok.ensures.bound in
    let search_result : IsBinarySearchResult (λ (row : QueueRow). nat_cmp row.id c.args.id) rows (Ok c.in-Ok.place) = subst (λ (xs : _). IsBinarySearchResult (λ (row : QueueRow). nat_cmp row.id c.args.id) xs (Ok c.in-Ok.place)) c.deref.ensures.value (c.in-Ok.ensures.position (λ row. row.id) (always_returns_same _ _ _ (λ a r f k. search (rules, of_calls)))) in
    subst (λ (xs : List QueueRow). IsPlaceOf xs c.args.id c.in-Ok.place) c.self.view_is (place_found rows c.args.id c.in-Ok.place within search_result)

pub returns-in-Err-clause-none : goal.returns-in-Err-clause-none
returns-in-Err-clause-none c =
    let rows = c.self.inside.rows.items in
    let search_result : IsBinarySearchResult (λ (row : QueueRow). nat_cmp row.id c.args.id) rows (Err c.in-Err.field-0) = subst (λ (xs : _). IsBinarySearchResult (λ (row : QueueRow). nat_cmp row.id c.args.id) xs (Err c.in-Err.field-0)) c.deref.ensures.value (c.in-Err.ensures.position (λ row. row.id) (always_returns_same _ _ _ (λ a r f k. search (rules, of_calls)))) in
    ap (λ rows. has_queue rows c.args.id) (sym c.self.view_is) ∙ none_has rows (c.self.invariant.ids c.if-not-self.false) c.args.id c.in-Err.field-0 search_result
