use Rattle.std.proofs.Common.{◌≡◌, ◌∙◌, inl, inr, sym, ap}
use Rattle.std.proofs.lemmas.Bool.{cases_Bool}
use Rattle.std.specs.Map.{values_of}
use Rattle.pg_fold.specs.Rows.{has_holder, has_number}
use Rattle.pg_fold.proofs.JournaledLemmas.{all_found, holder_none, holder_not, holder_some}
use Rattle.pg_fold.proofs.journaled.JournaledRows.has_holder.Goals as goal

pub returns-in-Some : goal.returns-in-Some
returns-in-Some c =
    let inside = c.self.inside in
    let its = c.in-Some.ensures.found in
    let found = all_found inside.next inside.rows inside.numbers c.self.invariant in
    let there : has_number its.0.holders c.args.queue ≡ has_holder (values_of inside.rows.entries) c.args.id c.args.queue =
    elim (cases_Bool (has_number its.0.holders c.args.queue)) [
      | inl holds ↦ holds ∙ sym (holder_some inside.rows inside.numbers c.args.id c.in-Some.number its.0 its.1 c.args.queue inside.rows.entries found holds its.1.there)
      | inr free ↦ free ∙ sym (holder_not inside.rows inside.numbers c.args.id c.in-Some.number its.0 its.1 c.args.queue inside.rows.entries found free)
    ] in
    c.holds.ensures its.0 its.1.there ∙ there ∙ ap (λ rows. has_holder rows c.args.id c.args.queue) c.self.view_is

pub returns-in-None : goal.returns-in-None
returns-in-None c =
    let inside = c.self.inside in
    sym (holder_none inside.rows inside.numbers c.args.id c.in-None.ensures.none c.args.queue inside.rows.entries (all_found inside.next inside.rows inside.numbers c.self.invariant))
    ∙ ap (λ rows. has_holder rows c.args.id c.args.queue) c.self.view_is
