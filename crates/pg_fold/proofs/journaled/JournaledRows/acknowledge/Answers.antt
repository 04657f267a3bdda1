use Rattle.std.proofs.Common.{◌≡◌, ◌∙◌, false, true, sym, ap, subst, arith}
use Rattle.std.proofs.lemmas.Grind.{common_steps}
use Rattle.std.specs.Prelude.{None}
use Rattle.std.specs.Map.{values_of, remove_entry}
use Rattle.std.specs.BTreeMap.{Updates}
use Rattle.pg_fold.specs.JournalNumbers.{key_cmp}
use Rattle.pg_fold.specs.Rows.{acknowledged, is_held, released}
use Rattle.pg_fold.proofs.JournaledLemmas.{acknowledged_none, all_found, at, goes, numbered_changed, numbered_less, stays}
use Rattle.pg_fold.proofs.journaled.JournaledRows.acknowledge.Goals as goal

pub returns-in_default : goal.returns-in_default
returns-in_default c =
    let inside = c.self.inside in
    let none = acknowledged_none inside.rows inside.numbers c.args.id c.in_default.ensures.none c.args.queue inside.rows.entries (all_found inside.next inside.rows inside.numbers c.self.invariant) in
    sym c.self.view_is ∙ sym none ∙ ap (acknowledged c.args.queue c.args.id) c.self.view_is

pub invariant_of-self : goal.invariant_of-self
invariant_of-self c =
    let inside = c.self.inside in
    let its = c.in-Some.ensures.found in
    let after = numbered_changed inside.next inside.rows c.release_at.new.rows inside.numbers c.args.id c.in-Some.number c.args.queue its.0 c.self.invariant its.1
    (c.release_at.ensures.changed its.0 its.1.there) c.release_at.ensures.ordered in
    let lost = subst (λ key. Updates key_cmp inside.numbers c.remove-then-not-release_at.new.self key None) c.key.ensures c.remove-then-not-release_at.ensures.updates in
    numbered_less inside.next c.release_at.new.rows c.remove.new.self inside.numbers c.remove-then-not-release_at.new.self c.args.id c.in-Some.number after its.1.its
    c.remove.ensures.entries c.remove.ensures.ordered c.remove.ensures.updates.1 lost

pub invariant_of-self-else-not-release_at : goal.invariant_of-self-else-not-release_at
invariant_of-self-else-not-release_at c =
    let inside = c.self.inside in
    let its = c.in-Some.ensures.found in
    numbered_changed inside.next inside.rows c.release_at.new.rows inside.numbers c.args.id c.in-Some.number c.args.queue its.0 c.self.invariant its.1
    (c.release_at.ensures.changed its.0 its.1.there) c.release_at.ensures.ordered

pub returns-then-not-release_at : goal.returns-then-not-release_at
returns-then-not-release_at c =
    let inside = c.self.inside in
    let its = c.in-Some.ensures.found in
    let free : is_held (released c.args.queue its.0) ≡ false = grind (arith, common_steps, c.if-not-release_at.true, c.release_at.ensures.held its.0 its.1.there) in
    let gone = goes inside.rows inside.numbers c.args.id c.in-Some.number its.0 its.1 c.args.queue inside.rows.entries (all_found inside.next inside.rows inside.numbers c.self.invariant) its.1.there free in
    ap values_of (c.remove.ensures.entries ∙ ap (remove_entry (at c.in-Some.number)) (c.release_at.ensures.changed its.0 its.1.there))
    ∙ gone ∙ ap (acknowledged c.args.queue c.args.id) c.self.view_is

pub returns-else-not-release_at : goal.returns-else-not-release_at
returns-else-not-release_at c =
    let inside = c.self.inside in
    let its = c.in-Some.ensures.found in
    let held : is_held (released c.args.queue its.0) ≡ true = grind (arith, common_steps, c.if-not-release_at.false, c.release_at.ensures.held its.0 its.1.there) in
    let kept = stays inside.rows inside.numbers c.args.id c.in-Some.number its.0 its.1 c.args.queue inside.rows.entries (all_found inside.next inside.rows inside.numbers c.self.invariant) its.1.there held in
    ap values_of (c.release_at.ensures.changed its.0 its.1.there) ∙ kept ∙ ap (acknowledged c.args.queue c.args.id) c.self.view_is
