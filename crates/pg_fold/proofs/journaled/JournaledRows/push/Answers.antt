use Rattle.std.proofs.Common.{◌≡◌, ◌∙◌, ◌+◌, ◌++◌, ◌∷◌, [], false, refl, subst, sym, ap, arith}
use Rattle.std.proofs.lemmas.Grind.{common_steps}
use Rattle.std.specs.Prelude.{Some}
use Rattle.std.specs.BTreeMap.{Updates}
use Rattle.pg_fold.specs.JournalNumbers.{AreNumbered, key_cmp}
use Rattle.pg_fold.specs.Rows.{has_message}
use Rattle.pg_fold.proofs.JournaledLemmas.{numbered_ahead, numbered_more, numbered_same, one_more}
use Rattle.pg_fold.proofs.journaled.JournaledRows.push.Goals as goal

pub invariant_of-self : goal.invariant_of-self
invariant_of-self c =
    let inside = c.self.inside in
    numbered_same inside.next inside.rows inside.rows inside.numbers c.insert.new.self c.self.invariant refl c.in_err-insert.ensures.err c.self.invariant.ordered

pub invariant_of-self-in_err-insert-2 : goal.invariant_of-self-in_err-insert-2
invariant_of-self-in_err-insert-2 c =
    let inside = c.self.inside in
    let new = subst (λ rows. has_message rows c.args.row.message.id ≡ false) (sym c.self.view_is) c.requires in
    let told = subst (λ key. Updates key_cmp inside.numbers c.insert.new.self key (Some inside.next)) c.key-key.ensures c.in_ok-insert.ensures.updates in
    let ahead = numbered_ahead inside.next inside.rows inside.numbers c.insert.new.self c.args.row.message.id c.self.invariant new told in
    numbered_same inside.next inside.rows c.insert-2.new.self c.insert.new.self c.insert.new.self ahead c.in_err-insert-2.ensures.err refl c.insert-2.ensures.ordered

pub invariant_of-self-2 : goal.invariant_of-self-2
invariant_of-self-2 c =
    let inside = c.self.inside in
    let new = subst (λ rows. has_message rows c.args.row.message.id ≡ false) (sym c.self.view_is) c.requires in
    let told = subst (λ key. Updates key_cmp inside.numbers c.insert.new.self key (Some inside.next)) c.key-key.ensures c.in_ok-insert.ensures.updates in
    let ahead = numbered_ahead inside.next inside.rows inside.numbers c.insert.new.self c.args.row.message.id c.self.invariant new told in
    let next : c.in-Some.next ≡ inside.next + 1 = grind (arith, common_steps, c.checked_add.ensures, c.in-Some.is) in
    subst (λ n. AreNumbered n c.insert-2.new.self c.insert.new.self) (sym next)
    (numbered_more inside.next inside.rows c.insert-2.new.self c.insert.new.self c.args.row ahead told.1
    (rw c.in_ok-held.ensures at c.in_ok-insert-2.ensures.entries) c.in_ok-insert-2.ensures.ordered)

pub returns-clause-ok : goal.returns-clause-ok
returns-clause-ok c =
    let inside = c.self.inside in
    one_more inside.next inside.rows c.insert-2.new.self inside.numbers c.args.row c.self.invariant (rw c.in_ok-held.ensures at c.in_ok-insert-2.ensures.entries)
    ∙ ap (λ rows. rows ++ c.args.row ∷ []) c.self.view_is
