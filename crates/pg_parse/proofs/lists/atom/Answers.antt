use Rattle.std.proofs.Common.{◌≡◌, arith, ap, refl, sym, rules}
use Rattle.std.proofs.lemmas.Int.{to_z-of_z}
use mir.Val.{SFits, to_z, of_z}
use mir.Syntax.{w64}
use Rattle.pg_parse.specs.declared.tree.Tree.TheVariants as trees
use Rattle.pg_parse.specs.Parsing.{name_atom, whole_atom, text_atom, truth_atom}
use Rattle.pg_parse.proofs.Leaves.{atom_given, no_atom_first, no_atom_at_end}
use Rattle.pg_parse.proofs.lists.atom.Goals as goal

pub returns-in_default : goal.returns-in_default
returns-in_default c = no_atom_at_end c.args.words.now c.in_default.ensures.cases

pub returns-in_ok-copy-in-Name : goal.returns-in_ok-copy-in-Name
returns-in_ok-copy-in-Name c = atom_given c.args.words.now c.in-Some.rest.now c.in-Some.first.now (name_atom c.in-Name.name) _ c.in-Some.ensures.cases.0 c.in-Name.is (ap (λ n. trees.Name n) (sym c.in_ok-copy-in-Name.ensures))

pub returns-in-Whole : goal.returns-in-Whole
returns-in-Whole c =
    let f : SFits w64 c.in-Whole.whole = search rules in
    let e : to_z w64 (of_z w64 c.in-Whole.whole) ≡ c.in-Whole.whole = grind (arith, to_z-of_z) in
    atom_given c.args.words.now c.in-Some.rest.now c.in-Some.first.now (whole_atom c.in-Whole.whole) _ c.in-Some.ensures.cases.0 c.in-Whole.is (ap (λ n. trees.Whole n) (sym e))

pub returns-in_ok-copy-in-Text : goal.returns-in_ok-copy-in-Text
returns-in_ok-copy-in-Text c = atom_given c.args.words.now c.in-Some.rest.now c.in-Some.first.now (text_atom c.in-Text.text) _ c.in-Some.ensures.cases.0 c.in-Text.is (ap (λ t. trees.Text t) (sym c.in_ok-copy-in-Text.ensures))

pub returns-in-Truth : goal.returns-in-Truth
returns-in-Truth c = atom_given c.args.words.now c.in-Some.rest.now c.in-Some.first.now (truth_atom c.in-Truth.truth) _ c.in-Some.ensures.cases.0 c.in-Truth.is refl

pub returns-in_default-first : goal.returns-in_default-first
returns-in_default-first c = no_atom_first c.args.words.now c.in-Some.rest.now c.in-Some.first.now c.in-Some.ensures.cases.0
    c.in_default-first.not-Name c.in_default-first.not-Whole c.in_default-first.not-Text c.in_default-first.not-Truth
