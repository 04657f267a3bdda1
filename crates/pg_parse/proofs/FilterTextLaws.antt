-- A text is kept for one filter at most, and an empty one for none.
use Rattle.std.proofs.Common.{◌≡◌, ◌==◌, ℕ, true, List, [], ◌∷◌, Option, Some, None, refl, sym, ◌∙◌, ap, subst, length, arith, eqb-true}
use Rattle.pg_lex.proofs.TokenLaws.{tokens_one}
use Rattle.pg_parse.specs.declared.word.Word.{Word}
use Rattle.pg_parse.specs.declared.tree.Tree.{Tree}
use Rattle.pg_parse.specs.Grammar.{ReadsWords}
use Rattle.pg_parse.specs.Filters.{Say, Reads}
use Rattle.pg_parse.specs.FilterTexts.{ReadsAs}
use Rattle.pg_parse.proofs.FilterLaws.{filter_tree}
use Rattle.pg_parse.proofs.Phrases.{starts}

nothing_says : (said : List Word) → Say [] [] said → said ≡ []
nothing_says [] say = refl
nothing_says (_ ∷ _) say = elim say [ ]

some_words : (said : List Word) (tree : Tree) → said ≡ [] → ReadsWords said tree → ⊥
some_words said tree none r =
    let first = starts r.0 in
    let is : first.first ∷ first.others ≡ [] = sym first.is ∙ (r.2 ∙ none) in cc

pub empty_never : (tree : Tree) → Reads [] tree → ⊥
empty_never tree r =
    let no_tokens : r.tokens ≡ [] = tokens_one [] r.tokens [] r.has.are tt in
    some_words r.said tree (nothing_says r.said (subst (λ tokens. Say [] tokens r.said) no_tokens r.has.say)) r.reads

pub text_one : (text : List ℕ) (a b : Option Tree) → ReadsAs text a → ReadsAs text b → a ≡ b
text_one text None None this that = refl
text_one text None (Some b) this that = absurd (empty_never b (subst (λ text. Reads text b) this that))
text_one text (Some a) None this that = absurd (empty_never a (subst (λ text. Reads text a) that this))
text_one text (Some a) (Some b) this that = ap Some (filter_tree text a b this that)

pub empty_text : (text : List ℕ) → (length text == 0) ≡ true → text ≡ []
empty_text [] empty = refl
empty_text (byte ∷ bytes) empty = absurd (omega (arith, eqb-true (length (byte ∷ bytes)) 0 empty))
