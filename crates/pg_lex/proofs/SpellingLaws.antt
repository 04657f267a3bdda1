-- What is spelled is one word, one symbol, one text.
use Rattle.std.proofs.Common.{◌≡◌, ℕ, List, [], ◌∷◌, ◌++◌, rules, refl}
use Rattle.pg_lex.specs.Spelling.{SpellsWord, sign_of, doubled, quoted}
use Rattle.pg_lex.specs.declared.reserved_word.ReservedWord.{ReservedWord}
use Rattle.pg_lex.specs.declared.symbol.Symbol.{Symbol}
use Rattle.pg_lex.proofs.QuoteLemmas.{one_text}

pub symbol_one : (s t : Symbol) → sign_of s ≡ sign_of t → s ≡ t
symbol_one s t same = search rules

pub word_one : (spelling : List ℕ) (v w : ReservedWord) → SpellsWord v spelling → SpellsWord w spelling → v ≡ w
word_one spelling v w is also = search rules

pub text_one : (t u : List ℕ) → quoted t ≡ quoted u → t ≡ u
text_one t u same =
    let inner : doubled t ++ (39 ∷ []) ≡ doubled u ++ (39 ∷ []) = cc in
    (one_text t u (39 ∷ []) (39 ∷ []) (refl, tt) (refl, tt) inner).0
