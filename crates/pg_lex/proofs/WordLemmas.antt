-- Reserved words, in any case of letters.
use Rattle.std.proofs.Common.{◌≡◌, ◌<◌, ℕ, List, [], ◌∷◌, map, get_or, refl, sym, ◌∙◌, ap, arith, rules}
use Rattle.std.specs.Char.{to_ascii_uppercase, to_ascii_lowercase}
use Rattle.std.proofs.lemmas.Str.Ascii.{lowercase-uppercase}
use Rattle.std.proofs.lemmas.Bool.Decides.{nat_tests}
use Rattle.pg_lex.specs.Spelling.{capitals, SpellsWord}
use Rattle.pg_lex.specs.declared.reserved_word.ReservedWord.{ReservedWord}
use Rattle.pg_lex.specs.declared.reserved_word.ReservedWord.TheVariants.{And, Or, Not, Between, In, Like, Escape, Is, Null, True, False}

uppercase-lowercase : (c : ℕ) → to_ascii_uppercase (to_ascii_lowercase c) ≡ to_ascii_uppercase c
uppercase-lowercase c = grind (arith, nat_tests)

uppercase-lowercases : (cs : List ℕ) → map to_ascii_uppercase (map to_ascii_lowercase cs) ≡ map to_ascii_uppercase cs
uppercase-lowercases [] = refl
uppercase-lowercases (c ∷ cs) = λ i. uppercase-lowercase c i ∷ uppercase-lowercases cs i

lowercase-uppercases : (cs : List ℕ) → map to_ascii_lowercase (map to_ascii_uppercase cs) ≡ map to_ascii_lowercase cs
lowercase-uppercases [] = refl
lowercase-uppercases (c ∷ cs) = λ i. lowercase-uppercase c i ∷ lowercase-uppercases cs i

capitals_are : (word : ReservedWord) → map to_ascii_uppercase (capitals word) ≡ capitals word
capitals_are word = search rules

-- alike in small letters, alike in capitals
pub spells : (word : ReservedWord) (spelling : List ℕ) → map to_ascii_lowercase spelling ≡ map to_ascii_lowercase (capitals word) → SpellsWord word spelling
spells word spelling same = sym (uppercase-lowercases spelling) ∙ ap (map to_ascii_uppercase) same ∙ uppercase-lowercases (capitals word) ∙ capitals_are word

pub spells_small : (word : ReservedWord) (spelling : List ℕ) → SpellsWord word spelling → map to_ascii_lowercase spelling ≡ map to_ascii_lowercase (capitals word)
spells_small word spelling same = sym (lowercase-uppercases spelling) ∙ ap (map to_ascii_lowercase) same

abbrev pub words : List ReservedWord
words = And ∷ Or ∷ Not ∷ Between ∷ In ∷ Like ∷ Escape ∷ Is ∷ Null ∷ True ∷ False ∷ []

abbrev pub index_of : ReservedWord → ℕ
index_of And = 0
index_of Or = 1
index_of Not = 2
index_of Between = 3
index_of In = 4
index_of Like = 5
index_of Escape = 6
index_of Is = 7
index_of Null = 8
index_of True = 9
index_of False = 10

pub at_index : (word d : ReservedWord) → get_or words (index_of word) d ≡ word
at_index word d = search rules

pub index_small : (word : ReservedWord) → index_of word < 11
index_small word = search rules
