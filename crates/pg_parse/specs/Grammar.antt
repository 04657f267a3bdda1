-- The grammar of filters over words: each way of a rule is a constructor, and a phrase is how the rule is followed.
use Rattle.std.specs.Prelude.{◌≡◌, ◌≤◌, ℕ, ℤ, suc, Bool, true, false, List, [], ◌∷◌, ◌++◌, length, take, ◌-◌, Option, Some, None, slice_get}
use Rattle.std.specs.Str.{chars}
use Rattle.pg_parse.specs.declared.op.Op.{Op}
use Rattle.pg_parse.specs.declared.word.Word.{Word}
use Rattle.pg_parse.specs.declared.word.Word.TheVariants as words
use Rattle.pg_parse.specs.declared.word.Mark.{Mark}
use Rattle.pg_parse.specs.declared.word.Mark.TheVariants as marks
use Rattle.pg_parse.specs.declared.tree.Tree.{Tree}
use Rattle.pg_parse.specs.declared.tree.Tree.TheVariants as trees

pub data Rule : Type 0 where
  OrRule : Rule
  AndRule : Rule
  NotRule : Rule
  TestRule : Rule
  SumRule : Rule
  TermRule : Rule
  UnaryRule : Rule
  PrimRule : Rule

-- or    = and { OR and }                    and   = not { AND not }
-- not   = NOT not | test
-- test  = ident [NOT] IN "(" text { "," text } ")" | ident [NOT] LIKE text [ ESCAPE text ] | ident IS [NOT] NULL
--       | sum [NOT] BETWEEN sum AND sum | sum op sum | sum
-- sum   = term { ("+" | "-") term }         term  = unary { "*" unary }
-- unary = ("+" | "-") unary | prim
-- prim  = ident | whole | text | TRUE | FALSE | "(" or ")"
-- What is repeated groups to the left. A Bool says whether NOT stands in the test.
pub data Phrase : Rule → Type 0 where
  one_and : Phrase AndRule → Phrase OrRule
  or : Phrase OrRule → Phrase AndRule → Phrase OrRule
  one_not : Phrase NotRule → Phrase AndRule
  and : Phrase AndRule → Phrase NotRule → Phrase AndRule
  not : Phrase NotRule → Phrase NotRule
  test : Phrase TestRule → Phrase NotRule
  is_in : List ℕ → Bool → List ℕ → List (List ℕ) → Phrase TestRule
  like : List ℕ → Bool → List ℕ → Option (List ℕ) → Phrase TestRule
  is_null : List ℕ → Bool → Phrase TestRule
  between : Phrase SumRule → Bool → Phrase SumRule → Phrase SumRule → Phrase TestRule
  compare : Op → Phrase SumRule → Phrase SumRule → Phrase TestRule
  plain : Phrase SumRule → Phrase TestRule
  one_term : Phrase TermRule → Phrase SumRule
  plus : Phrase SumRule → Phrase TermRule → Phrase SumRule
  minus : Phrase SumRule → Phrase TermRule → Phrase SumRule
  one_unary : Phrase UnaryRule → Phrase TermRule
  times : Phrase TermRule → Phrase UnaryRule → Phrase TermRule
  positive : Phrase UnaryRule → Phrase UnaryRule
  negative : Phrase UnaryRule → Phrase UnaryRule
  prim : Phrase PrimRule → Phrase UnaryRule
  name : List ℕ → Phrase PrimRule
  whole : ℤ → Phrase PrimRule
  text : List ℕ → Phrase PrimRule
  truth : Bool → Phrase PrimRule
  group : Phrase OrRule → Phrase PrimRule

-- the word that says this mark
abbrev pub mark : Mark → Word
mark m = words.Mark m

abbrev pub not_if : Bool → List Word
not_if true = mark marks.Not ∷ []
not_if false = []

abbrev pub more_texts : List (List ℕ) → List Word
more_texts [] = []
more_texts (t ∷ ts) = mark marks.Comma ∷ (words.Text t ∷ more_texts ts)

abbrev pub escape_if : Option (List ℕ) → List Word
escape_if None = []
escape_if (Some t) = mark marks.Escape ∷ (words.Text t ∷ [])

-- what stands behind the name of a test of the first three kinds, NOT aside
abbrev pub in_words : List ℕ → List (List ℕ) → List Word
in_words t ts = mark marks.In ∷ (mark marks.Open ∷ (words.Text t ∷ (more_texts ts ++ (mark marks.Close ∷ []))))

abbrev pub like_words : List ℕ → Option (List ℕ) → List Word
like_words t escape = mark marks.Like ∷ (words.Text t ∷ escape_if escape)

abbrev pub null_words : Bool → List Word
null_words negated = mark marks.Is ∷ (not_if negated ++ (mark marks.Null ∷ []))

-- the words of a phrase
abbrev pub spelled : {r : Rule} → Phrase r → List Word
spelled (one_and p) = spelled p
spelled (or p q) = spelled p ++ (mark marks.Or ∷ spelled q)
spelled (one_not p) = spelled p
spelled (and p q) = spelled p ++ (mark marks.And ∷ spelled q)
spelled (not p) = mark marks.Not ∷ spelled p
spelled (test p) = spelled p
spelled (is_in n negated t ts) = words.Name n ∷ (not_if negated ++ in_words t ts)
spelled (like n negated t escape) = words.Name n ∷ (not_if negated ++ like_words t escape)
spelled (is_null n negated) = words.Name n ∷ null_words negated
spelled (between x negated a b) =
    spelled x ++ (not_if negated ++ (mark marks.Between ∷ (spelled a ++ (mark marks.And ∷ spelled b))))
spelled (compare op a b) = spelled a ++ (words.Compared op ∷ spelled b)
spelled (plain p) = spelled p
spelled (one_term p) = spelled p
spelled (plus p q) = spelled p ++ (mark marks.Plus ∷ spelled q)
spelled (minus p q) = spelled p ++ (mark marks.Minus ∷ spelled q)
spelled (one_unary p) = spelled p
spelled (times p q) = spelled p ++ (mark marks.Star ∷ spelled q)
spelled (positive p) = mark marks.Plus ∷ spelled p
spelled (negative p) = mark marks.Minus ∷ spelled p
spelled (prim p) = spelled p
spelled (name n) = words.Name n ∷ []
spelled (whole n) = words.Whole n ∷ []
spelled (text t) = words.Text t ∷ []
spelled (truth b) = words.Truth b ∷ []
spelled (group p) = mark marks.Open ∷ (spelled p ++ (mark marks.Close ∷ []))

abbrev pub negated_if : Bool → Tree → Tree
negated_if true tree = trees.Not tree
negated_if false tree = tree

-- the character of the text behind ESCAPE
abbrev pub escape_of : Option (List ℕ) → Option ℕ
escape_of None = None
escape_of (Some t) = slice_get (chars t) 0

-- what a phrase means; parentheses leave nothing
abbrev pub tree_of : {r : Rule} → Phrase r → Tree
tree_of (one_and p) = tree_of p
tree_of (or p q) = trees.Or (tree_of p) (tree_of q)
tree_of (one_not p) = tree_of p
tree_of (and p q) = trees.And (tree_of p) (tree_of q)
tree_of (not p) = trees.Not (tree_of p)
tree_of (test p) = tree_of p
tree_of (is_in n negated t ts) = negated_if negated (trees.In n (t ∷ ts))
tree_of (like n negated t escape) = negated_if negated (trees.Like n t (escape_of escape))
tree_of (is_null n negated) = negated_if negated (trees.IsNull n)
tree_of (between x negated a b) = negated_if negated (trees.Between (tree_of x) (tree_of a) (tree_of b))
tree_of (compare op a b) = trees.Compare op (tree_of a) (tree_of b)
tree_of (plain p) = tree_of p
tree_of (one_term p) = tree_of p
tree_of (plus p q) = trees.Plus (tree_of p) (tree_of q)
tree_of (minus p q) = trees.Minus (tree_of p) (tree_of q)
tree_of (one_unary p) = tree_of p
tree_of (times p q) = trees.Times (tree_of p) (tree_of q)
tree_of (positive p) = trees.Positive (tree_of p)
tree_of (negative p) = trees.Negative (tree_of p)
tree_of (prim p) = tree_of p
tree_of (name n) = trees.Name n
tree_of (whole n) = trees.Whole n
tree_of (text t) = trees.Text t
tree_of (truth b) = trees.Truth b
tree_of (group p) = tree_of p

-- the text behind ESCAPE is exactly one character
abbrev pub IsEscape : Option (List ℕ) → Type 0
IsEscape None = Unit {0}
IsEscape (Some t) = length (chars t) ≡ 1

-- Nowhere are more levels open than these: NOT, a sign and a parenthesis open one each. And an escape is one character.
abbrev pub Fits : {r : Rule} → ℕ → Phrase r → Type 0
Fits levels (one_and p) = Fits levels p
Fits levels (or p q) = Fits levels p × Fits levels q
Fits levels (one_not p) = Fits levels p
Fits levels (and p q) = Fits levels p × Fits levels q
Fits levels (not p) = (1 ≤ levels) × Fits (levels - 1) p
Fits levels (test p) = Fits levels p
Fits levels (is_in n negated t ts) = Unit {0}
Fits levels (like n negated t escape) = IsEscape escape
Fits levels (is_null n negated) = Unit {0}
Fits levels (between x negated a b) = Fits levels x × Fits levels a × Fits levels b
Fits levels (compare op a b) = Fits levels a × Fits levels b
Fits levels (plain p) = Fits levels p
Fits levels (one_term p) = Fits levels p
Fits levels (plus p q) = Fits levels p × Fits levels q
Fits levels (minus p q) = Fits levels p × Fits levels q
Fits levels (one_unary p) = Fits levels p
Fits levels (times p q) = Fits levels p × Fits levels q
Fits levels (positive p) = (1 ≤ levels) × Fits (levels - 1) p
Fits levels (negative p) = (1 ≤ levels) × Fits (levels - 1) p
Fits levels (prim p) = Fits levels p
Fits levels (name n) = Unit {0}
Fits levels (whole n) = Unit {0}
Fits levels (text t) = Unit {0}
Fits levels (truth b) = Unit {0}
Fits levels (group p) = (1 ≤ levels) × Fits (levels - 1) p

-- the words are a filter, and this is its tree
abbrev pub ReadsWords : List Word → Tree → Type 0
ReadsWords words tree = (p : Phrase OrRule) × Fits 100 p × (spelled p ≡ words) × (tree_of p ≡ tree)

-- some filter begins with the words
abbrev pub Begins : List Word → Type 0
Begins words = (more : List Word) × (tree : Tree) × ReadsWords (words ++ more) tree

-- The words before the place begin a filter. With the next they begin none; where there is no next, they are none.
pub record IsRefusedAt (words : List Word) (place : ℕ) : Type 0 where
  pub within : place ≤ length words
  pub begins : Begins (take place words)
  pub stops : suc place ≤ length words → Begins (take (suc place) words) → ⊥
  pub unfinished : place ≡ length words → (tree : Tree) → ReadsWords words tree → ⊥
