-- What a parsing function answers: a device of the proof, which no public clause cites.
use Rattle.std.specs.Prelude.{◌≡◌, ◌≤◌, ℕ, ℤ, Bool, List, [], ◌∷◌, ◌++◌, ◌-◌, length, Result, Ok, Err, Option, Some, None, IsSome, slice_get}
use Rattle.std.specs.Str.{chars}
use Rattle.pg_parse.specs.declared.op.Op.{Op}
use Rattle.pg_parse.specs.declared.word.Word.{Word}
use Rattle.pg_parse.specs.declared.word.Word.TheVariants as words
use Rattle.pg_parse.specs.declared.word.Mark.{Mark}
use Rattle.pg_parse.specs.declared.word.Mark.TheVariants as marks
use Rattle.pg_parse.specs.declared.word.Sign.{Sign}
use Rattle.pg_parse.specs.declared.word.Sign.TheVariants as signs
use Rattle.pg_parse.specs.declared.tree.Tree.{Tree}
use Rattle.pg_parse.specs.declared.tree.Tree.TheVariants as trees
use Rattle.pg_parse.specs.declared.refusal.Refusal.{Refusal}
use Rattle.pg_parse.specs.declared.refusal.Refusal.TheVariants as refusals
use Rattle.pg_parse.specs.Grammar.{Rule, OrRule, AndRule, NotRule, TestRule, SumRule, TermRule, UnaryRule, PrimRule, Phrase, spelled, tree_of, Fits, mark, not_if, more_texts, escape_if, escape_of, in_words, like_words, null_words, negated_if, IsEscape, IsRefusedAt}

-- both are at an end, or begin with the same word
abbrev pub Agree : List Word → List Word → Type 0
Agree [] [] = Unit {0}
Agree [] (_ ∷ _) = ⊥
Agree (_ ∷ _) [] = ⊥
Agree (a ∷ _) (b ∷ _) = a ≡ b

-- Parts of a filter of one kind, as phrases of a rule: their words, which of them fit, and what may stand behind one.
pub record Language : Type 1 where
  pub Part : Type 0
  pub words_of : Part → List Word
  pub Fit : Part → Type 0
  pub Behind : List Word → Type 0

-- What holds of each part that begins a text of which the front and the first word behind it are known.
abbrev pub Every : (l : Language) → List Word → List Word → (l.Part → Type 0) → Type 0
Every l front rest P = (q : l.Part) (behind after : List Word) → l.Fit q → l.Behind behind → Agree rest after
    → l.words_of q ++ behind ≡ front ++ after → P q

-- The words are a part and the rest, and no other part stands there.
pub record IsRead (l : Language) (words : List Word) (part : l.Part) (rest : List Word) : Type 0 where
  pub fits : l.Fit part
  pub split : words ≡ l.words_of part ++ rest
  pub only : Every l (l.words_of part) rest (λ q. q ≡ part)

-- The front begins a part, and with the next word none.
pub record IsRefused (l : Language) (words : List Word) (left : ℕ) : Type 0 where
  pub front : List Word
  pub rest : List Word
  pub split : words ≡ front ++ rest
  pub place : length rest ≡ left
  pub part : l.Part
  pub more : List Word
  pub fits : l.Fit part
  pub begins : l.words_of part ≡ front ++ more
  pub stops : Every l front rest (λ q. ⊥)

abbrev pub IsFault : Language → List Word → Refusal → Type 0
IsFault l words refusals.Memory = Unit {0}
IsFault l words (refusals.Left left) = IsRefused l words left

-- a part was read whose value is this
pub record Gives {V : Type 0} (l : Language) (value : l.Part → V) (all : List Word) (given : V) (rest : List Word) : Type 0
  where
    pub part : l.Part
    pub value_is : value part ≡ given
    pub read : IsRead l all part rest

abbrev pub Answers : {X V : Type 0} (l : Language) → (l.Part → V) → List Word → (X → V) → (X → List Word)
    → Result X Refusal → Type 0
Answers l value words given rest (Ok x) = Gives l value words (given x) (rest x)
Answers l value words given rest (Err e) = IsFault l words e

-- What may stand behind a phrase of the rule: of the lower rules, whatever doesn't go on with it.
abbrev pub MayFollow : Rule → Word → Type 0
MayFollow OrRule (words.Mark marks.Close) = Unit {0}
MayFollow AndRule (words.Mark marks.Or) = Unit {0}
MayFollow AndRule (words.Mark marks.Close) = Unit {0}
MayFollow NotRule (words.Mark marks.And) = Unit {0}
MayFollow NotRule (words.Mark marks.Or) = Unit {0}
MayFollow NotRule (words.Mark marks.Close) = Unit {0}
MayFollow TestRule (words.Mark marks.And) = Unit {0}
MayFollow TestRule (words.Mark marks.Or) = Unit {0}
MayFollow TestRule (words.Mark marks.Close) = Unit {0}
MayFollow SumRule (words.Mark marks.Plus) = ⊥
MayFollow SumRule (words.Mark marks.Minus) = ⊥
MayFollow SumRule (words.Mark marks.Star) = ⊥
MayFollow SumRule _ = Unit {0}
MayFollow TermRule (words.Mark marks.Star) = ⊥
MayFollow TermRule _ = Unit {0}
MayFollow UnaryRule _ = Unit {0}
MayFollow PrimRule _ = Unit {0}
MayFollow _ _ = ⊥

abbrev pub Follows : Rule → List Word → Type 0
Follows r [] = Unit {0}
Follows r (word ∷ _) = MayFollow r word

-- the phrases of a rule that open no more levels than these
abbrev pub phrases : Rule → ℕ → Language
phrases r levels = record { Part = Phrase r; words_of = λ p. spelled p; Fit = λ p. Fits levels p; Behind = Follows r }

-- another word comes next, or none
abbrev pub NoMark : Mark → List Word → Type 0
NoMark m [] = Unit {0}
NoMark m (next ∷ _) = next ≡ mark m → ⊥

abbrev pub NoComparison : List Word → Type 0
NoComparison [] = Unit {0}
NoComparison (next ∷ _) = (op : Op) → next ≡ words.Compared op → ⊥

abbrev pub sign_mark : Sign → Mark
sign_mark signs.Plus = marks.Plus
sign_mark signs.Minus = marks.Minus

abbrev pub NoSign : List Word → Type 0
NoSign [] = Unit {0}
NoSign (next ∷ _) = (sign : Sign) → next ≡ mark (sign_mark sign) → ⊥

abbrev pub sum_tree : Sign → Tree → Tree → Tree
sum_tree signs.Plus left right = trees.Plus left right
sum_tree signs.Minus left right = trees.Minus left right

abbrev pub signed_tree : Sign → Tree → Tree
signed_tree signs.Plus tree = trees.Positive tree
signed_tree signs.Minus tree = trees.Negative tree

-- anything may stand behind these parts
abbrev pub Anything : List Word → Type 0
Anything _ = Unit {0}

abbrev pub Always : {A : Type 0} → A → Type 0
Always _ = Unit {0}

-- no words
abbrev pub nothing : Language
nothing = record { Part = Unit {0}; words_of = λ _. []; Fit = Always; Behind = Anything }

-- the parts that are one word of the list `prim`, and what they mean
pub data Atom : Type 0 where
  name_atom : List ℕ → Atom
  whole_atom : ℤ → Atom
  text_atom : List ℕ → Atom
  truth_atom : Bool → Atom

abbrev pub atom_word : Atom → Word
atom_word (name_atom n) = words.Name n
atom_word (whole_atom n) = words.Whole n
atom_word (text_atom t) = words.Text t
atom_word (truth_atom b) = words.Truth b

abbrev pub atom_tree : Atom → Tree
atom_tree (name_atom n) = trees.Name n
atom_tree (whole_atom n) = trees.Whole n
atom_tree (text_atom t) = trees.Text t
atom_tree (truth_atom b) = trees.Truth b

abbrev pub atoms : Language
atoms = record { Part = Atom; words_of = λ a. atom_word a ∷ []; Fit = Always; Behind = Anything }

-- a text; one or more, parted by commas; these in parentheses
abbrev pub text_parts : Language
text_parts = record { Part = List ℕ; words_of = λ t. words.Text t ∷ []; Fit = Always; Behind = Anything }

abbrev pub items : Language
items = record {
  Part = List ℕ × List (List ℕ);
  words_of = λ p. words.Text p.0 ∷ more_texts p.1;
  Fit = Always;
  Behind = NoMark marks.Comma;
}

abbrev pub lists : Language
lists = record {
  Part = List ℕ × List (List ℕ);
  words_of = λ p. mark marks.Open ∷ (words.Text p.0 ∷ (more_texts p.1 ++ (mark marks.Close ∷ [])));
  Fit = Always;
  Behind = Anything;
}

abbrev pub listed : List ℕ × List (List ℕ) → List (List ℕ)
listed p = p.0 ∷ p.1

-- ESCAPE and its text, or nothing; and a pattern before it
abbrev pub escapes : Language
escapes = record { Part = Option (List ℕ); words_of = escape_if; Fit = IsEscape; Behind = Follows TestRule }

abbrev pub patterns : Language
patterns = record {
  Part = List ℕ × Option (List ℕ);
  words_of = λ p. words.Text p.0 ∷ escape_if p.1;
  Fit = λ p. IsEscape p.1;
  Behind = Follows TestRule;
}

abbrev pub pattern_value : List ℕ × Option (List ℕ) → List ℕ × Option ℕ
pattern_value p = (p.0, escape_of p.1)

-- what may stand behind IS
abbrev pub nulls : Language
nulls = record {
  Part = Bool;
  words_of = λ negated. not_if negated ++ (mark marks.Null ∷ []);
  Fit = Always;
  Behind = Anything;
}

-- what may stand behind BETWEEN
abbrev pub ranges : ℕ → Language
ranges levels = record {
  Part = Phrase SumRule × Phrase SumRule;
  words_of = λ p. spelled p.0 ++ (mark marks.And ∷ spelled p.1);
  Fit = λ p. Fits levels p.0 × Fits levels p.1;
  Behind = Follows TestRule;
}

abbrev pub range_value : Phrase SumRule × Phrase SumRule → Tree × Tree
range_value p = (tree_of p.0, tree_of p.1)

-- What stands behind the first sum of a test, and before it NOT may stand.
pub data Form : Type 0 where
  in_form : List ℕ → List (List ℕ) → Form
  like_form : List ℕ → Option (List ℕ) → Form
  between_form : Phrase SumRule → Phrase SumRule → Form

-- All that stands behind the first sum of a test. A Bool says whether NOT stands in it.
pub data Tail : Type 0 where
  formed : Bool → Form → Tail
  null_tail : Bool → Tail
  compared : Op → Phrase SumRule → Tail
  no_tail : Tail

abbrev pub form_words : Form → List Word
form_words (in_form t ts) = in_words t ts
form_words (like_form t escape) = like_words t escape
form_words (between_form a b) = mark marks.Between ∷ (spelled a ++ (mark marks.And ∷ spelled b))

abbrev pub tail_words : Tail → List Word
tail_words (formed negated form) = not_if negated ++ form_words form
tail_words (null_tail negated) = null_words negated
tail_words (compared op p) = words.Compared op ∷ spelled p
tail_words no_tail = []

-- IN, LIKE and IS stand only behind a sum that is a name.
abbrev pub FitsForm : Option (List ℕ) → ℕ → Form → Type 0
FitsForm name levels (in_form t ts) = IsSome name
FitsForm name levels (like_form t escape) = IsSome name × IsEscape escape
FitsForm name levels (between_form a b) = Fits levels a × Fits levels b

abbrev pub FitsTail : Option (List ℕ) → ℕ → Tail → Type 0
FitsTail name levels (formed negated form) = FitsForm name levels form
FitsTail name levels (null_tail negated) = IsSome name
FitsTail name levels (compared op p) = Fits levels p
FitsTail name levels no_tail = Unit {0}

abbrev pub name_in : Option (List ℕ) → List ℕ
name_in (Some n) = n
name_in None = []

-- the tree of the test, of the name and the tree of its first sum
abbrev pub form_tree : Option (List ℕ) → Tree → Form → Tree
form_tree name head (in_form t ts) = trees.In (name_in name) (t ∷ ts)
form_tree name head (like_form t escape) = trees.Like (name_in name) t (escape_of escape)
form_tree name head (between_form a b) = trees.Between head (tree_of a) (tree_of b)

abbrev pub tail_tree : Option (List ℕ) → Tree → Tail → Tree
tail_tree name head (formed negated form) = negated_if negated (form_tree name head form)
tail_tree name head (null_tail negated) = negated_if negated (trees.IsNull (name_in name))
tail_tree name head (compared op p) = trees.Compare op head (tree_of p)
tail_tree name head no_tail = head

abbrev pub forms : Option (List ℕ) → ℕ → Language
forms name levels = record { Part = Form; words_of = form_words; Fit = FitsForm name levels; Behind = Follows TestRule }

abbrev pub tails : Option (List ℕ) → ℕ → Language
tails name levels = record { Part = Tail; words_of = tail_words; Fit = FitsTail name levels; Behind = Follows TestRule }

-- the words aren't a name and this rest
abbrev pub NotNamed : List Word → List Word → Type 0
NotNamed all rest = (n : List ℕ) → all ≡ words.Name n ∷ rest → ⊥

abbrev pub NoText : List Word → Type 0
NoText [] = Unit {0}
NoText (next ∷ _) = (t : List ℕ) → next ≡ words.Text t → ⊥

-- no text of one character comes next; such a text comes next, and this is its character
abbrev pub NoCharacter : List Word → Type 0
NoCharacter [] = Unit {0}
NoCharacter (next ∷ _) = (t : List ℕ) → next ≡ words.Text t → length (chars t) ≡ 1 → ⊥

pub record HasCharacter (all : List Word) (c : ℕ) (rest : List Word) : Type 0 where
  pub text : List ℕ
  pub split : all ≡ words.Text text ∷ rest
  pub one : length (chars text) ≡ 1
  pub is : slice_get (chars text) 0 ≡ Some c

-- BETWEEN, or behind a name IN or LIKE, comes next
abbrev pub BeginsForm : Option (List ℕ) → List Word → Type 0
BeginsForm name (words.Mark marks.Between ∷ _) = Unit {0}
BeginsForm name (words.Mark marks.In ∷ _) = IsSome name
BeginsForm name (words.Mark marks.Like ∷ _) = IsSome name
BeginsForm name _ = ⊥

-- nothing but this tree, unless memory runs out
abbrev pub IsReadAs : Tree → Result Tree Refusal → Type 0
IsReadAs tree (Ok other) = other ≡ tree
IsReadAs tree (Err refusals.Memory) = Unit {0}
IsReadAs tree (Err (refusals.Left left)) = ⊥

abbrev pub IsRefusedWith : List Word → Refusal → Type 0
IsRefusedWith all refusals.Memory = Unit {0}
IsRefusedWith all (refusals.Left left) = (left ≤ length all) × IsRefusedAt all (length all - left)
