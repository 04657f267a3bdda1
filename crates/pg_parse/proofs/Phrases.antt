-- The phrases of the rules, but for what stands in a test behind its first sum.
use Rattle.std.proofs.Common.{◌≡◌, ◌≤◌, ◌-◌, ℕ, List, [], ◌∷◌, ◌++◌, length, refl, sym, ap, subst, arith, Result}
use Rattle.pg_parse.specs.declared.word.Word.{Word}
use Rattle.pg_parse.specs.declared.word.Word.TheVariants as words
use Rattle.pg_parse.specs.declared.word.Mark.{Mark}
use Rattle.pg_parse.specs.declared.word.Mark.TheVariants as marks
use Rattle.pg_parse.specs.declared.word.Sign.{Sign}
use Rattle.pg_parse.specs.declared.word.Sign.TheVariants as signs
use Rattle.pg_parse.specs.declared.tree.Tree.{Tree}
use Rattle.pg_parse.specs.declared.tree.Tree.TheVariants as trees
use Rattle.pg_parse.specs.declared.refusal.Refusal.{Refusal}
use Rattle.pg_parse.specs.Grammar.{Rule, OrRule, AndRule, NotRule, TestRule, SumRule, TermRule, UnaryRule, PrimRule, Phrase, one_and, or, one_not, and, not, test, is_in, like, is_null, between, compare, plain, one_term, plus, minus, one_unary, times, positive, negative, prim, name, whole, text, truth, group, spelled, tree_of, Fits, mark, not_if, in_words, like_words, null_words}
use Rattle.pg_parse.specs.Parsing.{Agree, Language, IsRefused, Gives, IsFault, Answers, MayFollow, Follows, phrases, NoMark, NoSign, sign_mark, sum_tree, signed_tree, Anything, Atom, name_atom, whole_atom, text_atom, truth_atom, atom_word, atom_tree, atoms}
use Rattle.pg_parse.proofs.Languages.{Lies, lies_refused, lies_gives, lies_fault, lies_answers, refused_here, Follow, both_read, second_refused, both_fault}
use Rattle.pg_parse.proofs.Chains.{HasFront, front_more, IsChained, Chaining, NoneNext}
use Rattle.pg_parse.proofs.Leaves.{no_mark, close_read, close_refused}

-- The words that phrases begin with.
abbrev pub BeginsPrim : Word → Type 0
BeginsPrim (words.Mark marks.Open) = Unit {0}
BeginsPrim (words.Name n) = Unit {0}
BeginsPrim (words.Whole n) = Unit {0}
BeginsPrim (words.Text t) = Unit {0}
BeginsPrim (words.Truth b) = Unit {0}
BeginsPrim _ = ⊥

abbrev pub BeginsSum : Word → Type 0
BeginsSum (words.Mark marks.Plus) = Unit {0}
BeginsSum (words.Mark marks.Minus) = Unit {0}
BeginsSum w = BeginsPrim w

abbrev pub BeginsNot : Word → Type 0
BeginsNot (words.Mark marks.Not) = Unit {0}
BeginsNot w = BeginsSum w

abbrev pub MayBegin : Rule → Word → Type 0
MayBegin OrRule = BeginsNot
MayBegin AndRule = BeginsNot
MayBegin NotRule = BeginsNot
MayBegin TestRule = BeginsSum
MayBegin SumRule = BeginsSum
MayBegin TermRule = BeginsSum
MayBegin UnaryRule = BeginsSum
MayBegin PrimRule = BeginsPrim

pub prim_sum : (w : Word) → BeginsPrim w → BeginsSum w
prim_sum (words.Mark marks.Plus) b = tt
prim_sum (words.Mark marks.Minus) b = tt
prim_sum w b = b

pub sum_not : (w : Word) → BeginsSum w → BeginsNot w
sum_not (words.Mark marks.Not) b = tt
sum_not w b = b

-- they are some words, the first of which is such a one
pub record Starts (May : Word → Type 0) (all : List Word) : Type 0 where
  pub first : Word
  pub others : List Word
  pub is : all ≡ first ∷ others
  pub may : May first

pub starts_front : (May : Word → Type 0) (ws more : List Word) → Starts May ws → Starts May (ws ++ more)
starts_front May ws more s = record { first = s.first; others = s.others ++ more; is = ap (λ ws. ws ++ more) s.is; may = s.may }

pub starts_more : (A B : Word → Type 0) (ws : List Word) → ((w : Word) → A w → B w) → Starts A ws → Starts B ws
starts_more A B ws more s = record { first = s.first; others = s.others; is = s.is; may = more s.first s.may }

pub starts : {r : Rule} (p : Phrase r) → Starts (MayBegin r) (spelled p)
starts (one_and p) = starts p
starts (or p q) = starts_front BeginsNot (spelled p) (mark marks.Or ∷ spelled q) (starts p)
starts (one_not p) = starts p
starts (and p q) = starts_front BeginsNot (spelled p) (mark marks.And ∷ spelled q) (starts p)
starts (not p) = record { first = mark marks.Not; others = spelled p; is = refl; may = tt }
starts (test p) = starts_more BeginsSum BeginsNot (spelled p) sum_not (starts p)
starts (is_in n negated t ts) = record { first = words.Name n; others = not_if negated ++ in_words t ts; is = refl; may = tt }
starts (like n negated t escape) = record { first = words.Name n; others = not_if negated ++ like_words t escape; is = refl; may = tt }
starts (is_null n negated) = record { first = words.Name n; others = null_words negated; is = refl; may = tt }
starts (between x negated a b) = starts_front BeginsSum (spelled x) (not_if negated ++ (mark marks.Between ∷ (spelled a ++ (mark marks.And ∷ spelled b)))) (starts x)
starts (compare op a b) = starts_front BeginsSum (spelled a) (words.Compared op ∷ spelled b) (starts a)
starts (plain p) = starts p
starts (one_term p) = starts p
starts (plus p q) = starts_front BeginsSum (spelled p) (mark marks.Plus ∷ spelled q) (starts p)
starts (minus p q) = starts_front BeginsSum (spelled p) (mark marks.Minus ∷ spelled q) (starts p)
starts (one_unary p) = starts p
starts (times p q) = starts_front BeginsSum (spelled p) (mark marks.Star ∷ spelled q) (starts p)
starts (positive p) = record { first = mark marks.Plus; others = spelled p; is = refl; may = tt }
starts (negative p) = record { first = mark marks.Minus; others = spelled p; is = refl; may = tt }
starts (prim p) = starts_more BeginsPrim BeginsSum (spelled p) prim_sum (starts p)
starts (name n) = record { first = words.Name n; others = []; is = refl; may = tt }
starts (whole n) = record { first = words.Whole n; others = []; is = refl; may = tt }
starts (text t) = record { first = words.Text t; others = []; is = refl; may = tt }
starts (truth b) = record { first = words.Truth b; others = []; is = refl; may = tt }
starts (group p) = record { first = mark marks.Open; others = spelled p ++ (mark marks.Close ∷ []); is = refl; may = tt }

pub next_begins : (May : Word → Type 0) (w : Word) (inner ws behind : List Word) → Starts May ws → Agree (w ∷ inner) (ws ++ behind) → May w
next_begins May w inner ws behind s agree =
    let at : w ≡ s.first = subst (λ ws. Agree (w ∷ inner) (ws ++ behind)) s.is agree in
    subst May (sym at) s.may

-- the name `a`
abbrev pub a_prim : Phrase PrimRule
a_prim = name (97 ∷ [])

-- "*" and "+" and "-"

pub follows_unary : (ws : List Word) → Follows TermRule ws → Follows UnaryRule ws
follows_unary [] f = tt
follows_unary (w ∷ _) f = tt

pub follows_term_word : (w : Word) → MayFollow SumRule w → MayFollow TermRule w
follows_term_word (words.Mark marks.Star) f = f
follows_term_word _ f = tt

pub follows_term : (ws : List Word) → Follows SumRule ws → Follows TermRule ws
follows_term [] f = tt
follows_term (w ∷ _) f = follows_term_word w f

abbrev pub more_terms : Phrase TermRule → Unit {0} → Phrase UnaryRule → Phrase TermRule
more_terms p _ q = times p q

pub term_front : (p : Phrase TermRule) → HasFront {O = Unit {0}} one_unary more_terms p
term_front (one_unary q) = record { front = q; tail = []; is = refl }
term_front (times p q) = front_more one_unary more_terms p tt q (term_front p)

pub terms_chained : (levels : ℕ) → IsChained (phrases TermRule levels) (phrases UnaryRule levels) (Unit {0}) (λ _. mark marks.Star) one_unary more_terms
terms_chained levels = record {
  one_words = λ q. refl;
  more_words = λ p o q. refl;
  one_fits = λ q f. f;
  fits_one = λ q f. f;
  more_fits = λ p o q f g. (f, g);
  fits_left = λ p o q f. f.0;
  fits_right = λ p o q f. f.1;
  op_follows = λ o ws. tt;
  low_follows = follows_unary;
  op_ends = λ o ws f. f;
  op_is = λ a b e. refl;
  has_front = term_front;
}

abbrev pub term_chain : ℕ → Chaining
term_chain levels = record {
  upper = phrases TermRule levels;
  lower = phrases UnaryRule levels;
  Operator = Unit {0};
  op = λ _. mark marks.Star;
  one = one_unary;
  more = more_terms;
  chained = terms_chained levels;
  Value = Tree;
  Low = Tree;
  value = λ p. tree_of p;
  low = λ q. tree_of q;
  start = λ t. t;
  join = λ t _ u. trees.Times t u;
  value_one = λ q. refl;
  value_more = λ p o q. refl;
}

abbrev pub more_sums : Phrase SumRule → Sign → Phrase TermRule → Phrase SumRule
more_sums p signs.Plus q = plus p q
more_sums p signs.Minus q = minus p q

pub sum_front : (p : Phrase SumRule) → HasFront {O = Sign} one_term more_sums p
sum_front (one_term q) = record { front = q; tail = []; is = refl }
sum_front (plus p q) = front_more one_term more_sums p signs.Plus q (sum_front p)
sum_front (minus p q) = front_more one_term more_sums p signs.Minus q (sum_front p)

pub sums_chained : (levels : ℕ) → IsChained (phrases SumRule levels) (phrases TermRule levels) Sign (λ s. mark (sign_mark s)) one_term more_sums
sums_chained levels = record {
  one_words = λ q. refl;
  more_words = more_words;
  one_fits = λ q f. f;
  fits_one = λ q f. f;
  more_fits = more_fits;
  fits_left = fits_left;
  fits_right = fits_right;
  op_follows = op_follows;
  low_follows = follows_term;
  op_ends = op_ends;
  op_is = op_is;
  has_front = sum_front;
}
  where
    more_words : (p : Phrase SumRule) (o : Sign) (q : Phrase TermRule) → spelled (more_sums p o q) ≡ spelled p ++ (mark (sign_mark o) ∷ spelled q)
    more_words p signs.Plus q = refl
    more_words p signs.Minus q = refl

    more_fits : (p : Phrase SumRule) (o : Sign) (q : Phrase TermRule) → Fits levels p → Fits levels q → Fits levels (more_sums p o q)
    more_fits p signs.Plus q f g = (f, g)
    more_fits p signs.Minus q f g = (f, g)

    fits_left : (p : Phrase SumRule) (o : Sign) (q : Phrase TermRule) → Fits levels (more_sums p o q) → Fits levels p
    fits_left p signs.Plus q f = f.0
    fits_left p signs.Minus q f = f.0

    fits_right : (p : Phrase SumRule) (o : Sign) (q : Phrase TermRule) → Fits levels (more_sums p o q) → Fits levels q
    fits_right p signs.Plus q f = f.1
    fits_right p signs.Minus q f = f.1

    op_follows : (o : Sign) (ws : List Word) → Follows TermRule (mark (sign_mark o) ∷ ws)
    op_follows signs.Plus ws = tt
    op_follows signs.Minus ws = tt

    op_ends : (o : Sign) (ws : List Word) → Follows SumRule (mark (sign_mark o) ∷ ws) → ⊥
    op_ends signs.Plus ws f = f
    op_ends signs.Minus ws f = f

    op_is : (a b : Sign) → mark (sign_mark a) ≡ mark (sign_mark b) → a ≡ b
    op_is signs.Plus signs.Plus e = refl
    op_is signs.Minus signs.Minus e = refl
    op_is signs.Plus signs.Minus e = cc e
    op_is signs.Minus signs.Plus e = cc e

pub sum_value : (p : Phrase SumRule) (o : Sign) (q : Phrase TermRule) → tree_of (more_sums p o q) ≡ sum_tree o (tree_of p) (tree_of q)
sum_value p signs.Plus q = refl
sum_value p signs.Minus q = refl

abbrev pub sum_chain : ℕ → Chaining
sum_chain levels = record {
  upper = phrases SumRule levels;
  lower = phrases TermRule levels;
  Operator = Sign;
  op = λ s. mark (sign_mark s);
  one = one_term;
  more = more_sums;
  chained = sums_chained levels;
  Value = Tree;
  Low = Tree;
  value = λ p. tree_of p;
  low = λ q. tree_of q;
  start = λ t. t;
  join = λ t o u. sum_tree o t u;
  value_one = λ q. refl;
  value_more = sum_value;
}

pub no_sign : (s : Sign) (ws more : List Word) → NoSign ws → Agree ws (mark (sign_mark s) ∷ more) → ⊥
no_sign s [] more none agree = agree
no_sign s (w ∷ ws) more none agree = none s agree

-- AND and OR

pub follows_test_word : (w : Word) → MayFollow NotRule w → MayFollow TestRule w
follows_test_word (words.Mark marks.And) f = tt
follows_test_word (words.Mark marks.Or) f = tt
follows_test_word (words.Mark marks.Close) f = tt
follows_test_word _ f = elim f [ ]

pub follows_test : (ws : List Word) → Follows NotRule ws → Follows TestRule ws
follows_test [] f = tt
follows_test (w ∷ _) f = follows_test_word w f

pub follows_sum_word : (w : Word) → MayFollow TestRule w → MayFollow SumRule w
follows_sum_word (words.Mark marks.And) f = tt
follows_sum_word (words.Mark marks.Or) f = tt
follows_sum_word (words.Mark marks.Close) f = tt
follows_sum_word _ f = elim f [ ]

pub follows_sum : (ws : List Word) → Follows TestRule ws → Follows SumRule ws
follows_sum [] f = tt
follows_sum (w ∷ _) f = follows_sum_word w f

pub follows_not_word : (w : Word) → MayFollow AndRule w → MayFollow NotRule w
follows_not_word (words.Mark marks.Or) f = tt
follows_not_word (words.Mark marks.Close) f = tt
follows_not_word _ f = elim f [ ]

pub follows_not : (ws : List Word) → Follows AndRule ws → Follows NotRule ws
follows_not [] f = tt
follows_not (w ∷ _) f = follows_not_word w f

pub follows_and_word : (w : Word) → MayFollow OrRule w → MayFollow AndRule w
follows_and_word (words.Mark marks.Close) f = tt
follows_and_word _ f = elim f [ ]

pub follows_and : (ws : List Word) → Follows OrRule ws → Follows AndRule ws
follows_and [] f = tt
follows_and (w ∷ _) f = follows_and_word w f

abbrev pub more_ands : Phrase AndRule → Unit {0} → Phrase NotRule → Phrase AndRule
more_ands p _ q = and p q

pub and_front : (p : Phrase AndRule) → HasFront {O = Unit {0}} one_not more_ands p
and_front (one_not q) = record { front = q; tail = []; is = refl }
and_front (and p q) = front_more one_not more_ands p tt q (and_front p)

pub ands_chained : (levels : ℕ) → IsChained (phrases AndRule levels) (phrases NotRule levels) (Unit {0}) (λ _. mark marks.And) one_not more_ands
ands_chained levels = record {
  one_words = λ q. refl;
  more_words = λ p o q. refl;
  one_fits = λ q f. f;
  fits_one = λ q f. f;
  more_fits = λ p o q f g. (f, g);
  fits_left = λ p o q f. f.0;
  fits_right = λ p o q f. f.1;
  op_follows = λ o ws. tt;
  low_follows = follows_not;
  op_ends = λ o ws f. f;
  op_is = λ a b e. refl;
  has_front = and_front;
}

abbrev pub and_chain : ℕ → Chaining
and_chain levels = record {
  upper = phrases AndRule levels;
  lower = phrases NotRule levels;
  Operator = Unit {0};
  op = λ _. mark marks.And;
  one = one_not;
  more = more_ands;
  chained = ands_chained levels;
  Value = Tree;
  Low = Tree;
  value = λ p. tree_of p;
  low = λ q. tree_of q;
  start = λ t. t;
  join = λ t _ u. trees.And t u;
  value_one = λ q. refl;
  value_more = λ p o q. refl;
}

abbrev pub more_ors : Phrase OrRule → Unit {0} → Phrase AndRule → Phrase OrRule
more_ors p _ q = or p q

pub or_front : (p : Phrase OrRule) → HasFront {O = Unit {0}} one_and more_ors p
or_front (one_and q) = record { front = q; tail = []; is = refl }
or_front (or p q) = front_more one_and more_ors p tt q (or_front p)

pub ors_chained : (levels : ℕ) → IsChained (phrases OrRule levels) (phrases AndRule levels) (Unit {0}) (λ _. mark marks.Or) one_and more_ors
ors_chained levels = record {
  one_words = λ q. refl;
  more_words = λ p o q. refl;
  one_fits = λ q f. f;
  fits_one = λ q f. f;
  more_fits = λ p o q f g. (f, g);
  fits_left = λ p o q f. f.0;
  fits_right = λ p o q f. f.1;
  op_follows = λ o ws. tt;
  low_follows = follows_and;
  op_ends = λ o ws f. f;
  op_is = λ a b e. refl;
  has_front = or_front;
}

abbrev pub or_chain : ℕ → Chaining
or_chain levels = record {
  upper = phrases OrRule levels;
  lower = phrases AndRule levels;
  Operator = Unit {0};
  op = λ _. mark marks.Or;
  one = one_and;
  more = more_ors;
  chained = ors_chained levels;
  Value = Tree;
  Low = Tree;
  value = λ p. tree_of p;
  low = λ q. tree_of q;
  start = λ t. t;
  join = λ t _ u. trees.Or t u;
  value_one = λ q. refl;
  value_more = λ p o q. refl;
}

pub none_next : (m : Mark) (ws : List Word) → NoMark m ws → NoneNext {O = Unit {0}} (λ _. mark m) ws
none_next m ws none o more agree = no_mark m ws more none agree

pub no_sign_next : (ws : List Word) → NoSign ws → NoneNext {O = Sign} (λ s. mark (sign_mark s)) ws
no_sign_next ws none o more agree = no_sign o ws more none agree

-- NOT

pub not_view : (levels : ℕ) (inner : List Word) (p : Phrase NotRule) (behind : List Word) → Fits levels p → Agree (mark marks.Not ∷ inner) (spelled p ++ behind)
    → (q : Phrase NotRule) × (p ≡ not q) × Fits (levels - 1) q
not_view levels inner (not q) behind f agree = (q, refl, f.1)
not_view levels inner (test q) behind f agree = elim (next_begins BeginsSum (mark marks.Not) inner (spelled q) behind (starts q) agree) [ ]

pub not_lies : (levels : ℕ) (inner : List Word) → 1 ≤ levels → Lies (phrases NotRule levels) (phrases NotRule (levels - 1)) ((mark marks.Not ∷ []) ++ inner) (mark marks.Not ∷ []) not
not_lies levels inner some = record {
  words_are = λ q. refl;
  fits = λ q f. (some, f);
  view = λ p behind f follows agree. not_view levels inner p behind f agree;
  behind = λ ws f. f;
}

pub not_gives : (levels : ℕ) (inner : List Word) (tree : Tree) (rest : List Word) → 1 ≤ levels → Gives (phrases NotRule (levels - 1)) (λ p. tree_of p) inner tree rest
    → Gives (phrases NotRule levels) (λ p. tree_of p) (mark marks.Not ∷ inner) (trees.Not tree) rest
not_gives levels inner tree rest some g = lies_gives (phrases NotRule levels) (phrases NotRule (levels - 1)) (mark marks.Not ∷ []) inner not (not_lies levels inner some)
    (λ p. tree_of p) (λ p. tree_of p) (λ t. trees.Not t) (λ q f. refl) tree rest g

pub not_fault : (levels : ℕ) (inner : List Word) (e : Refusal) → 1 ≤ levels → IsFault (phrases NotRule (levels - 1)) inner e → IsFault (phrases NotRule levels) (mark marks.Not ∷ inner) e
not_fault levels inner e some a = lies_fault (phrases NotRule levels) (phrases NotRule (levels - 1)) (mark marks.Not ∷ []) inner not (not_lies levels inner some) e a

pub none_deep_not : (levels : ℕ) (inner : List Word) → levels ≡ 0 → (p : Phrase NotRule) (behind : List Word) → Fits levels p → Agree (mark marks.Not ∷ inner) (spelled p ++ behind) → ⊥
none_deep_not levels inner none p behind f agree = let v = not_view levels inner p behind f agree in let g = subst (λ p. Fits levels p) v.1 f in let some : 1 ≤ levels = g.0 in omega arith

pub not_too_deep : (levels : ℕ) (inner : List Word) → levels ≡ 0 → IsRefused (phrases NotRule levels) (mark marks.Not ∷ inner) (length (mark marks.Not ∷ inner))
not_too_deep levels inner none = refused_here (phrases NotRule levels) (mark marks.Not ∷ inner) (test (plain (one_term (one_unary (prim a_prim))))) tt
    (λ p behind f follows agree. none_deep_not levels inner none p behind f agree)

pub test_view : (levels : ℕ) (ws : List Word) (p : Phrase NotRule) (behind : List Word) → NoMark marks.Not ws → Fits levels p → Agree ws (spelled p ++ behind)
    → (q : Phrase TestRule) × (p ≡ test q) × Fits levels q
test_view levels ws (not q) behind none f agree = elim (no_mark marks.Not ws (spelled q ++ behind) none agree) [ ]
test_view levels ws (test q) behind none f agree = (q, refl, f)

pub test_lies : (levels : ℕ) (ws : List Word) → NoMark marks.Not ws → Lies (phrases NotRule levels) (phrases TestRule levels) ([] ++ ws) [] test
test_lies levels ws none = record {
  words_are = λ q. refl;
  fits = λ q f. f;
  view = λ p behind f follows agree. test_view levels ws p behind none f agree;
  behind = follows_test;
}

pub test_answers : {X : Type 0} (levels : ℕ) (ws : List Word) → NoMark marks.Not ws → (tree : X → Tree) (rest : X → List Word) (r : Result X Refusal)
    → Answers (phrases TestRule levels) (λ p. tree_of p) ws tree rest r → Answers (phrases NotRule levels) (λ p. tree_of p) ws tree rest r
test_answers levels ws none tree rest r a = lies_answers (phrases NotRule levels) (phrases TestRule levels) [] ws test (test_lies levels ws none) (λ p. tree_of p) (λ p. tree_of p) (λ q f. refl) tree rest r a

-- signs

abbrev pub sign_phrase : Sign → Phrase UnaryRule → Phrase UnaryRule
sign_phrase signs.Plus p = positive p
sign_phrase signs.Minus p = negative p

pub sign_words : (s : Sign) (q : Phrase UnaryRule) → spelled (sign_phrase s q) ≡ mark (sign_mark s) ∷ spelled q
sign_words signs.Plus q = refl
sign_words signs.Minus q = refl

pub sign_fits : (levels : ℕ) (s : Sign) (q : Phrase UnaryRule) → 1 ≤ levels → Fits (levels - 1) q → Fits levels (sign_phrase s q)
sign_fits levels signs.Plus q some f = (some, f)
sign_fits levels signs.Minus q some f = (some, f)

pub sign_value : (s : Sign) (q : Phrase UnaryRule) → tree_of (sign_phrase s q) ≡ signed_tree s (tree_of q)
sign_value signs.Plus q = refl
sign_value signs.Minus q = refl

pub sign_view : (levels : ℕ) (s : Sign) (inner : List Word) (p : Phrase UnaryRule) (behind : List Word) → Fits levels p → Agree (mark (sign_mark s) ∷ inner) (spelled p ++ behind)
    → (q : Phrase UnaryRule) × (p ≡ sign_phrase s q) × (1 ≤ levels) × Fits (levels - 1) q
sign_view levels signs.Plus inner (positive q) behind f agree = (q, refl, f.0, f.1)
sign_view levels signs.Plus inner (negative q) behind f agree = cc agree
sign_view levels signs.Plus inner (prim q) behind f agree = elim (next_begins BeginsPrim (mark marks.Plus) inner (spelled q) behind (starts q) agree) [ ]
sign_view levels signs.Minus inner (positive q) behind f agree = cc agree
sign_view levels signs.Minus inner (negative q) behind f agree = (q, refl, f.0, f.1)
sign_view levels signs.Minus inner (prim q) behind f agree = elim (next_begins BeginsPrim (mark marks.Minus) inner (spelled q) behind (starts q) agree) [ ]

pub sign_lies : (levels : ℕ) (s : Sign) (inner : List Word) → 1 ≤ levels → Lies (phrases UnaryRule levels) (phrases UnaryRule (levels - 1)) ((mark (sign_mark s) ∷ []) ++ inner) (mark (sign_mark s) ∷ []) (sign_phrase s)
sign_lies levels s inner some = record {
  words_are = sign_words s;
  fits = λ q f. sign_fits levels s q some f;
  view = λ p behind f follows agree. (let v = sign_view levels s inner p behind f agree in (v.0, v.1, v.3));
  behind = λ ws f. follows_any ws;
}
  where
    follows_any : (ws : List Word) → Follows UnaryRule ws
    follows_any [] = tt
    follows_any (w ∷ _) = tt

pub sign_gives : (levels : ℕ) (s : Sign) (inner : List Word) (tree : Tree) (rest : List Word) → 1 ≤ levels → Gives (phrases UnaryRule (levels - 1)) (λ p. tree_of p) inner tree rest
    → Gives (phrases UnaryRule levels) (λ p. tree_of p) (mark (sign_mark s) ∷ inner) (signed_tree s tree) rest
sign_gives levels s inner tree rest some g = lies_gives (phrases UnaryRule levels) (phrases UnaryRule (levels - 1)) (mark (sign_mark s) ∷ []) inner (sign_phrase s) (sign_lies levels s inner some)
    (λ p. tree_of p) (λ p. tree_of p) (signed_tree s) (λ q f. sign_value s q) tree rest g

pub sign_fault : (levels : ℕ) (s : Sign) (inner : List Word) (e : Refusal) → 1 ≤ levels → IsFault (phrases UnaryRule (levels - 1)) inner e → IsFault (phrases UnaryRule levels) (mark (sign_mark s) ∷ inner) e
sign_fault levels s inner e some a = lies_fault (phrases UnaryRule levels) (phrases UnaryRule (levels - 1)) (mark (sign_mark s) ∷ []) inner (sign_phrase s) (sign_lies levels s inner some) e a

pub sign_too_deep : (levels : ℕ) (s : Sign) (inner : List Word) → levels ≡ 0 → IsRefused (phrases UnaryRule levels) (mark (sign_mark s) ∷ inner) (length (mark (sign_mark s) ∷ inner))
sign_too_deep levels s inner none = refused_here (phrases UnaryRule levels) (mark (sign_mark s) ∷ inner) (prim a_prim) tt
    (λ p behind f follows agree. let v = sign_view levels s inner p behind f agree in let some : 1 ≤ levels = v.2 in omega arith)

pub prim_view : (levels : ℕ) (ws : List Word) (p : Phrase UnaryRule) (behind : List Word) → NoSign ws → Fits levels p → Agree ws (spelled p ++ behind)
    → (q : Phrase PrimRule) × (p ≡ prim q) × Fits levels q
prim_view levels ws (positive q) behind none f agree = elim (no_sign signs.Plus ws (spelled q ++ behind) none agree) [ ]
prim_view levels ws (negative q) behind none f agree = elim (no_sign signs.Minus ws (spelled q ++ behind) none agree) [ ]
prim_view levels ws (prim q) behind none f agree = (q, refl, f)

pub prim_lies : (levels : ℕ) (ws : List Word) → NoSign ws → Lies (phrases UnaryRule levels) (phrases PrimRule levels) ([] ++ ws) [] prim
prim_lies levels ws none = record {
  words_are = λ q. refl;
  fits = λ q f. f;
  view = λ p behind f follows agree. prim_view levels ws p behind none f agree;
  behind = λ ws f. follows_any ws;
}
  where
    follows_any : (ws : List Word) → Follows PrimRule ws
    follows_any [] = tt
    follows_any (w ∷ _) = tt

pub prim_answers : {X : Type 0} (levels : ℕ) (ws : List Word) → NoSign ws → (tree : X → Tree) (rest : X → List Word) (r : Result X Refusal)
    → Answers (phrases PrimRule levels) (λ p. tree_of p) ws tree rest r → Answers (phrases UnaryRule levels) (λ p. tree_of p) ws tree rest r
prim_answers levels ws none tree rest r a = lies_answers (phrases UnaryRule levels) (phrases PrimRule levels) [] ws prim (prim_lies levels ws none) (λ p. tree_of p) (λ p. tree_of p) (λ q f. refl) tree rest r a

-- single words

abbrev pub atom_phrase : Atom → Phrase PrimRule
atom_phrase (name_atom n) = name n
atom_phrase (whole_atom n) = whole n
atom_phrase (text_atom t) = text t
atom_phrase (truth_atom b) = truth b

pub atom_words : (a : Atom) → spelled (atom_phrase a) ≡ atom_word a ∷ []
atom_words (name_atom n) = refl
atom_words (whole_atom n) = refl
atom_words (text_atom t) = refl
atom_words (truth_atom b) = refl

pub atom_fits : (levels : ℕ) (a : Atom) → Fits levels (atom_phrase a)
atom_fits levels (name_atom n) = tt
atom_fits levels (whole_atom n) = tt
atom_fits levels (text_atom t) = tt
atom_fits levels (truth_atom b) = tt

pub atom_value : (a : Atom) → tree_of (atom_phrase a) ≡ atom_tree a
atom_value (name_atom n) = refl
atom_value (whole_atom n) = refl
atom_value (text_atom t) = refl
atom_value (truth_atom b) = refl

pub atom_view : (ws : List Word) (p : Phrase PrimRule) (behind : List Word) → NoMark marks.Open ws → Agree ws (spelled p ++ behind) → (a : Atom) × (p ≡ atom_phrase a) × Unit {0}
atom_view ws (name n) behind none agree = (name_atom n, refl, tt)
atom_view ws (whole n) behind none agree = (whole_atom n, refl, tt)
atom_view ws (text t) behind none agree = (text_atom t, refl, tt)
atom_view ws (truth b) behind none agree = (truth_atom b, refl, tt)
atom_view ws (group p) behind none agree = elim (no_mark marks.Open ws ((spelled p ++ (mark marks.Close ∷ [])) ++ behind) none agree) [ ]

pub atom_lies : (levels : ℕ) (ws : List Word) → NoMark marks.Open ws → Lies (phrases PrimRule levels) atoms ([] ++ ws) [] atom_phrase
atom_lies levels ws none = record {
  words_are = atom_words;
  fits = λ a f. atom_fits levels a;
  view = λ p behind f follows agree. atom_view ws p behind none agree;
  behind = λ ws f. tt;
}

pub atom_answers : {X : Type 0} (levels : ℕ) (ws : List Word) → NoMark marks.Open ws → (tree : X → Tree) (rest : X → List Word) (r : Result X Refusal)
    → Answers atoms atom_tree ws tree rest r → Answers (phrases PrimRule levels) (λ p. tree_of p) ws tree rest r
atom_answers levels ws none tree rest r a = lies_answers (phrases PrimRule levels) atoms [] ws atom_phrase (atom_lies levels ws none) (λ p. tree_of p) atom_tree (λ a f. atom_value a) tree rest r a

-- parentheses

abbrev pub closed : ℕ → Language
closed levels = record { Part = Phrase OrRule; words_of = λ p. spelled p ++ (mark marks.Close ∷ []); Fit = λ p. Fits levels p; Behind = Anything }

pub closing : (levels : ℕ) → Follow (closed levels) (phrases OrRule levels) (Unit {0}) (λ _. mark marks.Close ∷ []) (λ _ _. Unit {0}) Anything (λ p _. p)
closing levels = record {
  words_are = λ a b f. refl;
  fits = λ a b f g. f;
  view = λ p f. (p, tt, refl, f, tt);
  between = λ a b ws f follows. tt;
  behind = λ ws f. tt;
}

pub group_view : (levels : ℕ) (inner : List Word) (p : Phrase PrimRule) (behind : List Word) → Fits levels p → Agree (mark marks.Open ∷ inner) (spelled p ++ behind)
    → (q : Phrase OrRule) × (p ≡ group q) × (1 ≤ levels) × Fits (levels - 1) q
group_view levels inner (name n) behind f agree = cc agree
group_view levels inner (whole n) behind f agree = cc agree
group_view levels inner (text t) behind f agree = cc agree
group_view levels inner (truth b) behind f agree = cc agree
group_view levels inner (group q) behind f agree = (q, refl, f.0, f.1)

pub group_lies : (levels : ℕ) (inner : List Word) → 1 ≤ levels → Lies (phrases PrimRule levels) (closed (levels - 1)) ((mark marks.Open ∷ []) ++ inner) (mark marks.Open ∷ []) group
group_lies levels inner some = record {
  words_are = λ q. refl;
  fits = λ q f. (some, f);
  view = λ p behind f follows agree. (let v = group_view levels inner p behind f agree in (v.0, v.1, v.3));
  behind = λ ws f. tt;
}

pub group_gives : (levels : ℕ) (inner : List Word) (tree : Tree) (rest : List Word) → 1 ≤ levels → Gives (phrases OrRule (levels - 1)) (λ p. tree_of p) inner tree (mark marks.Close ∷ rest)
    → Gives (phrases PrimRule levels) (λ p. tree_of p) (mark marks.Open ∷ inner) tree rest
group_gives levels inner tree rest some g =
    let c : Gives (closed (levels - 1)) (λ p. tree_of p) inner tree rest = record {
      part = g.part;
      value_is = g.value_is;
      read = both_read (closed (levels - 1)) (phrases OrRule (levels - 1)) (Unit {0}) (λ _. mark marks.Close ∷ []) (λ _ _. Unit {0}) Anything (λ p _. p) (closing (levels - 1)) inner (mark marks.Close ∷ rest) rest g.part tt g.read (close_read rest);
    } in
    lies_gives (phrases PrimRule levels) (closed (levels - 1)) (mark marks.Open ∷ []) inner group (group_lies levels inner some) (λ p. tree_of p) (λ p. tree_of p) (λ t. t) (λ q f. refl) tree rest c

pub group_fault : (levels : ℕ) (inner : List Word) (e : Refusal) → 1 ≤ levels → IsFault (phrases OrRule (levels - 1)) inner e → IsFault (phrases PrimRule levels) (mark marks.Open ∷ inner) e
group_fault levels inner e some a = lies_fault (phrases PrimRule levels) (closed (levels - 1)) (mark marks.Open ∷ []) inner group (group_lies levels inner some) e
    (both_fault (closed (levels - 1)) (phrases OrRule (levels - 1)) (Unit {0}) (λ _. mark marks.Close ∷ []) (λ _ _. Unit {0}) Anything (λ p _. p) (closing (levels - 1)) inner e (λ a. (tt, tt)) a)

pub group_unclosed : (levels : ℕ) (inner : List Word) (tree : Tree) (rest : List Word) → 1 ≤ levels → NoMark marks.Close rest → Gives (phrases OrRule (levels - 1)) (λ p. tree_of p) inner tree rest
    → IsRefused (phrases PrimRule levels) (mark marks.Open ∷ inner) (length rest)
group_unclosed levels inner tree rest some none g = lies_refused (phrases PrimRule levels) (closed (levels - 1)) (mark marks.Open ∷ []) inner group (group_lies levels inner some) (length rest)
    (second_refused (closed (levels - 1)) (phrases OrRule (levels - 1)) (Unit {0}) (λ _. mark marks.Close ∷ []) (λ _ _. Unit {0}) Anything (λ p _. p) (closing (levels - 1)) inner rest g.part (length rest) g.read (close_refused rest none))

pub group_too_deep : (levels : ℕ) (inner : List Word) → levels ≡ 0 → IsRefused (phrases PrimRule levels) (mark marks.Open ∷ inner) (length (mark marks.Open ∷ inner))
group_too_deep levels inner none = refused_here (phrases PrimRule levels) (mark marks.Open ∷ inner) a_prim tt
    (λ p behind f follows agree. let v = group_view levels inner p behind f agree in let some : 1 ≤ levels = v.2 in omega arith)
