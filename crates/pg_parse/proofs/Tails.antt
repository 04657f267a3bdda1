-- A test is a sum and what stands behind it.
use Rattle.std.proofs.Common.{◌≡◌, ℕ, Bool, true, false, List, [], ◌∷◌, ◌++◌, length, refl, sym, ◌∙◌, ap, subst, append-nil, Option, Some, None, Result, Ok, Err}
use Rattle.std.proofs.lemmas.List.{append_cancel_right}
use Rattle.std.specs.Prelude.{IsSome}
use Rattle.std.specs.Option.{MatchOption}
use Rattle.pg_parse.specs.declared.op.Op.{Op}
use Rattle.pg_parse.specs.declared.word.Word.{Word}
use Rattle.pg_parse.specs.declared.word.Word.TheVariants as words
use Rattle.pg_parse.specs.declared.word.Mark.{Mark}
use Rattle.pg_parse.specs.declared.word.Mark.TheVariants as marks
use Rattle.pg_parse.specs.declared.tree.Tree.{Tree}
use Rattle.pg_parse.specs.declared.tree.Tree.TheVariants as trees
use Rattle.pg_parse.specs.declared.refusal.Refusal.{Refusal}
use Rattle.pg_parse.specs.Grammar.{TestRule, SumRule, Phrase, is_in, like, is_null, between, compare, plain, one_term, plus, minus, one_unary, times, positive, negative, prim, name, whole, text, truth, group, spelled, tree_of, Fits, mark, not_if, in_words, like_words, null_words, negated_if, IsEscape}
use Rattle.pg_parse.specs.Parsing.{Agree, Language, IsRead, IsRefused, Gives, IsFault, Answers, MayFollow, Follows, phrases, NoMark, NoComparison, BeginsForm, NotNamed, lists, listed, patterns, pattern_value, nulls, ranges, range_value, Form, in_form, like_form, between_form, Tail, formed, null_tail, compared, no_tail, form_words, tail_words, FitsForm, FitsTail, name_in, form_tree, tail_tree, forms, tails}
use Rattle.pg_parse.proofs.Languages.{Lies, lies_read, lies_gives, lies_fault, lies_answers, refused_here, Follow, both_read, second_refused, both_fault, both_fault_next}
use Rattle.pg_parse.proofs.Leaves.{no_mark, not_follows, refused_mark}
use Rattle.pg_parse.proofs.Phrases.{Starts, starts, BeginsSum, a_prim, follows_sum}

-- the name that the sum is, if it is one
abbrev pub named_of : Phrase SumRule → Option (List ℕ)
named_of (one_term (one_unary (prim (name n)))) = Some n
named_of _ = None

abbrev pub a_sum : Phrase SumRule
a_sum = one_term (one_unary (prim a_prim))

pub named_words : (x : Phrase SumRule) → IsSome (named_of x) → spelled x ≡ words.Name (name_in (named_of x)) ∷ []
named_words (one_term (one_unary (prim (name n)))) some = refl
named_words _ some = cc some

pub named_back : (x : Phrase SumRule) (n : List ℕ) → named_of x ≡ Some n → spelled x ≡ words.Name n ∷ []
named_back (one_term (one_unary (prim (name m)))) n e = ap (λ n. words.Name n ∷ []) (cc e)
named_back _ n e = cc e

-- a test of its first sum and the rest
abbrev pub build : Phrase SumRule → Tail → Phrase TestRule
build x (formed negated (in_form t ts)) = is_in (name_in (named_of x)) negated t ts
build x (formed negated (like_form t escape)) = like (name_in (named_of x)) negated t escape
build x (formed negated (between_form a b)) = between x negated a b
build x (null_tail negated) = is_null (name_in (named_of x)) negated
build x (compared op p) = compare op x p
build x no_tail = plain x

pub build_words : (levels : ℕ) (x : Phrase SumRule) (t : Tail) → FitsTail (named_of x) levels t → spelled (build x t) ≡ spelled x ++ tail_words t
build_words levels x (formed negated (in_form t ts)) f = ap (λ ws. ws ++ (not_if negated ++ in_words t ts)) (sym (named_words x f))
build_words levels x (formed negated (like_form t escape)) f = ap (λ ws. ws ++ (not_if negated ++ like_words t escape)) (sym (named_words x f.0))
build_words levels x (formed negated (between_form a b)) f = refl
build_words levels x (null_tail negated) f = ap (λ ws. ws ++ null_words negated) (sym (named_words x f))
build_words levels x (compared op p) f = refl
build_words levels x no_tail f = sym (append-nil (spelled x))

pub build_fits : (levels : ℕ) (x : Phrase SumRule) (t : Tail) → Fits levels x → FitsTail (named_of x) levels t → Fits levels (build x t)
build_fits levels x (formed negated (in_form t ts)) g f = tt
build_fits levels x (formed negated (like_form t escape)) g f = f.1
build_fits levels x (formed negated (between_form a b)) g f = (g, f.0, f.1)
build_fits levels x (null_tail negated) g f = tt
build_fits levels x (compared op p) g f = (g, f)
build_fits levels x no_tail g f = g

pub build_value : (x : Phrase SumRule) (t : Tail) → tree_of (build x t) ≡ tail_tree (named_of x) (tree_of x) t
build_value x (formed negated (in_form t ts)) = refl
build_value x (formed negated (like_form t escape)) = refl
build_value x (formed negated (between_form a b)) = refl
build_value x (null_tail negated) = refl
build_value x (compared op p) = refl
build_value x no_tail = refl

pub split_test : (levels : ℕ) (p : Phrase TestRule) → Fits levels p → (x : Phrase SumRule) × (t : Tail) × (p ≡ build x t) × Fits levels x × FitsTail (named_of x) levels t
split_test levels (is_in n negated t ts) f = (one_term (one_unary (prim (name n))), formed negated (in_form t ts), refl, tt, refl)
split_test levels (like n negated t escape) f = (one_term (one_unary (prim (name n))), formed negated (like_form t escape), refl, tt, (refl, f))
split_test levels (is_null n negated) f = (one_term (one_unary (prim (name n))), null_tail negated, refl, tt, refl)
split_test levels (between x negated a b) f = (x, formed negated (between_form a b), refl, f.0, (f.1, f.2))
split_test levels (compare op a b) f = (a, compared op b, refl, f.0, f.1)
split_test levels (plain p) f = (p, no_tail, refl, f, tt)

pub sum_before : (t : Tail) (ws : List Word) → Follows TestRule ws → Follows SumRule (tail_words t ++ ws)
sum_before (formed true form) ws f = tt
sum_before (formed false (in_form t ts)) ws f = tt
sum_before (formed false (like_form t escape)) ws f = tt
sum_before (formed false (between_form a b)) ws f = tt
sum_before (null_tail negated) ws f = tt
sum_before (compared op p) ws f = tt
sum_before no_tail ws f = follows_sum ws f

pub tests : (levels : ℕ) → Follow (phrases TestRule levels) (phrases SumRule levels) Tail tail_words (λ x t. FitsTail (named_of x) levels t) (Follows TestRule) build
tests levels = record {
  words_are = build_words levels;
  fits = build_fits levels;
  view = split_test levels;
  between = λ x t ws f follows. sum_before t ws follows;
  behind = λ ws f. f;
}

-- The name of the first sum is what the words before the rest say.

pub no_middle : (ws more : List Word) (w : Word) → ws ++ (w ∷ more) ≡ [] → ⊥
no_middle [] more w e = cc e
no_middle (x ∷ ws) more w e = cc e

pub two_words : (May : Word → Type 0) (ws more : List Word) (w n : Word) → Starts May ws → ws ++ (w ∷ more) ≡ n ∷ [] → ⊥
two_words May ws more w n s e =
    let at : s.first ∷ (s.others ++ (w ∷ more)) ≡ n ∷ [] = sym (ap (λ ws. ws ++ (w ∷ more)) s.is) ∙ e in
    no_middle s.others more w (cc at)

pub is_name : (x : Phrase SumRule) (n : List ℕ) → spelled x ≡ words.Name n ∷ [] → named_of x ≡ Some n
is_name (one_term (one_unary (prim (name m)))) n e = ap Some (cc e)
is_name (one_term (one_unary (prim (whole m)))) n e = cc e
is_name (one_term (one_unary (prim (text t)))) n e = cc e
is_name (one_term (one_unary (prim (truth b)))) n e = cc e
is_name (one_term (one_unary (prim (group p)))) n e = cc e
is_name (one_term (one_unary (positive q))) n e = cc e
is_name (one_term (one_unary (negative q))) n e = cc e
is_name (one_term (times p q)) n e = elim (two_words BeginsSum (spelled p) (spelled q) (mark marks.Star) (words.Name n) (starts p) e) [ ]
is_name (plus p q) n e = elim (two_words BeginsSum (spelled p) (spelled q) (mark marks.Plus) (words.Name n) (starts p) e) [ ]
is_name (minus p q) n e = elim (two_words BeginsSum (spelled p) (spelled q) (mark marks.Minus) (words.Name n) (starts p) e) [ ]

pub unnamed : (all rest : List Word) (x : Phrase SumRule) (o : Option (List ℕ)) → all ≡ spelled x ++ rest → NotNamed all rest → named_of x ≡ o → o ≡ None
unnamed all rest x None split not e = refl
unnamed all rest x (Some n) split not e = elim (not n (split ∙ ap (λ ws. ws ++ rest) (named_back x n e))) [ ]

pub head_named : (called : Option (List ℕ)) (all rest : List Word) (x : Phrase SumRule) → all ≡ spelled x ++ rest → MatchOption called (NotNamed all rest) (λ n. all ≡ words.Name n ∷ rest) → named_of x ≡ called
head_named None all rest x split not = unnamed all rest x (named_of x) split not refl
head_named (Some n) all rest x split is = is_name x n (append_cancel_right (spelled x) (words.Name n ∷ []) rest (sym split ∙ is))

pub head_fault : (levels : ℕ) (all : List Word) (e : Refusal) → IsFault (phrases SumRule levels) all e → IsFault (phrases TestRule levels) all e
head_fault levels all e a = both_fault (phrases TestRule levels) (phrases SumRule levels) Tail tail_words (λ x t. FitsTail (named_of x) levels t) (Follows TestRule) build (tests levels) all e (λ x. (no_tail, tt)) a

pub head_gives : (levels : ℕ) (called : Option (List ℕ)) (all middle rest : List Word) (head tree : Tree) (g : Gives (phrases SumRule levels) (λ p. tree_of p) all head middle) → named_of g.part ≡ called
    → Gives (tails called levels) (tail_tree called head) middle tree rest → Gives (phrases TestRule levels) (λ p. tree_of p) all tree rest
head_gives levels called all middle rest head tree g is t = record {
  part = build g.part t.part;
  value_is = build_value g.part t.part ∙ (ap (λ called. tail_tree called (tree_of g.part) t.part) is ∙ (ap (λ head. tail_tree called head t.part) g.value_is ∙ t.value_is));
  read = both_read (phrases TestRule levels) (phrases SumRule levels) Tail tail_words (λ x t. FitsTail (named_of x) levels t) (Follows TestRule) build (tests levels) all middle rest g.part t.part g.read
      (subst (λ called. IsRead (tails called levels) middle t.part rest) (sym is) t.read);
}

pub head_answers : {X : Type 0} (levels : ℕ) (called : Option (List ℕ)) (all middle : List Word) (head : Tree) (g : Gives (phrases SumRule levels) (λ p. tree_of p) all head middle) → named_of g.part ≡ called
    → (tree : X → Tree) (rest : X → List Word) (r : Result X Refusal) → Answers (tails called levels) (tail_tree called head) middle tree rest r → Answers (phrases TestRule levels) (λ p. tree_of p) all tree rest r
head_answers levels called all middle head g is tree rest (Ok x) a = head_gives levels called all middle (rest x) head (tree x) g is a
head_answers levels called all middle head g is tree rest (Err e) a =
    both_fault_next (phrases TestRule levels) (phrases SumRule levels) Tail tail_words (λ x t. FitsTail (named_of x) levels t) (Follows TestRule) build (tests levels) all middle g.part e g.read
    (subst (λ called. IsFault (tails called levels) middle e) (sym is) a)

pub test_head : {X : Type 0} (levels : ℕ) (called : Option (List ℕ)) (all middle : List Word) (head : Tree) → Gives (phrases SumRule levels) (λ p. tree_of p) all head middle
    → MatchOption called (NotNamed all middle) (λ n. all ≡ words.Name n ∷ middle)
    → (tree : X → Tree) (rest : X → List Word) (r : Result X Refusal) → Answers (tails called levels) (tail_tree called head) middle tree rest r → Answers (phrases TestRule levels) (λ p. tree_of p) all tree rest r
test_head levels called all middle head g is tree rest r a = head_answers levels called all middle head g (head_named called all middle g.part g.read.split is) tree rest r a

-- NOT behind the sum

pub not_view : (called : Option (List ℕ)) (levels : ℕ) (inner : List Word) (t : Tail) (behind : List Word) → FitsTail called levels t → Follows TestRule behind → Agree (mark marks.Not ∷ inner) (tail_words t ++ behind)
    → (q : Form) × (t ≡ formed true q) × FitsForm called levels q
not_view called levels inner (formed true q) behind f follows agree = (q, refl, f)
not_view called levels inner (formed false (in_form t ts)) behind f follows agree = cc agree
not_view called levels inner (formed false (like_form t escape)) behind f follows agree = cc agree
not_view called levels inner (formed false (between_form a b)) behind f follows agree = cc agree
not_view called levels inner (null_tail negated) behind f follows agree = cc agree
not_view called levels inner (compared op p) behind f follows agree = cc agree
not_view called levels inner no_tail behind f follows agree = elim (not_follows (mark marks.Not) inner behind follows agree) [ ]

pub not_lies : (called : Option (List ℕ)) (levels : ℕ) (inner : List Word) → Lies (tails called levels) (forms called levels) ((mark marks.Not ∷ []) ++ inner) (mark marks.Not ∷ []) (formed true)
not_lies called levels inner = record {
  words_are = λ q. refl;
  fits = λ q f. f;
  view = not_view called levels inner;
  behind = λ ws f. f;
}

pub not_gives : (called : Option (List ℕ)) (levels : ℕ) (head : Tree) (inner : List Word) (tree : Tree) (rest : List Word) → Gives (forms called levels) (form_tree called head) inner tree rest
    → Gives (tails called levels) (tail_tree called head) (mark marks.Not ∷ inner) (trees.Not tree) rest
not_gives called levels head inner tree rest g = lies_gives (tails called levels) (forms called levels) (mark marks.Not ∷ []) inner (formed true) (not_lies called levels inner)
    (tail_tree called head) (form_tree called head) (λ t. trees.Not t) (λ q f. refl) tree rest g

pub not_fault : (called : Option (List ℕ)) (levels : ℕ) (inner : List Word) (e : Refusal) → IsFault (forms called levels) inner e → IsFault (tails called levels) (mark marks.Not ∷ inner) e
not_fault called levels inner e a = lies_fault (tails called levels) (forms called levels) (mark marks.Not ∷ []) inner (formed true) (not_lies called levels inner) e a

-- a comparison

pub compared_view : (called : Option (List ℕ)) (levels : ℕ) (op : Op) (inner : List Word) (t : Tail) (behind : List Word) → FitsTail called levels t → Follows TestRule behind → Agree (words.Compared op ∷ inner) (tail_words t ++ behind)
    → (q : Phrase SumRule) × (t ≡ compared op q) × Fits levels q
compared_view called levels op inner (formed true q) behind f follows agree = cc agree
compared_view called levels op inner (formed false (in_form t ts)) behind f follows agree = cc agree
compared_view called levels op inner (formed false (like_form t escape)) behind f follows agree = cc agree
compared_view called levels op inner (formed false (between_form a b)) behind f follows agree = cc agree
compared_view called levels op inner (null_tail negated) behind f follows agree = cc agree
compared_view called levels op inner (compared o p) behind f follows agree = (p, ap (λ o. compared o p) (cc agree), f)
compared_view called levels op inner no_tail behind f follows agree = elim (not_follows (words.Compared op) inner behind follows agree) [ ]

pub compared_lies : (called : Option (List ℕ)) (levels : ℕ) (op : Op) (inner : List Word) → Lies (tails called levels) (phrases SumRule levels) ((words.Compared op ∷ []) ++ inner) (words.Compared op ∷ []) (compared op)
compared_lies called levels op inner = record {
  words_are = λ q. refl;
  fits = λ q f. f;
  view = compared_view called levels op inner;
  behind = follows_sum;
}

pub compared_gives : (called : Option (List ℕ)) (levels : ℕ) (head : Tree) (op : Op) (inner : List Word) (tree : Tree) (rest : List Word) → Gives (phrases SumRule levels) (λ p. tree_of p) inner tree rest
    → Gives (tails called levels) (tail_tree called head) (words.Compared op ∷ inner) (trees.Compare op head tree) rest
compared_gives called levels head op inner tree rest g = lies_gives (tails called levels) (phrases SumRule levels) (words.Compared op ∷ []) inner (compared op) (compared_lies called levels op inner)
    (tail_tree called head) (λ p. tree_of p) (λ t. trees.Compare op head t) (λ q f. refl) tree rest g

pub compared_fault : (called : Option (List ℕ)) (levels : ℕ) (op : Op) (inner : List Word) (e : Refusal) → IsFault (phrases SumRule levels) inner e → IsFault (tails called levels) (words.Compared op ∷ inner) e
compared_fault called levels op inner e a = lies_fault (tails called levels) (phrases SumRule levels) (words.Compared op ∷ []) inner (compared op) (compared_lies called levels op inner) e a

-- IN, LIKE and BETWEEN without NOT

pub form_word : (called : Option (List ℕ)) (ws : List Word) (w : Word) (more : List Word) → BeginsForm called ws → Agree ws (w ∷ more) → (vs : List Word) × BeginsForm called (w ∷ vs)
form_word called [] w more b agree = elim agree [ ]
form_word called (v ∷ vs) w more b agree = (vs, subst (λ w. BeginsForm called (w ∷ vs)) agree b)

pub no_form_follows : (called : Option (List ℕ)) (w : Word) (ws : List Word) → BeginsForm called (w ∷ ws) → MayFollow TestRule w → ⊥
no_form_follows called (words.Mark marks.And) ws b f = b
no_form_follows called (words.Mark marks.Or) ws b f = b
no_form_follows called (words.Mark marks.Close) ws b f = b
no_form_follows called _ ws b f = f

pub no_form_behind : (called : Option (List ℕ)) (ws behind : List Word) → BeginsForm called ws → Follows TestRule behind → Agree ws behind → ⊥
no_form_behind called [] behind b f agree = b
no_form_behind called (w ∷ ws) behind b f agree = no_form_follows called w ws b (not_follows w ws behind f agree)

pub form_view : (called : Option (List ℕ)) (levels : ℕ) (ws : List Word) (t : Tail) (behind : List Word) → BeginsForm called ws → FitsTail called levels t → Follows TestRule behind → Agree ws (tail_words t ++ behind)
    → (q : Form) × (t ≡ formed false q) × FitsForm called levels q
form_view called levels ws (formed false q) behind b f follows agree = (q, refl, f)
form_view called levels ws (formed true q) behind b f follows agree = elim ((form_word called ws (mark marks.Not) (form_words q ++ behind) b agree).1) [ ]
form_view called levels ws (null_tail negated) behind b f follows agree = elim ((form_word called ws (mark marks.Is) ((not_if negated ++ (mark marks.Null ∷ [])) ++ behind) b agree).1) [ ]
form_view called levels ws (compared op p) behind b f follows agree = elim ((form_word called ws (words.Compared op) (spelled p ++ behind) b agree).1) [ ]
form_view called levels ws no_tail behind b f follows agree = elim (no_form_behind called ws behind b follows agree) [ ]

pub form_lies : (called : Option (List ℕ)) (levels : ℕ) (ws : List Word) → BeginsForm called ws → Lies (tails called levels) (forms called levels) ([] ++ ws) [] (formed false)
form_lies called levels ws b = record {
  words_are = λ q. refl;
  fits = λ q f. f;
  view = λ t behind f follows agree. form_view called levels ws t behind b f follows agree;
  behind = λ ws f. f;
}

pub form_answers : {X : Type 0} (called : Option (List ℕ)) (levels : ℕ) (head : Tree) (ws : List Word) → BeginsForm called ws → (tree : X → Tree) (rest : X → List Word) (r : Result X Refusal)
    → Answers (forms called levels) (form_tree called head) ws tree rest r → Answers (tails called levels) (tail_tree called head) ws tree rest r
form_answers called levels head ws b tree rest r a = lies_answers (tails called levels) (forms called levels) [] ws (formed false) (form_lies called levels ws b) (tail_tree called head) (form_tree called head) (λ q f. refl) tree rest r a

-- IS

pub null_view : (called : Option (List ℕ)) (levels : ℕ) (inner : List Word) (t : Tail) (behind : List Word) → FitsTail called levels t → Follows TestRule behind → Agree (mark marks.Is ∷ inner) (tail_words t ++ behind)
    → (q : Bool) × (t ≡ null_tail q) × Unit {0}
null_view called levels inner (formed true q) behind f follows agree = cc agree
null_view called levels inner (formed false (in_form t ts)) behind f follows agree = cc agree
null_view called levels inner (formed false (like_form t escape)) behind f follows agree = cc agree
null_view called levels inner (formed false (between_form a b)) behind f follows agree = cc agree
null_view called levels inner (null_tail negated) behind f follows agree = (negated, refl, tt)
null_view called levels inner (compared op p) behind f follows agree = cc agree
null_view called levels inner no_tail behind f follows agree = elim (not_follows (mark marks.Is) inner behind follows agree) [ ]

pub null_lies : (n : List ℕ) (levels : ℕ) (inner : List Word) → Lies (tails (Some n) levels) nulls ((mark marks.Is ∷ []) ++ inner) (mark marks.Is ∷ []) null_tail
null_lies n levels inner = record {
  words_are = λ q. refl;
  fits = λ q f. refl;
  view = null_view (Some n) levels inner;
  behind = λ ws f. tt;
}

pub null_gives : (n : List ℕ) (levels : ℕ) (head : Tree) (inner : List Word) (negated : Bool) (rest : List Word) → Gives nulls (λ negated. negated) inner negated rest
    → Gives (tails (Some n) levels) (tail_tree (Some n) head) (mark marks.Is ∷ inner) (negated_if negated (trees.IsNull n)) rest
null_gives n levels head inner negated rest g = lies_gives (tails (Some n) levels) nulls (mark marks.Is ∷ []) inner null_tail (null_lies n levels inner)
    (tail_tree (Some n) head) (λ negated. negated) (λ negated. negated_if negated (trees.IsNull n)) (λ q f. refl) negated rest g

pub null_fault : (n : List ℕ) (levels : ℕ) (inner : List Word) (e : Refusal) → IsFault nulls inner e → IsFault (tails (Some n) levels) (mark marks.Is ∷ inner) e
null_fault n levels inner e a = lies_fault (tails (Some n) levels) nulls (mark marks.Is ∷ []) inner null_tail (null_lies n levels inner) e a

-- nothing

pub no_comparison : (op : Op) (ws more : List Word) → NoComparison ws → Agree ws (words.Compared op ∷ more) → ⊥
no_comparison op [] more none agree = agree
no_comparison op (w ∷ ws) more none agree = none op agree

pub agrees_form : (called : Option (List ℕ)) (ws : List Word) (w : Word) (more : List Word) → Agree ws (w ∷ more) → ((vs : List Word) → BeginsForm called (w ∷ vs)) → BeginsForm called ws
agrees_form called [] w more agree b = elim agree [ ]
agrees_form called (v ∷ vs) w more agree b = subst (λ w. BeginsForm called (w ∷ vs)) (sym agree) (b vs)

pub record IsDone (called : Option (List ℕ)) (ws : List Word) : Type 0 where
  pub no_not : NoMark marks.Not ws
  pub no_comparison : NoComparison ws
  pub no_form : BeginsForm called ws → ⊥
  pub no_is : IsSome called → NoMark marks.Is ws

pub no_more : (called : Option (List ℕ)) (levels : ℕ) (ws : List Word) → IsDone called ws → (t : Tail) (behind : List Word) → FitsTail called levels t → Agree ws (tail_words t ++ behind) → t ≡ no_tail
no_more called levels ws d (formed true q) behind f agree = elim (no_mark marks.Not ws (form_words q ++ behind) d.no_not agree) [ ]
no_more called levels ws d (formed false (in_form t ts)) behind f agree = elim (d.no_form (agrees_form called ws (mark marks.In) _ agree (λ vs. f))) [ ]
no_more called levels ws d (formed false (like_form t escape)) behind f agree = elim (d.no_form (agrees_form called ws (mark marks.Like) _ agree (λ vs. f.0))) [ ]
no_more called levels ws d (formed false (between_form a b)) behind f agree = elim (d.no_form (agrees_form called ws (mark marks.Between) _ agree (λ vs. tt))) [ ]
no_more called levels ws d (null_tail negated) behind f agree = elim (no_mark marks.Is ws ((not_if negated ++ (mark marks.Null ∷ [])) ++ behind) (d.no_is f) agree) [ ]
no_more called levels ws d (compared op p) behind f agree = elim (no_comparison op ws (spelled p ++ behind) d.no_comparison agree) [ ]
no_more called levels ws d no_tail behind f agree = refl

pub done : (called : Option (List ℕ)) (levels : ℕ) (head : Tree) (ws : List Word) → IsDone called ws → Gives (tails called levels) (tail_tree called head) ws head ws
done called levels head ws d = record {
  part = no_tail;
  value_is = refl;
  read = record {
    fits = tt;
    split = refl;
    only = λ q behind after f follows agree same. no_more called levels ws d q behind f (subst (λ bs. Agree ws bs) (sym same) agree);
  };
}

-- BETWEEN

pub between_view : (called : Option (List ℕ)) (levels : ℕ) (inner : List Word) (p : Form) (behind : List Word) → FitsForm called levels p → Agree (mark marks.Between ∷ inner) (form_words p ++ behind)
    → (q : Phrase SumRule × Phrase SumRule) × (p ≡ between_form q.0 q.1) × (Fits levels q.0 × Fits levels q.1)
between_view called levels inner (in_form t ts) behind f agree = cc agree
between_view called levels inner (like_form t escape) behind f agree = cc agree
between_view called levels inner (between_form a b) behind f agree = ((a, b), refl, f)

pub between_lies : (called : Option (List ℕ)) (levels : ℕ) (inner : List Word) → Lies (forms called levels) (ranges levels) ((mark marks.Between ∷ []) ++ inner) (mark marks.Between ∷ []) (λ q. between_form q.0 q.1)
between_lies called levels inner = record {
  words_are = λ q. refl;
  fits = λ q f. f;
  view = λ p behind f follows agree. between_view called levels inner p behind f agree;
  behind = λ ws f. f;
}

pub between_gives : (called : Option (List ℕ)) (levels : ℕ) (head : Tree) (inner : List Word) (range : Tree × Tree) (rest : List Word) → Gives (ranges levels) range_value inner range rest
    → Gives (forms called levels) (form_tree called head) (mark marks.Between ∷ inner) (trees.Between head range.0 range.1) rest
between_gives called levels head inner range rest g = lies_gives (forms called levels) (ranges levels) (mark marks.Between ∷ []) inner (λ q. between_form q.0 q.1) (between_lies called levels inner)
    (form_tree called head) range_value (λ r. trees.Between head r.0 r.1) (λ q f. refl) range rest g

pub between_fault : (called : Option (List ℕ)) (levels : ℕ) (inner : List Word) (e : Refusal) → IsFault (ranges levels) inner e → IsFault (forms called levels) (mark marks.Between ∷ inner) e
between_fault called levels inner e a = lies_fault (forms called levels) (ranges levels) (mark marks.Between ∷ []) inner (λ q. between_form q.0 q.1) (between_lies called levels inner) e a

-- the AND that parts the two sums
abbrev pub and_sums : ℕ → Language
and_sums levels = record { Part = Phrase SumRule; words_of = λ b. mark marks.And ∷ spelled b; Fit = λ b. Fits levels b; Behind = Follows TestRule }

pub two_sums : (levels : ℕ) → Follow (ranges levels) (phrases SumRule levels) (Phrase SumRule) (λ b. mark marks.And ∷ spelled b) (λ _ b. Fits levels b) (Follows TestRule) (λ a b. (a, b))
two_sums levels = record {
  words_are = λ a b f. refl;
  fits = λ a b f g. (f, g);
  view = λ p f. (p.0, p.1, refl, f.0, f.1);
  between = λ a b ws f follows. tt;
  behind = λ ws f. f;
}

pub and_lies : (levels : ℕ) (inner : List Word) → Lies (and_sums levels) (phrases SumRule levels) ((mark marks.And ∷ []) ++ inner) (mark marks.And ∷ []) (λ q. q)
and_lies levels inner = record {
  words_are = λ q. refl;
  fits = λ q f. f;
  view = λ p behind f follows agree. (p, refl, f);
  behind = follows_sum;
}

pub range_fault : (levels : ℕ) (all : List Word) (e : Refusal) → IsFault (phrases SumRule levels) all e → IsFault (ranges levels) all e
range_fault levels all e a = both_fault (ranges levels) (phrases SumRule levels) (Phrase SumRule) (λ b. mark marks.And ∷ spelled b) (λ _ b. Fits levels b) (Follows TestRule) (λ a b. (a, b)) (two_sums levels) all e (λ a. (a_sum, tt)) a

pub range_without : (levels : ℕ) (all : List Word) (low : Tree) (rest : List Word) → Gives (phrases SumRule levels) (λ p. tree_of p) all low rest → NoMark marks.And rest → IsRefused (ranges levels) all (length rest)
range_without levels all low rest g none = second_refused (ranges levels) (phrases SumRule levels) (Phrase SumRule) (λ b. mark marks.And ∷ spelled b) (λ _ b. Fits levels b) (Follows TestRule) (λ a b. (a, b)) (two_sums levels) all rest g.part (length rest) g.read
    (refused_mark (and_sums levels) marks.And rest a_sum tt (λ q. (spelled q, refl)) none)

pub range_fault_next : (levels : ℕ) (all : List Word) (low : Tree) (inner : List Word) (e : Refusal) → Gives (phrases SumRule levels) (λ p. tree_of p) all low (mark marks.And ∷ inner) → IsFault (phrases SumRule levels) inner e → IsFault (ranges levels) all e
range_fault_next levels all low inner e g a = both_fault_next (ranges levels) (phrases SumRule levels) (Phrase SumRule) (λ b. mark marks.And ∷ spelled b) (λ _ b. Fits levels b) (Follows TestRule) (λ a b. (a, b)) (two_sums levels) all (mark marks.And ∷ inner) g.part e g.read
    (lies_fault (and_sums levels) (phrases SumRule levels) (mark marks.And ∷ []) inner (λ q. q) (and_lies levels inner) e a)

pub range_gives : (levels : ℕ) (all : List Word) (low high : Tree) (inner rest : List Word) → Gives (phrases SumRule levels) (λ p. tree_of p) all low (mark marks.And ∷ inner) → Gives (phrases SumRule levels) (λ p. tree_of p) inner high rest
    → Gives (ranges levels) range_value all (low, high) rest
range_gives levels all low high inner rest g h = record {
  part = (g.part, h.part);
  value_is = ap (λ low. (low, tree_of h.part)) g.value_is ∙ ap (λ high. (low, high)) h.value_is;
  read = both_read (ranges levels) (phrases SumRule levels) (Phrase SumRule) (λ b. mark marks.And ∷ spelled b) (λ _ b. Fits levels b) (Follows TestRule) (λ a b. (a, b)) (two_sums levels) all (mark marks.And ∷ inner) rest g.part h.part g.read
      (lies_read (and_sums levels) (phrases SumRule levels) (mark marks.And ∷ []) inner (λ q. q) (and_lies levels inner) h.part rest h.read);
}

-- IN and LIKE behind a name

pub in_view : (called : Option (List ℕ)) (levels : ℕ) (inner : List Word) (p : Form) (behind : List Word) → Agree (mark marks.In ∷ inner) (form_words p ++ behind)
    → (q : List ℕ × List (List ℕ)) × (p ≡ in_form q.0 q.1) × Unit {0}
in_view called levels inner (in_form t ts) behind agree = ((t, ts), refl, tt)
in_view called levels inner (like_form t escape) behind agree = cc agree
in_view called levels inner (between_form a b) behind agree = cc agree

pub in_lies : (n : List ℕ) (levels : ℕ) (inner : List Word) → Lies (forms (Some n) levels) lists ((mark marks.In ∷ []) ++ inner) (mark marks.In ∷ []) (λ q. in_form q.0 q.1)
in_lies n levels inner = record {
  words_are = λ q. refl;
  fits = λ q f. refl;
  view = λ p behind f follows agree. in_view (Some n) levels inner p behind agree;
  behind = λ ws f. tt;
}

pub in_gives : (n : List ℕ) (levels : ℕ) (head : Tree) (inner : List Word) (texts : List (List ℕ)) (rest : List Word) → Gives lists listed inner texts rest
    → Gives (forms (Some n) levels) (form_tree (Some n) head) (mark marks.In ∷ inner) (trees.In n texts) rest
in_gives n levels head inner texts rest g = lies_gives (forms (Some n) levels) lists (mark marks.In ∷ []) inner (λ q. in_form q.0 q.1) (in_lies n levels inner)
    (form_tree (Some n) head) listed (λ ts. trees.In n ts) (λ q f. refl) texts rest g

pub in_fault : (n : List ℕ) (levels : ℕ) (inner : List Word) (e : Refusal) → IsFault lists inner e → IsFault (forms (Some n) levels) (mark marks.In ∷ inner) e
in_fault n levels inner e a = lies_fault (forms (Some n) levels) lists (mark marks.In ∷ []) inner (λ q. in_form q.0 q.1) (in_lies n levels inner) e a

pub like_view : (called : Option (List ℕ)) (levels : ℕ) (inner : List Word) (p : Form) (behind : List Word) → FitsForm called levels p → Agree (mark marks.Like ∷ inner) (form_words p ++ behind)
    → (q : List ℕ × Option (List ℕ)) × (p ≡ like_form q.0 q.1) × IsEscape q.1
like_view called levels inner (in_form t ts) behind f agree = cc agree
like_view called levels inner (like_form t escape) behind f agree = ((t, escape), refl, f.1)
like_view called levels inner (between_form a b) behind f agree = cc agree

pub like_lies : (n : List ℕ) (levels : ℕ) (inner : List Word) → Lies (forms (Some n) levels) patterns ((mark marks.Like ∷ []) ++ inner) (mark marks.Like ∷ []) (λ q. like_form q.0 q.1)
like_lies n levels inner = record {
  words_are = λ q. refl;
  fits = λ q f. (refl, f);
  view = λ p behind f follows agree. like_view (Some n) levels inner p behind f agree;
  behind = λ ws f. f;
}

pub like_gives : (n : List ℕ) (levels : ℕ) (head : Tree) (inner : List Word) (pattern : List ℕ × Option ℕ) (rest : List Word) → Gives patterns pattern_value inner pattern rest
    → Gives (forms (Some n) levels) (form_tree (Some n) head) (mark marks.Like ∷ inner) (trees.Like n pattern.0 pattern.1) rest
like_gives n levels head inner pattern rest g = lies_gives (forms (Some n) levels) patterns (mark marks.Like ∷ []) inner (λ q. like_form q.0 q.1) (like_lies n levels inner)
    (form_tree (Some n) head) pattern_value (λ p. trees.Like n p.0 p.1) (λ q f. refl) pattern rest g

pub like_fault : (n : List ℕ) (levels : ℕ) (inner : List Word) (e : Refusal) → IsFault patterns inner e → IsFault (forms (Some n) levels) (mark marks.Like ∷ inner) e
like_fault n levels inner e a = lies_fault (forms (Some n) levels) patterns (mark marks.Like ∷ []) inner (λ q. like_form q.0 q.1) (like_lies n levels inner) e a

pub none_form : (called : Option (List ℕ)) (levels : ℕ) (ws : List Word) → NoMark marks.Between ws → (IsSome called → NoMark marks.In ws) → (IsSome called → NoMark marks.Like ws)
    → (p : Form) (behind : List Word) → FitsForm called levels p → Agree ws (form_words p ++ behind) → ⊥
none_form called levels ws between_ in_ like_ (in_form t ts) behind f agree = no_mark marks.In ws _ (in_ f) agree
none_form called levels ws between_ in_ like_ (like_form t escape) behind f agree = no_mark marks.Like ws _ (like_ f.0) agree
none_form called levels ws between_ in_ like_ (between_form a b) behind f agree = no_mark marks.Between ws _ between_ agree

pub form_refused : (called : Option (List ℕ)) (levels : ℕ) (ws : List Word) → NoMark marks.Between ws → (IsSome called → NoMark marks.In ws) → (IsSome called → NoMark marks.Like ws) → IsRefused (forms called levels) ws (length ws)
form_refused called levels ws between_ in_ like_ = refused_here (forms called levels) ws (between_form a_sum a_sum) (tt, tt)
    (λ p behind f follows agree. none_form called levels ws between_ in_ like_ p behind f agree)

pub never_named : (m : Mark) (ws : List Word) → IsSome {T = List ℕ} None → NoMark m ws
never_named m ws some = elim (let no : ⊥ = cc some in no) [ ]

pub form_unnamed : (levels : ℕ) (ws : List Word) → NoMark marks.Between ws → IsRefused (forms None levels) ws (length ws)
form_unnamed levels ws none = form_refused None levels ws none (never_named marks.In ws) (never_named marks.Like ws)
