-- Words are read in one way at most.
use Rattle.std.proofs.Common.{◌≡◌, ◌-◌, ℕ, Bool, true, false, List, [], ◌∷◌, ◌++◌, refl, sym, ◌∙◌, ap, subst, append_assoc, append-nil, Option, Some, None}
use Rattle.pg_parse.specs.declared.word.Word.{Word}
use Rattle.pg_parse.specs.declared.word.Word.TheVariants as words
use Rattle.pg_parse.specs.declared.word.Mark.{Mark}
use Rattle.pg_parse.specs.declared.word.Mark.TheVariants as marks
use Rattle.pg_parse.specs.declared.word.Sign.{Sign}
use Rattle.pg_parse.specs.declared.word.Sign.TheVariants as signs
use Rattle.pg_parse.specs.declared.tree.Tree.{Tree}
use Rattle.pg_parse.specs.Grammar.{Rule, OrRule, AndRule, NotRule, TestRule, SumRule, TermRule, UnaryRule, PrimRule, Phrase, one_and, or, one_not, and, not, test, is_in, like, is_null, between, compare, plain, one_term, plus, minus, one_unary, times, positive, negative, prim, name, whole, text, truth, group, spelled, tree_of, Fits, mark, not_if, more_texts, escape_if, IsEscape, ReadsWords}
use Rattle.pg_parse.specs.Parsing.{Agree, Language, IsRead, MayFollow, Follows, phrases, NoMark, NoComparison, NoSign, BeginsForm, sign_mark, Anything, lists, patterns, nulls, ranges, Atom, name_atom, whole_atom, text_atom, truth_atom, atom_word, atoms, Form, in_form, like_form, between_form, Tail, formed, null_tail, compared, no_tail, tail_words, FitsTail, forms, tails}
use Rattle.pg_parse.proofs.Languages.{lies_read, both_read}
use Rattle.pg_parse.proofs.Chains.{IsChained, IsChain, NoneNext, chain_start, chain_step, chain_end}
use Rattle.pg_parse.proofs.Leaves.{atom_is, close_read}
use Rattle.pg_parse.proofs.Phrases.{BeginsSum, BeginsPrim, Starts, starts, more_ors, more_ands, more_sums, more_terms, ors_chained, ands_chained, sums_chained, terms_chained, follows_not, follows_test, follows_sum, follows_term, follows_unary, not_lies, test_lies, sign_phrase, sign_lies, prim_lies, atom_phrase, atom_lies, closed, closing, group_lies}
use Rattle.pg_parse.proofs.Tails.{named_of, build, tests, IsDone, no_form_follows, no_more, between_lies, and_lies, and_sums, two_sums, not_lies as not_form_lies, form_lies, compared_lies, null_lies, in_lies, like_lies, sum_before}

-- no mark comes next where the words begin otherwise
pub no_mark_starts : (May : Word → Type 0) (m : Mark) (ws rest : List Word) → Starts May ws → (May (mark m) → ⊥) → NoMark m (ws ++ rest)
no_mark_starts May m ws rest s never = subst (λ ws. NoMark m (ws ++ rest)) (sym s.is) (λ e. never (subst May e s.may))

pub no_sign_starts : (ws rest : List Word) → Starts BeginsPrim ws → NoSign (ws ++ rest)
no_sign_starts ws rest s = subst (λ ws. NoSign (ws ++ rest)) (sym s.is) (λ sign e. never sign (subst BeginsPrim e s.may))
  where
    never : (sign : Sign) → BeginsPrim (mark (sign_mark sign)) → ⊥
    never signs.Plus b = b
    never signs.Minus b = b

pub none_next : (l m : Language) (O : Type 0) (op : O → Word) (one : m.Part → l.Part) (more : l.Part → O → m.Part → l.Part) → IsChained l m O op one more → (rest : List Word) → l.Behind rest → NoneNext op rest
none_next l m O op one more c [] b o ws agree = agree
none_next l m O op one more c (w ∷ rest) b o ws agree = c.op_ends o rest (subst (λ w. l.Behind (w ∷ rest)) agree b)

-- the parts of a test that hold no phrases

pub texts_same : (ts us : List (List ℕ)) (a b : List Word) → (more_texts ts ++ (mark marks.Close ∷ [])) ++ a ≡ (more_texts us ++ (mark marks.Close ∷ [])) ++ b → ts ≡ us
texts_same [] [] a b e = refl
texts_same [] (u ∷ us) a b e = cc e
texts_same (t ∷ ts) [] a b e = cc e
texts_same (t ∷ ts) (u ∷ us) a b e =
    let first : t ≡ u = cc e in
    let others : (more_texts ts ++ (mark marks.Close ∷ [])) ++ a ≡ (more_texts us ++ (mark marks.Close ∷ [])) ++ b = cc e in
    let more = texts_same ts us a b others in cc

pub list_known : (t : List ℕ) (ts : List (List ℕ)) (rest : List Word) → IsRead lists (lists.words_of (t, ts) ++ rest) (t, ts) rest
list_known t ts rest = record {
  fits = tt;
  split = refl;
  only = λ q behind after f follows agree same.
      let first : q.0 ≡ t = cc same in
      let others : (more_texts q.1 ++ (mark marks.Close ∷ [])) ++ behind ≡ (more_texts ts ++ (mark marks.Close ∷ [])) ++ after = cc same in
      let more = texts_same q.1 ts behind after others in
      ap (λ t. (t, q.1)) first ∙ ap (λ ts. (t, ts)) more;
}

pub no_escape_follows : (ws more : List Word) → Follows TestRule ws → Agree ws (mark marks.Escape ∷ more) → ⊥
no_escape_follows [] more f agree = agree
no_escape_follows (w ∷ ws) more f agree = subst (λ w. MayFollow TestRule w) agree f

pub escape_same : (d e : Option (List ℕ)) (rest behind after : List Word) → Follows TestRule rest → Follows TestRule behind → Agree rest after → escape_if d ++ behind ≡ escape_if e ++ after → d ≡ e
escape_same None None rest behind after f g agree same = refl
escape_same None (Some t) rest behind after f g agree same = elim (subst (λ ws. Follows TestRule ws) same g) [ ]
escape_same (Some t) None rest behind after f g agree same = elim (no_escape_follows rest (words.Text t ∷ behind) f (subst (λ ws. Agree rest ws) (sym same) agree)) [ ]
escape_same (Some s) (Some t) rest behind after f g agree same = ap Some (cc same)

pub pattern_known : (t : List ℕ) (e : Option (List ℕ)) (rest : List Word) → IsEscape e → Follows TestRule rest → IsRead patterns (patterns.words_of (t, e) ++ rest) (t, e) rest
pattern_known t e rest fits f = record {
  fits = fits;
  split = refl;
  only = λ q behind after g follows agree same.
      let first : q.0 ≡ t = cc same in
      let others : escape_if q.1 ++ behind ≡ escape_if e ++ after = cc same in
      ap (λ t. (t, q.1)) first ∙ ap (λ e. (t, e)) (escape_same q.1 e rest behind after f follows agree others);
}

pub null_same : (a b : Bool) (behind after : List Word) → (not_if a ++ (mark marks.Null ∷ [])) ++ behind ≡ (not_if b ++ (mark marks.Null ∷ [])) ++ after → a ≡ b
null_same true true behind after e = refl
null_same false false behind after e = refl
null_same true false behind after e = cc e
null_same false true behind after e = cc e

pub null_known : (negated : Bool) (rest : List Word) → IsRead nulls (nulls.words_of negated ++ rest) negated rest
null_known negated rest = record { fits = tt; split = refl; only = λ q behind after f follows agree same. null_same q negated behind after same }

pub atom_known : (a : Atom) (rest : List Word) → IsRead atoms (atom_word a ∷ rest) a rest
atom_known a rest = record { fits = tt; split = refl; only = λ q behind after f follows agree same. atom_is q a (cc same) }

-- What is known of the part before the rest: of a rule with operators, that every other goes on with it.
abbrev pub Known : (r : Rule) → ℕ → Phrase r → List Word → Type 0
Known OrRule levels p rest = IsChain (phrases OrRule levels) (phrases AndRule levels) (Unit {0}) (λ _. mark marks.Or) one_and more_ors (ors_chained levels) (spelled p ++ rest) p rest
Known AndRule levels p rest = IsChain (phrases AndRule levels) (phrases NotRule levels) (Unit {0}) (λ _. mark marks.And) one_not more_ands (ands_chained levels) (spelled p ++ rest) p rest
Known NotRule levels p rest = IsRead (phrases NotRule levels) (spelled p ++ rest) p rest
Known TestRule levels p rest = IsRead (phrases TestRule levels) (spelled p ++ rest) p rest
Known SumRule levels p rest = IsChain (phrases SumRule levels) (phrases TermRule levels) Sign (λ s. mark (sign_mark s)) one_term more_sums (sums_chained levels) (spelled p ++ rest) p rest
Known TermRule levels p rest = IsChain (phrases TermRule levels) (phrases UnaryRule levels) (Unit {0}) (λ _. mark marks.Star) one_unary more_terms (terms_chained levels) (spelled p ++ rest) p rest
Known UnaryRule levels p rest = IsRead (phrases UnaryRule levels) (spelled p ++ rest) p rest
Known PrimRule levels p rest = IsRead (phrases PrimRule levels) (spelled p ++ rest) p rest

-- what may stand behind the last of the lower parts
abbrev pub Lower : Rule → List Word → Type 0
Lower OrRule = Follows AndRule
Lower AndRule = Follows NotRule
Lower NotRule = Follows NotRule
Lower TestRule = Follows TestRule
Lower SumRule = Follows TermRule
Lower TermRule = Follows UnaryRule
Lower UnaryRule = Follows UnaryRule
Lower PrimRule = Anything

pub or_read : (levels : ℕ) (p : Phrase OrRule) (rest : List Word) → Known OrRule levels p rest → Follows OrRule rest → IsRead (phrases OrRule levels) (spelled p ++ rest) p rest
or_read levels p rest k f = chain_end (phrases OrRule levels) (phrases AndRule levels) (Unit {0}) (λ _. mark marks.Or) one_and more_ors (ors_chained levels) (spelled p ++ rest) rest p k
    (none_next (phrases OrRule levels) (phrases AndRule levels) (Unit {0}) (λ _. mark marks.Or) one_and more_ors (ors_chained levels) rest f)

pub and_read : (levels : ℕ) (p : Phrase AndRule) (rest : List Word) → Known AndRule levels p rest → Follows AndRule rest → IsRead (phrases AndRule levels) (spelled p ++ rest) p rest
and_read levels p rest k f = chain_end (phrases AndRule levels) (phrases NotRule levels) (Unit {0}) (λ _. mark marks.And) one_not more_ands (ands_chained levels) (spelled p ++ rest) rest p k
    (none_next (phrases AndRule levels) (phrases NotRule levels) (Unit {0}) (λ _. mark marks.And) one_not more_ands (ands_chained levels) rest f)

pub sum_read : (levels : ℕ) (p : Phrase SumRule) (rest : List Word) → Known SumRule levels p rest → Follows SumRule rest → IsRead (phrases SumRule levels) (spelled p ++ rest) p rest
sum_read levels p rest k f = chain_end (phrases SumRule levels) (phrases TermRule levels) Sign (λ s. mark (sign_mark s)) one_term more_sums (sums_chained levels) (spelled p ++ rest) rest p k
    (none_next (phrases SumRule levels) (phrases TermRule levels) Sign (λ s. mark (sign_mark s)) one_term more_sums (sums_chained levels) rest f)

pub term_read : (levels : ℕ) (p : Phrase TermRule) (rest : List Word) → Known TermRule levels p rest → Follows TermRule rest → IsRead (phrases TermRule levels) (spelled p ++ rest) p rest
term_read levels p rest k f = chain_end (phrases TermRule levels) (phrases UnaryRule levels) (Unit {0}) (λ _. mark marks.Star) one_unary more_terms (terms_chained levels) (spelled p ++ rest) rest p k
    (none_next (phrases TermRule levels) (phrases UnaryRule levels) (Unit {0}) (λ _. mark marks.Star) one_unary more_terms (terms_chained levels) rest f)

-- a test, by its sum and what stands behind
pub tested : (levels : ℕ) (x : Phrase SumRule) (t : Tail) (rest : List Word) → IsRead (phrases SumRule levels) (spelled x ++ (tail_words t ++ rest)) x (tail_words t ++ rest)
    → IsRead (tails (named_of x) levels) (tail_words t ++ rest) t rest → IsRead (phrases TestRule levels) (spelled (build x t) ++ rest) (build x t) rest
tested levels x t rest r s =
    let both = both_read (phrases TestRule levels) (phrases SumRule levels) Tail tail_words (λ x t. FitsTail (named_of x) levels t) (Follows TestRule) build (tests levels)
    (spelled x ++ (tail_words t ++ rest)) (tail_words t ++ rest) rest x t r s in
    subst (λ ws. IsRead (phrases TestRule levels) ws (build x t) rest) both.split both

-- NOT before a form, or not
pub form_known : (named : Option (List ℕ)) (levels : ℕ) (negated : Bool) (form : Form) (rest : List Word) → BeginsForm named ((forms named levels).words_of form ++ rest)
    → IsRead (forms named levels) ((forms named levels).words_of form ++ rest) form rest → IsRead (tails named levels) (tail_words (formed negated form) ++ rest) (formed negated form) rest
form_known named levels true form rest b r = lies_read (tails named levels) (forms named levels) (mark marks.Not ∷ []) ((forms named levels).words_of form ++ rest) (formed true) (not_form_lies named levels ((forms named levels).words_of form ++ rest)) form rest r
form_known named levels false form rest b r = lies_read (tails named levels) (forms named levels) [] ((forms named levels).words_of form ++ rest) (formed false) (form_lies named levels ((forms named levels).words_of form ++ rest) b) form rest r

pub follows_not_mark : (m : Mark) (rest : List Word) → (MayFollow TestRule (mark m) → ⊥) → Follows TestRule rest → NoMark m rest
follows_not_mark m [] never f = tt
follows_not_mark m (w ∷ rest) never f = λ e. never (subst (λ w. MayFollow TestRule w) e f)

pub follows_no_comparison : (rest : List Word) → Follows TestRule rest → NoComparison rest
follows_no_comparison [] f = tt
follows_no_comparison (w ∷ rest) f = λ op e. subst (λ w. MayFollow TestRule w) e f

pub follows_no_form : (named : Option (List ℕ)) (rest : List Word) → Follows TestRule rest → BeginsForm named rest → ⊥
follows_no_form named [] f b = b
follows_no_form named (w ∷ rest) f b = no_form_follows named w rest b f

pub is_done : (named : Option (List ℕ)) (rest : List Word) → Follows TestRule rest → IsDone named rest
is_done named rest f = record {
  no_not = follows_not_mark marks.Not rest (λ x. x) f;
  no_comparison = follows_no_comparison rest f;
  no_form = follows_no_form named rest f;
  no_is = λ some. follows_not_mark marks.Is rest (λ x. x) f;
}

pub plain_known : (named : Option (List ℕ)) (levels : ℕ) (rest : List Word) → Follows TestRule rest → IsRead (tails named levels) rest no_tail rest
plain_known named levels rest f = record {
  fits = tt;
  split = refl;
  only = λ q behind after g follows agree same. no_more named levels rest (is_done named rest f) q behind g (subst (λ ws. Agree rest ws) (sym same) agree);
}

-- the name of a test
abbrev pub sum_of_name : List ℕ → Phrase SumRule
sum_of_name n = one_term (one_unary (prim (name n)))

pub atom_read : (levels : ℕ) (a : Atom) (rest : List Word) → (NoMark marks.Open (atom_word a ∷ rest)) → IsRead (phrases PrimRule levels) (atom_word a ∷ rest) (atom_phrase a) rest
atom_read levels a rest none = lies_read (phrases PrimRule levels) atoms [] (atom_word a ∷ rest) atom_phrase (atom_lies levels (atom_word a ∷ rest) none) a rest (atom_known a rest)

pub prim_read : (levels : ℕ) (p : Phrase PrimRule) (rest : List Word) → IsRead (phrases PrimRule levels) (spelled p ++ rest) p rest → IsRead (phrases UnaryRule levels) (spelled p ++ rest) (prim p) rest
prim_read levels p rest r = lies_read (phrases UnaryRule levels) (phrases PrimRule levels) [] (spelled p ++ rest) prim (prim_lies levels (spelled p ++ rest) (no_sign_starts (spelled p) rest (starts p))) p rest r

pub name_known : (levels : ℕ) (n : List ℕ) (rest : List Word) → Follows SumRule rest → IsRead (phrases SumRule levels) (words.Name n ∷ rest) (sum_of_name n) rest
name_known levels n rest f =
    let p = prim_read levels (name n) rest (atom_read levels (name_atom n) rest (λ e. cc e)) in
    let t = term_read levels (one_unary (prim (name n))) rest (chain_start (phrases TermRule levels) (phrases UnaryRule levels) (Unit {0}) (λ _. mark marks.Star) one_unary more_terms (terms_chained levels) (words.Name n ∷ rest) rest (prim (name n)) p) (follows_term rest f) in
    sum_read levels (sum_of_name n) rest (chain_start (phrases SumRule levels) (phrases TermRule levels) Sign (λ s. mark (sign_mark s)) one_term more_sums (sums_chained levels) (words.Name n ∷ rest) rest (one_unary (prim (name n))) t) f

pub range_known : (levels : ℕ) (a b : Phrase SumRule) (rest : List Word) → IsRead (phrases SumRule levels) (spelled a ++ (mark marks.And ∷ (spelled b ++ rest))) a (mark marks.And ∷ (spelled b ++ rest))
    → IsRead (phrases SumRule levels) (spelled b ++ rest) b rest → IsRead (ranges levels) ((spelled a ++ (mark marks.And ∷ spelled b)) ++ rest) (a, b) rest
range_known levels a b rest r s =
    let both = both_read (ranges levels) (phrases SumRule levels) (Phrase SumRule) (λ b. mark marks.And ∷ spelled b) (λ _ b. Fits levels b) (Follows TestRule) (λ a b. (a, b)) (two_sums levels)
    (spelled a ++ (mark marks.And ∷ (spelled b ++ rest))) (mark marks.And ∷ (spelled b ++ rest)) rest a b r
    (lies_read (and_sums levels) (phrases SumRule levels) (mark marks.And ∷ []) (spelled b ++ rest) (λ q. q) (and_lies levels (spelled b ++ rest)) b rest s) in
    subst (λ ws. IsRead (ranges levels) ws (a, b) rest) both.split both

pub closed_known : (levels : ℕ) (p : Phrase OrRule) (rest : List Word) → IsRead (phrases OrRule levels) (spelled p ++ (mark marks.Close ∷ rest)) p (mark marks.Close ∷ rest)
    → IsRead (closed levels) ((spelled p ++ (mark marks.Close ∷ [])) ++ rest) p rest
closed_known levels p rest r =
    let both = both_read (closed levels) (phrases OrRule levels) (Unit {0}) (λ _. mark marks.Close ∷ []) (λ _ _. Unit {0}) Anything (λ p _. p) (closing levels)
    (spelled p ++ (mark marks.Close ∷ rest)) (mark marks.Close ∷ rest) rest p tt r (close_read rest) in
    subst (λ ws. IsRead (closed levels) ws p rest) both.split both

pub known : {r : Rule} (p : Phrase r) (levels : ℕ) (rest : List Word) → Fits levels p → Lower r rest → Known r levels p rest
known (one_and p) levels rest f b = chain_start (phrases OrRule levels) (phrases AndRule levels) (Unit {0}) (λ _. mark marks.Or) one_and more_ors (ors_chained levels) (spelled p ++ rest) rest p (and_read levels p rest (known p levels rest f (follows_not rest b)) b)
known (or p q) levels rest f b =
    let c = chain_step (phrases OrRule levels) (phrases AndRule levels) (Unit {0}) (λ _. mark marks.Or) one_and more_ors (ors_chained levels) (spelled p ++ (mark marks.Or ∷ (spelled q ++ rest))) (spelled q ++ rest) rest p tt q
    (known p levels (mark marks.Or ∷ (spelled q ++ rest)) f.0 tt) (and_read levels q rest (known q levels rest f.1 (follows_not rest b)) b) in
    subst (λ ws. IsChain (phrases OrRule levels) (phrases AndRule levels) (Unit {0}) (λ _. mark marks.Or) one_and more_ors (ors_chained levels) ws (or p q) rest) (sym (append_assoc (spelled p) (mark marks.Or ∷ spelled q) rest)) c
known (one_not p) levels rest f b = chain_start (phrases AndRule levels) (phrases NotRule levels) (Unit {0}) (λ _. mark marks.And) one_not more_ands (ands_chained levels) (spelled p ++ rest) rest p (known p levels rest f b)
known (and p q) levels rest f b =
    let c = chain_step (phrases AndRule levels) (phrases NotRule levels) (Unit {0}) (λ _. mark marks.And) one_not more_ands (ands_chained levels) (spelled p ++ (mark marks.And ∷ (spelled q ++ rest))) (spelled q ++ rest) rest p tt q
    (known p levels (mark marks.And ∷ (spelled q ++ rest)) f.0 tt) (known q levels rest f.1 b) in
    subst (λ ws. IsChain (phrases AndRule levels) (phrases NotRule levels) (Unit {0}) (λ _. mark marks.And) one_not more_ands (ands_chained levels) ws (and p q) rest) (sym (append_assoc (spelled p) (mark marks.And ∷ spelled q) rest)) c
known (not p) levels rest f b = lies_read (phrases NotRule levels) (phrases NotRule (levels - 1)) (mark marks.Not ∷ []) (spelled p ++ rest) not (not_lies levels (spelled p ++ rest) f.0) p rest (known p (levels - 1) rest f.1 b)
known (test p) levels rest f b = lies_read (phrases NotRule levels) (phrases TestRule levels) [] (spelled p ++ rest) test
    (test_lies levels (spelled p ++ rest) (no_mark_starts BeginsSum marks.Not (spelled p) rest (starts p) (λ x. x))) p rest (known p levels rest f (follows_test rest b))
known (is_in n negated t ts) levels rest f b =
    let inner = lists.words_of (t, ts) ++ rest in
    tested levels (sum_of_name n) (formed negated (in_form t ts)) rest (name_known levels n (tail_words (formed negated (in_form t ts)) ++ rest) (sum_before (formed negated (in_form t ts)) rest b))
    (form_known (Some n) levels negated (in_form t ts) rest refl (lies_read (forms (Some n) levels) lists (mark marks.In ∷ []) inner (λ q. in_form q.0 q.1) (in_lies n levels inner) (t, ts) rest (list_known t ts rest)))
known (like n negated t e) levels rest f b =
    let inner = patterns.words_of (t, e) ++ rest in
    tested levels (sum_of_name n) (formed negated (like_form t e)) rest (name_known levels n (tail_words (formed negated (like_form t e)) ++ rest) (sum_before (formed negated (like_form t e)) rest b))
    (form_known (Some n) levels negated (like_form t e) rest refl (lies_read (forms (Some n) levels) patterns (mark marks.Like ∷ []) inner (λ q. like_form q.0 q.1) (like_lies n levels inner) (t, e) rest (pattern_known t e rest f b)))
known (is_null n negated) levels rest f b =
    let inner = nulls.words_of negated ++ rest in
    tested levels (sum_of_name n) (null_tail negated) rest (name_known levels n (tail_words (null_tail negated) ++ rest) tt)
    (lies_read (tails (Some n) levels) nulls (mark marks.Is ∷ []) inner null_tail (null_lies n levels inner) negated rest (null_known negated rest))
known (between x negated a c) levels rest f b =
    let t = formed negated (between_form a c) in
    let fs : Follows SumRule (tail_words t ++ rest) = sum_before t rest b in
    let last = sum_read levels c rest (known c levels rest f.2 (follows_term rest (follows_sum rest b))) (follows_sum rest b) in
    let first = sum_read levels a (mark marks.And ∷ (spelled c ++ rest)) (known a levels (mark marks.And ∷ (spelled c ++ rest)) f.1 tt) tt in
    let inner = (spelled a ++ (mark marks.And ∷ spelled c)) ++ rest in
    tested levels x t rest (sum_read levels x (tail_words t ++ rest) (known x levels (tail_words t ++ rest) f.0 (follows_term (tail_words t ++ rest) fs)) fs)
    (form_known (named_of x) levels negated (between_form a c) rest tt
    (lies_read (forms (named_of x) levels) (ranges levels) (mark marks.Between ∷ []) inner (λ q. between_form q.0 q.1) (between_lies (named_of x) levels inner) (a, c) rest (range_known levels a c rest first last)))
known (compare op a c) levels rest f b =
    let last = sum_read levels c rest (known c levels rest f.1 (follows_term rest (follows_sum rest b))) (follows_sum rest b) in
    tested levels a (compared op c) rest (sum_read levels a (words.Compared op ∷ (spelled c ++ rest)) (known a levels (words.Compared op ∷ (spelled c ++ rest)) f.0 tt) tt)
    (lies_read (tails (named_of a) levels) (phrases SumRule levels) (words.Compared op ∷ []) (spelled c ++ rest) (compared op) (compared_lies (named_of a) levels op (spelled c ++ rest)) c rest last)
known (plain p) levels rest f b =
    let fs = follows_sum rest b in
    tested levels p no_tail rest (sum_read levels p rest (known p levels rest f (follows_term rest fs)) fs) (plain_known (named_of p) levels rest b)
known (one_term p) levels rest f b = chain_start (phrases SumRule levels) (phrases TermRule levels) Sign (λ s. mark (sign_mark s)) one_term more_sums (sums_chained levels) (spelled p ++ rest) rest p (term_read levels p rest (known p levels rest f (follows_unary rest b)) b)
known (plus p q) levels rest f b =
    let c = chain_step (phrases SumRule levels) (phrases TermRule levels) Sign (λ s. mark (sign_mark s)) one_term more_sums (sums_chained levels) (spelled p ++ (mark marks.Plus ∷ (spelled q ++ rest))) (spelled q ++ rest) rest p signs.Plus q
    (known p levels (mark marks.Plus ∷ (spelled q ++ rest)) f.0 tt) (term_read levels q rest (known q levels rest f.1 (follows_unary rest b)) b) in
    subst (λ ws. IsChain (phrases SumRule levels) (phrases TermRule levels) Sign (λ s. mark (sign_mark s)) one_term more_sums (sums_chained levels) ws (plus p q) rest) (sym (append_assoc (spelled p) (mark marks.Plus ∷ spelled q) rest)) c
known (minus p q) levels rest f b =
    let c = chain_step (phrases SumRule levels) (phrases TermRule levels) Sign (λ s. mark (sign_mark s)) one_term more_sums (sums_chained levels) (spelled p ++ (mark marks.Minus ∷ (spelled q ++ rest))) (spelled q ++ rest) rest p signs.Minus q
    (known p levels (mark marks.Minus ∷ (spelled q ++ rest)) f.0 tt) (term_read levels q rest (known q levels rest f.1 (follows_unary rest b)) b) in
    subst (λ ws. IsChain (phrases SumRule levels) (phrases TermRule levels) Sign (λ s. mark (sign_mark s)) one_term more_sums (sums_chained levels) ws (minus p q) rest) (sym (append_assoc (spelled p) (mark marks.Minus ∷ spelled q) rest)) c
known (one_unary p) levels rest f b = chain_start (phrases TermRule levels) (phrases UnaryRule levels) (Unit {0}) (λ _. mark marks.Star) one_unary more_terms (terms_chained levels) (spelled p ++ rest) rest p (known p levels rest f b)
known (times p q) levels rest f b =
    let c = chain_step (phrases TermRule levels) (phrases UnaryRule levels) (Unit {0}) (λ _. mark marks.Star) one_unary more_terms (terms_chained levels) (spelled p ++ (mark marks.Star ∷ (spelled q ++ rest))) (spelled q ++ rest) rest p tt q
    (known p levels (mark marks.Star ∷ (spelled q ++ rest)) f.0 tt) (known q levels rest f.1 b) in
    subst (λ ws. IsChain (phrases TermRule levels) (phrases UnaryRule levels) (Unit {0}) (λ _. mark marks.Star) one_unary more_terms (terms_chained levels) ws (times p q) rest) (sym (append_assoc (spelled p) (mark marks.Star ∷ spelled q) rest)) c
known (positive p) levels rest f b = lies_read (phrases UnaryRule levels) (phrases UnaryRule (levels - 1)) (mark marks.Plus ∷ []) (spelled p ++ rest) (sign_phrase signs.Plus) (sign_lies levels signs.Plus (spelled p ++ rest) f.0) p rest (known p (levels - 1) rest f.1 b)
known (negative p) levels rest f b = lies_read (phrases UnaryRule levels) (phrases UnaryRule (levels - 1)) (mark marks.Minus ∷ []) (spelled p ++ rest) (sign_phrase signs.Minus) (sign_lies levels signs.Minus (spelled p ++ rest) f.0) p rest (known p (levels - 1) rest f.1 b)
known (prim p) levels rest f b = prim_read levels p rest (known p levels rest f tt)
known (name v) levels rest f b = atom_read levels (name_atom v) rest (λ e. cc e)
known (whole v) levels rest f b = atom_read levels (whole_atom v) rest (λ e. cc e)
known (text v) levels rest f b = atom_read levels (text_atom v) rest (λ e. cc e)
known (truth v) levels rest f b = atom_read levels (truth_atom v) rest (λ e. cc e)
known (group p) levels rest f b = lies_read (phrases PrimRule levels) (closed (levels - 1)) (mark marks.Open ∷ []) ((spelled p ++ (mark marks.Close ∷ [])) ++ rest) group
    (group_lies levels ((spelled p ++ (mark marks.Close ∷ [])) ++ rest) f.0) p rest (closed_known (levels - 1) p rest (or_read (levels - 1) p (mark marks.Close ∷ rest) (known p (levels - 1) (mark marks.Close ∷ rest) f.1 tt) tt))

pub one_tree : (all : List Word) (a b : Tree) → ReadsWords all a → ReadsWords all b → a ≡ b
one_tree all a b r s =
    let whole = or_read 100 s.0 [] (known s.0 100 [] s.1 tt) tt in
    let same : r.0 ≡ s.0 = whole.only r.0 [] [] r.1 tt tt (append-nil (spelled r.0) ∙ (r.2 ∙ (sym s.2 ∙ sym (append-nil (spelled s.0))))) in
    sym r.3 ∙ (ap (λ p. tree_of p) same ∙ s.3)
