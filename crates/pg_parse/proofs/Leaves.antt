-- The parts of a test that hold no phrases.
use Rattle.std.proofs.Common.{◌≡◌, ℕ, ℤ, Bool, true, false, List, [], ◌∷◌, ◌++◌, length, refl, sym, ◌∙◌, ap, subst, append_assoc, append-nil, length-append, arith, Option, Some, None}
use Rattle.std.specs.Str.{chars, IsUtf8}
use Rattle.std.specs.Prelude.{slice_get, encode_utf8}
use Rattle.std.proofs.lemmas.Str.{chars_past_char, chars-nil}
use Rattle.std.proofs.lemmas.List.{nil_from_length}
use Rattle.pg_parse.specs.declared.word.Word.{Word}
use Rattle.pg_parse.specs.declared.word.Word.TheVariants as words
use Rattle.pg_parse.specs.declared.word.Mark.{Mark}
use Rattle.pg_parse.specs.declared.word.Mark.TheVariants as marks
use Rattle.pg_parse.specs.declared.refusal.Refusal.{Refusal}
use Rattle.pg_parse.specs.declared.tree.Tree.{Tree}
use Rattle.pg_parse.specs.Grammar.{TestRule, mark, more_texts, escape_if, escape_of, IsEscape, not_if}
use Rattle.pg_parse.specs.Parsing.{Agree, Language, IsRead, IsRefused, Gives, IsFault, Follows, NoMark, NoText, NoCharacter, HasCharacter, nothing, Atom, name_atom, whole_atom, text_atom, truth_atom, atom_word, atom_tree, atoms, text_parts, items, lists, listed, escapes, patterns, pattern_value, nulls, Anything, Always}
use Rattle.pg_parse.proofs.Languages.{Lies, lies_read, lies_refused, lies_fault, refused_here, Follow, both_read, second_refused, both_fault, both_fault_next}
use Rattle.pg_parse.proofs.Chains.{HasFront, chain, IsChained, Chaining}

-- no words are always read
pub nothing_read : (rest : List Word) → IsRead nothing rest tt rest
nothing_read rest = record { fits = tt; split = refl; only = λ q behind after f follows agree same. refl }

pub no_mark : (m : Mark) (ws more : List Word) → NoMark m ws → Agree ws (mark m ∷ more) → ⊥
no_mark m [] more none agree = agree
no_mark m (w ∷ ws) more none agree = none agree

pub not_follows : (w : Word) (ws behind : List Word) → Follows TestRule behind → Agree (w ∷ ws) behind → Follows TestRule (w ∷ ws)
not_follows w ws [] f agree = elim agree [ ]
not_follows w ws (x ∷ behind) f agree = subst (λ w. Follows TestRule (w ∷ ws)) (sym agree) f

-- parts that all begin with a mark that doesn't come next
pub refused_mark : (l : Language) (m : Mark) (ws : List Word) (part : l.Part) → l.Fit part → ((q : l.Part) → (more : List Word) × (l.words_of q ≡ mark m ∷ more)) → NoMark m ws → IsRefused l ws (length ws)
refused_mark l m ws part fits begin none = refused_here l ws part fits
    (λ q behind f follows agree. let b = begin q in no_mark m ws (b.0 ++ behind) none (subst (λ ws1. Agree ws (ws1 ++ behind)) b.1 agree))

-- a text

pub text_only : (t : List ℕ) (rest : List Word) → IsRead text_parts (words.Text t ∷ rest) t rest
text_only t rest = record { fits = tt; split = refl; only = λ q behind after f follows agree same. cc same }

pub no_text : (t : List ℕ) (ws more : List Word) → NoText ws → Agree ws (words.Text t ∷ more) → ⊥
no_text t [] more none agree = agree
no_text t (w ∷ ws) more none agree = none t agree

pub no_text_part : (ws : List Word) → NoText ws → IsRefused text_parts ws (length ws)
no_text_part ws none = refused_here text_parts ws [] tt (λ q behind f follows agree. no_text q ws behind none agree)

-- texts parted by commas

abbrev pub more_items : List ℕ × List (List ℕ) → Unit {0} → List ℕ → List ℕ × List (List ℕ)
more_items p _ t = (p.0, p.1 ++ (t ∷ []))

abbrev pub one_item : List ℕ → List ℕ × List (List ℕ)
one_item t = (t, [])

pub more_texts_push : (ts : List (List ℕ)) (t : List ℕ) → more_texts (ts ++ (t ∷ [])) ≡ more_texts ts ++ (mark marks.Comma ∷ (words.Text t ∷ []))
more_texts_push [] t = refl
more_texts_push (u ∷ ts) t = ap (λ ws. mark marks.Comma ∷ (words.Text u ∷ ws)) (more_texts_push ts t)

pub chain_of_items : (t : List ℕ) (before ts : List (List ℕ)) → (tail : List (Unit {0} × List ℕ)) × ((t, before ++ ts) ≡ chain more_items (t, before) tail)
chain_of_items t before [] = ([], ap (λ ts. (t, ts)) (append-nil before))
chain_of_items t before (u ∷ ts) =
    let rest = chain_of_items t (before ++ (u ∷ [])) ts in
    ((tt, u) ∷ rest.0, ap (λ ts. (t, ts)) (sym (append_assoc before (u ∷ []) ts)) ∙ rest.1)

pub items_front : (p : List ℕ × List (List ℕ)) → HasFront {O = Unit {0}} one_item more_items p
items_front p = let c = chain_of_items p.0 [] p.1 in record { front = p.0; tail = c.0; is = c.1 }

pub items_chain : IsChained items text_parts (Unit {0}) (λ _. mark marks.Comma) one_item more_items
items_chain = record {
  one_words = λ q. refl;
  more_words = λ p o q. ap (λ ws. words.Text p.0 ∷ ws) (more_texts_push p.1 q);
  one_fits = λ q f. tt;
  fits_one = λ q f. tt;
  more_fits = λ p o q f g. tt;
  fits_left = λ p o q f. tt;
  fits_right = λ p o q f. tt;
  op_follows = λ o ws. tt;
  low_follows = λ ws f. tt;
  op_ends = λ o ws f. f refl;
  op_is = λ a b e. refl;
  has_front = items_front;
}

abbrev pub item_chain : Chaining
item_chain = record {
  upper = items;
  lower = text_parts;
  Operator = Unit {0};
  op = λ _. mark marks.Comma;
  one = one_item;
  more = more_items;
  chained = items_chain;
  Value = List (List ℕ);
  Low = List ℕ;
  value = listed;
  low = λ t. t;
  start = λ t. t ∷ [];
  join = λ ts _ t. ts ++ (t ∷ []);
  value_one = λ q. refl;
  value_more = λ p o q. refl;
}

-- texts in parentheses

abbrev pub closed_items : Language
closed_items = record { Part = List ℕ × List (List ℕ); words_of = λ p. words.Text p.0 ∷ (more_texts p.1 ++ (mark marks.Close ∷ [])); Fit = Always; Behind = Anything }

abbrev pub closes : Language
closes = record { Part = Unit {0}; words_of = λ _. mark marks.Close ∷ []; Fit = Always; Behind = Anything }

pub closing : Follow closed_items items (Unit {0}) (λ _. mark marks.Close ∷ []) (λ _ _. Unit {0}) Anything (λ p _. p)
closing = record {
  words_are = λ a b f. refl;
  fits = λ a b f g. tt;
  view = λ p f. (p, tt, refl, tt, tt);
  between = λ a b ws f follows e. cc e;
  behind = λ ws f. tt;
}

pub close_read : (rest : List Word) → IsRead closes (mark marks.Close ∷ rest) tt rest
close_read rest = record { fits = tt; split = refl; only = λ q behind after f follows agree same. refl }

pub close_refused : (ws : List Word) → NoMark marks.Close ws → IsRefused closes ws (length ws)
close_refused ws none = refused_mark closes marks.Close ws tt tt (λ q. ([], refl)) none

pub open_lies : (inner : List Word) → Lies lists closed_items ((mark marks.Open ∷ []) ++ inner) (mark marks.Open ∷ []) (λ p. p)
open_lies inner = record {
  words_are = λ q. refl;
  fits = λ q f. tt;
  view = λ p behind f follows agree. (p, refl, tt);
  behind = λ ws f. tt;
}

pub list_read : (inner : List Word) (texts : List (List ℕ)) (rest : List Word) → Gives items listed inner texts (mark marks.Close ∷ rest) → Gives lists listed (mark marks.Open ∷ inner) texts rest
list_read inner texts rest g = record {
  part = g.part;
  value_is = g.value_is;
  read = lies_read lists closed_items (mark marks.Open ∷ []) inner (λ p. p) (open_lies inner) g.part rest
      (both_read closed_items items (Unit {0}) (λ _. mark marks.Close ∷ []) (λ _ _. Unit {0}) Anything (λ p _. p) closing inner (mark marks.Close ∷ rest) rest g.part tt g.read (close_read rest));
}

pub list_unclosed : (inner : List Word) (texts : List (List ℕ)) (rest : List Word) → Gives items listed inner texts rest → NoMark marks.Close rest → IsRefused lists (mark marks.Open ∷ inner) (length rest)
list_unclosed inner texts rest g none = lies_refused lists closed_items (mark marks.Open ∷ []) inner (λ p. p) (open_lies inner) (length rest)
    (second_refused closed_items items (Unit {0}) (λ _. mark marks.Close ∷ []) (λ _ _. Unit {0}) Anything (λ p _. p) closing inner rest g.part (length rest) g.read (close_refused rest none))

pub list_fault : (inner : List Word) (e : Refusal) → IsFault items inner e → IsFault lists (mark marks.Open ∷ inner) e
list_fault inner e a = lies_fault lists closed_items (mark marks.Open ∷ []) inner (λ p. p) (open_lies inner) e
    (both_fault closed_items items (Unit {0}) (λ _. mark marks.Close ∷ []) (λ _ _. Unit {0}) Anything (λ p _. p) closing inner e (λ a. (tt, tt)) a)

pub list_unopened : (ws : List Word) → NoMark marks.Open ws → IsRefused lists ws (length ws)
list_unopened ws none = refused_mark lists marks.Open ws ([], []) tt (λ q. (words.Text q.0 ∷ (more_texts q.1 ++ (mark marks.Close ∷ [])), refl)) none

-- ESCAPE and its text

pub no_escape : (p : Option (List ℕ)) (ws behind : List Word) → NoMark marks.Escape ws → Agree ws (escape_if p ++ behind) → p ≡ None
no_escape None ws behind none agree = refl
no_escape (Some t) ws behind none agree = elim (no_mark marks.Escape ws (words.Text t ∷ behind) none agree) [ ]

pub escape_none : (ws : List Word) → NoMark marks.Escape ws → Gives escapes escape_of ws None ws
escape_none ws none = record {
  part = None;
  value_is = refl;
  read = record {
    fits = tt;
    split = refl;
    only = λ q behind after f follows agree same. no_escape q ws behind none (subst (λ bs. Agree ws bs) (sym same) agree);
  };
}

-- the texts of one character behind ESCAPE
abbrev pub single_texts : Language
single_texts = record { Part = List ℕ; words_of = λ t. words.Text t ∷ []; Fit = λ t. length (chars t) ≡ 1; Behind = Follows TestRule }

pub escape_view : (inner : List Word) (p : Option (List ℕ)) (behind : List Word) → IsEscape p → Follows TestRule behind → Agree (mark marks.Escape ∷ inner) (escape_if p ++ behind)
    → (q : List ℕ) × (p ≡ Some q) × (length (chars q) ≡ 1)
escape_view inner None behind f follows agree = elim (not_follows (mark marks.Escape) inner behind follows agree) [ ]
escape_view inner (Some t) behind f follows agree = (t, refl, f)

pub escape_lies : (inner : List Word) → Lies escapes single_texts ((mark marks.Escape ∷ []) ++ inner) (mark marks.Escape ∷ []) Some
escape_lies inner = record {
  words_are = λ q. refl;
  fits = λ q f. f;
  view = escape_view inner;
  behind = λ ws f. f;
}

pub escape_some : (inner : List Word) (c : ℕ) (rest : List Word) → HasCharacter inner c rest → Gives escapes escape_of (mark marks.Escape ∷ inner) (Some c) rest
escape_some inner c rest h = record {
  part = Some h.text;
  value_is = h.is;
  read = lies_read escapes single_texts (mark marks.Escape ∷ []) inner Some (escape_lies inner) h.text rest
      (record { fits = h.one; split = h.split; only = λ q behind after f follows agree same. cc same });
}

pub no_character : (t : List ℕ) (ws behind : List Word) → NoCharacter ws → length (chars t) ≡ 1 → Agree ws (words.Text t ∷ behind) → ⊥
no_character t [] behind none one agree = agree
no_character t (w ∷ ws) behind none one agree = none t agree one

pub one_letter : length (chars (97 ∷ [])) ≡ 1
unfolding chars
one_letter = refl

-- the characters of a text, by the first that is taken off
pub two_characters : (bytes rest : List ℕ) (c d : ℕ) → IsUtf8 bytes → bytes ≡ encode_utf8 c ++ rest → Some d ≡ slice_get (chars rest) 0 → length (chars bytes) ≡ 1 → ⊥
two_characters bytes rest c d utf8 parts next one =
    let all = chars_past_char bytes rest c utf8 parts in
    let none : length (chars rest) ≡ 0 = omega (arith, ap length all) in
    let empty : chars rest ≡ [] = nil_from_length (chars rest) none in
    let no : Some d ≡ None = next ∙ ap (λ cs. slice_get cs 0) empty in
    cc no

pub one_character : (bytes rest : List ℕ) (c : ℕ) → IsUtf8 bytes → bytes ≡ encode_utf8 c ++ rest → length rest ≡ 0 → (length (chars bytes) ≡ 1) × (slice_get (chars bytes) 0 ≡ Some c)
one_character bytes rest c utf8 parts none =
    let all = chars_past_char bytes rest c utf8 parts ∙ ap (λ cs. c ∷ cs) (ap chars (nil_from_length rest none) ∙ chars-nil) in
    (ap length all, ap (λ cs. slice_get cs 0) all)

pub escape_refused : (inner : List Word) → NoCharacter inner → IsRefused escapes (mark marks.Escape ∷ inner) (length inner)
escape_refused inner none = lies_refused escapes single_texts (mark marks.Escape ∷ []) inner Some (escape_lies inner) (length inner)
    (refused_here single_texts inner (97 ∷ []) one_letter (λ q behind f follows agree. no_character q inner behind none f agree))

-- a pattern

pub escaping : Follow patterns text_parts (Option (List ℕ)) escape_if (λ _ e. IsEscape e) (Follows TestRule) (λ t e. (t, e))
escaping = record {
  words_are = λ a b f. refl;
  fits = λ a b f g. g;
  view = λ p f. (p.0, p.1, refl, tt, f);
  between = λ a b ws f follows. tt;
  behind = λ ws f. f;
}

pub pattern_read : (all : List Word) (t : List ℕ) (c : Option ℕ) (between rest : List Word) → Gives text_parts (λ t. t) all t between → Gives escapes escape_of between c rest → Gives patterns pattern_value all (t, c) rest
pattern_read all t c between rest g h = record {
  part = (g.part, h.part);
  value_is = ap (λ t. (t, escape_of h.part)) g.value_is ∙ ap (λ c. (t, c)) h.value_is;
  read = both_read patterns text_parts (Option (List ℕ)) escape_if (λ _ e. IsEscape e) (Follows TestRule) (λ t e. (t, e)) escaping all between rest g.part h.part g.read h.read;
}

pub pattern_fault : (all : List Word) (e : Refusal) → IsFault text_parts all e → IsFault patterns all e
pattern_fault all e a = both_fault patterns text_parts (Option (List ℕ)) escape_if (λ _ e. IsEscape e) (Follows TestRule) (λ t e. (t, e)) escaping all e (λ a. (None, tt)) a

pub pattern_fault_next : (all : List Word) (t : List ℕ) (between : List Word) (e : Refusal) → Gives text_parts (λ t. t) all t between → IsFault escapes between e → IsFault patterns all e
pattern_fault_next all t between e g a = both_fault_next patterns text_parts (Option (List ℕ)) escape_if (λ _ e. IsEscape e) (Follows TestRule) (λ t e. (t, e)) escaping all between g.part e g.read a

-- what may stand behind IS

abbrev pub null_parts : Language
null_parts = record { Part = Unit {0}; words_of = λ _. mark marks.Null ∷ []; Fit = Always; Behind = Anything }

pub not_null_view : (inner : List Word) (p : Bool) (behind : List Word) → Unit {0} → Unit {0} → Agree (mark marks.Not ∷ inner) ((not_if p ++ (mark marks.Null ∷ [])) ++ behind) → (q : Unit {0}) × (p ≡ true) × Unit {0}
not_null_view inner true behind f follows agree = (tt, refl, tt)
not_null_view inner false behind f follows agree = cc agree

pub null_view : (ws : List Word) (p : Bool) (behind : List Word) → NoMark marks.Not ws → Agree ws ((not_if p ++ (mark marks.Null ∷ [])) ++ behind) → (q : Unit {0}) × (p ≡ false) × Unit {0}
null_view ws false behind none agree = (tt, refl, tt)
null_view ws true behind none agree = elim (no_mark marks.Not ws (mark marks.Null ∷ behind) none agree) [ ]

pub not_null_lies : (inner : List Word) → Lies nulls null_parts ((mark marks.Not ∷ []) ++ inner) (mark marks.Not ∷ []) (λ _. true)
not_null_lies inner = record {
  words_are = λ q. refl;
  fits = λ q f. tt;
  view = not_null_view inner;
  behind = λ ws f. tt;
}

pub null_lies : (ws : List Word) → NoMark marks.Not ws → Lies nulls null_parts ([] ++ ws) [] (λ _. false)
null_lies ws none = record {
  words_are = λ q. refl;
  fits = λ q f. tt;
  view = λ p behind f follows agree. null_view ws p behind none agree;
  behind = λ ws f. tt;
}

pub null_read : (rest : List Word) → IsRead null_parts (mark marks.Null ∷ rest) tt rest
null_read rest = record { fits = tt; split = refl; only = λ q behind after f follows agree same. refl }

pub null_refused : (ws : List Word) → NoMark marks.Null ws → IsRefused null_parts ws (length ws)
null_refused ws none = refused_mark null_parts marks.Null ws tt tt (λ q. ([], refl)) none

pub is_not_null : (rest : List Word) → Gives nulls (λ negated. negated) (mark marks.Not ∷ (mark marks.Null ∷ rest)) true rest
is_not_null rest = record {
  part = true;
  value_is = refl;
  read = lies_read nulls null_parts (mark marks.Not ∷ []) (mark marks.Null ∷ rest) (λ _. true) (not_null_lies (mark marks.Null ∷ rest)) tt rest (null_read rest);
}

pub is_null : (rest : List Word) → Gives nulls (λ negated. negated) (mark marks.Null ∷ rest) false rest
is_null rest = record {
  part = false;
  value_is = refl;
  read = lies_read nulls null_parts [] (mark marks.Null ∷ rest) (λ _. false) (null_lies (mark marks.Null ∷ rest) (λ e. cc e)) tt rest (null_read rest);
}

pub not_null_refused : (inner : List Word) → NoMark marks.Null inner → IsRefused nulls (mark marks.Not ∷ inner) (length inner)
not_null_refused inner none = lies_refused nulls null_parts (mark marks.Not ∷ []) inner (λ _. true) (not_null_lies inner) (length inner) (null_refused inner none)

pub nulls_refused : (ws : List Word) → NoMark marks.Not ws → NoMark marks.Null ws → IsRefused nulls ws (length ws)
nulls_refused ws no_not none = lies_refused nulls null_parts [] ws (λ _. false) (null_lies ws no_not) (length ws) (null_refused ws none)

-- single words

pub atom_is : (a b : Atom) → atom_word a ≡ atom_word b → a ≡ b
atom_is (name_atom a) (name_atom b) e = ap name_atom (cc e)
atom_is (name_atom a) (whole_atom b) e = cc e
atom_is (name_atom a) (text_atom b) e = cc e
atom_is (name_atom a) (truth_atom b) e = cc e
atom_is (whole_atom a) (name_atom b) e = cc e
atom_is (whole_atom a) (whole_atom b) e = ap whole_atom (cc e)
atom_is (whole_atom a) (text_atom b) e = cc e
atom_is (whole_atom a) (truth_atom b) e = cc e
atom_is (text_atom a) (name_atom b) e = cc e
atom_is (text_atom a) (whole_atom b) e = cc e
atom_is (text_atom a) (text_atom b) e = ap text_atom (cc e)
atom_is (text_atom a) (truth_atom b) e = cc e
atom_is (truth_atom a) (name_atom b) e = cc e
atom_is (truth_atom a) (whole_atom b) e = cc e
atom_is (truth_atom a) (text_atom b) e = cc e
atom_is (truth_atom a) (truth_atom b) e = ap truth_atom (cc e)

pub atom_read : (a : Atom) (rest : List Word) → Gives atoms atom_tree (atom_word a ∷ rest) (atom_tree a) rest
atom_read a rest = record {
  part = a;
  value_is = refl;
  read = record { fits = tt; split = refl; only = λ q behind after f follows agree same. atom_is q a (cc same) };
}

pub no_atom : (ws : List Word) → ((a : Atom) (more : List Word) → Agree ws (atom_word a ∷ more) → ⊥) → IsRefused atoms ws (length ws)
no_atom ws none = refused_here atoms ws (name_atom (97 ∷ [])) tt (λ q behind f follows agree. none q behind agree)

pub atom_given : (all rest : List Word) (w : Word) (a : Atom) (tree : Tree) → all ≡ w ∷ rest → w ≡ atom_word a → atom_tree a ≡ tree → Gives atoms atom_tree all tree rest
atom_given all rest w a tree parts is value =
    let at : all ≡ atom_word a ∷ rest = parts ∙ ap (λ w. w ∷ rest) is in
    rw at (subst (λ t. Gives atoms atom_tree (atom_word a ∷ rest) t rest) value (atom_read a rest))

pub no_atom_word : (w : Word) (rest : List Word) → ((n : List ℕ) → w ≡ words.Name n → ⊥) → ((n : ℤ) → w ≡ words.Whole n → ⊥) → ((t : List ℕ) → w ≡ words.Text t → ⊥) → ((b : Bool) → w ≡ words.Truth b → ⊥)
    → (a : Atom) (more : List Word) → Agree (w ∷ rest) (atom_word a ∷ more) → ⊥
no_atom_word w rest name whole text truth (name_atom n) more agree = name n agree
no_atom_word w rest name whole text truth (whole_atom n) more agree = whole n agree
no_atom_word w rest name whole text truth (text_atom t) more agree = text t agree
no_atom_word w rest name whole text truth (truth_atom b) more agree = truth b agree

pub no_atom_first : (all rest : List Word) (w : Word) → all ≡ w ∷ rest → ((n : List ℕ) → w ≡ words.Name n → ⊥) → ((n : ℤ) → w ≡ words.Whole n → ⊥) → ((t : List ℕ) → w ≡ words.Text t → ⊥) → ((b : Bool) → w ≡ words.Truth b → ⊥)
    → IsRefused atoms all (length all)
no_atom_first all rest w parts name whole text truth = rw parts (no_atom (w ∷ rest) (no_atom_word w rest name whole text truth))

pub no_atom_at_end : (all : List Word) → length all ≡ 0 → IsRefused atoms all (length all)
no_atom_at_end all none = rw (nil_from_length all none) (no_atom [] (λ a more agree. agree))

pub too_long : (w : Word) (rest behind : List Word) → w ∷ behind ≡ rest → length behind ≡ length rest → ⊥
too_long w rest behind e same = let at = ap length e in omega arith

pub shorter : (front rest behind : List Word) (x y w : Word) → w ∷ behind ≡ x ∷ (y ∷ (front ++ rest)) → length behind ≡ length rest → ⊥
shorter front rest behind x y w e same = let at = ap length e in let sum = length-append front rest in omega arith

-- of two rests of the same words, as long as one another
pub same_rest : (front rest behind : List Word) (w : Word) → w ∷ behind ≡ front ++ rest → length behind ≡ length rest → behind ≡ rest
same_rest [] rest behind w e same = elim (too_long w rest behind e same) [ ]
same_rest (x ∷ []) rest behind w e same = cc e
same_rest (x ∷ (y ∷ front)) rest behind w e same = elim (shorter front rest behind x y w e same) [ ]
