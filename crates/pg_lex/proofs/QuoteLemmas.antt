-- Texts in quotes.
use Rattle.std.proofs.Common.{◌≡◌, ◌≢◌, ◌==◌, ◌+◌, ◌<◌, ◌≤◌, ℕ, zero, suc, length, get_or, take, drop, append-nil, length-append, IsUtf8, Bool, true, false, inl, inr, List, [], ◌∷◌, ◌++◌, if◌then◌else◌, refl, sym, ◌∙◌, ap, subst, arith, append_assoc}
use Rattle.std.proofs.lemmas.Bool.{cases_eq}
use Rattle.std.specs.Str.{IsCharBoundary}
use Rattle.std.proofs.lemmas.List.{take_more, take_all, get_or_at, drop_at}
use Rattle.std.proofs.lemmas.Str.{IsCharBoundary-after_ascii, IsUtf8-drop}
use Rattle.pg_lex.specs.Characters.{is_quote, NotNext}
use Rattle.pg_lex.specs.Reading.{NoText}
use Rattle.pg_lex.specs.Spelling.{doubled, quoted, IsQuoted}
use Rattle.pg_lex.proofs.Runs.{both_values}

-- a quote is written twice, and another character once
pub doubled-quote : (c : ℕ) (cs : List ℕ) → c ≡ 39 → doubled (c ∷ cs) ≡ 39 ∷ (39 ∷ doubled cs)
doubled-quote c cs is = let same : (c == 39) ≡ true = search (arith, is) in ap (λ (b : Bool). if b then (39 ∷ (39 ∷ doubled cs)) else (c ∷ doubled cs)) same

pub doubled-other : (c : ℕ) (cs : List ℕ) → c ≢ 39 → doubled (c ∷ cs) ≡ c ∷ doubled cs
doubled-other c cs other = let same : (c == 39) ≡ false = grind (arith, other) in ap (λ (b : Bool). if b then (39 ∷ (39 ∷ doubled cs)) else (c ∷ doubled cs)) same

-- no quote stands next, and yet one does
pub quote_next : (b more : List ℕ) → NotNext is_quote b → b ≡ 39 ∷ more → ⊥
quote_next b more none is = let next : NotNext is_quote (39 ∷ more) = subst (NotNext is_quote) is none in both_values true refl next

-- the end, or a quote behind which no other stands
abbrev pub Ends : List ℕ → Type 0
Ends [] = Unit {0}
Ends (c ∷ cs) = (c ≡ 39) × NotNext is_quote cs

-- an end isn't the beginning of a text that goes on
goes_on : (end : List ℕ) (c : ℕ) (cs rest : List ℕ) → Ends end → end ≡ doubled (c ∷ cs) ++ rest → ⊥
goes_on [] c cs rest ends same =
    elim (cases_eq c 39) [
      | inl is ↦ let e : [] ≡ 39 ∷ (39 ∷ (doubled cs ++ rest)) = same ∙ ap (λ (l : List ℕ). l ++ rest) (doubled-quote c cs is) in cc
      | inr other ↦ let e : [] ≡ c ∷ (doubled cs ++ rest) = same ∙ ap (λ (l : List ℕ). l ++ rest) (doubled-other c cs other) in cc
    ]
goes_on (x ∷ xs) c cs rest ends same =
    elim (cases_eq c 39) [
      | inl is ↦
          let e : x ∷ xs ≡ 39 ∷ (39 ∷ (doubled cs ++ rest)) = same ∙ ap (λ (l : List ℕ). l ++ rest) (doubled-quote c cs is) in
          let next : xs ≡ 39 ∷ (doubled cs ++ rest) = cc in
          quote_next xs (doubled cs ++ rest) ends.1 next
      | inr other ↦
          let e : x ∷ xs ≡ c ∷ (doubled cs ++ rest) = same ∙ ap (λ (l : List ℕ). l ++ rest) (doubled-other c cs other) in
          let first : x ≡ c = cc in
          other (sym first ∙ ends.0)
    ]

-- what begins alike goes on alike
one_more : (x y : ℕ) (xs ys a b : List ℕ) → doubled (x ∷ xs) ++ a ≡ doubled (y ∷ ys) ++ b → (x ≡ y) × (doubled xs ++ a ≡ doubled ys ++ b)
one_more x y xs ys a b same =
    elim (cases_eq x 39) [
      | inl is ↦
          let left : 39 ∷ (39 ∷ (doubled xs ++ a)) ≡ doubled (y ∷ ys) ++ b = ap (λ (l : List ℕ). l ++ a) (sym (doubled-quote x xs is)) ∙ same in
          elim (cases_eq y 39) [
            | inl also ↦
                let e : 39 ∷ (39 ∷ (doubled xs ++ a)) ≡ 39 ∷ (39 ∷ (doubled ys ++ b)) = left ∙ ap (λ (l : List ℕ). l ++ b) (doubled-quote y ys also) in
                (is ∙ sym also, cc)
            | inr other ↦
                let e : 39 ∷ (39 ∷ (doubled xs ++ a)) ≡ y ∷ (doubled ys ++ b) = left ∙ ap (λ (l : List ℕ). l ++ b) (doubled-other y ys other) in
                let first : y ≡ 39 = cc in
                absurd (other first)
          ]
      | inr other ↦
          let left : x ∷ (doubled xs ++ a) ≡ doubled (y ∷ ys) ++ b = ap (λ (l : List ℕ). l ++ a) (sym (doubled-other x xs other)) ∙ same in
          elim (cases_eq y 39) [
            | inl is ↦
                let e : x ∷ (doubled xs ++ a) ≡ 39 ∷ (39 ∷ (doubled ys ++ b)) = left ∙ ap (λ (l : List ℕ). l ++ b) (doubled-quote y ys is) in
                let first : x ≡ 39 = cc in
                absurd (other first)
            | inr also ↦
                let e : x ∷ (doubled xs ++ a) ≡ y ∷ (doubled ys ++ b) = left ∙ ap (λ (l : List ℕ). l ++ b) (doubled-other y ys also) in
                (cc, cc)
          ]
    ]

-- a text and where it ends are told by its spelling
pub one_text : (t u a b : List ℕ) → Ends a → Ends b → doubled t ++ a ≡ doubled u ++ b → (t ≡ u) × (a ≡ b)
one_text [] [] a b ea eb same = (refl, same)
one_text [] (y ∷ ys) a b ea eb same = absurd (goes_on a y ys b ea same)
one_text (x ∷ xs) [] a b ea eb same = absurd (goes_on b x xs a eb (sym same))
one_text (x ∷ xs) (y ∷ ys) a b ea eb same =
    let step = one_more x y xs ys a b same in
    let more = one_text xs ys a b ea eb step.1 in
    let all : x ∷ xs ≡ y ∷ ys = let first : x ≡ y = step.0 in let tails : xs ≡ ys = more.0 in cc in
    (all, more.1)

-- a text behind another
pub doubled-append : (t u : List ℕ) → doubled (t ++ u) ≡ doubled t ++ doubled u
doubled-append [] u = refl
doubled-append (c ∷ cs) u =
    elim (cases_eq c 39) [
      | inl is ↦ doubled-quote c (cs ++ u) is ∙ ap (λ (l : List ℕ). 39 ∷ (39 ∷ l)) (doubled-append cs u) ∙ sym (ap (λ (l : List ℕ). l ++ doubled u) (doubled-quote c cs is))
      | inr other ↦ doubled-other c (cs ++ u) other ∙ ap (λ (l : List ℕ). c ∷ l) (doubled-append cs u) ∙ sym (ap (λ (l : List ℕ). l ++ doubled u) (doubled-other c cs other))
    ]

-- a front of the characters is a quote and a text, each quote twice
pub record IsOpen (rest : List ℕ) (place : ℕ) : Type 0 where
  pub within : place ≤ length rest
  pub text : List ℕ
  pub front : take place rest ≡ 39 ∷ doubled text

pub open_start : (rest : List ℕ) → 0 < length rest → get_or rest 0 0 ≡ 39 → IsOpen rest 1
open_start [] some is = absurd (omega (arith, some))
open_start (c ∷ cs) some is = record { within = omega arith; text = []; front = ap (λ n. n ∷ []) is }

-- one character more
open_more : (rest : List ℕ) (place : ℕ) (c : ℕ) → place < length rest → get_or rest place 0 ≡ c → (text : List ℕ) → take place rest ≡ text → take (place + 1) rest ≡ text ++ (c ∷ [])
open_more rest place c lt is text front = take_more rest place 0 lt ∙ ap (λ (l : List ℕ). l ++ (get_or rest place 0 ∷ [])) front ∙ ap (λ n. text ++ (n ∷ [])) is

pub open_other : (rest : List ℕ) (place : ℕ) → IsOpen rest place → place < length rest → get_or rest place 0 ≢ 39 → IsOpen rest (place + 1)
open_other rest place begun lt other =
    let c = get_or rest place 0 in
    record {
      within = omega (arith, lt);
      text = begun.text ++ (c ∷ []);
      front = open_more rest place c lt refl (39 ∷ doubled begun.text) begun.front ∙ ap (λ (l : List ℕ). 39 ∷ l) (sym (doubled-append begun.text (c ∷ []) ∙ ap (λ (l : List ℕ). doubled begun.text ++ l) (doubled-other c [] other)));
    }

pub open_quote : (rest : List ℕ) (place : ℕ) → IsOpen rest place → place + 1 < length rest → get_or rest place 0 ≡ 39 → get_or rest (place + 1) 0 ≡ 39 → IsOpen rest (place + 2)
open_quote rest place begun lt first second =
    let front = open_more rest place 39 (omega (arith, lt)) first (39 ∷ doubled begun.text) begun.front in
    let both = open_more rest (place + 1) 39 lt second ((39 ∷ doubled begun.text) ++ (39 ∷ [])) front in
    let sum : place + 1 + 1 ≡ place + 2 = omega arith in
    record {
      within = omega (arith, lt);
      text = begun.text ++ (39 ∷ []);
      front = ap (λ n. take n rest) (sym sum) ∙ both ∙ append_assoc (39 ∷ doubled begun.text) (39 ∷ []) (39 ∷ []) ∙ ap (λ (l : List ℕ). 39 ∷ l) (sym (doubled-append begun.text (39 ∷ [])));
    }

pub open_end : (rest : List ℕ) (place : ℕ) → IsOpen rest place → place < length rest → get_or rest place 0 ≡ 39 → IsQuoted (take (place + 1) rest)
open_end rest place begun lt is = (begun.text, open_more rest place 39 lt is (39 ∷ doubled begun.text) begun.front)

next_at : (rest : List ℕ) (place : ℕ) → (place < length rest → get_or rest place 0 ≢ 39) → NotNext is_quote (drop place rest)
next_at [] zero none = tt
next_at [] (suc place) none = tt
next_at (c ∷ cs) zero none = let other : c ≢ 39 = none (omega arith) in grind (arith, other)
next_at (c ∷ cs) (suc place) none = next_at cs place (λ lt. none (omega (arith, lt)))

pub ended_here : (rest : List ℕ) (place : ℕ) → (place < length rest → get_or rest place 0 ≢ 39) → NotNext is_quote (drop place rest)
ended_here rest place none = next_at rest place none

-- at the end of the characters the text has no end
pub open_none : (rest : List ℕ) (place : ℕ) → IsOpen rest place → length rest ≤ place → NoText rest
open_none rest place begun all text behind next same =
    let long : 39 ∷ doubled begun.text ≡ 39 ∷ ((doubled text ++ (39 ∷ [])) ++ behind) = sym begun.front ∙ take_all place rest all ∙ same in
    let inner : doubled begun.text ≡ (doubled text ++ (39 ∷ [])) ++ behind = cc in
    let both = one_text begun.text text [] (39 ∷ behind) tt (refl, next) (append-nil (doubled begun.text) ∙ inner ∙ append_assoc (doubled text) (39 ∷ []) behind) in
    let none : [] ≡ 39 ∷ behind = both.1 in
    cc

-- where a text that is written with each quote twice has its first quote
pub record HasQuote (text front behind : List ℕ) : Type 0 where
  pub more : List ℕ
  pub text_is : text ≡ front ++ (39 ∷ more)
  pub behind_is : behind ≡ 39 ∷ doubled more

abbrev NoQuote : List ℕ → Type 0
NoQuote chars = (i : ℕ) → i < length chars → get_or chars i 0 ≢ 39

-- one character that is no quote before it
has_more : (c : ℕ) (cs front behind : List ℕ) → HasQuote cs front behind → HasQuote (c ∷ cs) (c ∷ front) behind
has_more c cs front behind has = record { more = has.more; text_is = ap (λ (l : List ℕ). c ∷ l) has.text_is; behind_is = has.behind_is }

pub has_quote : (text front behind : List ℕ) → NoQuote front → doubled text ≡ front ++ (39 ∷ behind) → HasQuote text front behind
has_quote [] [] behind none same = cc
has_quote [] (f ∷ fs) behind none same = cc
has_quote (c ∷ cs) [] behind none same =
    elim (cases_eq c 39) [
      | inl is ↦
          let e : 39 ∷ (39 ∷ doubled cs) ≡ 39 ∷ behind = sym (doubled-quote c cs is) ∙ same in
          record { more = cs; text_is = ap (λ n. n ∷ cs) is; behind_is = cc }
      | inr other ↦
          let e : c ∷ doubled cs ≡ 39 ∷ behind = sym (doubled-other c cs other) ∙ same in
          let first : c ≡ 39 = cc in
          absurd (other first)
    ]
has_quote (c ∷ cs) (f ∷ fs) behind none same =
    elim (cases_eq c 39) [
      | inl is ↦
          let e : 39 ∷ (39 ∷ doubled cs) ≡ f ∷ (fs ++ (39 ∷ behind)) = sym (doubled-quote c cs is) ∙ same in
          let first : f ≡ 39 = cc in
          absurd (none 0 (omega arith) first)
      | inr other ↦
          let e : c ∷ doubled cs ≡ f ∷ (fs ++ (39 ∷ behind)) = sym (doubled-other c cs other) ∙ same in
          let first : c ≡ f = cc in
          let more : doubled cs ≡ fs ++ (39 ∷ behind) = cc in
          let has = has_quote cs fs behind (λ i lt. none (suc i) (omega (arith, lt))) more in
          subst (λ n. HasQuote (c ∷ cs) (n ∷ fs) behind) first (has_more c cs fs behind has)
    ]

-- without a quote a text is written as it is
pub no_quote : (text : List ℕ) → NoQuote (doubled text) → doubled text ≡ text
no_quote [] none = refl
no_quote (c ∷ cs) none =
    elim (cases_eq c 39) [
      | inl is ↦ absurd (subst NoQuote (doubled-quote c cs is) none 0 (omega arith) refl)
      | inr other ↦
          let more = subst NoQuote (doubled-other c cs other) none in
          doubled-other c cs other ∙ ap (λ (l : List ℕ). c ∷ l) (no_quote cs (λ i lt. more (suc i) (omega (arith, lt))))
    ]

-- behind its first character, where that is a quote, a text may be cut
pub behind_quote : (bytes rest : List ℕ) → IsUtf8 bytes → bytes ≡ 39 ∷ rest → IsCharBoundary bytes 1
behind_quote bytes rest utf8 is =
    let first : get_or bytes 0 0 ≡ 39 = ap (λ (l : List ℕ). get_or l 0 0) is in
    let some : length bytes ≡ suc (length rest) = ap length is in
    IsCharBoundary-after_ascii bytes 0 utf8 (omega (arith, some)) (omega (arith, first))

-- what stands behind a quote is text
pub behind_utf8 : (bytes front rest : List ℕ) → IsUtf8 bytes → bytes ≡ front ++ (39 ∷ rest) → IsUtf8 rest
behind_utf8 bytes front rest utf8 is =
    let some : length bytes ≡ length front + suc (length rest) = ap length is ∙ length-append front (39 ∷ rest) in
    let quote : get_or bytes (length front) 0 ≡ 39 = ap (λ (l : List ℕ). get_or l (length front) 0) is ∙ get_or_at front 39 rest 0 (length front) refl in
    let split : bytes ≡ (front ++ (39 ∷ [])) ++ rest = is ∙ sym (append_assoc front (39 ∷ []) rest) in
    let cut : drop (length front + 1) bytes ≡ rest = ap (drop (length front + 1)) split ∙ drop_at (front ++ (39 ∷ [])) rest (length front + 1) (length-append front (39 ∷ [])) in
    subst IsUtf8 cut (IsUtf8-drop bytes (length front + 1) utf8 (IsCharBoundary-after_ascii bytes (length front) utf8 (omega (arith, some)) (omega (arith, quote))))

-- a step further, what was written and what is left are the text still
pub text_more : (spelling text left front more pushed new : List ℕ) → spelling ≡ quoted (text ++ left) → left ≡ front ++ (39 ∷ more) → pushed ≡ text ++ front → new ≡ pushed ++ (39 ∷ []) → spelling ≡ quoted (new ++ more)
text_more spelling text left front more pushed new is splits first second =
    let all : text ++ left ≡ new ++ more =
    ap (λ (l : List ℕ). text ++ l) splits ∙ sym (append_assoc text front (39 ∷ more)) ∙ ap (λ (l : List ℕ). l ++ (39 ∷ more)) (sym first) ∙ sym (append_assoc pushed (39 ∷ []) more) ∙ ap (λ (l : List ℕ). l ++ more) (sym second)
    in is ∙ ap quoted all

-- where no quote is left, what is left is written as it is
pub text_all : (spelling text left rest new : List ℕ) → spelling ≡ quoted (text ++ left) → rest ≡ doubled left → NoQuote rest → new ≡ text ++ rest → spelling ≡ quoted new
text_all spelling text left rest new is doubles none pushed =
    let same : rest ≡ left = doubles ∙ no_quote left (subst NoQuote doubles none) in
    is ∙ ap (λ (l : List ℕ). quoted (text ++ l)) (sym same) ∙ ap quoted (sym pushed)
