-- What was read of a filter, up to a place where a token begins or the filter ends.
use Rattle.std.proofs.Common.{◌≡◌, ◌+◌, ◌-◌, ◌<◌, ◌≤◌, ℕ, true, inl, inr, List, [], ◌∷◌, ◌++◌, length, take, drop, get_or, refl, sym, ◌∙◌, ap, subst, arith, rules, IsUtf8, append-nil, append_assoc, length-drop, length-take-le, take-append-drop}
use Rattle.std.specs.Str.{IsCharBoundary}
use Rattle.std.proofs.lemmas.Bool.{cases_eq}
use Rattle.std.proofs.lemmas.List.{drop-drop, drop_all, take-take, drop-take, get_or-take, get_or-drop, get_or_at, length_push, take_rest}
use Rattle.std.proofs.lemmas.Str.{IsCharBoundary-after_ascii, IsCharBoundary-end, IsCharBoundary-start}
use Rattle.pg_lex.specs.Characters.{is_blank, Each, NotNext}
use Rattle.pg_lex.specs.Tokens.{IsTokenOf, IsTokenIn, AreBlanks, HasFrom, AreTokensOf, spelling_of}
use Rattle.pg_lex.specs.declared.token.Token.{Token}
use Rattle.pg_lex.specs.declared.token.TokenKind.{TokenKind}
use Rattle.pg_lex.proofs.LastCharacter.{EndsWell, ends_well}
use Rattle.pg_lex.proofs.Runs.{Each-append, Each-at}
use Rattle.pg_lex.proofs.TokenLaws.{split_places, length_between}

-- the tokens, put before those of the rest, are those of the filter
pub record ReadSoFar (filter : List ℕ) (tokens : List Token) (place : ℕ) : Type 0 where
  pub boundary : IsCharBoundary filter place
  pub next : NotNext is_blank (drop place filter)
  pub goes_on : (more : List Token) → HasFrom filter place more → AreTokensOf filter (tokens ++ more)

-- blanks before blanks
blanks_join : (filter : List ℕ) (i j k : ℕ) → AreBlanks filter i j → AreBlanks filter j k → AreBlanks filter i k
blanks_join filter i j k first second =
    let le : j - i ≤ k - i = omega (arith, first.ordered, second.ordered) in
    let rest : k - i - (j - i) ≡ k - j = omega (arith, first.ordered, second.ordered) in
    let at : i + (j - i) ≡ j = omega (arith, first.ordered) in
    let front : take (j - i) (take (k - i) (drop i filter)) ≡ take (j - i) (drop i filter) = take-take (j - i) (k - i) (drop i filter) le in
    let sum : j - i + (k - j) ≡ k - i = omega (arith, first.ordered, second.ordered) in
    let behind : drop (j - i) (take (k - i) (drop i filter)) ≡ take (k - j) (drop j filter) =
    ap (λ n. drop (j - i) (take n (drop i filter))) (sym sum) ∙ drop-take (j - i) (k - j) (drop i filter) ∙ ap (take (k - j)) (drop-drop (j - i) i filter ∙ ap (λ n. drop n filter) at)
    in
    record {
      ordered = omega (arith, first.ordered, second.ordered);
      blanks =
          subst (Each is_blank) (take-append-drop (j - i) (take (k - i) (drop i filter)))
          (Each-append is_blank _ _ (subst (Each is_blank) (sym front) first.blanks) (subst (Each is_blank) (sym behind) second.blanks));
    }

-- tokens that stand behind blanks
blanks_before : (filter : List ℕ) (i j : ℕ) (tokens : List Token) → AreBlanks filter i j → HasFrom filter j tokens → HasFrom filter i tokens
blanks_before filter i j [] blanks has = subst (Each is_blank) (sym (split_places filter i j blanks.ordered)) (Each-append is_blank (take (j - i) (drop i filter)) (drop j filter) blanks.blanks has)
blanks_before filter i j (t ∷ ts) blanks has = (blanks_join filter i j t.from blanks has.0, has.1, has.2)

blank_ascii : (c : ℕ) → is_blank c ≡ true → c < 128
blank_ascii c is = search rules

-- behind an ASCII character
after_ascii : (filter : List ℕ) (j : ℕ) → IsUtf8 filter → 0 < j → j ≤ length filter → get_or filter (j - 1) 0 < 128 → IsCharBoundary filter j
after_ascii filter j utf8 some within ascii =
    let e : j - 1 + 1 ≡ j = omega (arith, some) in
    subst (IsCharBoundary filter) e (IsCharBoundary-after_ascii filter (j - 1) utf8 (omega (arith, some, within)) ascii)

pub boundary_after_blanks : (filter : List ℕ) (i j : ℕ) → IsUtf8 filter → AreBlanks filter i j → j ≤ length filter → IsCharBoundary filter i → IsCharBoundary filter j
boundary_after_blanks filter i j utf8 blanks within at =
    elim (cases_eq i j) [
      | inl same ↦ subst (IsCharBoundary filter) same at
      | inr other ↦
          let less : i < j = omega (arith, other, blanks.ordered) in
          let len = length_between filter i j blanks.ordered within in
          let last : get_or (take (j - i) (drop i filter)) (j - 1 - i) 0 ≡ get_or filter (j - 1) 0 =
          let e : i + (j - 1 - i) ≡ j - 1 = omega (arith, less) in
          get_or-take (j - i) (drop i filter) (j - 1 - i) 0 (omega (arith, less)) ∙ get_or-drop i filter (j - 1 - i) 0 ∙ ap (λ n. get_or filter n 0) e
          in
          let blank = Each-at is_blank (take (j - i) (drop i filter)) (j - 1 - i) blanks.blanks (omega (arith, len, less)) in
          after_ascii filter j utf8 (omega (arith, less)) within (blank_ascii _ (ap is_blank (sym last) ∙ blank))
    ]

pub so_far_start : (filter : List ℕ) (place : ℕ) → IsUtf8 filter → AreBlanks filter 0 place → place ≤ length filter → NotNext is_blank (drop place filter) → ReadSoFar filter [] place
so_far_start filter place utf8 blanks within next = record {
  boundary = boundary_after_blanks filter 0 place utf8 blanks within (IsCharBoundary-start filter utf8);
  next = next;
  goes_on = λ more has. blanks_before filter 0 place more blanks has;
}

pub so_far_more : (filter : List ℕ) (tokens : List Token) (t : Token) (place : ℕ) → IsUtf8 filter → ReadSoFar filter tokens t.from → IsTokenIn filter t → AreBlanks filter t.to place → place ≤ length filter → NotNext is_blank (drop place filter) → ReadSoFar filter (tokens ++ (t ∷ [])) place
so_far_more filter tokens t place utf8 before is blanks within next = record {
  boundary = boundary_after_blanks filter t.to place utf8 blanks within is.to;
  next = next;
  goes_on = λ more has.
      let none : t.from - t.from ≡ 0 = omega arith in
      let gap : AreBlanks filter t.from t.from = record { ordered = omega arith; blanks = subst (λ n. Each is_blank (take n (drop t.from filter))) (sym none) tt } in
      subst (AreTokensOf filter) (sym (append_assoc tokens (t ∷ []) more)) (before.goes_on (t ∷ more) (gap, is, blanks_before filter t.to place more blanks has));
}

pub so_far_end : (filter : List ℕ) (tokens : List Token) (place : ℕ) → ReadSoFar filter tokens place → length filter ≤ place → AreTokensOf filter tokens
so_far_end filter tokens place before all = subst (AreTokensOf filter) (append-nil tokens) (before.goes_on [] (subst (Each is_blank) (sym (drop_all place filter all)) tt))

boundary_by : (filter : List ℕ) (from n : ℕ) → IsUtf8 filter → from + n ≤ length filter → EndsWell (take n (drop from filter)) (drop n (drop from filter)) → IsCharBoundary filter (from + n)
boundary_by filter from n utf8 within (inl none) =
    let len : length (drop n (drop from filter)) ≡ 0 = ap length none in
    let all : length filter ≡ from + n = omega (arith, within, len, length-drop n (drop from filter), length-drop from filter) in
    subst (IsCharBoundary filter) all (IsCharBoundary-end filter)
boundary_by filter from n utf8 within (inr ends) =
    let len = length-take-le n (drop from filter) (omega (arith, within, length-drop from filter)) in
    let size : n ≡ length ends.0 + 1 = sym len ∙ ap length ends.2 ∙ length_push ends.0 ends.1 in
    let last : get_or filter (from + n - 1) 0 ≡ ends.1 =
    let e : from + length ends.0 ≡ from + n - 1 = omega (arith, size) in
    ap (λ m. get_or filter m 0) (sym e) ∙ sym (get_or-drop from filter (length ends.0) 0) ∙ sym (get_or-take n (drop from filter) (length ends.0) 0 (omega (arith, size))) ∙ ap (λ (l : List ℕ). get_or l (length ends.0) 0) ends.2 ∙ get_or_at ends.0 ends.1 [] 0 (length ends.0) refl
    in
    after_ascii filter (from + n) utf8 (omega (arith, size)) within (omega (arith, last, ends.3))

-- behind a token the filter may be cut
boundary_after : (kind : TokenKind) (filter : List ℕ) (from n : ℕ) → IsUtf8 filter → from + n ≤ length filter → IsTokenOf kind (take n (drop from filter)) (drop n (drop from filter)) → IsCharBoundary filter (from + n)
boundary_after kind filter from n utf8 within is = boundary_by filter from n utf8 within (ends_well kind (take n (drop from filter)) (drop n (drop from filter)) is)

-- the token that is read at a place
pub token_in : (filter : List ℕ) (t : Token) (n : ℕ) → IsUtf8 filter → IsCharBoundary filter t.from → t.to ≡ t.from + n → n ≤ length (drop t.from filter) → IsTokenOf t.kind (take n (drop t.from filter)) (drop n (drop t.from filter)) → IsTokenIn filter t
token_in filter t n utf8 from to within is =
    let size : n ≡ t.to - t.from = omega (arith, to) in
    let all : t.from + n ≤ length filter = omega (arith, within, length-drop t.from filter, from.0) in
    let behind : drop n (drop t.from filter) ≡ drop t.to filter = drop-drop n t.from filter ∙ ap (λ m. drop m filter) (sym to) in
    record {
      ordered = omega (arith, to);
      from = from;
      to = subst (IsCharBoundary filter) (sym to) (boundary_after t.kind filter t.from n utf8 all is);
      read = subst (IsTokenOf t.kind (spelling_of filter t)) behind (subst (λ m. IsTokenOf t.kind (take m (drop t.from filter)) (drop n (drop t.from filter))) size is);
    }

-- a step of the loop
pub so_far_step : (bytes : List ℕ) (tokens more : List Token) (t : Token) (n place : ℕ) → IsUtf8 bytes → ReadSoFar bytes tokens t.from → t.to ≡ t.from + n → n ≤ length (take (length bytes - t.from) (drop t.from bytes)) → IsTokenOf t.kind (take n (take (length bytes - t.from) (drop t.from bytes))) (drop n (take (length bytes - t.from) (drop t.from bytes))) → more ≡ tokens ++ (t ∷ []) → AreBlanks bytes t.to place → place ≤ length bytes → NotNext is_blank (drop place bytes) → ReadSoFar bytes more place
so_far_step bytes tokens more t n place utf8 before to within is pushed blanks end next =
    let rest = take_rest bytes t.from in
    let small : n ≤ length (drop t.from bytes) = subst (λ (l : List ℕ). n ≤ length l) rest within in
    let token : IsTokenOf t.kind (take n (drop t.from bytes)) (drop n (drop t.from bytes)) = subst (λ (l : List ℕ). IsTokenOf t.kind (take n l) (drop n l)) rest is in
    subst (λ (ts : List Token). ReadSoFar bytes ts place) (sym pushed) (so_far_more bytes tokens t place utf8 before (token_in bytes t n utf8 before.boundary to small token) blanks end next)
