-- The tokens of a filter are one list.
use Rattle.std.proofs.Common.{◌≡◌, ◌+◌, ◌-◌, ◌≤◌, ℕ, List, [], ◌∷◌, ◌++◌, length, take, drop, refl, sym, ◌∙◌, ap, subst, arith, append-nil, length-drop, length-take-le, take-append-drop}
use Rattle.std.specs.List.{All}
use Rattle.std.proofs.lemmas.List.{drop-drop}
use Rattle.std.proofs.lemmas.List.Elements.{All-nil, All-cons}
use Rattle.pg_lex.specs.Characters.{is_blank, Each, NotNext}
use Rattle.pg_lex.specs.Tokens.{IsTokenIn, AreBlanks, HasFrom, AreTokensOf, spelling_of}
use Rattle.pg_lex.specs.declared.token.Token.{Token}
use Rattle.pg_lex.proofs.FirstToken.{HasFirst, has_first, one_token}
use Rattle.pg_lex.proofs.Runs.{one_run}

each_from : (filter : List ℕ) (place : ℕ) (tokens : List Token) → HasFrom filter place tokens → All (IsTokenIn filter) tokens
each_from filter place [] has = All-nil (IsTokenIn filter)
each_from filter place (token ∷ tokens) has = All-cons (IsTokenIn filter) token tokens has.1 (each_from filter token.to tokens has.2)

pub each_in : (filter : List ℕ) (tokens : List Token) → AreTokensOf filter tokens → All (IsTokenIn filter) tokens
each_in filter tokens are = each_from filter 0 tokens are

-- what stands between two places, and what stands behind
pub split_places : (filter : List ℕ) (i j : ℕ) → i ≤ j → drop i filter ≡ take (j - i) (drop i filter) ++ drop j filter
split_places filter i j le =
    let e : i + (j - i) ≡ j = omega arith in
    sym (take-append-drop (j - i) (drop i filter)) ∙ ap (λ (l : List ℕ). take (j - i) (drop i filter) ++ l) (drop-drop (j - i) i filter ∙ ap (λ n. drop n filter) e)

pub length_between : (filter : List ℕ) (i j : ℕ) → i ≤ j → j ≤ length filter → length (take (j - i) (drop i filter)) ≡ j - i
length_between filter i j le within = length-take-le (j - i) (drop i filter) (omega (arith, length-drop i filter))

same_token : (t u : Token) → t.kind ≡ u.kind → t.from ≡ u.from → t.to ≡ u.to → t ≡ u
same_token t u kind from to = λ i. record { kind = kind i; from = from i; to = to i }

-- the character that begins a token is what ends the blanks before it
next_is_first : (a b : List ℕ) → HasFirst a → NotNext is_blank (a ++ b)
next_is_first a b has = subst (λ (l : List ℕ). NotNext is_blank (l ++ b)) (sym has.split) has.no_blank

some_token : (filter : List ℕ) (place : ℕ) (t : Token) → Each is_blank (drop place filter) → AreBlanks filter place t.from → IsTokenIn filter t → ⊥
some_token filter place t blank gap is =
    let has = has_first t.kind (spelling_of filter t) (drop t.to filter) is.read in
    let split = split_places filter t.from t.to is.ordered in
    let all = split_places filter place t.from gap.ordered in
    let next = subst (NotNext is_blank) (sym split) (next_is_first (spelling_of filter t) (drop t.to filter) has) in
    let run = one_run is_blank (drop place filter) [] (take (t.from - place) (drop place filter)) (drop t.from filter) blank tt gap.blanks next (append-nil (drop place filter) ∙ all) in
    let none : [] ≡ has.first ∷ (has.more ++ drop t.to filter) = run.1 ∙ split ∙ ap (λ (l : List ℕ). l ++ drop t.to filter) has.split in
    cc

-- the first token
first_same : (filter : List ℕ) (place : ℕ) (t u : Token) → AreBlanks filter place t.from → IsTokenIn filter t → AreBlanks filter place u.from → IsTokenIn filter u → t ≡ u
first_same filter place t u gap is gap' is' =
    let has = has_first t.kind (spelling_of filter t) (drop t.to filter) is.read in
    let has' = has_first u.kind (spelling_of filter u) (drop u.to filter) is'.read in
    let split = split_places filter t.from t.to is.ordered in
    let split' = split_places filter u.from u.to is'.ordered in
    let next = subst (NotNext is_blank) (sym split) (next_is_first (spelling_of filter t) (drop t.to filter) has) in
    let next' = subst (NotNext is_blank) (sym split') (next_is_first (spelling_of filter u) (drop u.to filter) has') in
    let run = one_run is_blank (take (t.from - place) (drop place filter)) (drop t.from filter) (take (u.from - place) (drop place filter)) (drop u.from filter) gap.blanks next gap'.blanks next'
    (sym (split_places filter place t.from gap.ordered) ∙ split_places filter place u.from gap'.ordered) in
    let gaps : t.from - place ≡ u.from - place = sym (length_between filter place t.from gap.ordered is.from.0) ∙ ap length run.0 ∙ length_between filter place u.from gap'.ordered is'.from.0 in
    let from : t.from ≡ u.from = omega (arith, gaps, gap.ordered, gap'.ordered) in
    let one = one_token t.kind u.kind (spelling_of filter t) (drop t.to filter) (spelling_of filter u) (drop u.to filter) is.read is'.read (sym split ∙ run.1 ∙ split') in
    let lengths : t.to - t.from ≡ u.to - u.from = sym (length_between filter t.from t.to is.ordered is.to.0) ∙ ap length one.1 ∙ length_between filter u.from u.to is'.ordered is'.to.0 in
    same_token t u one.0 from (omega (arith, lengths, from, is.ordered, is'.ordered))

tokens_from : (filter : List ℕ) (place : ℕ) (xs ys : List Token) → HasFrom filter place xs → HasFrom filter place ys → xs ≡ ys
tokens_from filter place [] [] hx hy = refl
tokens_from filter place [] (u ∷ us) hx hy = absurd (some_token filter place u hx hy.0 hy.1)
tokens_from filter place (t ∷ ts) [] hx hy = absurd (some_token filter place t hy hx.0 hx.1)
tokens_from filter place (t ∷ ts) (u ∷ us) hx hy =
    let first = first_same filter place t u hx.0 hx.1 hy.0 hy.1 in
    let rest : ts ≡ us = tokens_from filter t.to ts us hx.2 (subst (λ (v : Token). HasFrom filter v.to us) (sym first) hy.2) in
    cc

pub tokens_one : (filter : List ℕ) (xs ys : List Token) → AreTokensOf filter xs → AreTokensOf filter ys → xs ≡ ys
tokens_one filter xs ys hx hy = tokens_from filter 0 xs ys hx hy
