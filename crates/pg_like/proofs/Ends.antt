-- Ends of a text, and why the newest place to go on from is enough.
use Rattle.std.proofs.Common.{◌≡◌, ◌==◌, ℕ, Bool, true, false, ◌&&◌, ◌||◌, List, [], ◌∷◌, ◌++◌, refl, sym, ◌∙◌, ap, subst, inl, inr}
use Rattle.std.proofs.lemmas.Bool.{or_left, or_right, or_cases}
use Rattle.pg_like.specs.declared.piece.Piece.{Piece}
use Rattle.pg_like.specs.declared.piece.Piece.TheVariants.{Any, One, Just}
use Rattle.pg_like.specs.Pattern.{is_like}
use Rattle.pg_like.specs.Reaching.{Covers, Passes}
use Rattle.pg_like.proofs.Passing.{like_past}

pub both_left : (a b : Bool) → (a && b) ≡ true → a ≡ true
both_left true b e = refl
both_left false b e = cc

pub both_right : (a b : Bool) → (a && b) ≡ true → b ≡ true
both_right true b e = e
both_right false b e = cc

same_tests : (a b : Bool) → (a ≡ true → b ≡ true) → (b ≡ true → a ≡ true) → a ≡ b
same_tests true b f g = sym (f refl)
same_tests false true f g = g refl
same_tests false false f g = refl

-- what is behind as many characters as there are pieces
past : List Piece → List ℕ → List ℕ
past [] text = text
past (p ∷ ps) [] = []
past (p ∷ ps) (c ∷ cs) = past ps cs

past_covered : (first : List Piece) (passed rest : List ℕ) → Covers first passed → past first (passed ++ rest) ≡ rest
unfolding past
past_covered [] [] rest covers = refl
past_covered [] (_ ∷ _) rest covers = elim covers [ ]
past_covered (_ ∷ _) [] rest covers = elim covers [ ]
past_covered (p ∷ ps) (c ∷ cs) rest covers = past_covered ps cs rest covers.1

-- a text is an end of itself
pub here : (ps : List Piece) (text : List ℕ) → is_like ps text ≡ true → is_like (Any ∷ ps) text ≡ true
here ps [] e = or_left (is_like ps []) false e
here ps (c ∷ cs) e = or_left (is_like ps (c ∷ cs)) (is_like (Any ∷ ps) cs) e

module _ (pieces : List Piece) where
  -- some end of the text is like the pieces
  abbrev pub EndLike : List ℕ → Type 0
  EndLike text = is_like (Any ∷ pieces) text ≡ true

  longer : (c : ℕ) (cs : List ℕ) → EndLike cs → EndLike (c ∷ cs)
  longer c cs e = or_right (is_like pieces (c ∷ cs)) (is_like (Any ∷ pieces) cs) e

  past_longer : (first : List Piece) (c : ℕ) (cs : List ℕ) → EndLike (past first cs) → EndLike (past first (c ∷ cs))
  unfolding past
  past_longer [] c cs e = longer c cs e
  past_longer (p ∷ []) c [] e = e
  past_longer (p ∷ (q ∷ ps)) c [] e = e
  past_longer (p ∷ ps) c (d ∷ ds) e = past_longer ps d ds e

  -- where the first pieces stand for one character each, what is behind them is behind as many characters
  behind_first : (first : List Piece) (passed : List ℕ) (text : List ℕ) → Covers first passed → is_like (first ++ (Any ∷ pieces)) text ≡ true → EndLike (past first text)
  unfolding past
  behind_first [] passed text covers e = e
  behind_first (Any ∷ ps) [] text covers e = elim covers [ ]
  behind_first (One ∷ ps) [] text covers e = elim covers [ ]
  behind_first (Just d ∷ ps) [] text covers e = elim covers [ ]
  behind_first (Any ∷ ps) (x ∷ xs) text covers e = elim covers.0 [ ]
  behind_first (One ∷ ps) (x ∷ xs) [] covers e = cc
  behind_first (One ∷ ps) (x ∷ xs) (c ∷ cs) covers e = behind_first ps xs cs covers.1 e
  behind_first (Just d ∷ ps) (x ∷ xs) [] covers e = cc
  behind_first (Just d ∷ ps) (x ∷ xs) (c ∷ cs) covers e = behind_first ps xs cs covers.1 (both_right (c == d) (is_like (ps ++ (Any ∷ pieces)) cs) e)

  any_end : (first : List Piece) (passed : List ℕ) (text : List ℕ) → Covers first passed → is_like (Any ∷ (first ++ (Any ∷ pieces))) text ≡ true → EndLike (past first text)
  any_end first passed [] covers e =
      elim (or_cases (is_like (first ++ (Any ∷ pieces)) []) false e) [ inl a ↦ behind_first first passed [] covers a | inr b ↦ cc ]
  any_end first passed (c ∷ cs) covers e =
      elim (or_cases (is_like (first ++ (Any ∷ pieces)) (c ∷ cs)) (is_like (Any ∷ (first ++ (Any ∷ pieces))) cs) e) [
        | inl a ↦ behind_first first passed (c ∷ cs) covers a
        | inr b ↦ past_longer first c cs (any_end first passed cs covers b)
      ]

  -- The text goes with the first pieces as far as a further Any: then some end of it is like all of them exactly where some
  -- end of what is left is like what is behind.
  pub older_dropped : (ps : List Piece) (text rest : List ℕ) → Passes ps text (Any ∷ pieces) rest → is_like (Any ∷ ps) text ≡ is_like (Any ∷ pieces) rest
  older_dropped ps text rest passes =
      let there : is_like (Any ∷ ps) text ≡ is_like (Any ∷ (passes.first ++ (Any ∷ pieces))) (passes.passed ++ rest) =
      ap (λ x. is_like (Any ∷ x) text) passes.pieces ∙ ap (λ x. is_like (Any ∷ (passes.first ++ (Any ∷ pieces))) x) passes.text_is in
      there ∙ same_tests (is_like (Any ∷ (passes.first ++ (Any ∷ pieces))) (passes.passed ++ rest)) (is_like (Any ∷ pieces) rest)
      (λ e. subst EndLike (past_covered passes.first passes.passed rest passes.covers) (any_end passes.first passes.passed (passes.passed ++ rest) passes.covers e))
      (λ e. here (passes.first ++ (Any ∷ pieces)) (passes.passed ++ rest) (like_past passes.first passes.passed (Any ∷ pieces) rest passes.covers ∙ e))

pub joined : (pieces : List Piece) (front rest : List ℕ) → is_like pieces rest ≡ true → is_like (Any ∷ pieces) (front ++ rest) ≡ true
joined pieces [] rest e = here pieces rest e
joined pieces (c ∷ front) rest e = longer pieces c (front ++ rest) (joined pieces front rest e)

pub parted : (pieces : List Piece) (text : List ℕ) → is_like (Any ∷ pieces) text ≡ true
    → (front : List ℕ) × (rest : List ℕ) × (text ≡ front ++ rest) × (is_like pieces rest ≡ true)
parted pieces [] e = elim (or_cases (is_like pieces []) false e) [ inl all ↦ ([], [], refl, all) | inr none ↦ cc ]
parted pieces (c ∷ cs) e =
    elim (or_cases (is_like pieces (c ∷ cs)) (is_like (Any ∷ pieces) cs) e) [
      | inl all ↦ ([], c ∷ cs, refl, all)
      | inr some ↦ let p = parted pieces cs some in (c ∷ p.0, p.1, ap (λ xs. c ∷ xs) p.2, p.3)
    ]
