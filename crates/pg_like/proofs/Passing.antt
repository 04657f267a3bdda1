-- Pieces that each stand for one character, and what is behind them.
use Rattle.std.proofs.Common.{◌≡◌, ◌==◌, ℕ, true, false, ◌&&◌, List, [], ◌∷◌, ◌++◌, refl, sym, ◌∙◌, ap, append_assoc, inl, inr}
use Rattle.std.proofs.lemmas.Bool.{eq-eqb, eqb-true, cases_Bool, and_left}
use Rattle.pg_like.specs.declared.piece.Piece.{Piece}
use Rattle.pg_like.specs.declared.piece.Piece.TheVariants.{Any, One, Just}
use Rattle.pg_like.specs.Pattern.{is_like}
use Rattle.pg_like.specs.Reaching.{Fits, Takes, TakesNone, Covers, Passes}

pub covers_more : (ps : List Piece) (cs : List ℕ) (p : Piece) (c : ℕ) → Covers ps cs → Fits p c → Covers (ps ++ (p ∷ [])) (cs ++ (c ∷ []))
covers_more [] [] p c covers fits = (fits, tt)
covers_more [] (_ ∷ _) p c covers fits = elim covers [ ]
covers_more (_ ∷ _) [] p c covers fits = elim covers [ ]
covers_more (q ∷ ps) (d ∷ cs) p c covers fits = (covers.0, covers_more ps cs p c covers.1 fits)

pub passes_start : (ps : List Piece) (text : List ℕ) → Passes ps text ps text
passes_start ps text = record { first = []; passed = []; pieces = refl; text_is = refl; covers = tt }

-- one more piece, and its character
pub passes_more : (ps : List Piece) (text : List ℕ) (more : List Piece) (here : List ℕ) (p : Piece) (behind : List Piece) (rest : List ℕ)
    → Passes ps text more here → more ≡ p ∷ behind → Takes p here rest → Passes ps text behind rest
passes_more ps text more here p behind rest passes next takes = record {
  first = passes.first ++ (p ∷ []);
  passed = passes.passed ++ (takes.0 ∷ []);
  pieces = passes.pieces ∙ (ap (λ x. passes.first ++ x) next ∙ sym (append_assoc passes.first (p ∷ []) behind));
  text_is = passes.text_is ∙ (ap (λ x. passes.passed ++ x) takes.1 ∙ sym (append_assoc passes.passed (takes.0 ∷ []) rest));
  covers = covers_more passes.first passes.passed p takes.0 passes.covers takes.2;
}

same_itself : (c : ℕ) → (c == c) ≡ true
same_itself c = eq-eqb c c refl

pub like_just : (c d : ℕ) (pieces : List Piece) (cs : List ℕ) → c ≡ d → is_like (Just d ∷ pieces) (c ∷ cs) ≡ is_like pieces cs
like_just c d pieces cs same = ap (λ b. b && is_like pieces cs) (ap (λ x. c == x) (sym same) ∙ same_itself c)

pub like_past : (first : List Piece) (passed : List ℕ) (more : List Piece) (rest : List ℕ) → Covers first passed
    → is_like (first ++ more) (passed ++ rest) ≡ is_like more rest
like_past [] [] more rest covers = refl
like_past [] (_ ∷ _) more rest covers = elim covers [ ]
like_past (_ ∷ _) [] more rest covers = elim covers [ ]
like_past (Any ∷ ps) (c ∷ cs) more rest covers = elim covers.0 [ ]
like_past (One ∷ ps) (c ∷ cs) more rest covers = like_past ps cs more rest covers.1
like_past (Just d ∷ ps) (c ∷ cs) more rest covers = like_just c d (ps ++ more) (cs ++ rest) covers.0 ∙ like_past ps cs more rest covers.1

pub passes_like : (ps : List Piece) (text : List ℕ) (more : List Piece) (rest : List ℕ) → Passes ps text more rest → is_like ps text ≡ is_like more rest
passes_like ps text more rest passes =
    ap (λ x. is_like x text) passes.pieces ∙ (ap (λ x. is_like (passes.first ++ more) x) passes.text_is ∙ like_past passes.first passes.passed more rest passes.covers)

other_just : (c d : ℕ) (pieces : List Piece) (cs : List ℕ) → (c ≡ d → ⊥) → is_like (Just d ∷ pieces) (c ∷ cs) ≡ false
other_just c d pieces cs other = and_left (c == d) (is_like pieces cs) (elim (cases_Bool (c == d)) [ inl same ↦ absurd (other (eqb-true c d same)) | inr apart ↦ apart ])

-- a piece that stands for one character, and not for this one
pub none_taken : (p : Piece) (pieces : List Piece) (text : List ℕ) → (p ≡ Any → ⊥) → TakesNone p text → is_like (p ∷ pieces) text ≡ false
none_taken Any pieces text one none = elim (one refl) [ ]
none_taken One pieces [] one none = refl
none_taken One pieces (c ∷ cs) one none = elim (none tt) [ ]
none_taken (Just d) pieces [] one none = refl
none_taken (Just d) pieces (c ∷ cs) one none = other_just c d pieces cs none
