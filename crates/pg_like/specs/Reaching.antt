-- How far a text goes with a pattern up to its next `%`: a device of the proof, which no public clause cites.
use Rattle.std.specs.Prelude.{◌≡◌, ℕ, true, false, List, [], ◌∷◌, ◌++◌, Option}
use Rattle.std.specs.Str.{chars}
use Rattle.pg_like.specs.declared.piece.Piece.{Piece}
use Rattle.pg_like.specs.declared.piece.Piece.TheVariants as pieces
use Rattle.pg_like.specs.declared.fixed.Reached.{Reached}
use Rattle.pg_like.specs.declared.fixed.Reached.TheVariants.{All, Any, Nowhere}
use Rattle.pg_like.specs.Pattern.{pieces_of, is_like}

-- the piece stands for this one character
abbrev pub Fits : Piece → ℕ → Type 0
Fits pieces.Any c = ⊥
Fits pieces.One c = Unit {0}
Fits (pieces.Just d) c = c ≡ d

-- the piece stands for the first character, behind which is the rest
abbrev pub Takes : Piece → List ℕ → List ℕ → Type 0
Takes piece text rest = (c : ℕ) × (text ≡ c ∷ rest) × Fits piece c

-- it stands for no first character
abbrev pub TakesNone : Piece → List ℕ → Type 0
TakesNone piece [] = Unit {0}
TakesNone piece (c ∷ cs) = Fits piece c → ⊥

-- each piece stands for one of the characters
abbrev pub Covers : List Piece → List ℕ → Type 0
Covers [] [] = Unit {0}
Covers (piece ∷ ps) (c ∷ cs) = Fits piece c × Covers ps cs
Covers _ _ = ⊥

-- these pieces are the first, and stand for the first characters, and behind them are those
pub record Passes (ps : List Piece) (text : List ℕ) (more : List Piece) (rest : List ℕ) : Type 0 where
  pub first : List Piece
  pub passed : List ℕ
  pub pieces : ps ≡ first ++ more
  pub text_is : text ≡ passed ++ rest
  pub covers : Covers first passed

abbrev pub Reaches : Option ℕ → List Piece → List ℕ → Reached → Type 0
Reaches escape ps text All = is_like ps text ≡ true
Reaches escape ps text Nowhere = is_like ps text ≡ false
Reaches escape ps text (Any rest behind) =
    Passes ps text (pieces.Any ∷ pieces_of escape (chars behind.now)) (chars rest.now)
