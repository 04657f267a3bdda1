-- Patterns over characters, and the texts that are like them.
use Rattle.std.specs.Prelude.{◌≡◌, ℕ, Bool, true, false, ◌==◌, ◌&&◌, List, [], ◌∷◌, Option, Some, None, if◌then◌else◌}
use Rattle.std.specs.List.{concat, list_any}
use Rattle.pg_like.specs.declared.piece.Piece.{Piece}
use Rattle.pg_like.specs.declared.piece.Piece.TheVariants.{Any, One, Just}

abbrev pub is_escape : Option ℕ → ℕ → Bool
is_escape None c = false
is_escape (Some escape) c = c == escape

-- what a character stands for behind no escape: `%` (37) any number of characters, `_` (95) one, another for itself
abbrev pub piece_of : ℕ → Piece
piece_of c = if c == 37 then Any else (if c == 95 then One else Just c)

-- The pieces of a pattern. The escape makes the next character stand for itself; at the pattern's end it stands for
-- itself. `r\_%` with the escape `\` has the pieces Just r, Just _, Any, and `a\` has Just a, Just \. With the escape `%`,
-- the pattern `%%` has the one piece Just %.
abbrev pub pieces_of : Option ℕ → List ℕ → List Piece
pieces_of escape [] = []
pieces_of escape (c ∷ []) = (if is_escape escape c then Just c else piece_of c) ∷ []
pieces_of escape (c ∷ (d ∷ cs)) =
    if is_escape escape c then Just d ∷ pieces_of escape cs else piece_of c ∷ pieces_of escape (d ∷ cs)

-- what a piece stands for: any number of characters, one, or just this one
abbrev pub StandsFor : Piece → List ℕ → Type 0
StandsFor Any part = Unit {0}
StandsFor One part = (c : ℕ) × (part ≡ c ∷ [])
StandsFor (Just d) part = part ≡ d ∷ []

-- each piece stands for one of the parts, in their order
abbrev pub AllStandFor : List Piece → List (List ℕ) → Type 0
AllStandFor [] [] = Unit {0}
AllStandFor (piece ∷ pieces) (part ∷ parts) = StandsFor piece part × AllStandFor pieces parts
AllStandFor _ _ = ⊥

-- A text is like the pieces where it falls into parts for which they stand. `red` and `re` are like Just r, One, Any, by
-- the parts `r`, `e` and `d` or nothing. `r` and `tre` aren't.
abbrev pub IsLike : List Piece → List ℕ → Type 0
IsLike pieces text = (parts : List (List ℕ)) × (concat parts ≡ text) × AllStandFor pieces parts

-- the ends of a text, the longest first: those of `ab` are `ab`, `b` and the empty one
abbrev pub ends : List ℕ → List (List ℕ)
ends [] = [] ∷ []
ends (c ∷ cs) = (c ∷ cs) ∷ ends cs

-- The same as a test: behind what Any stands for comes some end of the text.
abbrev pub is_like : List Piece → List ℕ → Bool
is_like [] [] = true
is_like [] (c ∷ cs) = false
is_like (Any ∷ pieces) text = list_any (λ end. is_like pieces end) (ends text)
is_like (One ∷ pieces) [] = false
is_like (One ∷ pieces) (c ∷ cs) = is_like pieces cs
is_like (Just d ∷ pieces) [] = false
is_like (Just d ∷ pieces) (c ∷ cs) = (c == d) && is_like pieces cs
