-- The lines of a text, each of which ends with byte 10.
use Rattle.std.specs.Prelude.{◌≡◌, ◌≢◌, ℕ, List, [], ◌∷◌, ◌++◌}

-- no byte of the text is a line end
abbrev pub HasNoLineEnd : List ℕ → Type 0
HasNoLineEnd [] = Unit {0}
HasNoLineEnd (byte ∷ text) = (byte ≢ 10) × HasNoLineEnd text

-- each line with its line end behind it
abbrev pub ended : List (List ℕ) → List ℕ
ended [] = []
ended (line ∷ lines) = line ++ (10 ∷ ended lines)

abbrev pub HaveNoLineEnd : List (List ℕ) → Type 0
HaveNoLineEnd [] = Unit {0}
HaveNoLineEnd (line ∷ lines) = HasNoLineEnd line × HaveNoLineEnd lines

-- the text is cut at each line end into its whole lines and what follows the last line end
pub record IsCut (text : List ℕ) (whole : List (List ℕ)) (behind : List ℕ) : Type 0 where
  pub joined : text ≡ ended whole ++ behind
  pub whole_lines : HaveNoLineEnd whole
  pub last_line : HasNoLineEnd behind

-- what follows the last line end is a line if it isn't empty
abbrev pub lines_of : List (List ℕ) → List ℕ → List (List ℕ)
lines_of whole [] = whole
lines_of whole (byte ∷ behind) = whole ++ ((byte ∷ behind) ∷ [])

-- a line has at most so many bytes; a longer one is unreadable
abbrev pub longest_line : ℕ
longest_line = 1048576
