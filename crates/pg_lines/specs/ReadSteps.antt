-- The steps in which a reader of lines comes to its next line.
use Rattle.std.specs.Prelude.{◌≡◌, ℕ, ◌+◌, Bool, true, false, List, [], ◌∷◌, ◌++◌, length, take, Option}
use Rattle.pg_disk.specs.Reads.{TakesFrom}
use Rattle.pg_lines.specs.declared.reader.LineReader.{LineReader}
use Rattle.pg_lines.specs.declared.read_error.ReadError.{ReadError}
use Rattle.pg_lines.specs.declared.read_error.ReadError.TheVariants.{Failed, TooLong, Memory}
use Rattle.pg_lines.specs.Lines.{HasNoLineEnd, longest_line}
use Rattle.pg_lines.specs.Reading.{pending_of, left_of, IsAtEnd}

-- what stands behind the bytes that were moved: a line end and what is pending still, or nothing
abbrev pub EndsPart : Bool → List ℕ → List ℕ → Type 0
EndsPart true behind pending = behind ≡ 10 ∷ pending
EndsPart false behind pending = (behind ≡ []) × (pending ≡ [])

-- what is pending up to its first line end stands behind the line now, as far as it is kept
pub record TookPending (old new : LineReader) (line_old line_new : List ℕ) (ended : Bool) : Type 0 where
  pub part : List ℕ
  pub behind : List ℕ
  pub bytes : pending_of old ≡ part ++ behind
  pub no_end : HasNoLineEnd part
  pub ends : EndsPart ended behind (pending_of new)
  pub kept : line_new ≡ take (longest_line + 1) (line_old ++ part)
  pub left : left_of new ≡ left_of old

-- so many bytes were read and are pending now, and none are at the end only
pub record Refilled (old new : LineReader) (rest_old rest_new : Option (List ℕ)) (count : ℕ) : Type 0 where
  pub source : TakesFrom rest_old rest_new (pending_of new)
  pub left : left_of new + length (pending_of new) ≡ left_of old
  pub counted : count ≡ length (pending_of new)
  pub end : count ≡ 0 → IsAtEnd rest_old rest_new

-- nothing was read where the source failed, and one byte where nothing was left of the limit
abbrev pub Refuses : ReadError → ℕ → Option (List ℕ) → Option (List ℕ) → Type 0
Refuses Failed left rest_old rest_new = rest_new ≡ rest_old
Refuses TooLong left rest_old rest_new = (left ≡ 0) × ((byte : ℕ) × TakesFrom rest_old rest_new (byte ∷ []))
Refuses Memory left rest_old rest_new = ⊥
