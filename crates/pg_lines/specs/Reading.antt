-- What a reader of lines took from its source.
use Rattle.std.specs.Prelude.{◌≡◌, ℕ, ◌+◌, ◌-◌, ◌≤◌, Bool, true, false, List, [], ◌∷◌, ◌++◌, length, take, drop, Option, Some, Result, MatchResult}
use Rattle.pg_disk.specs.Counts.{Rose}
use Rattle.pg_disk.specs.Reads.{TakesFrom}
use Rattle.pg_lines.specs.declared.reader.LineReader.{LineReader}
use Rattle.pg_lines.specs.declared.read_error.ReadError.{ReadError}
use Rattle.pg_lines.specs.declared.read_error.ReadError.TheVariants.{Failed, TooLong, Memory}
use Rattle.pg_lines.specs.Lines.{HasNoLineEnd, longest_line}

-- what was read and not given yet
abbrev pub pending_of : LineReader → List ℕ
pending_of reader = take (reader.to - reader.from) (drop reader.from reader.buffer.items)

-- how many bytes may still be read
abbrev pub left_of : LineReader → ℕ
left_of reader = reader.left

-- where it is told what was left, nothing is left now
abbrev pub IsAtEnd : Option (List ℕ) → Option (List ℕ) → Type 0
IsAtEnd old new = (xs : List ℕ) → old ≡ Some xs → new ≡ Some []

-- what stands behind a line: its line end and what is pending, or the end
abbrev pub Ends : Bool → List ℕ → List ℕ → Option (List ℕ) → Option (List ℕ) → Type 0
Ends true behind pending rest_old rest_new = behind ≡ 10 ∷ pending
Ends false behind pending rest_old rest_new = (behind ≡ []) × (pending ≡ []) × IsAtEnd rest_old rest_new

-- The next line. Of one that is too long so much is kept that it still is.
pub record TookLine (old new : LineReader) (rest_old rest_new : Option (List ℕ)) (line : List ℕ)
    (ended : Bool) : Type 0 where
  pub taken : List ℕ
  pub source : TakesFrom rest_old rest_new taken
  pub count : left_of new + length taken ≡ left_of old
  pub whole : List ℕ
  pub behind : List ℕ
  pub bytes : pending_of old ++ taken ≡ whole ++ behind
  pub no_end : HasNoLineEnd whole
  pub ends : Ends ended behind (pending_of new) rest_old rest_new
  pub kept : line ≡ take (longest_line + 1) whole

-- No line was read. Where the source failed or the limit was met, no line end stands in what was pending and what was
-- read up to that place.
abbrev pub StopsAt : ReadError → ℕ → List ℕ → List ℕ → Type 0
StopsAt Failed left pending taken = (length taken ≤ left) × HasNoLineEnd (pending ++ taken)
StopsAt TooLong left pending taken = (length taken ≡ left + 1) × HasNoLineEnd (pending ++ take left taken)
StopsAt Memory left pending taken = length taken ≤ left

pub record StoppedReading (old : LineReader) (rest_old rest_new : Option (List ℕ)) (error : ReadError) : Type 0 where
  pub taken : List ℕ
  pub source : TakesFrom rest_old rest_new taken
  pub stops : StopsAt error (left_of old) (pending_of old) taken

-- the source's count rose where it failed, and stands else
abbrev pub ReadErrorCounts : ReadError → ℕ → ℕ → Type 0
ReadErrorCounts Failed old new = Rose old new
ReadErrorCounts TooLong old new = new ≡ old
ReadErrorCounts Memory old new = new ≡ old

abbrev pub CountsReading : {T : Type 0} → ℕ → ℕ → Result T ReadError → Type 0
CountsReading old new result = MatchResult result (λ _. new ≡ old) (λ error. ReadErrorCounts error old new)
