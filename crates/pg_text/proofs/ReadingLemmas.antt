-- Lines of which so much is kept that they are read as the whole.
use Rattle.std.proofs.Common.{◌≡◌, inl, inr, ℕ, ◌+◌, ◌≤◌, ◌<◌, ◌⊎◌, List, [], ◌∷◌, ◌++◌, length, take, Option, Some, None, subst, arith}
use Rattle.std.proofs.lemmas.List.{take_all, length-take}
use Rattle.pg_msg.specs.declared.command.Command.{Command}
use Rattle.pg_lines.specs.Lines.{longest_line}
use Rattle.pg_text.specs.Spelling.{ReadsAs, ReadAs, Spells}

abbrev ReadsWithin : ℕ → List ℕ → Option Command → Type 0
ReadsWithin n line (Some command) = (length line ≤ n) × Spells line command
ReadsWithin n line None = (command : Command) → length line ≤ n → Spells line command → ⊥

short : (n : ℕ) (line : List ℕ) → (length line ≤ n + 1) ⊎ (n + 1 < length line)
short n line = grind arith

long : (n : ℕ) (line : List ℕ) → n + 1 < length line → length (take (n + 1) line) ≤ n → ⊥
long n line lt le = omega (arith, length-take (n + 1) line)

kept_within : (n : ℕ) (line : List ℕ) (item : Option Command) → ReadsWithin n (take (n + 1) line) item → ReadsWithin n line item
kept_within n line (Some command) reads = elim (short n line) [
  | inl fits ↦ subst (λ (t : List ℕ). (length t ≤ n) × Spells t command) (take_all (n + 1) line fits) reads
  | inr over ↦ absurd (long n line over reads.0)
]
kept_within n line None reads = elim (short n line) [
  | inl fits ↦ subst (λ (t : List ℕ). (command : Command) → length t ≤ n → Spells t command → ⊥) (take_all (n + 1) line fits) reads
  | inr over ↦ λ command le spells. absurd (omega (arith, over, le))
]

-- a line of which so much is kept that it still is too long is read as the whole
pub kept_reads : (line : List ℕ) (item : Option Command) → ReadsAs (take (longest_line + 1) line) item → ReadsAs line item
kept_reads line (Some command) reads = kept_within longest_line line (Some command) reads
kept_reads line None reads = kept_within longest_line line None reads

-- the items of the first lines are those of more lines, too
pub read_more : (lines more : List (List ℕ)) (items : List (Option Command)) → ReadAs lines items → ReadAs (lines ++ more) items
read_more lines more [] read = tt
read_more [] more (i ∷ items) read = absurd read
read_more (l ∷ lines) more (i ∷ items) read = (read.0, read_more lines more items read.1)

-- where what is kept of one line is read, so is the line
pub kept_one : (kept line : List ℕ) (items : List (Option Command)) → kept ≡ take (longest_line + 1) line → ReadAs (kept ∷ []) items → ReadAs (line ∷ []) items
kept_one kept line [] is read = tt
kept_one kept line (i ∷ []) is read = (kept_reads line i (subst (λ (l : List ℕ). ReadsAs l i) is read.0), tt)
kept_one kept line (i ∷ j ∷ items) is read = absurd read.1
