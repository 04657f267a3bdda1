use Rattle.std.proofs.Common.{◌≡◌, ℕ, ◌+◌, ◌-◌, ◌≤◌, ◌==◌, ◌++◌, Bool, true, false, List, length, take, drop, Option, unwrap_or, position, refl, sym, ap, subst, ◌∙◌, arith}
use Rattle.std.proofs.lemmas.List.{take-append-drop, drop_all}
use Rattle.pg_lines.specs.declared.reader.LineReader.{LineReader}
use Rattle.pg_lines.specs.Lines.{longest_line}
use Rattle.pg_lines.specs.Reading.{pending_of, left_of}
use Rattle.pg_lines.specs.ReadSteps.{TookPending, EndsPart}
use Rattle.pg_lines.proofs.LineLemmas.{line_len, HasNoLineEnd-before, drop-line_part, unwrap_or-position}
use Rattle.pg_lines.proofs.reader.LineReader.take_pending.Goals as goal

-- the part up to the first line end
took : (old new : LineReader) (line line_new : List ℕ) (count : ℕ) (ended : Bool) → count ≡ line_len (pending_of old) → line_new ≡ take (longest_line + 1) (line ++ take count (pending_of old)) → left_of new ≡ left_of old
    → EndsPart ended (drop count (pending_of old)) (pending_of new) → TookPending old new line line_new ended
took old new line line_new count ended is kept left ends = record {
  part = take count (pending_of old);
  behind = drop count (pending_of old);
  bytes = sym (take-append-drop count (pending_of old));
  no_end = HasNoLineEnd-before (pending_of old) count is;
  ends = ends;
  kept = kept;
  left = left;
}

-- the pending bytes, where the buffer was read as this list
abbrev part_of : LineReader → List ℕ → List ℕ
part_of reader items = take (reader.to - reader.from) (drop reader.from items)

-- the place of the first line end
placed : (reader : LineReader) (items : List ℕ) (found : Option ℕ) (count : ℕ) → items ≡ reader.buffer.items → found ≡ position (λ b. b == 10) (part_of reader items) → count ≡ unwrap_or found (length (part_of reader items)) → count ≡ line_len (pending_of reader)
placed reader items found count read at is = is ∙ ap (λ o. unwrap_or o (length (part_of reader items))) at ∙ unwrap_or-position (λ b. b == 10) (part_of reader items) ∙ ap (λ xs. line_len (part_of reader xs)) read

-- what is kept
kept_of : (reader : LineReader) (items line line_new : List ℕ) (count : ℕ) → items ≡ reader.buffer.items → line_new ≡ take (longest_line + 1) (line ++ take count (part_of reader items)) → line_new ≡ take (longest_line + 1) (line ++ take count (pending_of reader))
kept_of reader items line line_new count read is = is ∙ ap (λ xs. take (longest_line + 1) (line ++ take count (part_of reader xs))) read

pub returns-then-count-len : goal.returns-then-count-len
returns-then-count-len c =
    let self = c.args.self.now in
    let read = c.deref.ensures.value in
    let place = placed self c.deref.result.now c.first_line_end.result c.unwrap_or-count.result read c.first_line_end.ensures c.unwrap_or-count.ensures in
    let kept = kept_of self c.deref.result.now c.args.line.now.items c.append_kept.new.line.items c.unwrap_or-count.result read c.in_ok-append_kept.ensures in
    let all : length (pending_of self) ≤ c.unwrap_or-count.result = omega (arith, ap (λ xs. length (part_of self xs)) read, c.if-count-len.true) in
    let none : self.to - self.to ≡ 0 = omega arith in
    took self _ _ _ c.unwrap_or-count.result false place kept refl
    (drop_all c.unwrap_or-count.result (pending_of self) all, ap (λ m. take m (drop self.to self.buffer.items)) none)

pub returns : goal.returns
returns c =
    let self = c.args.self.now in
    let read = c.deref.ensures.value in
    let place = placed self c.deref.result.now c.first_line_end.result c.unwrap_or-count.result read c.first_line_end.ensures c.unwrap_or-count.ensures in
    let kept = kept_of self c.deref.result.now c.args.line.now.items c.append_kept.new.line.items c.unwrap_or-count.result read c.in_ok-append_kept.ensures in
    let more = subst (λ xs. c.unwrap_or-count.result ≡ length (part_of self xs) → ⊥) read c.if-count-len.false in
    took self _ _ _ c.unwrap_or-count.result true place kept refl
    (drop-line_part self.buffer.items self.from self.to c.unwrap_or-count.result place more)
