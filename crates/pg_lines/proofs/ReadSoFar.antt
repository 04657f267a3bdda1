-- How far a reader of lines has come with a line.
use Rattle.std.proofs.Common.{◌≡◌, ℕ, ◌+◌, ◌<◌, Bool, true, false, List, [], ◌∷◌, ◌++◌, length, take, Option, refl, sym, ap, subst, ◌∙◌, arith, length-append, append_assoc}
use Rattle.std.proofs.lemmas.List.{append-nil, take_at}
use Rattle.pg_disk.specs.Reads.{TakesFrom}
use Rattle.pg_lines.specs.declared.reader.LineReader.{LineReader}
use Rattle.pg_lines.specs.declared.read_error.ReadError.{ReadError}
use Rattle.pg_lines.specs.declared.read_error.ReadError.TheVariants.{Failed, TooLong, Memory}
use Rattle.pg_lines.specs.Lines.{HasNoLineEnd, longest_line}
use Rattle.pg_lines.specs.Reading.{pending_of, left_of, TookLine, StoppedReading}
use Rattle.pg_lines.specs.ReadSteps.{TookPending, Refilled, Refuses}
use Rattle.pg_lines.proofs.LineLemmas.{HasNoLineEnd-append, take-take_append, TakesFrom-then}

-- From what was pending and left at the start to what is now: what was given stands in the line, as far as it is kept.
pub record ReadSoFar (pending_old : List ℕ) (left_old : ℕ) (rest_old : Option (List ℕ)) (pending : List ℕ) (left : ℕ) (rest : Option (List ℕ)) (line : List ℕ) : Type 0 where
  pub taken : List ℕ
  pub source : TakesFrom rest_old rest taken
  pub count : left + length taken ≡ left_old
  pub part : List ℕ
  pub bytes : pending_old ++ taken ≡ part ++ pending
  pub no_end : HasNoLineEnd part
  pub kept : line ≡ take (longest_line + 1) part

module _ (pending_old : List ℕ) (left_old : ℕ) (rest_old : Option (List ℕ)) where
  -- what was pending went into the line
  pub after_part : (pending part behind : List ℕ) (left : ℕ) (rest : Option (List ℕ)) (line line_new : List ℕ) → ReadSoFar pending_old left_old rest_old pending left rest line
      → pending ≡ part ++ behind → HasNoLineEnd part → line_new ≡ take (longest_line + 1) (line ++ part) → ReadSoFar pending_old left_old rest_old behind left rest line_new
  after_part pending part behind left rest line line_new so_far is no_end kept = record {
    taken = so_far.taken;
    source = so_far.source;
    count = so_far.count;
    part = so_far.part ++ part;
    bytes = so_far.bytes ∙ ap (λ xs. so_far.part ++ xs) is ∙ sym (append_assoc so_far.part part behind);
    no_end = HasNoLineEnd-append so_far.part part so_far.no_end no_end;
    kept = kept ∙ ap (λ xs. take (longest_line + 1) (xs ++ part)) so_far.kept ∙ take-take_append (longest_line + 1) so_far.part part;
  }

  -- more was read where nothing was pending
  pub after_read : (pending : List ℕ) (left left_new : ℕ) (rest rest_new : Option (List ℕ)) (line : List ℕ) → ReadSoFar pending_old left_old rest_old [] left rest line
      → TakesFrom rest rest_new pending → left_new + length pending ≡ left → ReadSoFar pending_old left_old rest_old pending left_new rest_new line
  after_read pending left left_new rest rest_new line so_far read count = record {
    taken = so_far.taken ++ pending;
    source = TakesFrom-then rest_old rest rest_new so_far.taken pending so_far.source read;
    count = omega (arith, so_far.count, count, length-append so_far.taken pending);
    part = so_far.part;
    bytes = sym (append_assoc pending_old so_far.taken pending) ∙ ap (λ xs. xs ++ pending) (so_far.bytes ∙ append-nil so_far.part);
    no_end = so_far.no_end;
    kept = so_far.kept;
  }

-- a list with no length
nothing : (xs : List ℕ) → length xs ≡ 0 → xs ≡ []
nothing [] none = refl
nothing (x ∷ xs) none = absurd (omega arith)

-- a line end was pending
pub took_line : (old mid new : LineReader) (rest_old rest : Option (List ℕ)) (line line_new : List ℕ) (ended : Bool) → ended ≡ true → ReadSoFar (pending_of old) (left_of old) rest_old (pending_of mid) (left_of mid) rest line
    → TookPending mid new line line_new ended → TookLine old new rest_old rest line_new true
took_line old mid new rest_old rest line line_new ended is so_far moved =
    let took = subst (TookPending mid new line line_new) is moved in
    let read = after_part (pending_of old) (left_of old) rest_old (pending_of mid) took.part took.behind (left_of mid) rest line line_new so_far took.bytes took.no_end took.kept in
    record {
      taken = read.taken;
      source = read.source;
      count = omega (arith, read.count, took.left);
      whole = read.part;
      behind = took.behind;
      bytes = read.bytes;
      no_end = read.no_end;
      ends = took.ends;
      kept = read.kept;
    }

-- no line end was pending
pub took_all : (old mid new : LineReader) (rest_old rest : Option (List ℕ)) (line line_new : List ℕ) (ended : Bool) → ended ≡ false → ReadSoFar (pending_of old) (left_of old) rest_old (pending_of mid) (left_of mid) rest line
    → TookPending mid new line line_new ended → ReadSoFar (pending_of old) (left_of old) rest_old [] (left_of new) rest line_new
took_all old mid new rest_old rest line line_new ended is so_far moved =
    let took = subst (TookPending mid new line line_new) is moved in
    let all : pending_of mid ≡ took.part ++ [] = took.bytes ∙ ap (λ xs. took.part ++ xs) took.ends.0 in
    subst (λ left. ReadSoFar (pending_of old) (left_of old) rest_old [] left rest line_new) (sym took.left)
    (after_part (pending_of old) (left_of old) rest_old (pending_of mid) took.part [] (left_of mid) rest line line_new so_far all took.no_end took.kept)

-- more was read
pub refilled : (old mid new : LineReader) (rest_old rest rest_new : Option (List ℕ)) (line : List ℕ) (count : ℕ) → ReadSoFar (pending_of old) (left_of old) rest_old [] (left_of mid) rest line
    → Refilled mid new rest rest_new count → ReadSoFar (pending_of old) (left_of old) rest_old (pending_of new) (left_of new) rest_new line
refilled old mid new rest_old rest rest_new line count so_far read = after_read (pending_of old) (left_of old) rest_old (pending_of new) (left_of mid) (left_of new) rest rest_new line so_far read.source read.left

-- the source ended
pub took_last : (old mid new : LineReader) (rest_old rest rest_new : Option (List ℕ)) (line : List ℕ) (count : ℕ) → count ≡ 0 → ReadSoFar (pending_of old) (left_of old) rest_old [] (left_of mid) rest line
    → Refilled mid new rest rest_new count → TookLine old new rest_old rest_new line false
took_last old mid new rest_old rest rest_new line count none so_far read =
    let now = refilled old mid new rest_old rest rest_new line count so_far read in
    let empty : pending_of new ≡ [] = nothing (pending_of new) (omega (arith, none, read.counted)) in
    record {
      taken = now.taken;
      source = now.source;
      count = now.count;
      whole = now.part;
      behind = pending_of new;
      bytes = now.bytes;
      no_end = now.no_end;
      ends = (empty, empty, λ xs is. let was = so_far.source xs is in read.end none was.0 was.1);
      kept = now.kept;
    }

-- each line end makes what is left and pending less
pub goes_on : (old new : LineReader) (rest_old rest_new : Option (List ℕ)) (line : List ℕ) → TookLine old new rest_old rest_new line true → left_of new + length (pending_of new) < left_of old + length (pending_of old)
goes_on old new rest_old rest_new line took =
    let sum : length (pending_of old) + length took.taken ≡ length took.whole + length took.behind = sym (length-append (pending_of old) took.taken) ∙ ap length took.bytes ∙ length-append took.whole took.behind in
    let behind : length took.behind ≡ length (10 ∷ pending_of new) = ap length took.ends in
    omega (arith, sum, behind, took.count)

-- all that was read stands before a line end
all_before : (pending_old taken part : List ℕ) → pending_old ++ taken ≡ part ++ [] → HasNoLineEnd part → HasNoLineEnd (pending_old ++ taken)
all_before pending_old taken part is no_end = subst HasNoLineEnd (sym (is ∙ append-nil part)) no_end

-- where no more was read
pub no_more : (old : LineReader) (rest_old rest rest_new : Option (List ℕ)) (left : ℕ) (line : List ℕ) (error : ReadError) → ReadSoFar (pending_of old) (left_of old) rest_old [] left rest line
    → Refuses error left rest rest_new → StoppedReading old rest_old rest_new error
no_more old rest_old rest rest_new left line Failed so_far same = record {
  taken = so_far.taken;
  source = subst (λ r. TakesFrom rest_old r so_far.taken) (sym same) so_far.source;
  stops = (omega (arith, so_far.count), all_before (pending_of old) so_far.taken so_far.part so_far.bytes so_far.no_end);
}
no_more old rest_old rest rest_new left line TooLong so_far read =
    let all : length so_far.taken ≡ left_of old = omega (arith, so_far.count, read.0) in
    record {
      taken = so_far.taken ++ (read.1.0 ∷ []);
      source = TakesFrom-then rest_old rest rest_new so_far.taken (read.1.0 ∷ []) so_far.source read.1.1;
      stops = (omega (arith, all, length-append so_far.taken (read.1.0 ∷ [])), subst (λ xs. HasNoLineEnd (pending_of old ++ xs)) (sym (take_at so_far.taken (read.1.0 ∷ []) (left_of old) all)) (all_before (pending_of old) so_far.taken so_far.part so_far.bytes so_far.no_end));
    }
no_more old rest_old rest rest_new left line Memory so_far impossible = absurd impossible
