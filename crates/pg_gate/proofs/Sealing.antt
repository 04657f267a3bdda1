-- What stands in a file while a batch is sealed, and what a crash leaves of it.
use Rattle.std.proofs.Common.{◌≡◌, ◌≢◌, inl, inr, ⊎_elim, ℕ, ◌+◌, ◌≤◌, ◌<◌, List, [], ◌∷◌, ◌++◌, length, drop, get_or, Bool, true, false, Some, refl, sym, ◌∙◌, ap, subst, arith, append_assoc, length-append, zero-add}
use Rattle.std.proofs.lemmas.List.{append-nil}
use Rattle.std.proofs.lemmas.Bool.{cases_eq}
use Rattle.std.specs.Int.{to_be_bytes, w64}
use Rattle.pg_disk.specs.Account.{FileState, IsQuiet}
use Rattle.pg_disk.specs.Image.{IsIn, IsLeft}
use Rattle.pg_disk.specs.Calls.{Holds, Wrote, Synced}
use Rattle.pg_disk.proofs.Bytes.{holds_back, holds_front, holds_join, holds_none, holds_one, holds_all, holds_beside, holds_left}
use Rattle.pg_gate.specs.Gated.{opened, Batches, HasOldOrNew, IsFront, IsAtRest, IsFilled, IsStaged}
use Rattle.pg_gate.specs.declared.fill.Filling.{Filling}

pub length-number : (n : ℕ) → length (to_be_bytes w64 n) ≡ 8
length-number n = refl

pub opened-push : (batches : List (List ℕ)) (piece rest : List ℕ) → opened (batches ++ piece ∷ []) ++ rest ≡ opened batches ++ 1 ∷ (to_be_bytes w64 (length piece) ++ (piece ++ rest))
opened-push [] piece rest = ap (λ (l : List ℕ). 1 ∷ (to_be_bytes w64 (length piece) ++ (l ++ rest))) (append-nil piece)
opened-push (p ∷ batches) piece rest =
    ap (λ (l : List ℕ). 1 ∷ (to_be_bytes w64 (length p) ++ l))
    (append_assoc p (opened (batches ++ piece ∷ [])) rest ∙ ap (λ (l : List ℕ). p ++ l) (opened-push batches piece rest) ∙ sym (append_assoc p (opened batches) _))

pub length-opened_push : (batches : List (List ℕ)) (piece : List ℕ) → length (opened (batches ++ piece ∷ [])) ≡ length (opened batches) + 9 + length piece
length-opened_push batches piece =
    let e = ap length (opened-push batches piece []) in
    omega (arith, e, length-append (opened (batches ++ piece ∷ [])) [], length-append (opened batches) (1 ∷ (to_be_bytes w64 (length piece) ++ (piece ++ []))), length-append piece [])

-- a shut gate behind the batches ends them
pub batches_from : (file : List ℕ) (batches : List (List ℕ)) (gate : ℕ) → gate ≢ 1 → Holds file 0 (opened batches ++ gate ∷ []) → Batches file batches
batches_from file batches gate shut h = inr (gate, drop (length (opened batches ++ gate ∷ [])) file, shut, holds_all file _ h ∙ append_assoc (opened batches) (gate ∷ []) _)

-- each crash leaves the batches, while nothing is written before the gate or over it
pub front_left : (gate : ℕ) (batches : List (List ℕ)) (s : FileState) (left : List ℕ) → IsFront gate batches s → IsLeft s left → Batches left batches
front_left gate batches s left front is =
    let size = length-append (opened batches) (front.closed ∷ []) in
    batches_from left batches front.closed front.shut
    (holds_left 0 _ left s is (omega (arith, size, front.place, front.synced)) (λ i lt within. front.untouched i (omega (arith, lt, size, front.place)) (subst (λ j. IsIn s.ranges j) (zero-add i) within)) front.holds)

-- a write behind it leaves the front
pub front_beside : (gate at : ℕ) (batches : List (List ℕ)) (bytes : List ℕ) (ok : Bool) (a b : FileState) → gate < at → Wrote at bytes ok a b → IsFront gate batches a → IsFront gate batches b
front_beside gate at batches bytes ok a b behind wrote front = record {
  closed = front.closed;
  shut = front.shut;
  holds = holds_beside at 0 _ bytes ok a b wrote (inl (omega (arith, length-append (opened batches) (front.closed ∷ []), front.place))) front.holds;
  place = front.place;
  synced = omega (arith, front.synced, wrote.synced);
  untouched = λ i le within. ⊎_elim (front.untouched i le) (λ (new : (at ≤ i) × (i < at + length bytes)). absurd (omega (arith, new.0))) (wrote.ranges i within);
}

-- a sync leaves it too
pub front_synced : (gate : ℕ) (batches : List (List ℕ)) (a b : FileState) → Synced true a b → IsFront gate batches a → IsFront gate batches b
front_synced gate batches a b synced front =
    let done = synced.done refl in
    record {
      closed = front.closed;
      shut = front.shut;
      holds = subst (λ l. Holds l 0 (opened batches ++ front.closed ∷ [])) (sym synced.bytes) front.holds;
      place = front.place;
      synced = omega (arith, done.0, front.holds.within, length-append (opened batches) (front.closed ∷ []), front.place);
      untouched = λ i le within. subst (λ rs. IsIn rs i) done.2 within;
    }

pub quiet_synced : (a b : FileState) → Synced true a b → IsQuiet b
quiet_synced a b synced =
    let done = synced.done refl in
    let same : length b.bytes ≡ length a.bytes = ap length synced.bytes in
    record { synced = done.0 ∙ sym same; greatest = done.1 ∙ sym same; ranges = done.2 }

-- the length and the next gate are there
pub is_staged : (filling : Filling) (batches : List (List ℕ)) (piece : List ℕ) (a b c d : FileState) → IsFilled filling batches piece a
    → Wrote (filling.gate + 1) (to_be_bytes w64 filling.length) true a b → Wrote (filling.gate + 9 + filling.length) (0 ∷ []) true b c → Synced true c d → IsStaged filling.gate batches piece d
is_staged filling batches piece a b c d filled first second synced =
    let size : length (to_be_bytes w64 filling.length) ≡ 8 = length-number filling.length in
    let number : Holds c.bytes (filling.gate + 1) (to_be_bytes w64 filling.length) =
    holds_beside _ (filling.gate + 1) (to_be_bytes w64 filling.length) (0 ∷ []) true b c second (inl (omega (arith, size))) (first.written refl) in
    let inside : Holds b.bytes (filling.gate + 9) piece =
    elim (filling.started) as (λ v. filling.started ≡ v → Holds b.bytes (filling.gate + 9) piece) [
      | true ↦ λ e. holds_beside _ (filling.gate + 9) piece _ true a b first (inr (omega (arith, size))) (filled.there e)
      | false ↦ λ e. subst (λ l. Holds b.bytes (filling.gate + 9) l) (sym (filled.empty e)) (holds_none b.bytes (filling.gate + 9) (omega (arith, size, (first.written refl).within)))
    ] refl in
    let body : Holds c.bytes (filling.gate + 9) piece = holds_beside _ (filling.gate + 9) piece (0 ∷ []) true b c second (inl (omega (arith, filled.size))) inside in
    let next : Holds c.bytes (filling.gate + 9 + filling.length) (0 ∷ []) = second.written refl in
    let all : Holds c.bytes (filling.gate + 1) (to_be_bytes w64 filling.length ++ (piece ++ 0 ∷ [])) =
    holds_join c.bytes _ _ (filling.gate + 1) (filling.gate + 9) (omega (arith, size)) number (holds_join c.bytes piece (0 ∷ []) (filling.gate + 9) (filling.gate + 9 + filling.length) (omega (arith, filled.size)) body next) in
    let front_b = front_beside filling.gate (filling.gate + 1) batches _ true a b (omega arith) first filled.front in
    let front_c = front_beside filling.gate (filling.gate + 9 + filling.length) batches _ true b c (omega arith) second front_b in
    record {
      front = front_synced filling.gate batches c d synced front_c;
      quiet = quiet_synced c d synced;
      holds = subst (λ (n : ℕ). Holds d.bytes (filling.gate + 1) (to_be_bytes w64 n ++ (piece ++ 0 ∷ []))) filled.size (subst (λ l. Holds l (filling.gate + 1) (to_be_bytes w64 filling.length ++ (piece ++ 0 ∷ []))) (sym synced.bytes) all);
    }

-- a whole batch behind any gate counts or it doesn't
pub old_or_new : (file : List ℕ) (batches : List (List ℕ)) (piece : List ℕ) (gate : ℕ) → Holds file 0 (opened batches ++ gate ∷ (to_be_bytes w64 (length piece) ++ (piece ++ 0 ∷ []))) → HasOldOrNew batches piece (Some file)
old_or_new file batches piece gate h = elim (cases_eq gate 1) [
  | inl is ↦ inr (batches_from file (batches ++ piece ∷ []) 0 (omega arith) (subst (λ l. Holds file 0 l) (ap (λ g. opened batches ++ g ∷ (to_be_bytes w64 (length piece) ++ (piece ++ 0 ∷ []))) is ∙ sym (opened-push batches piece (0 ∷ []))) h))
  | inr shut ↦ inl (batches_from file batches gate shut (holds_front file (opened batches ++ gate ∷ []) _ 0 (subst (λ l. Holds file 0 l) (sym (append_assoc (opened batches) (gate ∷ []) _)) h)))
]

-- while the gate is written
pub gate_left : (gate : ℕ) (batches : List (List ℕ)) (piece : List ℕ) (ok : Bool) (a b : FileState) (left : List ℕ) → IsStaged gate batches piece a → Wrote gate (1 ∷ []) ok a b → IsLeft b left
    → HasOldOrNew batches piece (Some left)
gate_left gate batches piece ok a b left staged wrote is =
    let tail = to_be_bytes w64 (length piece) ++ (piece ++ 0 ∷ []) in
    let before : Holds b.bytes 0 (opened batches) =
    holds_beside gate 0 _ (1 ∷ []) ok a b wrote (inl (omega (arith, staged.front.place))) (holds_front a.bytes (opened batches) _ 0 staged.front.holds) in
    let behind : Holds b.bytes (gate + 1) tail = holds_beside gate (gate + 1) _ (1 ∷ []) ok a b wrote (inr (omega arith)) staged.holds in
    let elsewhere : (i : ℕ) → i ≢ gate → IsIn b.ranges i → ⊥ =
    λ i ne within. ⊎_elim (λ old. subst (λ rs. IsIn rs i) staged.quiet.ranges old) (λ (new : (gate ≤ i) × (i < gate + 1)). absurd (omega (arith, new.0, new.1, ne))) (wrote.ranges i within) in
    let left_before : Holds left 0 (opened batches) =
    holds_left 0 _ left b is (omega (arith, staged.front.place, staged.front.synced, wrote.synced)) (λ i lt within. elsewhere i (omega (arith, lt, staged.front.place)) (subst (λ j. IsIn b.ranges j) (zero-add i) within)) before in
    let left_behind : Holds left (gate + 1) tail =
    holds_left (gate + 1) _ left b is (omega (arith, staged.holds.within, staged.quiet.synced, wrote.synced)) (λ i lt. elsewhere (gate + 1 + i) (omega arith)) behind in
    let one : Holds left gate (get_or left gate 0 ∷ []) = holds_one left gate (omega (arith, left_behind.within)) in
    let whole : Holds left 0 (opened batches ++ (get_or left gate 0 ∷ tail)) =
    holds_join left (opened batches) _ 0 gate (omega (arith, staged.front.place)) left_before (holds_join left (get_or left gate 0 ∷ []) tail gate (gate + 1) (omega arith) one left_behind) in
    old_or_new left batches piece (get_or left gate 0) whole

-- once it is on the disk
pub at_rest_again : (gate : ℕ) (batches : List (List ℕ)) (piece : List ℕ) (a b c : FileState) → IsStaged gate batches piece a → Wrote gate (1 ∷ []) true a b → Synced true b c
    → IsAtRest (gate + 9 + length piece) (batches ++ piece ∷ []) c × (get_or c.bytes (gate + 9 + length piece) 0 ≡ 0)
at_rest_again gate batches piece a b c staged wrote synced =
    let tail = to_be_bytes w64 (length piece) ++ (piece ++ 0 ∷ []) in
    let before : Holds b.bytes 0 (opened batches) =
    holds_beside gate 0 _ (1 ∷ []) true a b wrote (inl (omega (arith, staged.front.place))) (holds_front a.bytes (opened batches) _ 0 staged.front.holds) in
    let behind : Holds b.bytes (gate + 1) tail = holds_beside gate (gate + 1) _ (1 ∷ []) true a b wrote (inr (omega arith)) staged.holds in
    let whole : Holds b.bytes 0 (opened batches ++ (1 ∷ tail)) =
    holds_join b.bytes (opened batches) _ 0 gate (omega (arith, staged.front.place)) before (holds_join b.bytes (1 ∷ []) tail gate (gate + 1) (omega arith) (wrote.written refl) behind) in
    let done = synced.done refl in
    let size : length (opened (batches ++ piece ∷ [])) ≡ gate + 9 + length piece = omega (arith, length-opened_push batches piece, staged.front.place) in
    let all : Holds c.bytes 0 (opened (batches ++ piece ∷ []) ++ 0 ∷ []) =
    subst (λ l. Holds l 0 (opened (batches ++ piece ∷ []) ++ 0 ∷ [])) (sym synced.bytes) (subst (λ l. Holds b.bytes 0 l) (sym (opened-push batches piece (0 ∷ []))) whole) in
    let last : Holds c.bytes (gate + 9 + length piece) (0 ∷ []) = holds_back c.bytes (opened (batches ++ piece ∷ [])) (0 ∷ []) 0 (gate + 9 + length piece) (omega (arith, size)) all in
    let shut : get_or c.bytes (gate + 9 + length piece) 0 ≡ 0 = ap (λ (j : ℕ). get_or c.bytes j 0) (omega arith) ∙ last.each 0 (omega arith) in (
      record {
        front = record {
          closed = 0;
          shut = omega arith;
          holds = all;
          place = sym size;
          synced = omega (arith, done.0, all.within, ap length synced.bytes, length-append (opened (batches ++ piece ∷ [])) (0 ∷ []), size);
          untouched = λ i le within. subst (λ rs. IsIn rs i) done.2 within;
        };
        quiet = quiet_synced b c synced;
      },
      shut,
    )
