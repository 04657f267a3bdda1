-- One write behind the closed gate, and a piece that is added.
use Rattle.std.proofs.Common.{◌≡◌, inl, ℕ, ◌+◌, ◌≤◌, ◌<◌, List, ◌++◌, length, Bool, true, Option, Some, None, refl, sym, subst, arith, length-append}
use Rattle.std.specs.FinMap.{get}
use Rattle.pg_disk.specs.declared.disk.Disk.{Ghosts}
use Rattle.pg_disk.specs.declared.file_id.FileId.{FileId}
use Rattle.pg_disk.specs.Account.{FileState, account, IsHonest}
use Rattle.pg_disk.specs.Image.{IsLeftAt, Leaves, LeavesAt}
use Rattle.pg_disk.specs.Elapsing.{Elapses}
use Rattle.pg_disk.specs.Moments.{Within}
use Rattle.pg_disk.specs.Calls.{Changes, ChangesFile, There, Wrote, Holds}
use Rattle.pg_disk.proofs.Composing.{goes_on}
use Rattle.pg_disk.proofs.Runs.{Since, since_then, left_at}
use Rattle.pg_disk.proofs.Bytes.{holds_join, holds_beside}
use Rattle.pg_gate.specs.Gated.{Fills, IsFront, Keeps}
use Rattle.pg_gate.specs.declared.fill.Filling.{Filling}
use Rattle.pg_gate.proofs.Sealing.{front_left, front_beside}

module _ (filling : Filling) (at : ℕ) (bytes : List ℕ) (behind : filling.gate < at) where
  pub write_left : (ok : Bool) (s t : Option FileState) (left : Option (List ℕ)) → There (Wrote at bytes ok) s t → IsLeftAt t left → Keeps filling s left
  write_left ok None t left step is batches piece fills = absurd fills
  write_left ok (Some s) None left step is batches piece fills = absurd step
  write_left ok (Some s) (Some t) None step is batches piece fills = absurd is
  write_left ok (Some s) (Some t) (Some left) step is batches piece fills = front_left filling.gate batches t left (front_beside filling.gate at batches bytes ok s t behind step fills.front) is

-- the piece is longer now
pub is_added : (self filling : Filling) (bytes : List ℕ) (n : ℕ) (s t : Option FileState) → filling.gate ≡ self.gate → filling.length ≡ self.length + length bytes → n ≡ self.gate + 9 + self.length → filling.started ≡ true → self.started ≡ true
    → There (Wrote n bytes true) s t → (batches : List (List ℕ)) (piece : List ℕ) → Fills self batches piece s → Fills filling batches (piece ++ bytes) t
is_added self filling bytes n None t gate size place on was step batches piece fills = absurd fills
is_added self filling bytes n (Some s) None gate size place on was step batches piece fills = absurd step
is_added self filling bytes n (Some s) (Some t) gate size place on was step batches piece fills =
    let front = front_beside self.gate n batches bytes true s t (omega (arith, place)) step fills.front in
    let before = holds_beside n (self.gate + 9) piece bytes true s t step (inl (omega (arith, place, fills.size))) (fills.there was) in
    let all = holds_join t.bytes piece bytes (self.gate + 9) n (omega (arith, place, fills.size)) before (step.written refl) in
    record {
      front = subst (λ (g : ℕ). IsFront g batches t) (sym gate) front;
      size = omega (arith, size, fills.size, length-append piece bytes);
      empty = λ off. cc;
      there = λ _. subst (λ (g : ℕ). Holds t.bytes (g + 9) (piece ++ bytes)) (sym gate) all;
    }

-- the write of `add`, after the place of the length is made
module _ (self filling : Filling) (bytes : List ℕ) (n : ℕ) (place_gate : filling.gate ≡ self.gate) (place_length : filling.length ≡ self.length) (on : filling.started ≡ true) (n_is : n ≡ self.gate + 9 + self.length)
    {D : Type 0} (m : Ghosts D) (id : FileId) (old mid : D)
    (run : Within m old mid (LeavesAt id (Keeps self)))
    (placed : Since id (m.tells old) (λ s t. (batches : List (List ℕ)) (piece : List ℕ) → Fills self batches piece s → Fills filling batches piece t) (m.tells mid)) where
  abbrev Moved : Option FileState → Option FileState → Type 0
  Moved s t = (batches : List (List ℕ)) (piece : List ℕ) → Fills self batches piece s → Fills filling batches piece t

  abbrev Writes : Bool → Option FileState → Option FileState → Type 0
  Writes ok = There (Wrote n bytes ok)

  abbrev Now : Bool → Option FileState → Option FileState → Type 0
  Now ok s u = (t : Option FileState) × Moved s t × Writes ok t u

  here : (ok : Bool) (new : D) → Changes (m.tells mid) (m.tells new) (ChangesFile id (Writes ok)) → Since id (m.tells old) (Now ok) (m.tells new)
  here ok new step = since_then id (m.tells old) (m.tells mid) (m.tells new) Moved (Writes ok) (Now ok) placed step (λ _ r s t one two _. (s, one, two))

  pub in_write : (ok : Bool) (new : D) → Elapses (m.moment mid) (m.moment new) (m.left_since mid) (m.left_since new) (Leaves (m.tells new)) → Changes (m.tells mid) (m.tells new) (ChangesFile id (Writes ok))
      → Within m old new (LeavesAt id (Keeps self))
  in_write ok new time step = goes_on m old mid new (LeavesAt id (Keeps self)) _ run time
      (left_at id (m.tells old) (m.tells new) (Now ok) (Keeps self) (here ok new step)
      (λ u left steps is batches piece fills. write_left filling n bytes (omega (arith, n_is, place_gate)) ok steps.0 u left steps.2 is batches piece (steps.1 batches piece fills)))

  pub can_write : (IsHonest (m.tells old) → (batches : List (List ℕ)) × (piece : List ℕ) × Fills self batches piece (get (account (m.tells old)).files id))
      → IsHonest (m.tells mid) → (s : FileState) × (get (account (m.tells mid)).files id ≡ Some s) × (n ≤ length s.bytes)
  can_write filled h =
      let f = filled (placed.back h) in
      room (get (account (m.tells mid)).files id) refl f.0 f.1 ((placed.step (placed.back h)).change f.0 f.1 f.2)
    where
      room : (o : Option FileState) → get (account (m.tells mid)).files id ≡ o → (batches : List (List ℕ)) (piece : List ℕ) → Fills filling batches piece o → (s : FileState) × (get (account (m.tells mid)).files id ≡ Some s) × (n ≤ length s.bytes)
      room None is batches piece fills = absurd fills
      room (Some s) is batches piece fills = (s, is, omega (arith, (fills.there on).within, fills.size, n_is, place_gate, place_length))

  pub all_added : (last : Filling) (new : D) → last.gate ≡ filling.gate → last.length ≡ filling.length + length bytes → last.started ≡ true → Changes (m.tells mid) (m.tells new) (ChangesFile id (Writes true))
      → Since id (m.tells old) (λ s t. (batches : List (List ℕ)) (piece : List ℕ) → Fills self batches piece s → Fills last batches (piece ++ bytes) t) (m.tells new)
  all_added last new gate size going step =
      since_then id (m.tells old) (m.tells mid) (m.tells new) Moved (Writes true) (λ s t. (batches : List (List ℕ)) (piece : List ℕ) → Fills self batches piece s → Fills last batches (piece ++ bytes) t) placed step
      (λ _ r s t one two _ batches piece fills. is_added filling last bytes n s t gate size (omega (arith, n_is, place_gate, place_length)) going on two batches piece (one batches piece fills))
