-- A short batch: the buffer that is filled, and the calls of `stage_small` and of `append_small`, one after the other.
use borrow.Rule.Slice.PartMut.{put_mid}
use Rattle.std.proofs.Common.{◌≡◌, inl, ℕ, ◌+◌, ◌-◌, ◌≤◌, ◌<◌, List, [], ◌∷◌, ◌++◌, length, take, drop, slice_set, Bool, true, Option, Some, None, Result, Ok, Err, OnOk, is_ok, refl, sym, ◌∙◌, ap, subst, arith, append_assoc, length-append}
use Rattle.std.proofs.lemmas.List.{length-drop, set_at, take_at, drop_at}
use Rattle.std.specs.FinMap.{get}
use Rattle.std.specs.Int.{to_be_bytes, w64}
use Rattle.pg_disk.specs.declared.fault.Failed.{Failed}
use Rattle.pg_disk.specs.declared.disk.Disk.{Ghosts}
use Rattle.pg_disk.specs.declared.file_id.FileId.{FileId}
use Rattle.pg_disk.specs.Files.{Files}
use Rattle.pg_disk.specs.Account.{FileState, Account, account, IsHonest}
use Rattle.pg_disk.specs.Image.{IsLeftAt, Leaves, LeavesAt}
use Rattle.pg_disk.specs.Elapsing.{Elapses}
use Rattle.pg_disk.specs.Moments.{Within}
use Rattle.pg_disk.specs.Calls.{Holds, Changes, ChangesFile, There, Wrote, Synced}
use Rattle.pg_disk.proofs.Composing.{started, goes_on, then_run, weaker}
use Rattle.pg_disk.proofs.Runs.{since_first, since_then, left_at, left_from, left_weaker}
use Rattle.pg_gate.specs.Gated.{opened, KeepsAll, MayGrow, MayOpen, RestsClosed, StandsFor, Stages}
use Rattle.pg_gate.specs.declared.at_rest.Rest.{Rest}
use Rattle.pg_gate.proofs.Sealing.{front_left, front_beside, front_synced, length-number, quiet_synced}
use Rattle.pg_gate.proofs.Unique.{stands_left}

-- what stands behind the closed gate: the length, the batch and the next closed gate
abbrev pub framed : List ℕ → List ℕ
framed batch = to_be_bytes w64 (length batch) ++ (batch ++ 0 ∷ [])

pub framed_size : (gate : ℕ) (batch bytes : List ℕ) → bytes ≡ framed batch → gate + 1 + length bytes ≤ gate + 10 + length batch
framed_size gate batch bytes is = omega (arith, ap length is, length-append (to_be_bytes w64 (length batch)) (batch ++ 0 ∷ []), length-append batch (0 ∷ []), length-number (length batch))

-- a zero put behind the front ends it
ends : (front tail : List ℕ) (n : ℕ) → length front ≡ n → 0 < length tail → take (n + 1) (slice_set (front ++ tail) n 0) ≡ front ++ 0 ∷ []
ends front [] n size some = absurd (omega (arith, some))
ends front (y ∷ ys) n size some =
    ap (take (n + 1)) (set_at front y ys 0 n size ∙ sym (append_assoc front (0 ∷ []) ys)) ∙ take_at (front ++ 0 ∷ []) ys (n + 1) (omega (arith, length-append front (0 ∷ []), size))

-- the length over the front of the buffer, the batch behind it, and a zero
pub filled : (number batch buffer : List ℕ) → length number ≡ 8 → length batch + 9 ≤ length buffer
    → take (8 + length batch + 1) (slice_set (put_mid 8 (8 + length batch - 8) (number ++ drop 8 buffer) batch) (8 + length batch) 0) ≡ number ++ (batch ++ 0 ∷ [])
filled number batch buffer size room =
    let tail = drop (length batch) (drop 8 buffer) in
    let laid : put_mid 8 (length batch) (number ++ drop 8 buffer) batch ≡ (number ++ batch) ++ tail =
    ap (λ l. l ++ (batch ++ drop (length batch) (drop 8 (number ++ drop 8 buffer)))) (take_at number (drop 8 buffer) 8 size)
    ∙ ap (λ l. number ++ (batch ++ drop (length batch) l)) (drop_at number (drop 8 buffer) 8 size) ∙ sym (append_assoc number batch tail) in
    let count : 8 + length batch - 8 ≡ length batch = omega arith in
    ap (λ k. take (8 + length batch + 1) (slice_set (put_mid 8 k (number ++ drop 8 buffer) batch) (8 + length batch) 0)) count
    ∙ ap (λ l. take (8 + length batch + 1) (slice_set l (8 + length batch) 0)) laid
    ∙ ends (number ++ batch) tail (8 + length batch) (omega (arith, length-append number batch, size)) (omega (arith, room, length-drop (length batch) (drop 8 buffer), length-drop 8 buffer))
    ∙ append_assoc number batch (0 ∷ [])

-- the same of the two parts as they were copied
pub is_filled : (batch buffer number copied : List ℕ) → number ≡ to_be_bytes w64 (length batch) → copied ≡ batch → length batch + 9 ≤ length buffer
    → take (8 + length batch + 1) (slice_set (put_mid 8 (8 + length batch - 8) (number ++ drop 8 buffer) copied) (8 + length batch) 0) ≡ framed batch
is_filled batch buffer number copied number_is copied_is room =
    ap (λ l. take (8 + length batch + 1) (slice_set (put_mid 8 (8 + length batch - 8) (number ++ drop 8 buffer) l) (8 + length batch) 0)) copied_is
    ∙ ap (λ l. take (8 + length batch + 1) (slice_set (put_mid 8 (8 + length batch - 8) (l ++ drop 8 buffer) batch) (8 + length batch) 0)) number_is
    ∙ filled (to_be_bytes w64 (length batch)) batch buffer refl room

-- the batch stands whole behind the closed gate
abbrev pub Staged : Rest → List ℕ → Option FileState → Option FileState → Type 0
Staged rest batch s t = (batches : List (List ℕ)) → StandsFor rest batches s → Stages rest.gate batches batch t

-- the gate before a whole batch is opened
abbrev pub Opened : ℕ → Option FileState → Option FileState → Type 0
Opened gate s t = (batches : List (List ℕ)) (piece : List ℕ) → Stages gate batches piece s → RestsClosed (gate + 9 + length piece) (batches ++ piece ∷ []) t

-- the next closed gate is the one behind the batch
abbrev pub Appends : Rest → ℕ → List ℕ → Option FileState → Option FileState → Type 0
Appends rest next batch s t = (batches : List (List ℕ)) → StandsFor rest batches s → RestsClosed next (batches ++ batch ∷ []) t

-- `stage_small`: these bytes are written behind the closed gate, and synced
module _ (rest : Rest) (batch bytes : List ℕ) (bytes_are : bytes ≡ framed batch) where
  abbrev Writes : Bool → Option FileState → Option FileState → Type 0
  Writes ok = There (Wrote (rest.gate + 1) bytes ok)

  written_left : (ok : Bool) (s t : Option FileState) (left : Option (List ℕ)) → Writes ok s t → IsLeftAt t left → KeepsAll rest s left
  written_left ok None t left step is batches stands = absurd stands
  written_left ok (Some s) None left step is batches stands = absurd step
  written_left ok (Some s) (Some t) None step is batches stands = absurd is
  written_left ok (Some s) (Some t) (Some left) step is batches stands =
      front_left rest.gate batches t left (front_beside rest.gate (rest.gate + 1) batches bytes ok s t (omega arith) step stands.front) is

  stages : (s t u : Option FileState) → Writes true s t → There (Synced true) t u → Staged rest batch s u
  stages None t u write sync batches stands = absurd stands
  stages (Some s) None u write sync batches stands = absurd write
  stages (Some s) (Some t) None write sync batches stands = absurd sync
  stages (Some s) (Some t) (Some u) write sync batches stands = record {
    front = front_synced rest.gate batches t u sync (front_beside rest.gate (rest.gate + 1) batches bytes true s t (omega arith) write stands.front);
    quiet = quiet_synced t u sync;
    holds = subst (λ l. Holds l (rest.gate + 1) (framed batch)) (sym sync.bytes) (subst (λ l. Holds t.bytes (rest.gate + 1) l) bytes_are (write.written refl));
  }

  module _ {D : Type 0} (m : Ghosts D) (id : FileId) (old : D)
      (law : (c : Files) (b : List ℕ) → m.left_since old (m.moment old) c b → Leaves (m.tells old) c b) where
    abbrev s0 : Option FileState
    s0 = get (account (m.tells old)).files id

    abbrev P : Option Account → Files → List ℕ → Type 0
    P = LeavesAt id (KeepsAll rest)

    -- the closed gate stands in the file
    pub can_write : (IsHonest (m.tells old) → (batches : List (List ℕ)) × StandsFor rest batches s0)
        → IsHonest (m.tells old) → (s : FileState) × (s0 ≡ Some s) × (rest.gate + 1 ≤ length s.bytes)
    can_write stands h = room s0 refl (stands h).0 (stands h).1
      where
        room : (o : Option FileState) → s0 ≡ o → (batches : List (List ℕ)) → StandsFor rest batches o → (s : FileState) × (s0 ≡ Some s) × (rest.gate + 1 ≤ length s.bytes)
        room None is batches stands = absurd stands
        room (Some s) is batches stands =
            (s, is, omega (arith, stands.front.holds.within, length-append (opened batches) (stands.front.closed ∷ []), stands.front.place))

    pub nothing_written : Within m old old P
    nothing_written = started m old P (λ c b left. left_at id (m.tells old) (m.tells old) (λ s t. t ≡ s) (KeepsAll rest) (since_first id (m.tells old) (λ s t. t ≡ s) (λ _. refl))
        (λ s left same is batches stands. stands_left rest batches s0 left stands (subst (λ t. IsLeftAt t left) same is)) c b (law c b left))

    pub in_write : (ok : Bool) (one : D) → Elapses (m.moment old) (m.moment one) (m.left_since old) (m.left_since one) (Leaves (m.tells one)) → Changes (m.tells old) (m.tells one) (ChangesFile id (Writes ok))
        → Within m old one P
    in_write ok one time step = goes_on m old old one P _ nothing_written time (left_at id (m.tells old) (m.tells one) (Writes ok) (KeepsAll rest) step (λ s left. written_left ok s0 s left))

    module _ (one : D) (one_time : Elapses (m.moment old) (m.moment one) (m.left_since old) (m.left_since one) (Leaves (m.tells one))) (one_step : Changes (m.tells old) (m.tells one) (ChangesFile id (Writes true))) where
      pub in_write_sync : (two : D) → Elapses (m.moment one) (m.moment two) (m.left_since one) (m.left_since two) (Leaves (m.tells one)) → Within m old two P
      in_write_sync two time =
          goes_on m old one two P _ (in_write true one one_time one_step) time (left_at id (m.tells old) (m.tells one) (Writes true) (KeepsAll rest) one_step (λ s left. written_left true s0 s left))

      pub all_staged : {T : Type 0} (two : D) (result : Result T Failed) → Changes (m.tells one) (m.tells two) (ChangesFile id (There (Synced (is_ok result))))
          → OnOk result (Changes (m.tells old) (m.tells two) (ChangesFile id (Staged rest batch)))
      all_staged two (Err e) step = tt
      all_staged two (Ok x) step =
          since_then id (m.tells old) (m.tells one) (m.tells two) (Writes true) (There (Synced true)) (Staged rest batch) one_step step (λ _ r s t write sync _. stages r s t write sync)

-- `append_small`: the batch is staged, and its gate opened
module _ (rest : Rest) (batch : List ℕ) (id : FileId) {D : Type 0} (m : Ghosts D) (old mid : D)
    (run : Within m old mid (LeavesAt id (KeepsAll rest))) where
  abbrev before : Option FileState
  before = get (account (m.tells old)).files id

  abbrev Q : Option Account → Files → List ℕ → Type 0
  Q = LeavesAt id (MayGrow rest batch)

  pub in_stage : Within m old mid Q
  in_stage = weaker m old mid (LeavesAt id (KeepsAll rest)) Q run (left_weaker id (m.tells old) (KeepsAll rest) (MayGrow rest batch) (λ left keeps batches stands. inl (keeps batches stands)))

  module _ (staged : Changes (m.tells old) (m.tells mid) (ChangesFile id (Staged rest batch))) where
    pub can_open : (IsHonest (m.tells old) → (batches : List (List ℕ)) × StandsFor rest batches before)
        → IsHonest (m.tells mid) → (batches : List (List ℕ)) × (piece : List ℕ) × Stages rest.gate batches piece (get (account (m.tells mid)).files id)
    can_open stands h =
        let at = stands (staged.back h) in
        (at.0, batch, (staged.step (staged.back h)).change at.0 at.1)

    pub in_opening : (new : D)
        → Within m mid new (LeavesAt id (MayOpen rest.gate))
        → Within m old new Q
    in_opening new later = then_run m old mid new Q (LeavesAt id (MayOpen rest.gate)) in_stage later
        (left_from id (m.tells old) (m.tells mid) (Staged rest batch) (MayGrow rest batch) (MayOpen rest.gate) staged (λ holds left chooses batches stands. chooses batches batch (holds batches stands)))

    pub all_appended : (new : D) (next : ℕ) → next ≡ rest.gate + 9 + length batch → Changes (m.tells mid) (m.tells new) (ChangesFile id (Opened rest.gate))
        → Changes (m.tells old) (m.tells new) (ChangesFile id (Appends rest next batch))
    all_appended new next is opens =
        since_then id (m.tells old) (m.tells mid) (m.tells new) (Staged rest batch) (Opened rest.gate) (Appends rest next batch) staged opens
        (λ _ r s t one two _ batches stands. subst (λ (n : ℕ). RestsClosed n (batches ++ batch ∷ []) t) (sym is) (two batches batch (one batches stands)))
