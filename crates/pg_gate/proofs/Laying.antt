-- What a crash leaves while a gated file is laid.
use Rattle.std.proofs.Common.{◌≡◌, ◌≤◌, inl, inr, ℕ, List, [], ◌∷◌, length, Bool, true, Option, Some, None, Result, Ok, Err, OnOk, is_ok, refl, sym, ◌∙◌, ap, subst, arith}
use Rattle.std.specs.FinMap.{get}
use Rattle.pg_disk.specs.declared.fault.Failed.{Failed}
use Rattle.pg_disk.specs.declared.disk.Disk.{Ghosts}
use Rattle.pg_disk.specs.declared.file_id.FileId.{FileId}
use Rattle.pg_disk.specs.Files.{Files}
use Rattle.pg_disk.specs.Account.{FileState, Account, account, IsHonest, IsQuiet}
use Rattle.pg_disk.specs.Image.{IsIn, IsLeftAt, Leaves, LeavesAt, MayBeCreated}
use Rattle.pg_disk.specs.Elapsing.{Elapses}
use Rattle.pg_disk.specs.Moments.{Within}
use Rattle.pg_disk.specs.Calls.{Holds, Changes, ChangesFile, Created, There, Wrote, Synced, fresh}
use Rattle.pg_disk.proofs.Composing.{started, goes_on, then_run}
use Rattle.pg_disk.proofs.Runs.{Since, since_first, since_then, left_at, left_from}
use Rattle.pg_gate.specs.Gated.{HasBatches, HasNone, IsLaid, IsShort, RestsAt}
use Rattle.pg_disk.proofs.Bytes.{holds_itself}

absent_left : (s : Option FileState) (left : Option (List ℕ)) → s ≡ None → IsLeftAt s left → HasNone left
absent_left None None e at = tt
absent_left None (Some bytes) e at = absurd at
absent_left (Some s) left e at = cc

pub short_left : (s : Option FileState) (left : Option (List ℕ)) → IsShort s → IsLeftAt s left → HasBatches [] left
short_left None left short is = absurd short
short_left (Some s) None short is = absurd is
short_left (Some s) (Some bytes) short is = inl (omega (arith, is.no_longer, short.0.greatest, short.1), refl)

fresh_short : IsShort (Some fresh)
fresh_short = (record { synced = refl; greatest = refl; ranges = refl }, omega arith)

none_left : (left : Option (List ℕ)) → HasBatches [] left → HasNone left
none_left None has = absurd has
none_left (Some bytes) has = has

created_left : (was : Option FileState) (left : Option (List ℕ)) → MayBeCreated was left → HasNone left
created_left was None made = tt
created_left was (Some []) made = inl (omega arith, refl)
created_left was (Some (x ∷ xs)) (inl e) = cc
created_left was (Some (x ∷ xs)) (inr e) = cc

-- a gate was written to the short file, or some of it
abbrev Gated : Bool → Option FileState → Option FileState → Type 0
Gated ok s t = IsShort s × There (Wrote 0 (0 ∷ []) ok) s t

gated_left : (ok : Bool) (s t : Option FileState) (left : Option (List ℕ)) → Gated ok s t → IsLeftAt t left → HasBatches [] left
gated_left ok None t left gated at = absurd gated.0
gated_left ok (Some s) None left gated at = absurd gated.1
gated_left ok (Some s) (Some t) None gated at = absurd at
gated_left ok (Some s) (Some t) (Some bytes) gated at = inl (omega (arith, at.no_longer, gated.1.greatest, gated.0.0.greatest, gated.0.1), refl)

pub laid_rests : (s : Option FileState) → IsLaid s → RestsAt 0 [] s
laid_rests None laid = absurd laid
laid_rests (Some s) laid = record {
  quiet = laid.0;
  front = record {
    closed = 0;
    shut = omega arith;
    holds = subst (λ l. Holds l 0 (0 ∷ [])) (sym laid.1) (holds_itself (0 ∷ []) []);
    place = refl;
    synced = omega (arith, laid.0.synced, ap length laid.1);
    untouched = λ i le within. subst (λ rs. IsIn rs i) laid.0.ranges within;
  };
}

-- a file that one byte fills
one_byte : (l : List ℕ) → length l ≤ 1 → Holds l 0 (0 ∷ []) → l ≡ 0 ∷ []
one_byte [] few h = absurd (omega (arith, h.within))
one_byte (x ∷ []) few h = ap (λ (v : ℕ). v ∷ []) (h.each 0 (omega arith))
one_byte (x ∷ (y ∷ ys)) few h = absurd (omega (arith, few))

stands_laid : (r s t : Option FileState) → Gated true r s → There (Synced true) s t → IsLaid t
stands_laid None s t gated synced = absurd gated.0
stands_laid (Some r) None t gated synced = absurd gated.1
stands_laid (Some r) (Some s) None gated synced = absurd synced
stands_laid (Some r) (Some s) (Some t) gated synced =
    let done = synced.done refl in
    let h = gated.1.written refl in
    let same : length t.bytes ≡ length s.bytes = ap length synced.bytes in
    let quiet : IsQuiet t = record { synced = done.0 ∙ sym same; greatest = done.1 ∙ sym same; ranges = done.2 } in
    (quiet, synced.bytes ∙ one_byte s.bytes (omega (arith, gated.0.1, gated.1.no_longer)) h)

-- `close`: the gate of a short file is written and synced
module _ {D : Type 0} (m : Ghosts D) (id : FileId) (old : D)
    (short : IsHonest (m.tells old) → IsShort (get (account (m.tells old)).files id)) (law : (c : Files) (b : List ℕ) → m.left_since old (m.moment old) c b → Leaves (m.tells old) c b) where
  abbrev C : Option Account → Files → List ℕ → Type 0
  C = LeavesAt id (λ _. HasBatches [])

  abbrev Was : Option FileState → Option FileState → Type 0
  Was s t = (t ≡ s) × IsShort s

  is_short : Since id (m.tells old) Was (m.tells old)
  is_short = since_first id (m.tells old) Was (λ h. (refl, short h))

  before_gate : Within m old old C
  before_gate = started m old C
      (λ c b left. left_at id (m.tells old) (m.tells old) Was (λ _. HasBatches []) is_short (λ s left was is. short_left s left (subst IsShort (sym was.0) was.1) is) c b (law c b left))

  gated : (ok : Bool) (one : D) → Changes (m.tells old) (m.tells one) (ChangesFile id (There (Wrote 0 (0 ∷ []) ok))) → Since id (m.tells old) (Gated ok) (m.tells one)
  gated ok one step =
      since_then id (m.tells old) (m.tells old) (m.tells one) Was (There (Wrote 0 (0 ∷ []) ok)) (Gated ok) is_short step (λ _ r s t was step _. (was.1, subst (λ u. There (Wrote 0 (0 ∷ []) ok) u t) was.0 step))

  pub in_gate : (ok : Bool) (one : D) → Elapses (m.moment old) (m.moment one) (m.left_since old) (m.left_since one) (Leaves (m.tells one)) → Changes (m.tells old) (m.tells one) (ChangesFile id (There (Wrote 0 (0 ∷ []) ok)))
      → Within m old one C
  in_gate ok one time step =
      goes_on m old old one C _ before_gate time (left_at id (m.tells old) (m.tells one) (Gated ok) (λ _. HasBatches []) (gated ok one step) (λ s left. gated_left ok _ s left))

  module _ (one : D) (one_time : Elapses (m.moment old) (m.moment one) (m.left_since old) (m.left_since one) (Leaves (m.tells one))) (one_step : Changes (m.tells old) (m.tells one) (ChangesFile id (There (Wrote 0 (0 ∷ []) true)))) where
    pub in_gate_sync : (two : D) → Elapses (m.moment one) (m.moment two) (m.left_since one) (m.left_since two) (Leaves (m.tells one)) → Within m old two C
    in_gate_sync two time =
        goes_on m old one two C _ (in_gate true one one_time one_step) time (left_at id (m.tells old) (m.tells one) (Gated true) (λ _. HasBatches []) (gated true one one_step) (λ s left. gated_left true _ s left))

    pub all_closed : {T : Type 0} (two : D) (result : Result T Failed) → Changes (m.tells one) (m.tells two) (ChangesFile id (There (Synced (is_ok result))))
        → OnOk result (Changes (m.tells old) (m.tells two) (ChangesFile id (λ _ s. IsLaid s)))
    all_closed two (Err e) step = tt
    all_closed two (Ok x) step =
        since_then id (m.tells old) (m.tells one) (m.tells two) (Gated true) (There (Synced true)) (λ _ s. IsLaid s) (gated true one one_step) step (λ _ r s t held step _. stands_laid r s t held step)

-- `lay`: the file is created, and its gate closed
module _ {D : Type 0} (m : Ghosts D) (id : FileId) (old : D)
    (absent : IsHonest (m.tells old) → get (account (m.tells old)).files id ≡ None) (law : (c : Files) (b : List ℕ) → m.left_since old (m.moment old) c b → Leaves (m.tells old) c b) where
  abbrev P : Option Account → Files → List ℕ → Type 0
  P = LeavesAt id (λ _. HasNone)

  is_absent : Since id (m.tells old) (λ _ s. s ≡ None) (m.tells old)
  is_absent = since_first id (m.tells old) (λ _ s. s ≡ None) absent

  before_create : Within m old old P
  before_create = started m old P (λ c b left. left_at id (m.tells old) (m.tells old) (λ _ s. s ≡ None) (λ _. HasNone) is_absent absent_left c b (law c b left))

  module _ (made : D) (time : Elapses (m.moment old) (m.moment made) (m.left_since old) (m.left_since made) (LeavesAt id MayBeCreated (m.tells old))) where
    pub in_create : Within m old made P
    in_create = goes_on m old old made P _ before_create time (left_from id (m.tells old) (m.tells old) (λ _ s. s ≡ None) (λ _. HasNone) MayBeCreated is_absent (λ _ left made. created_left (get (account (m.tells old)).files id) left made))

    module _ (create : Changes (m.tells old) (m.tells made) (ChangesFile id (Created true))) where
      is_made : (s t : Option FileState) → s ≡ None → Created true s t → t ≡ Some fresh
      is_made s t e (inl is) = is
      is_made s t e (inr failed) = absurd (failed.0 refl)

      since_made : Since id (m.tells old) (λ _ s. s ≡ Some fresh) (m.tells made)
      since_made = since_then id (m.tells old) (m.tells old) (m.tells made) (λ _ s. s ≡ None) (Created true) (λ _ s. s ≡ Some fresh) is_absent create (λ _ r s t e step _. is_made s t e step)

      pub can_close : IsHonest (m.tells made) → IsShort (get (account (m.tells made)).files id)
      can_close h = subst IsShort (sym (since_made.step (since_made.back h)).change) fresh_short

      pub in_close : (new : D) → Within m made new (LeavesAt id (λ _. HasBatches [])) → Within m old new P
      in_close new run = then_run m old made new P (LeavesAt id (λ _. HasBatches [])) in_create run (left_from id (m.tells old) (m.tells made) (λ _ s. s ≡ Some fresh) (λ _. HasNone) (λ _. HasBatches []) since_made (λ _ left has. none_left left has))

      pub all_laid : (new : D) → Changes (m.tells made) (m.tells new) (ChangesFile id (λ _ s. IsLaid s)) → Changes (m.tells old) (m.tells new) (ChangesFile id (λ _ s. IsLaid s × RestsAt 0 [] s))
      all_laid new closed =
          since_then id (m.tells old) (m.tells made) (m.tells new) (λ _ s. s ≡ Some fresh) (λ _ s. IsLaid s) (λ _ s. IsLaid s × RestsAt 0 [] s) since_made closed (λ _ r s t e laid _. (laid, laid_rests t laid))
