-- What a crash leaves while a file is read anew.
use Rattle.std.proofs.Common.{◌≡◌, inl, inr, ℕ, ◌≤◌, List, [], length, true, Option, Some, None, Result, Ok, Err, OnOk, refl, sym, ◌∙◌, subst, arith}
use Rattle.std.proofs.lemmas.List.{ext_get_or}
use Rattle.std.specs.FinMap.{get}
use Rattle.pg_disk.specs.declared.disk.Disk.{Ghosts}
use Rattle.pg_disk.specs.declared.file_id.FileId.{FileId}
use Rattle.pg_disk.specs.Files.{Files}
use Rattle.pg_disk.specs.Account.{FileState, Account, account, IsHonest, IsQuiet}
use Rattle.pg_disk.specs.Image.{IsIn, IsLeft, IsLeftAt, IsFileThere, Leaves, LeavesAt, Only}
use Rattle.pg_disk.specs.Elapsing.{Elapses}
use Rattle.pg_disk.specs.Moments.{Within, WithinFrom}
use Rattle.pg_disk.specs.Calls.{Changes, ChangesFile, IsSettled, Reads, Settles, There, Synced}
use Rattle.pg_disk.proofs.Composing.{changes_weaker, then_run, weaker}
use Rattle.pg_disk.proofs.Runs.{left_weaker, left_from}
use Rattle.pg_gate.specs.Gated.{Batches, HasBatches}
use Rattle.pg_gate.specs.Spans.{KeepsAsRead, KeepsAtRest, IsShortOf, IsThereAtRest}
use Rattle.pg_gate.proofs.Sealing.{quiet_synced}
use Rattle.pg_gate.proofs.Unique.{short_none}
use Rattle.pg_gate.proofs.Reading.{one_read, run_reads}

-- a crash leaves a quiet file as it reads
quiet_left : (s : FileState) (left : List ℕ) → IsQuiet s → IsLeft s left → left ≡ s.bytes
quiet_left s left quiet is = ext_get_or 0 left s.bytes (omega (arith, is.no_shorter, is.no_longer, quiet.synced, quiet.greatest))
    (λ i lt. is.as_read i (omega (arith, lt, is.no_longer, quiet.synced, quiet.greatest)) (λ within. subst (λ rs. IsIn rs i) quiet.ranges within))

pub rest_left : (s : Option FileState) (left : Option (List ℕ)) → IsThereAtRest s → IsLeftAt s left → KeepsAsRead s left
rest_left None left rests is = absurd rests
rest_left (Some s) None rests is = absurd is
rest_left (Some s) (Some left) rests is = λ batches has. subst (λ l. Batches l batches) (sym (quiet_left s left rests is)) has

-- where the file is at rest
pub at_rest_left : (s : Option FileState) (t : FileState) (left : Option (List ℕ)) → s ≡ Some t → IsLeftAt s left → KeepsAtRest s left
at_rest_left None t left e is = cc
at_rest_left (Some s) t None e is = absurd is
at_rest_left (Some s) t (Some left) e is = λ quiet batches has. subst (λ l. Batches l batches) (sym (quiet_left s left quiet is)) has

-- a short file has no batches
pub short_left : (end : ℕ) (s : Option FileState) (left : Option (List ℕ)) → IsShortOf end s → HasBatches [] left → KeepsAsRead s left
short_left end None left short has = absurd short
short_left end (Some s) left short has = λ batches are. subst (λ (bs : List (List ℕ)). HasBatches bs left) (none batches are) has
  where
    none : (batches : List (List ℕ)) → Batches s.bytes batches → [] ≡ batches
    none batches (inl few) = sym few.1
    none batches (inr some) = short_none s.bytes batches some.0 some.1 (omega (arith, short.1, short.2)) some.3

-- moments of this file alone
leaves_at : (id : FileId) (tells : Option Account) (c : Files) (b : List ℕ) → Leaves tells c b → LeavesAt id IsLeftAt tells c b
leaves_at id tells c b left = record { honest = left.honest; others = λ f ne. left.image f; left = left.image id; told = left.told }

left_honest : (id : FileId) (tells : Option Account) (P Q : Option FileState → Option (List ℕ) → Type 0) → (IsHonest tells → (left : Option (List ℕ)) → P (get (account tells).files id) left → Q (get (account tells).files id) left) → (c : Files) (b : List ℕ) → LeavesAt id P tells c b → LeavesAt id Q tells c b
left_honest id tells P Q then c b left = record { honest = left.honest; others = left.others; left = then left.honest _ left.left; told = left.told }

-- of a file at rest
pub rest_leaves : (id : FileId) (tells : Option Account) → (IsHonest tells → IsThereAtRest (get (account tells).files id)) → (c : Files) (b : List ℕ) → Leaves tells c b → LeavesAt id KeepsAsRead tells c b
rest_leaves id tells rests c b left = left_honest id tells IsLeftAt KeepsAsRead (λ h o is. rest_left (get (account tells).files id) o (rests h) is) c b (leaves_at id tells c b left)

-- of a file that may have something pending
pub old_leaves : (id : FileId) (tells : Option Account) → (IsHonest tells → IsFileThere id (account tells).files) → (c : Files) (b : List ℕ) → Leaves tells c b → LeavesAt id KeepsAtRest tells c b
old_leaves id tells there c b left =
    left_honest id tells IsLeftAt KeepsAtRest (λ h o is. at_rest_left (get (account tells).files id) (there h).0 o (there h).1 is) c b (leaves_at id tells c b left)

-- `scan_synced`, whose file is at rest
module _ {D : Type 0} (m : Ghosts D) (id : FileId) (old : D)
    (rests : IsHonest (m.tells old) → IsThereAtRest (get (account (m.tells old)).files id)) (law : (c : Files) (b : List ℕ) → m.left_since old (m.moment old) c b → Leaves (m.tells old) c b) where
  abbrev s0 : Option FileState
  s0 = get (account (m.tells old)).files id

  abbrev P : Option Account → Files → List ℕ → Type 0
  P = LeavesAt id KeepsAsRead

  pub in_length : (one : D) → Elapses (m.moment old) (m.moment one) (m.left_since old) (m.left_since one) (Leaves (m.tells old)) → Within m old one P
  in_length one time = weaker m old one Leaves P (one_read m old one law time) (rest_leaves id (m.tells old) rests)

  module _ (one : D) (time : Elapses (m.moment old) (m.moment one) (m.left_since old) (m.left_since one) (Leaves (m.tells old))) (same : Changes (m.tells old) (m.tells one) (Reads 0)) where
    pub in_walk : (two : D) → Within m one two Leaves → Within m old two P
    in_walk two run = weaker m old two Leaves P (run_reads m old one two 0 same (one_read m old one law time) run) (rest_leaves id (m.tells old) rests)

    pub in_mend : (end : ℕ) → end ≤ 1 → ((IsHonest (m.tells old)) → (s : FileState) → s0 ≡ Some s → end ≡ length s.bytes) → (two : D) → Within m one two (LeavesAt id (λ _. HasBatches [])) → Within m old two P
    in_mend end few size two run = then_run m old one two P (LeavesAt id (λ _. HasBatches [])) (in_length one time) run (λ c b left.
        let h = same.back left.honest in
        let a = same.step h in
        record {
          honest = h;
          others = λ f ne. subst (λ m. IsLeftAt (get m f) (get c f)) a.files (left.others f ne);
          left = short_left end s0 (get c id) (short s0 refl (rests h) h) left.left;
          told = left.told ∙ a.told;
        })
      where
        short : (o : Option FileState) → s0 ≡ o → IsThereAtRest o → IsHonest (m.tells old) → IsShortOf end o
        short None e is h = absurd is
        short (Some s) e is h = (is, size h s e, few)

-- `scan`, whose file may have something pending until it is synced
module _ {D : Type 0} (m : Ghosts D) (id : FileId) (old : D)
    (there : IsHonest (m.tells old) → IsFileThere id (account (m.tells old)).files) (law : (c : Files) (b : List ℕ) → m.left_since old (m.moment old) c b → Leaves (m.tells old) c b) where
  abbrev before : Option FileState
  before = get (account (m.tells old)).files id

  abbrev Q : Option Account → Files → List ℕ → Type 0
  Q = LeavesAt id KeepsAtRest

  pub in_sync : (one : D) → Elapses (m.moment old) (m.moment one) (m.left_since old) (m.left_since one) (Leaves (m.tells old)) → Within m old one Q
  in_sync one time = weaker m old one Leaves Q (one_read m old one law time) (old_leaves id (m.tells old) there)

  -- what it keeps as it reads after the sync it keeps as it read before
  keeps_synced : (s t : Option FileState) (left : Option (List ℕ)) → There (Synced true) s t → KeepsAsRead t left → KeepsAsRead s left
  keeps_synced None t left synced keeps = absurd synced
  keeps_synced (Some s) None left synced keeps = absurd synced
  keeps_synced (Some s) (Some t) left synced keeps = λ batches has. keeps batches (subst (λ l. Batches l batches) (sym synced.bytes) has)

  keeps_both : (s : Option FileState) (left : Option (List ℕ)) → KeepsAsRead s left → KeepsAtRest s left
  keeps_both None left keeps = absurd keeps
  keeps_both (Some s) left keeps = λ quiet. keeps

  rests_synced : (s t : Option FileState) → There (Synced true) s t → IsThereAtRest t
  rests_synced None t synced = absurd synced
  rests_synced (Some s) None synced = absurd synced
  rests_synced (Some s) (Some t) synced = quiet_synced s t synced

  module _ (one : D) (time : Elapses (m.moment old) (m.moment one) (m.left_since old) (m.left_since one) (Leaves (m.tells old))) (step : Changes (m.tells old) (m.tells one) (ChangesFile id (There (Synced true)))) where
    abbrev after : Option FileState
    after = get (account (m.tells one)).files id

    abbrev Later : Option Account → Files → List ℕ → Type 0
    Later = LeavesAt id KeepsAsRead

    seen : (c : Files) (b : List ℕ) → Later (m.tells one) c b → LeavesAt id KeepsAsRead (m.tells old) c b
    seen = left_from id (m.tells old) (m.tells one) (There (Synced true)) KeepsAsRead KeepsAsRead step (λ synced left keeps. keeps_synced before after left synced keeps)

    pub in_scan : (two : D) → Within m one two Later → Within m old two Q
    in_scan two run = then_run m old one two Q Later (in_sync one time) run (λ c b left. left_weaker id (m.tells old) KeepsAsRead KeepsAtRest (λ o keeps. keeps_both before o keeps) c b (seen c b left))

    settles : (s t : Option FileState) → There (Synced true) s t → IsSettled s t
    settles None t synced = absurd synced
    settles (Some s) None synced = absurd synced
    settles (Some s) (Some t) synced = (quiet_synced s t synced, synced.bytes)

    settled : Changes (m.tells old) (m.tells one) (Settles (Only id))
    settled = changes_weaker (m.tells old) (m.tells one) (ChangesFile id (There (Synced true))) (Settles (Only id)) step (λ h change. record {
      told = change.told;
      taken = change.taken;
      others = change.others;
      change = λ f is. subst (λ (q : FileId). IsSettled (get (account (m.tells old)).files q) (get (account (m.tells one)).files q)) (sym is) (settles before after change.change);
    })

    pub since_sync : {T E : Type 0} (result : Result T E) (two : D) → Within m one two Later → OnOk result (WithinFrom m (Only id) old two Later)
    since_sync (Err e) two run = tt
    since_sync (Ok x) two run = record { at = one; settled = settled; first = one_read m old one law time; run = run }
