-- What is changed where a file is read anew: a file of at most one byte is mended, and any other stays.
use Rattle.std.proofs.Common.{◌≡◌, inl, inr, ℕ, ◌≤◌, List, [], ◌∷◌, length, get_or, Bool, false, IsTrue, ◌↔◌, Option, Some, None, Result, Ok, Err, OnOk, OnErr, refl, sym, ◌∙◌, ap, subst, arith}
use Rattle.std.specs.FinMap.{get}
use Rattle.pg_disk.specs.declared.file_id.FileId.{FileId}
use Rattle.pg_disk.specs.Account.{FileState, Account, account, IsHonest}
use Rattle.pg_disk.specs.Image.{IsIn}
use Rattle.pg_disk.specs.Calls.{Changes, ChangesFile, Reads, There, Synced}
use Rattle.pg_disk.proofs.Bytes.{holds_one}
use Rattle.pg_disk.proofs.Composing.{changes_then, changes_weaker}
use Rattle.pg_gate.specs.Gated.{IsLaid, RestsAt}
use Rattle.pg_gate.proofs.Laying.{laid_rests}
use Rattle.pg_gate.specs.Spans.{AsRead, IsMendable, ReadsAndChanges, StaysOrMends, IsShortOf, IsThereAtRest}
use Rattle.pg_gate.proofs.Reading.{no_reads}

-- `mend` that finds a gate that isn't open
pub kept_shut : (id : FileId) (old new : Option Account) (n end : ℕ) (opens : Bool) → Changes old new (Reads n) → (IsHonest old → IsShortOf end (get (account old).files id)) → end ≡ 1
    → AsRead id old (λ bytes. 1 ≤ length bytes → (IsTrue opens ↔ (get_or bytes 0 0 ≡ 1))) → (IsTrue opens → ⊥) → Changes old new (ReadsAndChanges id (λ _ t. RestsAt 0 [] t))
kept_shut id old new n end opens change short one first shut = changes_weaker old new (Reads n) (ReadsAndChanges id (λ _ t. RestsAt 0 [] t)) change (λ h a. record {
  told = a.told;
  taken = omega (arith, a.taken);
  others = λ f ne. ap (λ m. get m f) a.files;
  change = subst (λ o. RestsAt 0 [] o) (sym (ap (λ m. get m id) a.files)) (rests (get (account old).files id) refl (short h) h);
})
  where
    rests : (o : Option FileState) → get (account old).files id ≡ o → IsShortOf end o → IsHonest old → RestsAt 0 [] o
    rests None e is h = absurd is
    rests (Some s) e is h = record {
      quiet = is.0;
      front = record {
        closed = get_or s.bytes 0 0;
        shut = λ gate. shut ((first h s e (omega (arith, is.1, one))).1 gate);
        holds = holds_one s.bytes 0 (omega (arith, is.1, one));
        place = refl;
        synced = omega (arith, is.0.synced, is.1, one);
        untouched = λ i le within. subst (λ rs. IsIn rs i) is.0.ranges within;
      };
    }

-- all that was read and changed in two steps
pub changes_after_reads : (id : FileId) (old mid new : Option Account) (n : ℕ) (R S : Option FileState → Option FileState → Type 0) → Changes old mid (Reads n) → Changes mid new (ChangesFile id R)
    → (IsHonest old → (t : Option FileState) → R (get (account old).files id) t → S (get (account old).files id) t) → Changes old new (ReadsAndChanges id S)
changes_after_reads id old mid new n R S read change then = changes_then old mid new (Reads n) (ChangesFile id R) (ReadsAndChanges id S) read change (λ h a b. record {
  told = b.told ∙ a.told;
  taken = omega (arith, a.taken, b.taken);
  others = λ f ne. b.others f ne ∙ ap (λ m. get m f) a.files;
  change = then h _ (subst (λ o. R o (get (account new).files id)) (ap (λ m. get m id) a.files) b.change);
})

-- the closed gate that is written after reads
pub closes_after_reads : {T E : Type 0} (id : FileId) (old mid new : Option Account) (n : ℕ) (result : Result T E) → Changes old mid (Reads n) → OnOk result (Changes mid new (ChangesFile id (λ _ s. IsLaid s)))
    → OnOk result (Changes old new (ReadsAndChanges id (λ _ t. RestsAt 0 [] t)))
closes_after_reads id old mid new n (Ok x) read closed = changes_after_reads id old mid new n (λ _ s. IsLaid s) (λ _ t. RestsAt 0 [] t) read closed (λ h t laid. laid_rests t laid)
closes_after_reads id old mid new n (Err e) read closed = tt

-- a short file that has no gate, or an open one, is to be mended
pub mended : (end : ℕ) (s t : Option FileState) → IsShortOf end s → ((u : FileState) → s ≡ Some u → end ≡ 1 → get_or u.bytes 0 0 ≡ 1) → StaysOrMends s t
mended end None t short gate = tt
mended end (Some s) t short gate = λ stays. absurd (stays (which s.bytes refl))
  where
    which : (l : List ℕ) → s.bytes ≡ l → IsMendable l
    which [] e = inl refl
    which (x ∷ []) e =
        let one : x ≡ 1 = sym (ap (λ l. get_or l 0 0) e) ∙ gate s refl (omega (arith, short.1, ap length e)) in
        inr (ap (λ (v : ℕ). v ∷ []) one)
    which (x ∷ (y ∷ ys)) e = absurd (omega (arith, short.1, short.2, ap length e))

-- one file changed, whatever the answer was
pub either_change : {T E : Type 0} (id : FileId) (a b : Option Account) (R : Option FileState → Option FileState → Type 0) (result : Result T E) → OnOk result (Changes a b (ChangesFile id R)) → OnErr result (Changes a b (ChangesFile id (λ _ _. Unit {0})))
    → Changes a b (ChangesFile id (λ _ _. Unit {0}))
either_change id a b R (Ok x) done failed = changes_weaker a b (ChangesFile id R) (ChangesFile id (λ _ _. Unit {0})) done (λ h s. record { told = s.told; taken = s.taken; others = s.others; change = tt })
either_change id a b R (Err e) done failed = failed

pub opens_long : (end : ℕ) (o : Option FileState) (s : FileState) → IsShortOf end o → o ≡ Some s → end ≡ 1 → 1 ≤ length s.bytes
opens_long end None s short e one = absurd short
opens_long end (Some t) s short e one =
    let same : IsShortOf end (Some s) = subst (IsShortOf end) e short in
    omega (arith, same.1, one)

pub not_both : (b : Bool) → b ≡ false → IsTrue b → ⊥
not_both b shut is = cc

-- a file that is there, of at most so many bytes, is short
short_there : (end : ℕ) (o : Option FileState) → IsThereAtRest o → end ≤ 1 → ((s : FileState) → o ≡ Some s → end ≡ length s.bytes) → IsShortOf end o
short_there end None rest short size = absurd rest
short_there end (Some s) rest short size = (rest, size s refl, short)

pub short_after : (file : FileId) (old mid : Option Account) (end : ℕ) → Changes old mid (Reads 0) → (IsHonest old → IsThereAtRest (get (account old).files file)) → end ≤ 1 → AsRead file old (λ bytes. end ≡ length bytes) → IsHonest mid → IsShortOf end (get (account mid).files file)
short_after file old mid end change rest short size h =
    let h0 = change.back h in
    subst (λ o. IsShortOf end o) (sym (ap (λ m. get m file) (change.step h0).files)) (short_there end (get (account old).files file) (rest h0) short (size h0))

-- what is only read stays
stays_same : (s t : Option FileState) → t ≡ s → StaysOrMends s t
stays_same None t e = tt
stays_same (Some s) t e = λ _. (s, e, refl)

pub reads_stay : (file : FileId) (old new : Option Account) (n : ℕ) → Changes old new (Reads n) → Changes old new (ReadsAndChanges file StaysOrMends)
reads_stay file old new n change = changes_weaker old new (Reads n) (ReadsAndChanges file StaysOrMends) change (λ h a. record {
  told = a.told;
  taken = omega (arith, a.taken);
  others = λ f ne. ap (λ m. get m f) a.files;
  change = stays_same (get (account old).files file) (get (account new).files file) (ap (λ m. get m file) a.files);
})

-- and what is mended behind a read is mended
pub stays_then : (file : FileId) (old mid new : Option Account) (n : ℕ) → Changes old mid (Reads n) → Changes mid new (ReadsAndChanges file StaysOrMends) → Changes old new (ReadsAndChanges file StaysOrMends)
stays_then file old mid new n first second = changes_then old mid new (Reads n) (ReadsAndChanges file StaysOrMends) (ReadsAndChanges file StaysOrMends) first second (λ h a b. record {
  told = b.told ∙ a.told;
  taken = omega (arith, a.taken, b.taken);
  others = λ f ne. b.others f ne ∙ ap (λ m. get m f) a.files;
  change = subst (λ o. StaysOrMends o (get (account new).files file)) (ap (λ m. get m file) a.files) b.change;
})

-- what stays behind a sync stays
stays_over : (ok : Bool) (o p q : Option FileState) → There (Synced ok) o p → StaysOrMends p q → StaysOrMends o q
stays_over ok None p q there stays = tt
stays_over ok (Some a) None q there stays = absurd there
stays_over ok (Some a) (Some b) q there stays = λ kept.
    let is = stays (λ mendable. kept (subst IsMendable there.bytes mendable)) in
    (is.0, is.1, is.2 ∙ there.bytes)

module _ (file : FileId) (old mid : Option Account) (ok : Bool) (sync : Changes old mid (ChangesFile file (There (Synced ok)))) where
  pub stays_synced : (new : Option Account) → Changes mid new (ReadsAndChanges file StaysOrMends) → Changes old new (ReadsAndChanges file StaysOrMends)
  stays_synced new second = changes_then old mid new (ChangesFile file (There (Synced ok))) (ReadsAndChanges file StaysOrMends) (ReadsAndChanges file StaysOrMends) sync second (λ h a b. record {
    told = b.told ∙ a.told;
    taken = omega (arith, a.taken, b.taken);
    others = λ f ne. b.others f ne ∙ a.others f ne;
    change = stays_over ok (get (account old).files file) (get (account mid).files file) (get (account new).files file) a.change b.change;
  })

  pub sync_stays : Changes old mid (ReadsAndChanges file StaysOrMends)
  sync_stays = stays_synced mid (reads_stay file mid mid 0 (no_reads mid))
