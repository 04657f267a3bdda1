-- Calls that only read.
use Rattle.std.proofs.Common.{◌≡◌, ℕ, ◌+◌, List, length, Option, Result, Ok, Err, OnErr, refl, ◌∙◌, ap, subst, arith}
use Rattle.std.specs.FinMap.{get}
use Rattle.pg_disk.specs.declared.disk.Disk.{Ghosts}
use Rattle.pg_disk.specs.declared.file_id.FileId.{FileId}
use Rattle.pg_disk.specs.declared.fault.Fault.{Fault}
use Rattle.pg_disk.specs.declared.fault.Fault.TheVariants.{Failed, Damaged, Spent, Memory}
use Rattle.pg_disk.specs.Files.{Files}
use Rattle.pg_disk.specs.Account.{Account, account, IsHonest}
use Rattle.pg_disk.specs.Image.{IsImage, IsFileThere, Leaves}
use Rattle.pg_disk.specs.Elapsing.{Elapses}
use Rattle.pg_disk.specs.Moments.{Within}
use Rattle.pg_disk.specs.Calls.{Changes, Reads}
use Rattle.pg_disk.proofs.Composing.{changes_none, changes_then, started, goes_on, then_run}
use Rattle.pg_gate.specs.Spans.{AsRead, IsCut, IsCutFault, IsFailedOrDamaged, IsNotSpent, ReadsWithin}

-- nothing was read yet
pub no_reads : (tells : Option Account) → Changes tells tells (Reads 0)
no_reads tells = changes_none tells (Reads 0) (λ h. record { files = refl; told = refl; taken = omega arith })

-- more is read
pub reads_then : (old mid new : Option Account) (n m : ℕ) → Changes old mid (Reads n) → Changes mid new (Reads m) → Changes old new (Reads (n + m))
reads_then old mid new n m first second =
    changes_then old mid new (Reads n) (Reads m) (Reads (n + m)) first second (λ h a b. record { files = b.files ∙ a.files; told = b.told ∙ a.told; taken = omega (arith, a.taken, b.taken) })

-- what a crash leaves is what it left before
pub reads_leave : (old new : Option Account) (n : ℕ) → Changes old new (Reads n) → (c : Files) (b : List ℕ) → Leaves new c b → Leaves old c b
reads_leave old new n change c b left =
    let h = change.back left.honest in
    let a = change.step h in
    record { honest = h; image = subst (λ m. IsImage m c) a.files left.image; told = left.told ∙ a.told }

-- and what the file reads as is what it read as before
pub as_read_before : (file : FileId) (old new : Option Account) (n : ℕ) (P : List ℕ → Type 0) → Changes old new (Reads n) → AsRead file new P → AsRead file old P
as_read_before file old new n P change is = λ h s there. is (change.kept h) s (ap (λ m. get m file) (change.step h).files ∙ there)

pub still_there : (file : FileId) (old new : Option Account) (n : ℕ) → Changes old new (Reads n) → (IsHonest old → IsFileThere file (account old).files) → IsHonest new → IsFileThere file (account new).files
still_there file old new n change there h =
    let h0 = change.back h in
    let is = there h0 in
    (is.0, ap (λ m. get m file) (change.step h0).files ∙ is.1)

-- the moments of a run that reads
pub run_reads : {D : Type 0} (m : Ghosts D) (old mid new : D) (n : ℕ) → Changes (m.tells old) (m.tells mid) (Reads n)
    → Within m old mid Leaves → Within m mid new Leaves → Within m old new Leaves
run_reads m old mid new n change first second = then_run m old mid new Leaves Leaves first second (reads_leave (m.tells old) (m.tells mid) n change)

-- one call that reads is a run
pub one_read : {D : Type 0} (m : Ghosts D) (old new : D) → ((c : Files) (b : List ℕ) → m.left_since old (m.moment old) c b → Leaves (m.tells old) c b)
    → Elapses (m.moment old) (m.moment new) (m.left_since old) (m.left_since new) (Leaves (m.tells old)) → Within m old new Leaves
one_read m old new law time = goes_on m old old new Leaves _ (started m old Leaves law) time (λ c b left. left)

-- what is said of where a file is cut
pub cut_weaker : (file : FileId) (P Q : ℕ → Type 0) (e : Fault) → ((at : ℕ) → P at → Q at) → IsCutFault file P e → IsCutFault file Q e
cut_weaker file P Q Failed then is = tt
cut_weaker file P Q (Damaged damage) then is = (is.0, is.1, then damage.at is.2)
cut_weaker file P Q Spent then is = tt
cut_weaker file P Q Memory then is = tt

-- what is said of a fault of the disk and of want of memory
pub failed_unspent : IsNotSpent Failed
failed_unspent = λ e. cc

pub memory_unspent : IsNotSpent Memory
memory_unspent = λ e. cc

pub failed_or_damaged : (e : Fault) → IsFailedOrDamaged e → IsNotSpent e
failed_or_damaged Failed is = failed_unspent
failed_or_damaged (Damaged damage) is = λ e. cc
failed_or_damaged Spent is = absurd is
failed_or_damaged Memory is = absurd is

-- no byte was read before it was given up
pub none_within : {T E : Type 0} (result : Result T E) (file : FileId) (old new : Option Account) → Changes old new (Reads 0) → OnErr result (AsRead file old (λ bytes. ReadsWithin bytes (account old) (account new)))
none_within (Ok x) file old new change = tt
none_within (Err e) file old new change = λ h s there. omega (arith, (change.step h).taken)

pub within_later : {T E : Type 0} (result : Result T E) (file : FileId) (old mid new : Option Account) → Changes old mid (Reads 0) → AsRead file mid (λ bytes. ReadsWithin bytes (account mid) (account new)) → OnErr result (AsRead file old (λ bytes. ReadsWithin bytes (account old) (account new)))
within_later (Ok x) file old mid new change read = tt
within_later (Err e) file old mid new change read = λ h s there.
    let step = change.step h in
    let few = read (change.kept h) s (ap (λ m. get m file) step.files ∙ there) in
    omega (arith, few, step.taken)

-- the length is asked for before what is given up
module _ (file : FileId) (old mid : Option Account) (end : ℕ) (change : Changes old mid (Reads 0)) (size : AsRead file old (λ bytes. end ≡ length bytes)) where
  pub within_after : {T E : Type 0} (result : Result T E) (new : Option Account) → AsRead file mid (λ bytes. end ≡ length bytes → ReadsWithin bytes (account mid) (account new)) → OnErr result (AsRead file old (λ bytes. ReadsWithin bytes (account old) (account new)))
  within_after (Ok x) new read = tt
  within_after (Err e) new read = λ h s there.
      let step = change.step h in
      let few = read (change.kept h) s (ap (λ m. get m file) step.files ∙ there) (size h s there) in
      omega (arith, few, step.taken)

  pub cut_after : (e : Fault) → IsCutFault file (λ at. AsRead file mid (λ bytes. end ≡ length bytes → IsCut bytes at)) e → IsCutFault file (λ at. AsRead file old (λ bytes. IsCut bytes at)) e
  cut_after e is =
      cut_weaker file (λ at. AsRead file mid (λ bytes. end ≡ length bytes → IsCut bytes at)) (λ at. AsRead file old (λ bytes. IsCut bytes at)) e
      (λ at cut h s there. as_read_before file old mid 0 (λ bytes. end ≡ length bytes → IsCut bytes at) change cut h s there (size h s there)) is
