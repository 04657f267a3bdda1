-- How changes, and what a crash may leave, are composed: one call after another, and the rounds of a loop.
use Rattle.std.proofs.Common.{◌⊎◌, inl, inr, ⊎_elim, ℕ, List, Option, ◌∙◌, subst, arith}
use Rattle.std.specs.FinMap.{FinMap, get}
use Rattle.pg_disk.specs.declared.disk.Disk.{Ghosts}
use Rattle.pg_disk.specs.declared.file_id.FileId.{FileId}
use Rattle.pg_disk.specs.Files.{file_cmp, Files}
use Rattle.pg_disk.specs.Account.{AllQuiet, FileState, Account, account, IsHonest}
use Rattle.pg_disk.specs.Image.{IsLeftAt, IsImage, Leaves, LeavesBeside, OnceQuiet}
use Rattle.pg_disk.specs.Elapsing.{Elapses}
use Rattle.pg_disk.specs.Moments.{Within, WithinFrom}
use Rattle.pg_disk.specs.Calls.{Changes, ChangesWhere}

-- nothing was done
pub changes_none : (tells : Option Account) (A : Account → Account → Type 0) → (IsHonest tells → A (account tells) (account tells)) → Changes tells tells A
changes_none tells A same = record { kept = λ h. h; back = λ h. h; step = same }

-- one change and then another
pub changes_then : (old mid new : Option Account) (A B C : Account → Account → Type 0) → Changes old mid A → Changes mid new B
    → (IsHonest old → A (account old) (account mid) → B (account mid) (account new) → C (account old) (account new)) → Changes old new C
changes_then old mid new A B C first second both = record {
  kept = λ h. second.kept (first.kept h);
  back = λ h. first.back (second.back h);
  step = λ h. both h (first.step h) (second.step (first.kept h));
}

-- what is so changed is also changed so
pub changes_weaker : (old new : Option Account) (A B : Account → Account → Type 0) → Changes old new A → (IsHonest old → A (account old) (account new) → B (account old) (account new)) → Changes old new B
changes_weaker old new A B change then = record { kept = change.kept; back = change.back; step = λ h. then h (change.step h) }

abbrev FilesNow : Type 0
FilesNow = FinMap file_cmp FileState

-- of the own files one change and then another
pub where_then : (own : FileId → Type 0) (p q r : ℕ → ℕ → Type 0) (R S T : FilesNow → FilesNow → Type 0) (a b c : Account) → ChangesWhere own p R a b → ChangesWhere own q S b c
    → (p a.taken b.taken → q b.taken c.taken → r a.taken c.taken) → (R a.files b.files → S b.files c.files → T a.files c.files) → ChangesWhere own r T a c
where_then own p q r R S T a b c first second taken both = record {
  told = second.told ∙ first.told;
  taken = taken first.taken second.taken;
  others = λ f out. second.others f out ∙ first.others f out;
  change = both first.change second.change;
}

-- where fewer files are the own ones
pub where_wider : (own more : FileId → Type 0) (p q : ℕ → ℕ → Type 0) (R S : FilesNow → FilesNow → Type 0) (a b : Account) → ChangesWhere own p R a b → ((f : FileId) → own f → more f)
    → (p a.taken b.taken → q a.taken b.taken) → (R a.files b.files → S a.files b.files) → ChangesWhere more q S a b
where_wider own more p q R S a b change wider taken then = record {
  told = change.told;
  taken = taken change.taken;
  others = λ f out. change.others f (λ is. out (wider f is));
  change = then change.change;
}

-- what a crash leaves now, seen from the start
pub beside_now : (own : FileId → Type 0) (p : ℕ → ℕ → Type 0) (R : FilesNow → FilesNow → Type 0) (P : FilesNow → Files → Type 0) (old now : Option Account) → Changes old now (ChangesWhere own p R)
    → ((c : Files) → R (account old).files (account now).files → IsImage (account now).files c → P (account old).files c) → (c : Files) (b : List ℕ) → Leaves now c b → LeavesBeside own P old c b
beside_now own p R P old now so_far then c b left =
    let h = so_far.back left.honest in
    let a = so_far.step h in
    record {
      honest = h;
      others = λ f out. subst (λ s. IsLeftAt s (get c f)) (a.others f out) (left.image f);
      left = then c a.change left.image;
      told = left.told ∙ a.told;
    }

-- what a crash leaves within a later call, seen from the start
pub beside_back : (own : FileId → Type 0) (p : ℕ → ℕ → Type 0) (R : FilesNow → FilesNow → Type 0) (P Q : FilesNow → Files → Type 0) (old mid : Option Account) → Changes old mid (ChangesWhere own p R)
    → ((c : Files) → R (account old).files (account mid).files → Q (account mid).files c → P (account old).files c) → (c : Files) (b : List ℕ) → LeavesBeside own Q mid c b → LeavesBeside own P old c b
beside_back own p R P Q old mid so_far then c b left =
    let h = so_far.back left.honest in
    let a = so_far.step h in
    record {
      honest = h;
      others = λ f out. subst (λ s. IsLeftAt s (get c f)) (a.others f out) (left.others f out);
      left = then c a.change left.left;
      told = left.told ∙ a.told;
    }

-- the same of more own files
pub beside_wider : (own more : FileId → Type 0) (P Q : FilesNow → Files → Type 0) (tells : Option Account) → ((f : FileId) → own f → more f)
    → ((c : Files) → IsHonest tells → ((f : FileId) → (own f → ⊥) → IsLeftAt (get (account tells).files f) (get c f)) → P (account tells).files c → Q (account tells).files c)
    → (c : Files) (b : List ℕ) → LeavesBeside own P tells c b → LeavesBeside more Q tells c b
beside_wider own more P Q tells wider then c b left = record {
  honest = left.honest;
  others = λ f out. left.others f (λ is. out (wider f is));
  left = then c left.honest left.others left.left;
  told = left.told;
}

-- what a crash at entry may leave, where that has P if nothing was pending
pub once_before : (P : Option Account → Files → List ℕ → Type 0) (tells : Option Account) (c : Files) (b : List ℕ) → (AllQuiet (account tells).files → P tells c b) → Leaves tells c b → OnceQuiet P tells c b
once_before P tells c b quiet left = record { either = inl left; quiet = quiet }

-- what has P
pub once_since : (P : Option Account → Files → List ℕ → Type 0) (tells : Option Account) (c : Files) (b : List ℕ) → P tells c b → OnceQuiet P tells c b
once_since P tells c b has = record { either = inr has; quiet = λ _. has }

-- what has P has Q
pub once_weaker : (P Q : Option Account → Files → List ℕ → Type 0) (tells : Option Account) (c : Files) (b : List ℕ) → (P tells c b → Q tells c b) → OnceQuiet P tells c b → OnceQuiet Q tells c b
once_weaker P Q tells c b then once = record { either = ⊎_elim (λ left. inl left) (λ has. inr (then has)) once.either; quiet = λ q. then (once.quiet q) }

module _ {D : Type 0} (m : Ghosts D) where
  -- before the first call
  pub started : (old : D) (P : Option Account → Files → List ℕ → Type 0) → ((c : Files) (b : List ℕ) → m.left_since old (m.moment old) c b → P (m.tells old) c b) → Within m old old P
  started old P here = record { later = omega arith; each = here; before = λ t c b le left. inl left }

  -- one call more, within which a crash leaves what has P
  pub goes_on : (old mid new : D) (P : Option Account → Files → List ℕ → Type 0) (within : Files → List ℕ → Type 0) → Within m old mid P → Elapses (m.moment mid) (m.moment new) (m.left_since mid) (m.left_since new) within
      → ((c : Files) (b : List ℕ) → within c b → P (m.tells old) c b) → Within m old new P
  goes_on old mid new P within so_far time here = record {
    later = omega (arith, so_far.later, time.later);
    each = λ c b left. ⊎_elim (so_far.each c b) (here c b) (time.nothing_else (m.moment old) c b so_far.later left);
    before = λ t c b le left. ⊎_elim (so_far.before t c b le) (λ now. inr (here c b now)) (time.nothing_else t c b (omega (arith, le, so_far.later)) left);
  }

  -- one run more, whose own moments have P too, seen from the start
  pub then_run : (old mid new : D) (P Q : Option Account → Files → List ℕ → Type 0) → Within m old mid P → Within m mid new Q
      → ((c : Files) (b : List ℕ) → Q (m.tells mid) c b → P (m.tells old) c b) → Within m old new P
  then_run old mid new P Q first second here = record {
    later = omega (arith, first.later, second.later);
    each = λ c b left. ⊎_elim (first.each c b) (here c b) (second.before (m.moment old) c b first.later left);
    before = λ t c b le left. ⊎_elim (first.before t c b le) (λ now. inr (here c b now)) (second.before t c b (omega (arith, le, first.later)) left);
  }

  -- what has P has Q
  pub weaker : (old new : D) (P Q : Option Account → Files → List ℕ → Type 0) → Within m old new P → ((c : Files) (b : List ℕ) → P (m.tells old) c b → Q (m.tells old) c b) → Within m old new Q
  weaker old new P Q run then = record {
    later = run.later;
    each = λ c b left. then c b (run.each c b left);
    before = λ t c b le left. ⊎_elim (λ was. inl was) (λ new. inr (then c b new)) (run.before t c b le left);
  }

  -- two runs on the own files, and the rounds of a loop where P and Q are one
  pub runs_then : (own : FileId → Type 0) (p : ℕ → ℕ → Type 0) (R : FilesNow → FilesNow → Type 0) (P Q : FilesNow → Files → Type 0) (old mid new : D)
      → Within m old mid (LeavesBeside own P) → Changes (m.tells old) (m.tells mid) (ChangesWhere own p R) → Within m mid new (LeavesBeside own Q)
      → ((c : Files) → R (account (m.tells old)).files (account (m.tells mid)).files → Q (account (m.tells mid)).files c → P (account (m.tells old)).files c) → Within m old new (LeavesBeside own P)
  runs_then own p R P Q old mid new first change second then =
      then_run old mid new (LeavesBeside own P) (LeavesBeside own Q) first second (beside_back own p R P Q (m.tells old) (m.tells mid) change then)

  -- what a crash since the beginning leaves: what one at the beginning may leave, or what has P of the moment from which nothing is pending
  pub from_either : (own : FileId → Type 0) (old new : D) (P : Option Account → Files → List ℕ → Type 0) (from : WithinFrom m own old new P) (c : Files) (b : List ℕ)
      → m.left_since new (m.moment old) c b → Leaves (m.tells old) c b ⊎ P (m.tells from.at) c b
  from_either own old new P from c b left = ⊎_elim (λ was. inl (from.first.each c b was)) (λ later. inr later) (from.run.before (m.moment old) c b from.first.later left)

  -- a later run goes on
  pub from_then : (own : FileId → Type 0) (old mid new : D) (P Q : Option Account → Files → List ℕ → Type 0) (from : WithinFrom m own old mid P) → Within m mid new Q
      → ((c : Files) (b : List ℕ) → Q (m.tells mid) c b → P (m.tells from.at) c b) → WithinFrom m own old new P
  from_then own old mid new P Q from later then = record {
    at = from.at;
    settled = from.settled;
    first = from.first;
    run = then_run from.at mid new P Q from.run later then;
  }

  -- what has P has Q
  pub from_weaker : (own : FileId → Type 0) (old new : D) (P Q : Option Account → Files → List ℕ → Type 0) (from : WithinFrom m own old new P)
      → ((c : Files) (b : List ℕ) → P (m.tells from.at) c b → Q (m.tells from.at) c b) → WithinFrom m own old new Q
  from_weaker own old new P Q from then = record { at = from.at; settled = from.settled; first = from.first; run = weaker from.at new P Q from.run then }
