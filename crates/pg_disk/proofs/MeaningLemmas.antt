-- Calls that are quiet or decide, one behind another.
use Rattle.std.proofs.Common.{◌≡◌, inl, inr, ⊎_elim, ℕ, List, Option, ◌∙◌}
use Rattle.pg_disk.specs.declared.disk.Disk.{Ghosts}
use Rattle.pg_disk.specs.Account.{Account, IsHonest}
use Rattle.pg_disk.specs.Calls.{Changes}
use Rattle.pg_disk.specs.Files.{Files}
use Rattle.pg_disk.specs.Image.{Leaves}
use Rattle.pg_disk.specs.Meanings.{Decides, Either, LeavesMeaning, Meaning, Means, Quiet}
use Rattle.pg_disk.specs.Moments.{Within}
use Rattle.pg_disk.proofs.Composing.{started, then_run, weaker}

-- honesty is kept in both directions, and the same bytes are told
abbrev pub Tells : Account → Account → Type 0
Tells old new = new.told ≡ old.told

-- what a later call leaves, seen from the start
pub meaning_back : (M N : Meaning) (old mid : Option Account) → Changes old mid Tells → ((c : Files) → IsHonest old → M mid c → N old c) → (c : Files) (b : List ℕ) → LeavesMeaning M mid c b → LeavesMeaning N old c b
meaning_back M N old mid change then c b left =
    let honest = change.back left.honest in
    record { honest = honest; nothing = left.nothing ∙ change.step honest; means = then c honest left.means }

module _ {D : Type 0} (m : Ghosts D) where
  -- before the first call
  pub quiet_none : (old : D) (M : Meaning) → ((c : Files) (b : List ℕ) → m.left_since old (m.moment old) c b → Leaves (m.tells old) c b) → Means (M (m.tells old)) (m.tells old) → Quiet m M old old
  quiet_none old M law means = started m old (LeavesMeaning M) (λ c b left. let now = law c b left in record { honest = now.honest; nothing = now.told; means = means c b now })

  -- quiet and then quiet, and the rounds of a loop where M and N are one
  pub quiet_then : (old mid new : D) (M N : Meaning) → Quiet m M old mid → Changes (m.tells old) (m.tells mid) Tells → Quiet m N mid new
      → ((c : Files) → IsHonest (m.tells old) → N (m.tells mid) c → M (m.tells old) c) → Quiet m M old new
  quiet_then old mid new M N first change second then =
      then_run m old mid new (LeavesMeaning M) (LeavesMeaning N) first second (meaning_back N M (m.tells old) (m.tells mid) change then)

  -- a quiet call decides nothing
  pub quiet_is_deciding : (old new : D) (M N : Meaning) → Quiet m M old new → Decides m M N old new
  quiet_is_deciding old new M N quiet = weaker m old new (LeavesMeaning M) (LeavesMeaning (Either M N)) quiet
      (λ c b left. record { honest = left.honest; nothing = left.nothing; means = inl left.means })

  -- quiet and then deciding
  pub quiet_decides : (old mid new : D) (M N R S : Meaning) → Quiet m M old mid → Changes (m.tells old) (m.tells mid) Tells → Decides m R S mid new
      → ((c : Files) → IsHonest (m.tells old) → R (m.tells mid) c → M (m.tells old) c) → ((c : Files) → IsHonest (m.tells old) → S (m.tells mid) c → N (m.tells old) c) → Decides m M N old new
  quiet_decides old mid new M N R S first change second one other =
      quiet_then old mid new (Either M N) (Either R S) (quiet_is_deciding old mid M N first) change second
      (λ c honest. ⊎_elim (λ means. inl (one c honest means)) (λ means. inr (other c honest means)))

  -- deciding and then quiet
  pub decides_quiet : (old mid new : D) (M N S : Meaning) → Decides m M N old mid → Changes (m.tells old) (m.tells mid) Tells → Quiet m S mid new
      → ((c : Files) → IsHonest (m.tells old) → S (m.tells mid) c → N (m.tells old) c) → Decides m M N old new
  decides_quiet old mid new M N S first change second then = quiet_then old mid new (Either M N) S first change second (λ c honest means. inr (then c honest means))

  -- what has the one meaning has the other
  pub quiet_weaker : (old new : D) (M N : Meaning) → Quiet m M old new → ((c : Files) → IsHonest (m.tells old) → M (m.tells old) c → N (m.tells old) c) → Quiet m N old new
  quiet_weaker old new M N quiet then = weaker m old new (LeavesMeaning M) (LeavesMeaning N) quiet
      (λ c b left. record { honest = left.honest; nothing = left.nothing; means = then c left.honest left.means })

  -- from what a lower layer leaves
  pub quiet_from : (old new : D) (P : Option Account → Files → List ℕ → Type 0) (M : Meaning) → Within m old new P
      → ((c : Files) (b : List ℕ) → P (m.tells old) c b → LeavesMeaning M (m.tells old) c b) → Quiet m M old new
  quiet_from old new P M run then = weaker m old new P (LeavesMeaning M) run then
