-- Damage of a page, and the calls that read before it was found.
use Rattle.std.proofs.Common.{◌≡◌, ℕ, ◌+◌, Option, Some, sym, subst, arith}
use Rattle.std.specs.FinMap.{get}
use Rattle.pg_disk.specs.declared.fault.Damage.{Damage}
use Rattle.pg_disk.specs.declared.fault.Fault.{Fault}
use Rattle.pg_disk.specs.declared.fault.Fault.TheVariants.{Failed, Damaged, Spent, Memory}
use Rattle.pg_disk.specs.declared.fault.Rule.{Rule}
use Rattle.pg_disk.specs.declared.file_id.FileId.{FileId}
use Rattle.pg_disk.specs.Account.{Account, account, IsHonest}
use Rattle.pg_disk.specs.Calls.{Changes, Reads}
use Rattle.pg_disk.specs.Image.{IsFileThere}
use Rattle.pg_gate.specs.Payloads.{IsCutBehind}
use Rattle.pg_gate.specs.Spans.{AsRead, IsCut, IsCutFault, IsFailedOrDamaged, ReadsGateAt}
use Rattle.pg_gate.proofs.Reading.{as_read_before}
use Rattle.pg_page.specs.Faults.{BreaksAt, IsPageFault}
use Rattle.pg_page.specs.Places.{ReadsFew}

-- damage is that a rule is broken there, as a read of what was told gives it
abbrev pub Breaks : FileId → Option Account → Damage → Type 0
Breaks file tells damage = AsRead file tells (λ bytes. BreaksAt bytes damage.at damage.rule)

-- what is said of a gate is said of the page
pub gate_fault : (file : FileId) (tells : Option Account) (gate : ℕ) (e : Fault) → AsRead file tells (λ bytes. IsCutBehind bytes gate → IsCut bytes gate) → IsFailedOrDamaged e
    → IsCutFault file (λ at. (at ≡ gate) × AsRead file tells (λ bytes. IsCutBehind bytes gate)) e → IsPageFault file (Breaks file tells) e
gate_fault file tells gate Failed then some is = tt
gate_fault file tells gate (Damaged damage) then some is = (
  is.0,
  λ h s there. subst (λ (r : Rule). BreaksAt s.bytes damage.at r) (sym is.1) (subst (λ (k : ℕ). IsCut s.bytes k) (sym is.2.0) (then h s there (is.2.1 h s there))),
)
gate_fault file tells gate Spent then some is = absurd some
gate_fault file tells gate Memory then some is = tt

-- what holds of each damage holds of the fault's
pub fault_weaker : (file : FileId) (P Q : Damage → Type 0) (e : Fault) → ((damage : Damage) → P damage → Q damage) → IsPageFault file P e → IsPageFault file Q e
fault_weaker file P Q Failed then is = tt
fault_weaker file P Q (Damaged damage) then is = (is.0, then damage is.1)
fault_weaker file P Q Spent then is = absurd is
fault_weaker file P Q Memory then is = tt

-- the page was as it is now before bytes were read
pub fault_before : (file : FileId) (old mid : Option Account) (n : ℕ) (e : Fault) → Changes old mid (Reads n) → IsPageFault file (Breaks file mid) e → IsPageFault file (Breaks file old) e
fault_before file old mid n e change is =
    fault_weaker file (Breaks file mid) (Breaks file old) e (λ damage broken. as_read_before file old mid n (λ bytes. BreaksAt bytes damage.at damage.rule) change broken) is

-- so many bytes were read, on an honest site
abbrev pub Few : ℕ → Option Account → Option Account → Type 0
Few most old new = IsHonest old → ReadsFew most (account old) (account new)

pub few_none : (old new : Option Account) (most : ℕ) → Changes old new (Reads 0) → Few most old new
few_none old new most change h = omega (arith, (change.step h).taken)

-- a gate, and the length behind it
pub few_gate : (file : FileId) (old new : Option Account) (gate : ℕ) → (IsHonest old → IsFileThere file (account old).files) → (IsHonest old → (s : _) → get (account old).files file ≡ Some s → ReadsGateAt s.bytes gate (account old) (account new)) → Few 9 old new
few_gate file old new gate there reads h = let is = there h in (reads h is.0 is.1).few

-- more is read
pub few_then : (old mid new : Option Account) (n a b : ℕ) → Changes old mid (Reads n) → Few a old mid → Few b mid new → Few (a + b) old new
few_then old mid new n a b change first second h =
    let one = first h in
    let two = second (change.kept h) in
    omega (arith, one, two)
