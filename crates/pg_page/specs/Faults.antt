-- What is answered of a page that breaks a rule.
use Rattle.std.specs.Prelude.{◌≡◌, ◌<◌, ℕ, List, length}
use Rattle.pg_disk.specs.declared.disk.Disk.{Ghosts}
use Rattle.pg_disk.specs.declared.fault.Damage.{Damage}
use Rattle.pg_disk.specs.declared.fault.Fault.{Fault}
use Rattle.pg_disk.specs.declared.fault.Fault.TheVariants.{Failed, Damaged, Spent, Memory}
use Rattle.pg_disk.specs.declared.fault.Rule.{Rule}
use Rattle.pg_disk.specs.declared.fault.Rule.TheVariants.{Cut, Spelling, Name, Repeat, Gap, Large, Room}
use Rattle.pg_disk.specs.declared.file_id.FileId.{FileId}
use Rattle.pg_disk.specs.Sites.{OnBytes}
use Rattle.pg_gate.specs.Spans.{IsCut}
use Rattle.pg_page.specs.Frames.{SpellsNone}
use Rattle.pg_page.specs.Places.{Passes, StandsAt}

-- a payload that is read stands at this offset and spells no frame
abbrev pub HasWrongFrame : List ℕ → ℕ → Type 0
HasWrongFrame bytes offset =
    (before : List (List ℕ)) × (payload : List ℕ) × StandsAt bytes offset before payload × SpellsNone payload

-- there are more batches than a page has positions for
abbrev pub HasTooMany : List ℕ → Type 0
HasTooMany bytes = (batches : List (List ℕ)) × Passes bytes batches × (4294967295 < length batches)

-- Which rule a page of these bytes breaks, and where: a batch is cut at its gate, a payload is no frame, or there are
-- too many. The other rules speak of more than one page.
abbrev pub BreaksAt : List ℕ → ℕ → Rule → Type 0
BreaksAt bytes at Cut = IsCut bytes at
BreaksAt bytes at Spelling = HasWrongFrame bytes at
BreaksAt bytes at Name = HasTooMany bytes × (at ≡ 0)
BreaksAt bytes at Repeat = ⊥
BreaksAt bytes at Gap = ⊥
BreaksAt bytes at Large = ⊥
BreaksAt bytes at Room = ⊥

-- damage is in this page and so; the other faults are that the disk failed and that there was no memory
abbrev pub IsPageFault : FileId → (Damage → Type 0) → Fault → Type 0
IsPageFault file P Failed = Unit {0}
IsPageFault file P (Damaged damage) = (damage.file ≡ file) × P damage
IsPageFault file P Spent = ⊥
IsPageFault file P Memory = Unit {0}

-- damage is that the page of this file breaks a rule there, as a read gives it
abbrev pub BreaksOn : {D : Type 0} → Ghosts D → D → FileId → Damage → Type 0
BreaksOn m now file damage = OnBytes m now file (λ bytes. BreaksAt bytes damage.at damage.rule)
