-- What damage names: the file, the offset in it, and the rule of well formed files that is broken there.
use Rattle.std.specs.Prelude.{◌≡◌, ◌⊎◌, ◌+◌, ◌-◌, ◌<◌, ◌++◌, ◌∷◌, ℕ, List, length, Some, None}
use Rattle.std.specs.List.{Contains}
use Rattle.pg_disk.specs.declared.fault.Damage.{Damage}
use Rattle.pg_disk.specs.declared.fault.Fault.{Fault}
use Rattle.pg_disk.specs.declared.fault.Fault.TheVariants.{Failed, Damaged, Spent, Memory}
use Rattle.pg_disk.specs.declared.fault.Rule.{Rule}
use Rattle.pg_disk.specs.declared.fault.Rule.TheVariants.{Cut, Name, Gap, Room}
use Rattle.pg_disk.specs.declared.file_id.FileId.{FileId}
use Rattle.pg_disk.specs.declared.file_id.Kind.TheVariants.{Journal}
use Rattle.pg_disk.specs.Views.{Contents}
use Rattle.pg_gate.specs.Gated.{opened}
use Rattle.pg_gate.specs.Spans.{IsCut}
use Rattle.pg_fold.specs.declared.durable.Durable.{Durable}
use Rattle.pg_fold.specs.declared.rows.AddressRow.{AddressRow}
use Rattle.pg_fold.specs.Fold.{fresh}
use Rattle.pg_journal.specs.Generations.{IsGeneration}
use Rattle.pg_recover.specs.Denotation.{FoldsTo}
use Rattle.pg_recover.specs.Folding.{FoldsFrom, IsBrokenPayload}
use Rattle.pg_recover.specs.WellFormed.{AreRoomy, IsNamed, IsThere, page_file}

-- Cut: a generation of the journal is cut, at the gate of this offset.
pub record IsCutIn (contents : Contents) (file : FileId) (gate : ℕ) : Type 0 where
  pub kind : file.kind ≡ Journal
  pub bytes : List ℕ
  pub there : contents file ≡ Some bytes
  pub cut : IsCut bytes gate

-- Spelling, and the rules of entries: the payload of one of the journal's batches begins at this offset of its file,
-- behind a gate and a length, which are 9 bytes. The batches in front of it lead to a state, and in that the payload
-- breaks the rule.
pub record HasBroken (contents : Contents) (file : FileId) (at : ℕ) (rule : Rule) : Type 0 where
  pub before : List (List ℕ)
  pub payload : List ℕ
  pub behind : List (List ℕ)
  pub journal : IsGeneration contents file (before ++ payload ∷ behind)
  pub offset : at ≡ length (opened before) + 9
  pub state : Durable
  pub folds : FoldsFrom fresh before state
  pub broken : IsBrokenPayload state payload rule

-- Name: the file is there, and has no name that may stand beside the state that the journal gives.
pub record IsMisnamed (contents : Contents) (file : FileId) : Type 0 where
  pub state : Durable
  pub folds : FoldsTo contents state
  pub there : IsThere contents file
  pub misnamed : IsNamed state.addresses file → ⊥

-- Gap: it is a page that is there, behind the first one of an address, and the page before it isn't there.
pub record IsBehindGap (contents : Contents) (file : FileId) : Type 0 where
  pub state : Durable
  pub folds : FoldsTo contents state
  pub there : IsThere contents file
  pub row : AddressRow
  pub known : Contains state.addresses row
  pub page : file ≡ page_file row.id file.number
  pub past : row.first < file.number
  pub gap : contents (page_file row.id (file.number - 1)) ≡ None

-- Room: it is the journal's file, and the messages of some address have no room in memory.
pub record HasNoRoom (contents : Contents) (file : FileId) : Type 0 where
  pub batches : List (List ℕ)
  pub journal : IsGeneration contents file batches
  pub state : Durable
  pub folds : FoldsFrom fresh batches state
  pub full : AreRoomy state → ⊥

-- what a file as a whole breaks
abbrev pub IsBrokenFile : Contents → FileId → Rule → Type 0
IsBrokenFile contents file rule =
    ((rule ≡ Name) × IsMisnamed contents file)
    ⊎ (((rule ≡ Gap) × IsBehindGap contents file) ⊎ ((rule ≡ Room) × HasNoRoom contents file))

-- the rule is broken at this offset of the file
abbrev pub IsBrokenAt : Contents → FileId → ℕ → Rule → Type 0
IsBrokenAt contents file at rule =
    ((rule ≡ Cut) × IsCutIn contents file at)
    ⊎ (HasBroken contents file at rule ⊎ ((at ≡ 0) × IsBrokenFile contents file rule))

-- what damage names is broken there
abbrev pub IsBrokenThere : Contents → Damage → Type 0
IsBrokenThere contents damage = IsBrokenAt contents damage.file damage.at damage.rule

-- where there is damage, this holds of it
abbrev pub OnDamage : (Damage → Type 0) → Fault → Type 0
OnDamage P Failed = Unit {0}
OnDamage P (Damaged damage) = P damage
OnDamage P Spent = Unit {0}
OnDamage P Memory = Unit {0}
