-- Payload after payload is folded, or one of them breaks a rule.
use Rattle.std.specs.Prelude.{◌≡◌, ◌⊎◌, ◌++◌, ◌∷◌, ℕ, List, map}
use Rattle.pg_disk.specs.declared.fault.Damage.{Damage}
use Rattle.pg_disk.specs.declared.fault.Fault.{Fault}
use Rattle.pg_disk.specs.declared.fault.Fault.TheVariants.{Failed, Damaged, Spent, Memory}
use Rattle.pg_disk.specs.declared.fault.Rule.{Rule}
use Rattle.pg_disk.specs.declared.fault.Rule.TheVariants.{Spelling}
use Rattle.pg_disk.specs.declared.file_id.FileId.{FileId}
use Rattle.pg_gate.specs.declared.spans.Span.{Span}
use Rattle.pg_records.specs.declared.entry.Entry.{Entry}
use Rattle.pg_records.specs.Entries.{SpellsBatch, SpellBatches}
use Rattle.pg_fold.specs.declared.durable.Durable.{Durable}
use Rattle.pg_fold.specs.declared.fold_error.FoldError.{FoldError}
use Rattle.pg_fold.specs.declared.fold_error.FoldError.TheVariants.{Broken, Memory as NoMemory}
use Rattle.pg_fold.specs.Fold.{Breaks, Folds}

-- the payload spells entries which lead from the one state to the other
pub record FoldsPayload (d : Durable) (payload : List ℕ) (after : Durable) : Type 0 where
  pub entries : List Entry
  pub spelled : SpellsBatch payload entries
  pub folded : Folds d entries after

-- the same of payload after payload
pub record FoldsFrom (d : Durable) (payloads : List (List ℕ)) (after : Durable) : Type 0 where
  pub entries : List Entry
  pub spelled : SpellBatches payloads entries
  pub folded : Folds d entries after

-- The entries in front of some entry lead to a state in which its condition fails, by this rule.
pub record HaveBroken (d : Durable) (entries : List Entry) (rule : Rule) : Type 0 where
  pub before : List Entry
  pub entry : Entry
  pub behind : List Entry
  pub are : entries ≡ before ++ entry ∷ behind
  pub state : Durable
  pub folded : Folds d before state
  pub broken : Breaks state entry rule

-- The payload spells no list of entries, or the first one that it spells whose condition fails breaks the rule.
abbrev pub IsBrokenPayload : Durable → List ℕ → Rule → Type 0
IsBrokenPayload d payload rule =
    ((rule ≡ Spelling) × ((entries : List Entry) → SpellsBatch payload entries → ⊥))
    ⊎ ((entries : List Entry) × SpellsBatch payload entries × HaveBroken d entries rule)

-- damage of this file at this offset, of whose rule this holds
pub record IsDamageAt (file : FileId) (at : ℕ) (P : Rule → Type 0) (damage : Damage) : Type 0 where
  pub of_file : damage.file ≡ file
  pub offset : damage.at ≡ at
  pub breaks : P damage.rule

-- The payloads at the places in front of some place lead to a state, and the damage is that of the one there, which is
-- broken.
pub record IsBrokenAmong (payload : Span → List ℕ) (file : FileId) (d : Durable) (spans : List Span)
    (damage : Damage) : Type 0 where
  pub before : List Span
  pub place : Span
  pub behind : List Span
  pub are : spans ≡ before ++ place ∷ behind
  pub state : Durable
  pub folds : FoldsFrom d (map payload before) state
  pub named : IsDamageAt file place.at (IsBrokenPayload state (payload place)) damage

-- an entry's condition fails by a rule of which this holds, or there was no memory
abbrev pub IsBroken : (Rule → Type 0) → FoldError → Type 0
IsBroken P (Broken rule) = P rule
IsBroken P NoMemory = Unit {0}

-- there was damage of which this holds, or no memory
abbrev pub IsDamage : (Damage → Type 0) → Fault → Type 0
IsDamage P Failed = ⊥
IsDamage P (Damaged damage) = P damage
IsDamage P Spent = ⊥
IsDamage P Memory = Unit {0}

-- this holds of damage, and no limit was met
abbrev pub IsDamageOnly : (Damage → Type 0) → Fault → Type 0
IsDamageOnly P Failed = Unit {0}
IsDamageOnly P (Damaged damage) = P damage
IsDamageOnly P Spent = ⊥
IsDamageOnly P Memory = Unit {0}
