-- A file of batches behind gates.
use Rattle.std.specs.Prelude.{◌≡◌, ◌≢◌, ◌⊎◌, ◌≤◌, ◌<◌, ◌+◌, ◌^◌, ℕ, List, [], ◌∷◌, ◌++◌, length, slice_index, All}
use Rattle.std.specs.Prelude.{Option, Some, None, true, false}
use Rattle.std.specs.Int.{to_be_bytes, w64}
use Rattle.pg_disk.specs.declared.fault.Fault.{Fault}
use Rattle.pg_disk.specs.declared.fault.Fault.TheVariants.{Failed, Spent, Memory}
use Rattle.pg_disk.specs.declared.file_id.FileId.{FileId}
use Rattle.pg_disk.specs.Account.{FileState, IsQuiet}
use Rattle.pg_disk.specs.Image.{IsIn}
use Rattle.pg_disk.specs.Calls.{Holds}
use Rattle.pg_gate.specs.declared.at_rest.Rest.{Rest}
use Rattle.pg_gate.specs.declared.fill.Filling.{Filling}

-- an open gate, a length and a payload for each batch
abbrev pub opened : List (List ℕ) → List ℕ
opened [] = []
opened (payload ∷ batches) = 1 ∷ (to_be_bytes w64 (length payload) ++ (payload ++ opened batches))

-- The batches of these bytes: they stand at the front, behind open gates, and a gate that isn't open ends them,
-- whatever stands behind it. A file of at most one byte has none. Where a batch is cut short there is no such list.
abbrev pub Batches : List ℕ → List (List ℕ) → Type 0
Batches bytes batches = ((length bytes ≤ 1) × (batches ≡ []))
    ⊎ ((gate : ℕ) × (behind : List ℕ) × (gate ≢ 1) × (bytes ≡ opened batches ++ gate ∷ behind))

-- each payload's length has a spelling of eight bytes
abbrev pub AllFit : List (List ℕ) → Type 0
AllFit batches = All (λ payload. length payload < 2 ^ 64) batches

-- a file that is there and has these batches
abbrev pub HasBatches : List (List ℕ) → Option (List ℕ) → Type 0
HasBatches batches None = ⊥
HasBatches batches (Some bytes) = Batches bytes batches

-- there is no such file, or one without batches
abbrev pub HasNone : Option (List ℕ) → Type 0
HasNone None = Unit {0}
HasNone (Some bytes) = Batches bytes []

-- The batches stand at the front of the file, and behind them a gate that isn't open. All of that is synced.
pub record IsFront (gate : ℕ) (batches : List (List ℕ)) (s : FileState) : Type 0 where
  pub closed : ℕ
  pub shut : closed ≢ 1
  pub holds : Holds s.bytes 0 (opened batches ++ closed ∷ [])
  pub place : gate ≡ length (opened batches)
  pub synced : gate < s.synced
  pub untouched : (i : ℕ) → i ≤ gate → IsIn s.ranges i → ⊥

-- the batches stand in the file, and nothing of it is pending
pub record IsAtRest (gate : ℕ) (batches : List (List ℕ)) (s : FileState) : Type 0 where
  pub front : IsFront gate batches s
  pub quiet : IsQuiet s

-- a file with its closed gate there is at rest
abbrev pub RestsAt : ℕ → List (List ℕ) → Option FileState → Type 0
RestsAt gate batches None = ⊥
RestsAt gate batches (Some s) = IsAtRest gate batches s

-- the same, and the closed gate is 0
abbrev pub RestsClosed : ℕ → List (List ℕ) → Option FileState → Type 0
RestsClosed gate batches None = ⊥
RestsClosed gate batches (Some s) = IsAtRest gate batches s × (slice_index s.bytes gate ≡ 0)

-- a file that is one closed gate, of which nothing is pending
abbrev pub IsLaid : Option FileState → Type 0
IsLaid None = ⊥
IsLaid (Some s) = IsQuiet s × (s.bytes ≡ 0 ∷ [])

-- a file of at most one byte, of which nothing is pending
abbrev pub IsShort : Option FileState → Type 0
IsShort None = ⊥
IsShort (Some s) = IsQuiet s × (length s.bytes ≤ 1)

-- a gated file at rest stands for these batches, where this is the file
abbrev pub StandsFor : Rest → List (List ℕ) → Option FileState → Type 0
StandsFor rest batches s = RestsAt rest.gate batches s

-- the same, and its closed gate is 0
abbrev pub StandsClosed : Rest → List (List ℕ) → Option FileState → Type 0
StandsClosed rest batches s = RestsClosed rest.gate batches s

-- the batches stand in the file, and behind them what was added of the next one
pub record IsFilled (filling : Filling) (batches : List (List ℕ)) (piece : List ℕ) (s : FileState) : Type 0 where
  pub front : IsFront filling.gate batches s
  pub size : filling.length ≡ length piece
  pub empty : filling.started ≡ false → piece ≡ []
  pub there : filling.started ≡ true → Holds s.bytes (filling.gate + 9) piece

-- a file that is filled stands for these batches and this much of the next one
abbrev pub Fills : Filling → List (List ℕ) → List ℕ → Option FileState → Type 0
Fills filling batches piece None = ⊥
Fills filling batches piece (Some s) = IsFilled filling batches piece s

-- the batches stand in the file, the next one stands whole behind the closed gate, and nothing is pending
pub record IsStaged (gate : ℕ) (batches : List (List ℕ)) (piece : List ℕ) (s : FileState) : Type 0 where
  pub front : IsFront gate batches s
  pub quiet : IsQuiet s
  pub holds : Holds s.bytes (gate + 1) (to_be_bytes w64 (length piece) ++ (piece ++ 0 ∷ []))

-- a file with a whole batch behind this closed gate
abbrev pub Stages : ℕ → List (List ℕ) → List ℕ → Option FileState → Type 0
Stages gate batches piece None = ⊥
Stages gate batches piece (Some s) = IsStaged gate batches piece s

-- the batches, or those and the new one
abbrev pub HasOldOrNew : List (List ℕ) → List ℕ → Option (List ℕ) → Type 0
HasOldOrNew batches piece left = HasBatches batches left ⊎ HasBatches (batches ++ piece ∷ []) left

-- what a crash leaves has the batches
abbrev pub Keeps : Filling → Option FileState → Option (List ℕ) → Type 0
Keeps filling s left =
    (batches : List (List ℕ)) (piece : List ℕ) → Fills filling batches piece s → HasBatches batches left

-- what a crash leaves has the batches that the file at rest stands for
abbrev pub KeepsAll : Rest → Option FileState → Option (List ℕ) → Type 0
KeepsAll rest s left = (batches : List (List ℕ)) → StandsFor rest batches s → HasBatches batches left

-- or it has this batch behind them
abbrev pub MayGrow : Rest → List ℕ → Option FileState → Option (List ℕ) → Type 0
MayGrow rest batch s left = (batches : List (List ℕ)) → StandsFor rest batches s → HasOldOrNew batches batch left

-- the same where the batch was being filled
abbrev pub MaySeal : Filling → Option FileState → Option (List ℕ) → Type 0
MaySeal filling s left =
    (batches : List (List ℕ)) (piece : List ℕ) → Fills filling batches piece s → HasOldOrNew batches piece left

-- and where it stood whole behind the closed gate
abbrev pub MayOpen : ℕ → Option FileState → Option (List ℕ) → Type 0
MayOpen gate s left =
    (batches : List (List ℕ)) (piece : List ℕ) → Stages gate batches piece s → HasOldOrNew batches piece left

-- the file is changed anyhow
abbrev pub Anyhow : Option FileState → Option FileState → Type 0
Anyhow s t = Unit {0}

-- the file's name
abbrev pub file_of : Rest → FileId
file_of rest = rest.file

-- the offset of its closed gate
abbrev pub gate_of : Rest → ℕ
gate_of rest = rest.gate

-- how many bytes of the file are counted: up to the closed gate, and with it
abbrev pub counted_length : Rest → ℕ
counted_length rest = rest.gate + 1

-- the name of the file that is filled
abbrev pub file_filled : Filling → FileId
file_filled filling = filling.file

-- the offset of the closed gate before the batch
abbrev pub gate_before : Filling → ℕ
gate_before filling = filling.gate

-- how many bytes of the file were counted when the batch was begun
abbrev pub counted_before : Filling → ℕ
counted_before filling = filling.gate + 1

-- how many bytes of the batch were added
abbrev pub payload_length : Filling → ℕ
payload_length filling = filling.length

-- the disk failed, or the file would grow too long
abbrev pub IsFailedOrSpent : Fault → Type 0
IsFailedOrSpent fault = (fault ≡ Failed) ⊎ (fault ≡ Spent)

-- the disk failed, the file would grow too long, or there was no memory
abbrev pub IsUndamaged : Fault → Type 0
IsUndamaged fault = (fault ≡ Failed) ⊎ ((fault ≡ Spent) ⊎ (fault ≡ Memory))
