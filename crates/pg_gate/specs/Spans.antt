-- Where the payloads of a gated file stand, and how a file is read.
use Rattle.std.specs.Prelude.{◌≡◌, ◌≢◌, ◌⊎◌, ◌≤◌, ◌<◌, ◌+◌, ◌-◌, ◌*◌, ◌^◌, ℕ, List, [], ◌∷◌, length}
use Rattle.std.specs.Prelude.{slice_index, sum_by, Option, Some, None}
use Rattle.std.specs.FinMap.{get}
use Rattle.std.specs.Int.{to_be_bytes, w64}
use Rattle.pg_disk.specs.declared.fault.Fault.{Fault}
use Rattle.pg_disk.specs.declared.fault.Fault.TheVariants.{Failed, Damaged, Spent, Memory}
use Rattle.pg_disk.specs.declared.fault.Rule.TheVariants.{Cut}
use Rattle.pg_disk.specs.declared.file_id.FileId.{FileId}
use Rattle.pg_disk.specs.Account.{FileState, Account, account, IsHonest, IsQuiet}
use Rattle.pg_disk.specs.Calls.{ChangesWhere, Holds, ReadsSome}
use Rattle.pg_disk.specs.Image.{Only}
use Rattle.pg_gate.specs.declared.at_rest.Rest.{Rest}
use Rattle.pg_gate.specs.declared.spans.Span.{Span}
use Rattle.pg_gate.specs.Gated.{opened, AllFit, Batches, HasBatches, StandsFor, counted_length}

-- the places of the payloads of these batches, where the first gate stands at this offset
abbrev pub spans_of : ℕ → List (List ℕ) → List Span
spans_of gate [] = []
spans_of gate (payload ∷ batches) =
    record { at = gate + 9; length = length payload } ∷ spans_of (gate + 9 + length payload) batches

-- this holds of the file's bytes as read, where the site is honest and the file is there
abbrev pub AsRead : FileId → Option Account → (List ℕ → Type 0) → Type 0
AsRead file tells P = IsHonest tells → (s : FileState) → get (account tells).files file ≡ Some s → P s.bytes

-- the bytes have batches, whose lengths have their spelling, and these are the places of their payloads
pub record HasSpans (bytes : List ℕ) (spans : List Span) : Type 0 where
  pub batches : List (List ℕ)
  pub are : Batches bytes batches
  pub fit : AllFit batches
  pub places : spans ≡ spans_of 0 batches

-- the gate at this offset is open, and a whole payload of this many bytes and a further gate stand behind it
pub record IsWholeAt (bytes : List ℕ) (gate size : ℕ) : Type 0 where
  pub opens : Holds bytes gate (1 ∷ to_be_bytes w64 size)
  pub room : gate + 9 + size < length bytes

-- the gate at this offset is open, and no whole payload with a further gate stands behind it
pub record IsCutAt (bytes : List ℕ) (gate : ℕ) : Type 0 where
  pub opens : slice_index bytes gate ≡ 1
  pub cut : (size : ℕ) → size < 2 ^ 64 → IsWholeAt bytes gate size → ⊥

-- so many batches were read, up to the gate at this offset
pub record IsSoFar (bytes : List ℕ) (gate : ℕ) (spans : List Span) : Type 0 where
  pub batches : List (List ℕ)
  pub stands : Holds bytes 0 (opened batches)
  pub place : gate ≡ length (opened batches)
  pub places : spans ≡ spans_of 0 batches

-- all batches were read, and the gate at this offset isn't open
pub record IsWalked (bytes : List ℕ) (gate : ℕ) (spans : List Span) : Type 0 where
  pub so_far : IsSoFar bytes gate spans
  pub shut : slice_index bytes gate ≢ 1

-- the file is cut behind whole batches, at the gate at this offset, and so it has no list of batches
pub record IsCut (bytes : List ℕ) (gate : ℕ) : Type 0 where
  pub before : List (List ℕ)
  pub stands : Holds bytes 0 (opened before)
  pub place : gate ≡ length (opened before)
  pub here : IsCutAt bytes gate
  pub none : (batches : List (List ℕ)) → Batches bytes batches → ⊥

-- what is read at a gate that isn't open, and at one before a whole payload
abbrev pub IsNext : List ℕ → ℕ → Option Span → Type 0
IsNext bytes gate None = slice_index bytes gate ≢ 1
IsNext bytes gate (Some span) = IsWholeAt bytes gate span.length

-- damage is that a batch of this file is cut, at an offset for which this holds
abbrev pub IsCutFault : FileId → (ℕ → Type 0) → Fault → Type 0
IsCutFault file P Failed = Unit {0}
IsCutFault file P (Damaged damage) = (damage.file ≡ file) × (damage.rule ≡ Cut) × P damage.at
IsCutFault file P Spent = Unit {0}
IsCutFault file P Memory = Unit {0}

-- no limit was met
abbrev pub IsNotSpent : Fault → Type 0
IsNotSpent fault = fault ≡ Spent → ⊥

-- the disk failed, or a batch is cut
abbrev pub IsFailedOrDamaged : Fault → Type 0
IsFailedOrDamaged Failed = Unit {0}
IsFailedOrDamaged (Damaged damage) = Unit {0}
IsFailedOrDamaged Spent = ⊥
IsFailedOrDamaged Memory = ⊥

-- one file changes so, bytes of files are read, and nothing else
abbrev pub ReadsAndChanges : FileId → (Option FileState → Option FileState → Type 0) → Account → Account → Type 0
ReadsAndChanges id R = ChangesWhere (Only id) ReadsSome (λ files now. R (get files id) (get now id))

-- the bytes of the payloads, together
abbrev pub payload_bytes : List Span → ℕ
payload_bytes spans = sum_by (λ (span : Span). span.length) spans

-- These payloads lie one behind the other, from the gate at this offset on: each behind its gate and its length, with
-- the next gate behind it. Up to the last of these gates, and with it, there are so many bytes.
abbrev pub LieBehind : ℕ → List Span → ℕ → Type 0
LieBehind gate [] counted = counted ≡ gate + 1
LieBehind gate (span ∷ spans) counted = (span.at ≡ gate + 9) × LieBehind (span.at + span.length) spans counted

-- The payloads lie one behind the other from the first gate on, within this many bytes. So each batch has nine bytes
-- of them besides its payload, and the last gate has one.
pub record Occupy (spans : List Span) (counted : ℕ) : Type 0 where
  pub lie : LieBehind 0 spans counted
  pub sum : counted ≡ 9 * length spans + payload_bytes spans + 1

-- for each payload a gate and a length were read, at most, and as much once more; of these bytes no more were read than
-- stand outside the payloads
pub record ReadsGates (bytes : List ℕ) (spans : List Span) (old new : Account) : Type 0 where
  pub gates : new.taken ≤ old.taken + 9 * (length spans + 1)
  pub outside : new.taken + payload_bytes spans ≤ old.taken + length bytes

-- no more bytes were read than these are
abbrev pub ReadsWithin : List ℕ → Account → Account → Type 0
ReadsWithin bytes old new = new.taken ≤ old.taken + length bytes

-- the gate at this offset was read, and at most the length behind it
pub record ReadsGateAt (bytes : List ℕ) (gate : ℕ) (old new : Account) : Type 0 where
  pub few : new.taken ≤ old.taken + 9
  pub within : new.taken ≤ old.taken + (length bytes - gate)

-- a file of no bytes, or one open gate alone
abbrev pub IsMendable : List ℕ → Type 0
IsMendable bytes = (bytes ≡ []) ⊎ (bytes ≡ 1 ∷ [])

-- the file keeps its bytes, unless it is to be mended
abbrev pub StaysOrMends : Option FileState → Option FileState → Type 0
StaysOrMends None t = Unit {0}
StaysOrMends (Some s) t = (IsMendable s.bytes → ⊥) → (u : FileState) × (t ≡ Some u) × (u.bytes ≡ s.bytes)

-- a file that is there, of which nothing is pending
abbrev pub IsThereAtRest : Option FileState → Type 0
IsThereAtRest None = ⊥
IsThereAtRest (Some s) = IsQuiet s

-- a file of this many bytes, at most one, of which nothing is pending
abbrev pub IsShortOf : ℕ → Option FileState → Type 0
IsShortOf end None = ⊥
IsShortOf end (Some s) = IsQuiet s × (end ≡ length s.bytes) × (end ≤ 1)

-- the batches of the file as it reads are those of what a crash leaves
abbrev pub KeepsAsRead : Option FileState → Option (List ℕ) → Type 0
KeepsAsRead None left = ⊥
KeepsAsRead (Some s) left = (batches : List (List ℕ)) → Batches s.bytes batches → HasBatches batches left

-- the same, where nothing of the file is pending
abbrev pub KeepsAtRest : Option FileState → Option (List ℕ) → Type 0
KeepsAtRest None left = ⊥
KeepsAtRest (Some s) left = IsQuiet s → (batches : List (List ℕ)) → Batches s.bytes batches → HasBatches batches left

-- the bytes had these batches, the places are theirs, and the file stands for them now
pub record IsScanned (bytes : List ℕ) (rest : Rest) (spans : List Span) (now : Option FileState) : Type 0 where
  pub batches : List (List ℕ)
  pub are : Batches bytes batches
  pub places : spans ≡ spans_of 0 batches
  pub stands : StandsFor rest batches now
  pub counted : counted_length rest ≡ length (opened batches) + 1
