-- What it means that something was recorded, and how it is answered.
use Rattle.std.specs.Prelude.{◌≡◌, ◌⊎◌, ℕ, Bool, List, [], ◌∷◌, ◌++◌, Option, Some, None, Result, Ok, IsOk, IsErr, MatchResult, true, false}
use Rattle.std.specs.declared.alloc.AllocError.{AllocError}
use Rattle.pg_disk.specs.declared.fault.Failed.{Failed}
use Rattle.pg_disk.specs.declared.call_record.CallKind.{CallKind}
use Rattle.pg_disk.specs.declared.call_record.Event.{Event}
use Rattle.pg_disk.specs.Account.{Account}
use Rattle.pg_disk.specs.Counts.{Rose}
use Rattle.pg_disk.specs.Events.{call_of, is_emit}
use Rattle.pg_disk.specs.Replay.{step}

-- one event more: which call it is, whether it is an emit, and what it changes
pub record Recorded (old new : List Event) (call : Option CallKind) (emit : Bool)
    (change : Account → Account) : Type 0 where
  pub event : Event
  pub pushed : new ≡ old ++ event ∷ []
  pub is_call : call_of event ≡ call
  pub is_emit : is_emit event ≡ emit
  pub does : (a : Account) → step event a ≡ change a

-- a call is recorded at Ok, and nothing is at Err
abbrev pub RecordsCall : {T E : Type 0} → List Event → List Event → CallKind → (Account → Account) → Result T E → Type 0
RecordsCall old new call change result =
    MatchResult result (λ _. Recorded old new (Some call) false change) (λ _. new ≡ old)

-- the same of an emit
abbrev pub RecordsEmit : {T E : Type 0} → List Event → List Event → (Account → Account) → Result T E → Type 0
RecordsEmit old new change result = MatchResult result (λ _. Recorded old new None true change) (λ _. new ≡ old)

-- the same of what comes from outside
abbrev pub RecordsOther : {T E : Type 0} → List Event → List Event → (Account → Account) → Result T E → Type 0
RecordsOther old new change result = MatchResult result (λ _. Recorded old new None false change) (λ _. new ≡ old)

-- Of the calls that failed, and of those that failed for want of memory, so many were counted.
abbrev pub Counted : Type 0
Counted = ℕ × ℕ

-- how a call is answered, of which the outcome in memory is known: it fails where it was refused memory, or isn't to be
-- done
abbrev pub Settled : {T : Type 0} → Result T AllocError → Bool → Counted → Counted → Result T Failed → Type 0
Settled outcome done old new result =
    MatchResult result (λ value. (outcome ≡ Ok value) × (done ≡ true) × (new.0 ≡ old.0) × (new.1 ≡ old.1))
    (λ _. Rose old.0 new.0 × ((IsOk outcome × (done ≡ false) × (new.1 ≡ old.1))
    ⊎ (IsErr outcome × Rose old.1 new.1)))
