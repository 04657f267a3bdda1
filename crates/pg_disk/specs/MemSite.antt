-- What a site in memory shows of itself.
use Rattle.std.specs.Prelude.{◌≡◌, ◌⊎◌, ◌+◌, ℕ, List, [], ◌∷◌, ◌++◌, length, Contains, filter_map, count_by, Option, Some, Result, MatchResult}
use Rattle.pg_disk.specs.declared.file_id.FileId.{FileId}
use Rattle.pg_disk.specs.declared.fault.ListError.{ListError}
use Rattle.pg_disk.specs.declared.fault.ListError.TheVariants as listing
use Rattle.pg_disk.specs.declared.call_record.CallKind.{CallKind}
use Rattle.pg_disk.specs.declared.call_record.CallKind.TheVariants as kind
use Rattle.pg_disk.specs.declared.call_record.Event.{Event}
use Rattle.pg_disk.specs.declared.memory_site.MemSite.{MemSite}
use Rattle.pg_disk.specs.Account.{Account}
use Rattle.pg_disk.specs.Contents.{content_at}
use Rattle.pg_disk.specs.Counts.{FaultCounts, Rose}
use Rattle.pg_disk.specs.Events.{call_of, is_emit}
use Rattle.pg_disk.specs.Files.{Files}
use Rattle.pg_disk.specs.Replay.{start, replay, LeftSince}

-- all that was done
abbrev pub events_of : MemSite → List Event
events_of m = m.state.history.events.items

-- what the site tells
abbrev pub account_of : MemSite → Account
account_of m = replay start (events_of m)

abbrev pub tells_of : MemSite → Option Account
tells_of m = Some (account_of m)

-- each event is a moment
abbrev pub moment_of : MemSite → ℕ
moment_of m = length (events_of m)

-- what a crash may leave at a moment from that one on
abbrev pub left_since_of : MemSite → ℕ → Files → List ℕ → Type 0
left_since_of m = LeftSince (events_of m)

abbrev pub faults_of : MemSite → FaultCounts
faults_of m = record { disk = m.faults; output = m.output_faults }

-- how many of the faults stand for want of memory
abbrev pub short_of : MemSite → ℕ
short_of m = m.short

-- the calls of the disk that were made
abbrev pub calls_of : MemSite → List CallKind
calls_of m = filter_map call_of (events_of m)

-- how many emits there were
abbrev pub emit_count : MemSite → ℕ
emit_count m = count_by is_emit (events_of m)

-- the numbers of the calls and of the emits that are to fail
abbrev pub named_calls : MemSite → List ℕ
named_calls m = m.named_calls.items

abbrev pub named_emits : MemSite → List ℕ
named_emits m = m.named_emits.items

-- the next call is to fail
abbrev pub FailsNextCall : MemSite → Type 0
FailsNextCall m = Contains (named_calls m) (length (calls_of m) + 1)

-- the next emit is to fail
abbrev pub FailsNextEmit : MemSite → Type 0
FailsNextEmit m = Contains (named_emits m) (emit_count m + 1)

-- the names of what is to fail stay
pub record KeepsNames (old new : MemSite) : Type 0 where
  pub calls : named_calls new ≡ named_calls old
  pub emits : named_emits new ≡ named_emits old

-- nothing that was done changes
pub record IsUntouched (old new : MemSite) : Type 0 where
  pub account : account_of new ≡ account_of old
  pub calls : calls_of new ≡ calls_of old
  pub emits : emit_count new ≡ emit_count old

-- the contents and what was told stay
pub record KeepsContents (old new : MemSite) : Type 0 where
  pub contents : (f : FileId) → content_at (account_of new).files f ≡ content_at (account_of old).files f
  pub told : (account_of new).told ≡ (account_of old).told

-- the call was made, and memory was there
pub record MadeCall (call : CallKind) (old new : MemSite) : Type 0 where
  pub calls : calls_of new ≡ calls_of old ++ call ∷ []
  pub emits : emit_count new ≡ emit_count old
  pub short : short_of new ≡ short_of old

-- the same of an emit
pub record MadeEmit (old new : MemSite) : Type 0 where
  pub calls : calls_of new ≡ calls_of old
  pub emits : emit_count new ≡ emit_count old + 1
  pub short : short_of new ≡ short_of old

-- there was no memory to make it
pub record RanShort (old new : MemSite) : Type 0 where
  pub untouched : IsUntouched old new
  pub short : Rose (short_of old) (short_of new)

-- it failed by its number, and changed no content
pub record FailedByNumber (Named : Type 0) (Made : MemSite → MemSite → Type 0) (old new : MemSite) : Type 0 where
  pub named : Named
  pub made : Made old new
  pub kept : KeepsContents old new

-- a call answers Ok where it isn't named to fail and memory is there
abbrev pub AnswersCall : {T E : Type 0} → CallKind → MemSite → MemSite → Result T E → Type 0
AnswersCall call old new result = MatchResult result (λ _. MadeCall call old new × (FailsNextCall old → ⊥))
    (λ _. FailedByNumber (FailsNextCall old) (MadeCall call) old new ⊎ RanShort old new)

abbrev pub AnswersEmit : {T E : Type 0} → MemSite → MemSite → Result T E → Type 0
AnswersEmit old new result = MatchResult result (λ _. MadeEmit old new × (FailsNextEmit old → ⊥))
    (λ _. FailedByNumber (FailsNextEmit old) MadeEmit old new ⊎ RanShort old new)

-- a listing that was refused memory counts as none
abbrev pub ListingAnswers : ListError → MemSite → MemSite → Type 0
ListingAnswers listing.Failed old new = FailedByNumber (FailsNextCall old) (MadeCall kind.List) old new
ListingAnswers listing.Memory old new = IsUntouched old new × (short_of new ≡ short_of old)

abbrev pub AnswersListing : {T : Type 0} → MemSite → MemSite → Result T ListError → Type 0
AnswersListing old new result =
    MatchResult result (λ _. MadeCall kind.List old new × (FailsNextCall old → ⊥)) (λ e. ListingAnswers e old new)
