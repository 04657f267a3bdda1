-- How the counts of faults go with the answers of a call. A count stands at Ok, and rises where the answer is that its
-- device failed. At the end of its type a count that is said to rise stands still.
use Rattle.std.specs.Prelude.{◌≡◌, ◌≤◌, ◌+◌, ◌-◌, ◌^◌, min, ℕ, Result, MatchResult}
use Rattle.pg_disk.specs.declared.fault.Failed.{Failed}
use Rattle.pg_disk.specs.declared.fault.ListError.{ListError}
use Rattle.pg_disk.specs.declared.fault.ListError.TheVariants as listing
use Rattle.pg_disk.specs.declared.fault.Fault.{Fault}
use Rattle.pg_disk.specs.declared.fault.Fault.TheVariants as fault
use Rattle.pg_disk.specs.declared.fault.SiteFault.{SiteFault}
use Rattle.pg_disk.specs.declared.fault.SiteFault.TheVariants as site

-- the faults of a site so far: those of its disk, and those of its output
pub record FaultCounts : Type 0 where
  pub disk : ℕ
  pub output : ℕ

-- the count rose, or is at the end of its type
pub record Rose (old new : ℕ) : Type 0 where
  pub rose : min (old + 1) (2 ^ 64 - 1) ≤ new
  pub later : old ≤ new

-- the disk failed, and nothing else
pub record DiskFailed (old new : FaultCounts) : Type 0 where
  pub disk : Rose old.disk new.disk
  pub output : new.output ≡ old.output

-- the output failed, and nothing else
pub record OutputFailed (old new : FaultCounts) : Type 0 where
  pub disk : new.disk ≡ old.disk
  pub output : Rose old.output new.output

-- a call that can only fail by the disk
abbrev pub CountsDisk : {T : Type 0} → FaultCounts → FaultCounts → Result T Failed → Type 0
CountsDisk old new result = MatchResult result (λ _. new ≡ old) (λ _. DiskFailed old new)

-- a call that can only fail by the output
abbrev pub CountsOutput : {T : Type 0} → FaultCounts → FaultCounts → Result T Failed → Type 0
CountsOutput old new result = MatchResult result (λ _. new ≡ old) (λ _. OutputFailed old new)

-- a read of a source
abbrev pub CountsSource : {T : Type 0} → ℕ → ℕ → Result T Failed → Type 0
CountsSource old new result = MatchResult result (λ _. new ≡ old) (λ _. Rose old new)

-- a listing that was not answered
abbrev pub ListingCounts : ListError → FaultCounts → FaultCounts → Type 0
ListingCounts listing.Failed old new = DiskFailed old new
ListingCounts listing.Memory old new = new ≡ old

abbrev pub CountsListing : {T : Type 0} → FaultCounts → FaultCounts → Result T ListError → Type 0
CountsListing old new result = MatchResult result (λ _. new ≡ old) (λ e. ListingCounts e old new)

-- a call over a disk that gave up
abbrev pub FaultCountsAs : Fault → FaultCounts → FaultCounts → Type 0
FaultCountsAs fault.Failed old new = DiskFailed old new
FaultCountsAs (fault.Damaged damage) old new = new ≡ old
FaultCountsAs fault.Spent old new = new ≡ old
FaultCountsAs fault.Memory old new = new ≡ old

abbrev pub CountsFault : {T : Type 0} → FaultCounts → FaultCounts → Result T Fault → Type 0
CountsFault old new result = MatchResult result (λ _. new ≡ old) (λ e. FaultCountsAs e old new)

-- a call over a disk and an output that gave up
abbrev pub SiteFaultCountsAs : SiteFault → FaultCounts → FaultCounts → Type 0
SiteFaultCountsAs (site.Disk fault) old new = FaultCountsAs fault old new
SiteFaultCountsAs site.Sink old new = OutputFailed old new

abbrev pub CountsSiteFault : {T : Type 0} → FaultCounts → FaultCounts → Result T SiteFault → Type 0
CountsSiteFault old new result = MatchResult result (λ _. new ≡ old) (λ e. SiteFaultCountsAs e old new)

-- the fault that a failed listing is
abbrev pub fault_of_listing : ListError → Fault
fault_of_listing listing.Failed = fault.Failed
fault_of_listing listing.Memory = fault.Memory
