-- The statuses by their codes, and what each of them comes from.
use Rattle.std.specs.Prelude.{◌≡◌, ◌≢◌, ◌⊎◌, ◌≤◌, ℕ, List, [], ◌∷◌, Result, Ok, Err}
use Rattle.pg_disk.specs.declared.disk.Disk.{Ghosts}
use Rattle.pg_disk.specs.declared.fault.Fault.{Fault}
use Rattle.pg_disk.specs.declared.source.Source.{Ghosts as SourceGhosts}
use Rattle.pg_disk.specs.declared.fault.Fault.TheVariants as fault
use Rattle.pg_disk.specs.declared.fault.SiteFault.TheVariants as site
use Rattle.pg_disk.specs.Counts.{FaultCounts, SiteFaultCountsAs, Rose, DiskFailed as DiskFailedBetween, OutputFailed as OutputFailedBetween}
use Rattle.pg_lines.specs.declared.read_error.ReadError.TheVariants as reading
use Rattle.pg_lines.specs.Reading.{ReadErrorCounts}
use Rattle.pg_engine.specs.Executed.{IsDamaged}
use Rattle.pg_run.specs.declared.run.Stop.{Stop}
use Rattle.pg_run.specs.declared.run.Stop.TheVariants.{Site, Source}
use Rattle.pg_run.specs.declared.status.Status.{Status}
use Rattle.pg_run.specs.declared.status.Status.TheVariants.{Served, Usage, Damaged, DiskFailed, OutputFailed, InputFailed, OutOfMemory, InputTooLong, LimitReached}

abbrev pub code_of : Status → ℕ
code_of Served = 0
code_of Usage = 1
code_of Damaged = 2
code_of DiskFailed = 3
code_of OutputFailed = 4
code_of InputFailed = 5
code_of OutOfMemory = 6
code_of InputTooLong = 7
code_of LimitReached = 8

-- what ends a run, by the code of its status
abbrev pub status_of_fault : Fault → ℕ
status_of_fault fault.Failed = code_of DiskFailed
status_of_fault (fault.Damaged damage) = code_of Damaged
status_of_fault fault.Spent = code_of LimitReached
status_of_fault fault.Memory = code_of OutOfMemory

abbrev pub status_of_stop : Stop → ℕ
status_of_stop (Site (site.Disk fault)) = status_of_fault fault
status_of_stop (Site site.Sink) = code_of OutputFailed
status_of_stop (Source reading.Failed) = code_of InputFailed
status_of_stop (Source reading.TooLong) = code_of InputTooLong
status_of_stop (Source reading.Memory) = code_of OutOfMemory

abbrev pub status_of : {T : Type 0} → Result T Stop → ℕ
status_of (Ok done) = code_of Served
status_of (Err stop) = status_of_stop stop

-- the input was served as far as it was read: it ended, it failed, or its limit was met
abbrev pub IsInputServed : ℕ → Type 0
IsInputServed status = (status ≡ code_of Served) ⊎ (status ≡ code_of InputFailed) ⊎ (status ≡ code_of InputTooLong)

-- it is none of these
abbrev pub IsAnyBut : List Status → ℕ → Type 0
IsAnyBut [] status = Unit {0}
IsAnyBut (other ∷ others) status = (status ≢ code_of other) × IsAnyBut others status

-- the program has these
abbrev pub IsProgramStatus : ℕ → Type 0
IsProgramStatus status = status ≤ code_of LimitReached

-- and a run all but that of the words
abbrev pub IsStatus : ℕ → Type 0
IsStatus status = IsProgramStatus status × (status ≢ code_of Usage)

-- a file is damaged
abbrev pub IsDamagedStop : Stop → Type 0
IsDamagedStop (Site (site.Disk fault)) = IsDamaged fault
IsDamagedStop (Site site.Sink) = ⊥
IsDamagedStop (Source error) = ⊥

-- the counts of faults of the site and of the source, at entry and at exit
pub record Faults : Type 0 where
  pub site_old : FaultCounts
  pub site_new : FaultCounts
  pub source_old : ℕ
  pub source_new : ℕ

abbrev pub faults_of : {S R : Type 0} → Ghosts S → SourceGhosts R → S → S → R → R → Faults
faults_of m s old new source_old source_new =
    record {
      site_old =
          m.faults old;
      site_new = m.faults new;
      source_old = s.faults source_old;
      source_new = s.faults source_new;
    }

-- they stand, but for that of the device that failed
abbrev pub StopCounts : Stop → Faults → Type 0
StopCounts (Site fault) f = SiteFaultCountsAs fault f.site_old f.site_new × (f.source_new ≡ f.source_old)
StopCounts (Source error) f = (f.site_new ≡ f.site_old) × ReadErrorCounts error f.source_old f.source_new

abbrev pub CountsStop : {T : Type 0} → Faults → Result T Stop → Type 0
CountsStop f (Ok done) = (f.site_new ≡ f.site_old) × (f.source_new ≡ f.source_old)
CountsStop f (Err stop) = StopCounts stop f

-- the same by the status
pub record CountsStatus (f : Faults) (status : ℕ) : Type 0 where
  pub disk : status ≡ code_of DiskFailed → DiskFailedBetween f.site_old f.site_new
  pub output : status ≡ code_of OutputFailed → OutputFailedBetween f.site_old f.site_new
  pub input : status ≡ code_of InputFailed → Rose f.source_old f.source_new
  pub site_stands : status ≢ code_of DiskFailed → status ≢ code_of OutputFailed → f.site_new ≡ f.site_old
  pub source_stands : status ≢ code_of InputFailed → f.source_new ≡ f.source_old

-- no device failed
pub record NoneFailed (f : Faults) : Type 0 where
  pub disk : Rose f.site_old.disk f.site_new.disk → ⊥
  pub output : Rose f.site_old.output f.site_new.output → ⊥
  pub source : Rose f.source_old f.source_new → ⊥
