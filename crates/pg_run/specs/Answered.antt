-- What answering one line does.
use Rattle.std.specs.Prelude.{◌≡◌, ℕ, List, [], ◌∷◌, Result, MatchResult}
use Rattle.pg_disk.specs.declared.disk.Disk.{Ghosts}
use Rattle.pg_disk.specs.declared.fault.SiteFault.{SiteFault}
use Rattle.pg_disk.specs.declared.fault.SiteFault.TheVariants.{Disk, Sink}
use Rattle.pg_engine.specs.declared.engine.Engine.{Engine}
use Rattle.pg_model.specs.Broker.{Broker}
use Rattle.pg_engine.specs.Executed.{IsDamaged}
use Rattle.pg_run.specs.Served.{LeavesBetween, Serves, ServesAll}

-- a reply is told in part only where the output failed
abbrev pub IsPartOf : SiteFault → List ℕ → Type 0
IsPartOf (Disk fault) part = part ≡ []
IsPartOf Sink part = Unit {0}

-- At Ok the line was served. At Err it wasn't begun, or was interrupted.
abbrev pub Answers : {D : Type 0} (m : Ghosts D) (first : Broker) (line : List ℕ) (old new : D)
    (result : Result Engine SiteFault) → Type 0
Answers m first line old new result =
    MatchResult result (λ engine. ServesAll m first (line ∷ []) old new engine)
    (λ fault. (serves : Serves LeavesBetween m first (line ∷ []) old new) × IsPartOf fault serves.told.part)

-- a file is damaged
abbrev pub IsDamagedSite : SiteFault → Type 0
IsDamagedSite (Disk fault) = IsDamaged fault
IsDamagedSite Sink = ⊥
