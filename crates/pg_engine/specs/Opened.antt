-- The states in which a broker is opened over files.
use Rattle.std.specs.Prelude.{◌≡◌, ℕ, List, [], Option, length}
use Rattle.pg_disk.specs.Account.{Account, account, AllQuiet}
use Rattle.pg_disk.specs.Files.{Files}
use Rattle.pg_disk.specs.Meanings.{Either, LeavesMeaning}
use Rattle.pg_disk.specs.Views.{as_read, as_left}
use Rattle.pg_recover.specs.declared.recovering.Parts.{Parts}
use Rattle.pg_model.specs.Broker.{Broker, Durable, next_epoch, opened_from}
use Rattle.pg_recover.specs.Denotation.{Denotes}
use Rattle.pg_recover.specs.Recovered.{IsBegun}
use Rattle.pg_recover.specs.WellFormed.{AreRoomy, WellFormed}
use Rattle.pg_engine.specs.declared.engine.Engine.{Engine}
use Rattle.pg_engine.specs.Executed.{StandsAt}

-- the state is the one that is opened from what the files denote
pub record IsOpened (ids : ℕ) (tells : Option Account) (first : Broker) : Type 0 where
  pub durable : Durable
  pub denoted : Denotes (as_read (account tells).files) durable
  pub opened : first ≡ opened_from ids durable

-- the engine stands for that state, and owns the files, of which nothing is pending and which are well formed if they
-- were
pub record OpensAt (ids : ℕ) (old new : Option Account) (engine : Engine) : Type 0 where
  pub first : Broker
  pub opened : IsOpened ids old first
  pub stands : StandsAt engine first new
  pub quiet : AllQuiet (account new).files
  pub well : WellFormed (as_read (account old).files) → WellFormed (as_read (account new).files)

-- the files denote what this makes of what they denoted, and well formed files stay so
pub record DenotesAs (change : Durable → Durable) (tells : Option Account) (image : Files) : Type 0 where
  pub denoted : (d : Durable) → Denotes (as_read (account tells).files) d → Denotes (as_left image) (change d)
  pub well : WellFormed (as_read (account tells).files) → WellFormed (as_left image)

-- What a crash within an opening leaves: what was denoted, or that in the next epoch, with nothing told.
abbrev pub LeavesEpoch : Option Account → Files → List ℕ → Type 0
LeavesEpoch = LeavesMeaning (Either (DenotesAs (λ d. d)) (DenotesAs next_epoch))

-- what an engine is made of: a sound state in a new epoch, whose messages have room, and a mark for each address
pub record AreParts (parts : Parts) : Type 0 where
  pub begun : IsBegun parts.durable
  pub roomy : AreRoomy parts.durable
  pub counted : length parts.paged.items ≡ length parts.durable.addresses

-- the engine of these parts, which has drawn no id and has no consumer
abbrev pub engine_of : ℕ → Parts → Engine
engine_of ids parts =
    record {
      journal = parts.journal;
      state = record { durable = parts.durable; drawn = 0; ids = ids; paged = parts.paged.items; consumers = [] };
    }
