-- Files that are well formed stay so.
use Rattle.std.specs.Prelude.{Option}
use Rattle.pg_disk.specs.Account.{Account, account, AllQuiet}
use Rattle.pg_disk.specs.Files.{Files}
use Rattle.pg_disk.specs.Views.{as_read, as_left}
use Rattle.pg_recover.specs.WellFormed.{WellFormed}

-- Where nothing was pending and the files were well formed, so is what is left of them.
abbrev pub LeavesWell : Option Account → Files → Type 0
LeavesWell tells image =
    AllQuiet (account tells).files → WellFormed (as_read (account tells).files) → WellFormed (as_left image)

-- Where nothing was pending nothing is, and files that were well formed are, as they read.
pub record StaysWell (old new : Option Account) : Type 0 where
  pub quiet : AllQuiet (account old).files → AllQuiet (account new).files
  pub well : AllQuiet (account old).files → WellFormed (as_read (account old).files)
      → WellFormed (as_read (account new).files)
