-- What the files mean at every moment of a call above the layers of files.
use Rattle.std.specs.Prelude.{◌≡◌, ◌⊎◌, ℕ, List, Option}
use Rattle.pg_disk.specs.declared.disk.Disk.{Ghosts}
use Rattle.pg_disk.specs.Account.{Account, account, IsHonest}
use Rattle.pg_disk.specs.Files.{Files}
use Rattle.pg_disk.specs.Image.{Leaves}
use Rattle.pg_disk.specs.Moments.{Within}

-- A meaning of files, by what was told when the call began.
abbrev pub Meaning : Type 1
Meaning = Option Account → Files → Type 0

-- a crash leaves files that have this meaning, and nothing more is told
pub record LeavesMeaning (M : Meaning) (tells : Option Account) (c : Files) (b : List ℕ) : Type 0 where
  pub honest : IsHonest tells
  pub nothing : b ≡ (account tells).told
  pub means : M tells c

-- whatever a crash leaves now has this meaning
abbrev pub Means : (Files → Type 0) → Option Account → Type 0
Means M tells = (c : Files) (b : List ℕ) → Leaves tells c b → M c

-- the one meaning or the other
abbrev pub Either : Meaning → Meaning → Meaning
Either M N tells c = M tells c ⊎ N tells c

-- A call is quiet: at each moment a crash leaves files of this meaning.
abbrev pub Quiet : {D : Type 0} → Ghosts D → Meaning → D → D → Type 0
Quiet m M old new = Within m old new (LeavesMeaning M)

-- A call decides: at each moment a crash leaves files of the one meaning, or, from some moment on, of the other.
abbrev pub Decides : {D : Type 0} → Ghosts D → Meaning → Meaning → D → D → Type 0
Decides m M N old new = Quiet m (Either M N) old new
