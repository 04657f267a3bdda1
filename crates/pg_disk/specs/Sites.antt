-- What is said of a disk as a whole, by its meanings.
use Rattle.std.specs.Prelude.{◌≡◌, ℕ, List, Option, Some}
use Rattle.std.specs.FinMap.{FinMap, get}
use Rattle.pg_disk.specs.declared.file_id.FileId.{FileId}
use Rattle.pg_disk.specs.declared.disk.Disk.{Ghosts}
use Rattle.pg_disk.specs.Account.{FileState, Account, account, IsHonest}
use Rattle.pg_disk.specs.Calls.{Changes}
use Rattle.pg_disk.specs.Files.{file_cmp}

-- where the disk is honest, this holds of its files
abbrev pub OnFiles : {D : Type 0} → Ghosts D → D → (FinMap file_cmp FileState → Type 0) → Type 0
OnFiles m now P = IsHonest (m.tells now) → P (account (m.tells now)).files

-- where it is honest at entry, this holds of its files at entry and at exit
abbrev pub OnBoth : {D : Type 0} → Ghosts D → D → D → (FinMap file_cmp FileState → FinMap file_cmp FileState → Type 0)
    → Type 0
OnBoth m old new P = IsHonest (m.tells old) → P (account (m.tells old)).files (account (m.tells new)).files

-- where it is honest, this holds of this file, or of its absence
abbrev pub OnFile : {D : Type 0} → Ghosts D → D → FileId → (Option FileState → Type 0) → Type 0
OnFile m now file P = IsHonest (m.tells now) → P (get (account (m.tells now)).files file)

-- where it is honest and the file is there, this holds of the bytes that a read gives
abbrev pub OnBytes : {D : Type 0} → Ghosts D → D → FileId → (List ℕ → Type 0) → Type 0
OnBytes m now file P =
    IsHonest (m.tells now) → (s : FileState) → get (account (m.tells now)).files file ≡ Some s → P s.bytes

-- honesty is kept in both directions, and an honest disk changes so
abbrev pub Steps : {D : Type 0} → Ghosts D → D → D → (Account → Account → Type 0) → Type 0
Steps m old new change = Changes (m.tells old) (m.tells new) change

-- the same, and this of the file at exit
abbrev pub OnBytesThen : {D : Type 0} → Ghosts D → D → D → FileId → (List ℕ → Option FileState → Type 0) → Type 0
OnBytesThen m old new file P = OnBytes m old file (λ bytes. P bytes (get (account (m.tells new)).files file))

-- the same, and this of how many bytes are read
abbrev pub OnTaken : {D : Type 0} → Ghosts D → D → D → FileId → (List ℕ → Account → Account → Type 0) → Type 0
OnTaken m old new file P = OnBytes m old file (λ bytes. P bytes (account (m.tells old)) (account (m.tells new)))

-- where it is honest at entry, this holds of all that it tells at entry and at exit
abbrev pub OnAccounts : {D : Type 0} → Ghosts D → D → D → (Account → Account → Type 0) → Type 0
OnAccounts m old new P = IsHonest (m.tells old) → P (account (m.tells old)) (account (m.tells new))
