-- The files, seen by what each one has in it.
use Rattle.std.specs.Prelude.{ℕ, List, Option, Some, None}
use Rattle.std.specs.FinMap.{FinMap, get}
use Rattle.pg_disk.specs.declared.file_id.FileId.{FileId}
use Rattle.pg_disk.specs.Account.{FileState}
use Rattle.pg_disk.specs.Files.{file_cmp, Files}

-- what each file has in it, if it is there
abbrev pub Contents : Type 0
Contents = FileId → Option (List ℕ)

-- the bytes that a read of the file gives
abbrev pub bytes_of : Option FileState → Option (List ℕ)
bytes_of None = None
bytes_of (Some s) = Some s.bytes

-- the contents as read
abbrev pub as_read : FinMap file_cmp FileState → Contents
as_read files = λ file. bytes_of (get files file)

-- the contents that a crash left
abbrev pub as_left : Files → Contents
as_left image = λ file. get image file
