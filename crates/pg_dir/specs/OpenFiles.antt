-- Which files stay open where a further one is opened.
use Rattle.std.specs.Prelude.{List, drop, length, nat_lt, if◌then◌else◌}
use Rattle.pg_disk.specs.declared.file_id.FileId.{FileId}

-- all of fewer than 512, and else all but the first one, whose last use is the longest ago
abbrev pub with_room : List FileId → List FileId
with_room files = if nat_lt (length files) 512 then files else drop 1 files
