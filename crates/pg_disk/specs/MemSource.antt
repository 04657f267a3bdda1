-- What a source in memory shows of itself.
use Rattle.std.specs.Prelude.{ℕ, ◌+◌, ◌-◌, ◌^◌, min, List, drop, Option, Some}
use Rattle.pg_disk.specs.declared.memory_source.MemSource.{MemSource}

-- what is left to read
abbrev pub rest_of : MemSource → List ℕ
rest_of s = drop s.at s.bytes.items

abbrev pub rest_told : MemSource → Option (List ℕ)
rest_told s = Some (rest_of s)

-- the numbers of the reads that are to fail
abbrev pub named_reads : MemSource → List ℕ
named_reads s = s.named_reads.items

-- the number of the next read. At its type's end it stands still
abbrev pub next_read : MemSource → ℕ
next_read s = min (s.reads + 1) (2 ^ 64 - 1)

abbrev pub faults_of : MemSource → ℕ
faults_of s = s.faults
