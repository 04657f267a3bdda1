-- Files by their ids, in the order of the listing.
use Rattle.std.specs.Prelude.{ℕ, List}
use Rattle.std.specs.declared.cmp.Ordering.{Ordering}
use Rattle.std.specs.Ordering.{nat_cmp, ordering_then}
use Rattle.std.specs.FinMap.{FinMap}
use Rattle.pg_disk.specs.declared.file_id.Kind.{Kind}
use Rattle.pg_disk.specs.declared.file_id.Kind.TheVariants.{Journal, Page, Large}
use Rattle.pg_disk.specs.declared.file_id.FileId.{FileId}

-- the kinds in their order
abbrev pub rank : Kind → ℕ
rank Journal = 0
rank Page = 1
rank Large = 2

-- by kind, owner and number
abbrev pub file_cmp : FileId → FileId → Ordering
file_cmp a b =
    ordering_then (nat_cmp (rank a.kind) (rank b.kind))
    (ordering_then (nat_cmp a.owner b.owner) (nat_cmp a.number b.number))

-- what a directory has in it
abbrev pub Files : Type 0
Files = FinMap file_cmp (List ℕ)
