-- By what positions and pages of all queues are told apart.
use Rattle.std.specs.Prelude.{◌==◌, ◌&&◌, ℕ, Bool}
use Rattle.std.specs.declared.cmp.Ordering.{Ordering}
use Rattle.std.specs.Ordering.{nat_cmp, ordering_then}

-- a queue and one of its pages
abbrev pub At : Type 0
At = ℕ × ℕ

abbrev pub at_cmp : At → At → Ordering
at_cmp a b = ordering_then (nat_cmp a.0 b.0) (nat_cmp a.1 b.1)

-- an index on a page of a queue
abbrev pub Key : Type 0
Key = At × ℕ

abbrev pub key_cmp : Key → Key → Ordering
key_cmp a b = ordering_then (at_cmp a.0 b.0) (nat_cmp a.1 b.1)

abbrev pub same_at : At → At → Bool
same_at a b = (b.0 == a.0) && (b.1 == a.1)
