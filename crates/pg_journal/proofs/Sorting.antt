-- The generations in their order.
use Rattle.std.proofs.Common.{◌≡◌, inl, inr, ℕ, false, List, get_or, arith, is_lt, nat_cmp}
use Rattle.std.specs.Ordering.{ordering_then}
use Rattle.std.specs.List.Sorted.{IsSortedByKey}
use Rattle.std.specs.Cmp.{nat_cmp_total}
use Rattle.std.proofs.lemmas.Cmp.{on_total, then_total}
use Rattle.std.proofs.lemmas.Bool.Decides.{nat_tests}
use Rattle.std.proofs.lemmas.List.Sorted.{ranks_by, sorted_far}
use Rattle.pg_disk.specs.declared.file_id.FileId.{FileId}
use Rattle.pg_journal.specs.Generations.{IsBefore, IsAscending}

-- the number, and then the owner
abbrev pub place_of : FileId → ℕ × ℕ
place_of file = (file.number, file.owner)

-- the less of two places
not_before : (a b : FileId) → is_lt (ordering_then (nat_cmp b.number a.number) (nat_cmp b.owner a.owner)) ≡ false → IsBefore b a → ⊥
not_before a b not (inl less) = grind (arith, nat_tests)
not_before a b not (inr same) = grind (arith, nat_tests)

pub ascends : (files : List FileId) → IsSortedByKey place_of (λ x y. ordering_then (nat_cmp x.0 y.0) (nat_cmp x.1 y.1)) files → IsAscending files
ascends files sorted i j d lt within = not_before (get_or files i d) (get_or files j d) (sorted_far _ (ranks_by (then_total (on_total (λ (p : ℕ × ℕ). p.0) nat_cmp_total) (on_total (λ (p : ℕ × ℕ). p.1) nat_cmp_total)) place_of) files sorted i j d (omega (arith, lt)) within)
