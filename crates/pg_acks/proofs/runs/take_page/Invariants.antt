use Rattle.std.proofs.Common.{◌≡◌, ◌≤◌, ◌^◌, ℕ, false}
use Rattle.std.specs.Prelude.{None}
use Rattle.std.specs.BTreeMap as tree
use Rattle.pg_acks.specs.Keys.{At, same_at}
use Rattle.pg_acks.specs.Runs.{starts}
use Rattle.pg_acks.proofs.runs.take_page.Given as goal

-- other pages stay as they are, and no run of this one begins past 32 bits
abbrev pub invariant-loop-first : goal.invariant-loop-first
invariant-loop-first l = record {
  others : (other : At) (k : ℕ) → same_at l.at other ≡ false → starts l.runs other k ≡ starts l.fn.runs other k;
  past : (k : ℕ) → 2 ^ 32 ≤ k → starts l.runs l.at k ≡ None;
}

abbrev pub decreases-loop-first : goal.decreases-loop-first
decreases-loop-first l = tree.btree_map_len l.runs
