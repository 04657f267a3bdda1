-- The runs of one page: from the first index of each to its last.
use Rattle.std.specs.Prelude.{◌≡◌, ◌<◌, ◌≤◌, ◌+◌, ◌==◌, ◌⊎◌, ◌^◌, ℕ, Option, Some, None, IsSome, if◌then◌else◌}
use Rattle.std.specs.BTreeMap.{BTreeMap, get}
use Rattle.pg_acks.specs.Keys.{At, Key, key_cmp}

-- A run is kept by its queue and page and by its first index. This is the last index of the one that begins there.
abbrev pub starts : BTreeMap Key ℕ → At → ℕ → Option ℕ
starts runs at first = get key_cmp runs (at, first)

-- each run has one index at least, the indexes have 32 bits, and another run of the page begins behind a gap
pub record AreRuns (run : ℕ → Option ℕ) : Type 0 where
  pub full : (first last : ℕ) → run first ≡ Some last → first ≤ last
  pub within : (first last : ℕ) → run first ≡ Some last → last < 2 ^ 32
  pub apart : (first last next : ℕ) → run first ≡ Some last → IsSome (run next) → first < next → last + 1 < next

-- a run has the index
pub record Covers (run : ℕ → Option ℕ) (index : ℕ) : Type 0 where
  pub first : ℕ
  pub last : ℕ
  pub is : run first ≡ Some last
  pub from : first ≤ index
  pub to : index ≤ last

-- a run has one of the indexes between these
pub record CoversAny (run : ℕ → Option ℕ) (from to : ℕ) : Type 0 where
  pub index : ℕ
  pub low : from ≤ index
  pub high : index ≤ to
  pub covers : Covers run index

-- With the index, a run begins there: at the index, which no run has and right before which none ends, or at the first
-- of the run that ends right before it.
abbrev pub BeginsAt : (ℕ → Option ℕ) → ℕ → ℕ → Type 0
BeginsAt run index first =
    ((first ≡ index) × ((other last : ℕ) → run other ≡ Some last → other ≤ index → last + 1 < index))
    ⊎ ((last : ℕ) × (run first ≡ Some last) × (last + 1 ≡ index))

-- With the index, it ends there: at the index, right behind which no run begins, or at the last of the run that does.
abbrev pub EndsAt : (ℕ → Option ℕ) → ℕ → ℕ → Type 0
EndsAt run index last = ((last ≡ index) × (run (index + 1) ≡ None)) ⊎ (run (index + 1) ≡ Some last)

-- the runs where one from the first to the last is put in place of those that a run up to the index joins
abbrev pub joined : (ℕ → Option ℕ) → ℕ → ℕ → ℕ → ℕ → Option ℕ
joined run first index last other = if other == index + 1 then None else if other == first then Some last else run other
