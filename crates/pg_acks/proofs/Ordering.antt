-- The order of rows and pages.
use Rattle.std.proofs.Common.{◌≡◌, ◌+◌, ◌<◌, ◌⊎◌, ℕ, List, [], ◌∷◌, map, inl, inr, sym, subst, arith}
use Rattle.std.proofs.lemmas.Grind.{common_steps}
use Rattle.std.proofs.lemmas.Bool.{cases_eq}
use Rattle.std.proofs.lemmas.List.Elements.{All-head, All-tail}
use Rattle.std.proofs.lemmas.Map.Keys.{sorted_head, sorted_tail}
use Rattle.std.proofs.lemmas.Map.Views.{All-found}
use Rattle.std.specs.Prelude.{All, Result, Ok, Err, IfOk, Some, IsSome}
use Rattle.std.specs.List.{AllByRecursion}
use Rattle.std.specs.List.Sorted.{IsStrictlySortedBy}
use Rattle.std.specs.Map.{keys_of}
use Rattle.std.specs.declared.cmp.Ordering.TheVariants.{Less}
use Rattle.std.specs.Ordering.{nat_cmp}
use Rattle.std.specs.BTreeMap.{BTreeMap, get}
use Rattle.std.specs.BTreeSet as sorted
use Rattle.std.specs.BTreeSet.{BTreeSet}
use Rattle.pg_acks.specs.declared.row.AckRow.{AckRow}
use Rattle.pg_acks.specs.Acked.{AreLongestRuns, ArePagesInOrder, ArePagesOf, AreRowsOf, IsBehind, IsPageBehind}
use Rattle.pg_acks.specs.Kept.{RunsAreKept, row_of, seen}
use Rattle.pg_acks.specs.Keys.{At, Key, at_cmp, key_cmp}
use Rattle.pg_acks.proofs.Keys.{key_total}
use Rattle.pg_acks.proofs.Seeing.{pages_seen, rows_seen}

nat_less : (a b : ℕ) → nat_cmp a b ≡ Less → a < b
nat_less a b less = grind (arith, common_steps, less)

-- pages in the order of their keys
pub page_behind : (a b : At) → at_cmp a b ≡ Less → IsPageBehind a b
page_behind a b less = by (cases_eq a.0 b.0)
  where
    by : (a.0 ≡ b.0) ⊎ (a.0 ≡ b.0 → ⊥) → IsPageBehind a b
    by (inl same) = inr (same, grind (arith, common_steps, same, less))
    by (inr apart) = inl (grind (arith, common_steps, apart, less))

pages_behind : (a : At) (pages : List At) → AllByRecursion (λ b. at_cmp a b ≡ Less) pages → AllByRecursion (IsPageBehind a) pages
pages_behind a [] above = above
pages_behind a (b ∷ pages) above = (page_behind a b above.0, pages_behind a pages above.1)

pub pages_in_order : (pages : List At) → IsStrictlySortedBy at_cmp pages → ArePagesInOrder pages
pages_in_order [] sorted = tt
pages_in_order (a ∷ pages) sorted = (pages_behind a pages (sorted_head at_cmp a pages sorted), pages_in_order pages (sorted_tail at_cmp a pages sorted))

-- rows in the order of their keys, on one page with a gap between them
abbrev IsFound : BTreeMap Key ℕ → Key × ℕ → Type 0
IsFound runs e = get key_cmp runs e.0 ≡ Some e.1

row_behind : (runs : BTreeMap Key ℕ) (a b : Key × ℕ) → RunsAreKept runs → IsFound runs a → IsFound runs b → key_cmp a.0 b.0 ≡ Less → IsBehind (row_of a) (row_of b)
row_behind runs a b kept first second less = by (cases_eq a.0.0.0 b.0.0.0) (cases_eq a.0.0.1 b.0.0.1)
  where
    by : (a.0.0.0 ≡ b.0.0.0) ⊎ (a.0.0.0 ≡ b.0.0.0 → ⊥) → (a.0.0.1 ≡ b.0.0.1) ⊎ (a.0.0.1 ≡ b.0.0.1 → ⊥) → IsBehind (row_of a) (row_of b)
    by (inr queues) _ = inl (grind (arith, common_steps, queues, less))
    by (inl queue) (inr pages) = inr (queue, inl (grind (arith, common_steps, queue, pages, less)))
    by (inl queue) (inl page) = inr (queue, inr (page, gap))
      where
        at : b.0.0 ≡ a.0.0
        at = grind (arith, common_steps, queue, page)

        lower : a.0.1 < b.0.1
        lower = grind (arith, common_steps, queue, page, less)

        there : IsSome (get key_cmp runs (a.0.0, b.0.1))
        there = subst (λ (x : At). IsSome (get key_cmp runs (x, b.0.1))) at (grind (arith, common_steps, second))

        gap : a.1 + 1 < b.0.1
        gap = (kept.each a.0.0).apart a.0.1 a.1 b.0.1 first there lower

rows_behind : (runs : BTreeMap Key ℕ) (a : Key × ℕ) (es : List (Key × ℕ)) → RunsAreKept runs → IsFound runs a → All (IsFound runs) es → AllByRecursion (λ key. key_cmp a.0 key ≡ Less) (keys_of es)
    → AllByRecursion (IsBehind (row_of a)) (map row_of es)
rows_behind runs a [] kept first found above = tt
rows_behind runs a (b ∷ es) kept first found above =
    (row_behind runs a b kept first (All-head (IsFound runs) b es found) above.0, rows_behind runs a es kept first (All-tail (IsFound runs) b es found) above.1)

longest : (runs : BTreeMap Key ℕ) (es : List (Key × ℕ)) → RunsAreKept runs → All (IsFound runs) es → IsStrictlySortedBy key_cmp (keys_of es) → AreLongestRuns (map row_of es)
longest runs [] kept found sorted = tt
longest runs (e ∷ es) kept found sorted =
    let first : IsFound runs e = All-head (IsFound runs) e es found in
    let rest = All-tail (IsFound runs) e es found in (
      (kept.each e.0.0).full e.0.1 e.1 first,
      rows_behind runs e es kept first rest (sorted_head key_cmp e.0 (keys_of es) sorted),
      longest runs es kept rest (sorted_tail key_cmp e.0 (keys_of es) sorted),
    )

pub longest_runs : (runs : BTreeMap Key ℕ) → RunsAreKept runs → AreLongestRuns (map row_of runs.entries)
longest_runs runs kept = longest runs runs.entries kept (All-found key_total runs kept.ordered) kept.ordered

-- what a value has, another fact on it tells
pub if_ok_map : {T E : Type 0} (r : Result T E) (P Q : T → Type 0) → ((x : T) → P x → Q x) → IfOk r P → IfOk r Q
if_ok_map (Ok x) P Q tells has = tells x has
if_ok_map (Err e) P Q tells has = has

-- the runs as rows, and the pages, are those of the sets
pub rows_told : (runs : BTreeMap Key ℕ) (pages : BTreeSet At) → RunsAreKept runs → (rows : List AckRow) → rows ≡ map row_of runs.entries → AreRowsOf (seen runs pages) rows
rows_told runs pages kept rows is =
    subst (AreRowsOf (seen runs pages)) (sym is) (record { longest = longest_runs runs kept; told = λ queue position. rows_seen runs pages queue position })

pub pages_told : (runs : BTreeMap Key ℕ) (pages : BTreeSet At) → sorted.IsOrdered at_cmp pages → (told : List At) → told ≡ pages.keys → ArePagesOf (seen runs pages) told
pages_told runs pages ordered told is =
    subst (ArePagesOf (seen runs pages)) (sym is) (record { ascending = pages_in_order pages.keys ordered; told = λ queue page. pages_seen runs pages queue page })
