-- What is acknowledged: single positions, and whole pages.
use Rattle.std.specs.Prelude.{◌≡◌, ◌<◌, ◌≤◌, ◌+◌, ◌-◌, ◌==◌, ◌&&◌, ◌||◌, ◌⊎◌, ℕ, zero, suc, Bool, not, List, [], ◌∷◌, nat_le, refl}
use Rattle.std.specs.Coded.{Coded, code_by, coded×, coded_ℕ}
use Rattle.std.specs.FinSet as set
use Rattle.std.specs.List.{AllByRecursion, list_any}
use Rattle.pg_acks.specs.declared.position.Position.{Position}
use Rattle.pg_acks.specs.declared.row.AckRow.{AckRow}
use Rattle.pg_acks.specs.Keys.{At, at_cmp, key_cmp, same_at}

-- the single positions by queue, page and index, and the whole pages by queue and page
pub record AckSets : Type 0 where
  pub singles : set.FinSet key_cmp
  pub wholes : set.FinSet at_cmp

abbrev pub ack_sets_code : Coded AckSets
ack_sets_code =
    code_by (set.FinSet key_cmp × set.FinSet at_cmp)
    (coded× (set.code (coded× (coded× coded_ℕ coded_ℕ) coded_ℕ)) (set.code (coded× coded_ℕ coded_ℕ)))
    (λ acks. (acks.singles, acks.wholes)) (λ parts. record { singles = parts.0; wholes = parts.1 }) (λ _. refl)

-- nothing is acknowledged
abbrev pub no_acks : AckSets
no_acks = record { singles = set.empty; wholes = set.empty }

-- ---- what is asked
-- the position is a single one of the queue
abbrev pub is_single : AckSets → ℕ → Position → Bool
is_single acks queue position = set.contains acks.singles ((queue, position.page), position.index)

-- the page is whole at the queue
abbrev pub is_whole : AckSets → ℕ → ℕ → Bool
is_whole acks queue page = set.contains acks.wholes (queue, page)

-- a position is acknowledged where it is a single one, or its page is whole
abbrev pub is_acknowledged : AckSets → ℕ → Position → Bool
is_acknowledged acks queue position = is_single acks queue position || is_whole acks queue position.page

-- so many indexes, from the first one on
abbrev pub indexes : ℕ → ℕ → List ℕ
indexes first zero = []
indexes first (suc count) = first ∷ indexes (first + 1) count

-- the indexes from one to another, both included
abbrev pub indexes_between : ℕ → ℕ → List ℕ
indexes_between from to = indexes from (to + 1 - from)

-- the position of a page and an index
abbrev pub position_at : ℕ → ℕ → Position
position_at page index = record { page = page; index = index }

-- some position of the page between these indexes, both included, is acknowledged
abbrev pub any_acknowledged : AckSets → ℕ → ℕ → ℕ → ℕ → Bool
any_acknowledged acks queue page from to =
    list_any (λ index. is_acknowledged acks queue (position_at page index)) (indexes_between from to)

-- ---- what changes
-- the positions, and besides them those of the page with these indexes
abbrev pub with_indexes : At → List ℕ → set.FinSet key_cmp → set.FinSet key_cmp
with_indexes at [] singles = singles
with_indexes at (index ∷ others) singles = set.insert (with_indexes at others singles) (at, index)

-- a position is acknowledged besides
abbrev pub with_position : ℕ → Position → AckSets → AckSets
with_position queue position acks =
    record acks { singles = set.insert acks.singles ((queue, position.page), position.index) }

-- the positions of the page between these indexes, both included, are acknowledged besides
abbrev pub with_run : ℕ → ℕ → ℕ → ℕ → AckSets → AckSets
with_run queue page from to acks =
    record acks { singles = with_indexes (queue, page) (indexes_between from to) acks.singles }

-- the page is acknowledged whole besides, and its positions are no single ones any more
abbrev pub with_page : ℕ → ℕ → AckSets → AckSets
with_page queue page acks = record {
  singles = set.retain acks.singles (λ key. not (same_at (queue, page) key.0));
  wholes = set.insert acks.wholes (queue, page);
}

-- nothing of the queue is acknowledged any more
abbrev pub without_queue : ℕ → AckSets → AckSets
without_queue queue acks = record {
  singles = set.retain acks.singles (λ key. not (key.0.0 == queue));
  wholes = set.retain acks.wholes (λ at. not (at.0 == queue));
}

-- ---- the positions as runs, and the pages as a list
-- the run is one of the queue, and has the position
abbrev pub row_has : ℕ → Position → AckRow → Bool
row_has queue position row =
    ((row.queue == queue) && (row.page == position.page))
    && (nat_le row.from position.index && nat_le position.index row.to)

-- the next run stands behind this one: at a later queue, at a later page, or on the page with a gap between them
abbrev pub IsBehind : AckRow → AckRow → Type 0
IsBehind row next =
    (row.queue < next.queue)
    ⊎ ((row.queue ≡ next.queue) × ((row.page < next.page) ⊎ ((row.page ≡ next.page) × (row.to + 1 < next.from))))

-- runs in their order, each with one position at least and as long as can be
abbrev pub AreLongestRuns : List AckRow → Type 0
AreLongestRuns [] = Unit {0}
AreLongestRuns (row ∷ rows) = (row.from ≤ row.to) × AllByRecursion (IsBehind row) rows × AreLongestRuns rows

-- these are the runs of the single positions
pub record AreRowsOf (acks : AckSets) (rows : List AckRow) : Type 0 where
  pub longest : AreLongestRuns rows
  pub told : (queue : ℕ) (position : Position) → list_any (row_has queue position) rows ≡ is_single acks queue position

-- pages in their order, each once
abbrev pub IsPageBehind : ℕ × ℕ → ℕ × ℕ → Type 0
IsPageBehind page next = (page.0 < next.0) ⊎ ((page.0 ≡ next.0) × (page.1 < next.1))

abbrev pub ArePagesInOrder : List (ℕ × ℕ) → Type 0
ArePagesInOrder [] = Unit {0}
ArePagesInOrder (page ∷ pages) = AllByRecursion (IsPageBehind page) pages × ArePagesInOrder pages

-- these are the whole pages
pub record ArePagesOf (acks : AckSets) (pages : List (ℕ × ℕ)) : Type 0 where
  pub ascending : ArePagesInOrder pages
  pub told : (queue page : ℕ) → list_any (λ other. (other.0 == queue) && (other.1 == page)) pages ≡ is_whole acks queue page
