-- The queues by their ids, and what the calls make of them.
use Rattle.std.specs.Prelude.{◌==◌, ◌≡◌, ◌<◌, ℕ, Bool, not, Option, List, [], map, filter, find, AllPairs, if◌then◌else◌}
use Rattle.std.specs.List.{list_any, AllByRecursion}
use Rattle.std.specs.Option.{option_map_or}
use Rattle.std.specs.Ordering.{nat_cmp}
use Rattle.std.specs.BTreeMap.{BTreeMap, IsOrdered}
use Rattle.pg_queue.specs.Entries.{Contents, Entry, with_entries}

-- the queue with that id
abbrev pub queue_with : ℕ → List Contents → Option Contents
queue_with id queues = find (λ queue. queue.id == id) queues

abbrev pub has_queue : ℕ → List Contents → Bool
has_queue id queues = list_any (λ queue. queue.id == id) queues

-- the entries of the queue with that id, and none where there is no such queue
abbrev pub entries_in : ℕ → List Contents → List Entry
entries_in id queues = option_map_or (λ queue. queue.entries) (queue_with id queues) []

-- the entries of the queue with that id are changed so, and those of the others stay
abbrev pub changed_at : ℕ → (List Entry → List Entry) → List Contents → List Contents
changed_at id change queues =
    map {A = Contents} (λ queue. if queue.id == id then with_entries (change queue.entries) queue else queue) queues

-- the queues but the one with that id
abbrev pub without_queue : ℕ → List Contents → List Contents
without_queue id queues = filter (λ queue. not (queue.id == id)) queues

-- each id is below those behind it
abbrev pub AreAscending : List Contents → Type 0
AreAscending queues = AllPairs (λ queue other. queue.id < other.id) queues

-- ---- how they are kept
-- the queue stands at its own id
abbrev pub StandsAtItsId : ℕ × Contents → Type 0
StandsAtItsId entry = entry.0 ≡ entry.1.id

-- each of them does, and the ids ascend
pub record StandAtTheirIds (by_id : BTreeMap ℕ Contents) : Type 0 where
  pub ordered : IsOrdered nat_cmp by_id
  pub at_id : AllByRecursion StandsAtItsId by_id.entries
