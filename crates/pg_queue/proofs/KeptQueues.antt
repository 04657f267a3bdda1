-- From what is kept by ids to the list of queues that it is seen as.
use Rattle.std.proofs.Common.{◌≡◌, ℕ, List, [], sym, ap, ◌∙◌, subst}
use Rattle.std.specs.Prelude.{Option, Some, None, Result, Ok, Err, OnOk, OnErr, IfSome, IfNone, true}
use Rattle.std.specs.List.{AllByRecursion}
use Rattle.std.specs.Option.{option_map_or}
use Rattle.std.specs.Ordering.{nat_cmp}
use Rattle.std.specs.Map.{set_value, values_of}
use Rattle.std.specs.BTreeMap.{BTreeMap, IsOrdered, get, is_at, values}
use Rattle.std.proofs.lemmas.Map.Steps.{set_value_same}
use Rattle.pg_queue.specs.declared.taken.Taken.{Taken}
use Rattle.pg_queue.specs.Entries.{Contents, Entry, entry_of, marked, with_entries}
use Rattle.pg_queue.specs.Queues.{StandAtTheirIds, StandsAtItsId, changed_at, entries_in, queue_with}
use Rattle.pg_queue.proofs.ByIds.{found, none_changed, seen_set, still_at_set}

abbrev pub Kept : Type 0
Kept = BTreeMap ℕ Contents

-- the queue with the id is the one that is found by it
pub looked_up : (kept : Kept) (queues : List Contents) (id : ℕ) (own : Option Contents) → StandAtTheirIds kept → values kept ≡ queues → get nat_cmp kept id ≡ own → queue_with id queues ≡ own
looked_up kept queues id own stand seen_is is = ap (queue_with id) (sym seen_is) ∙ sym (found id kept.entries stand.at_id) ∙ is

pub entries_of : (kept : Kept) (queues : List Contents) (id : ℕ) (own : Option Contents) → StandAtTheirIds kept → values kept ≡ queues → get nat_cmp kept id ≡ own
    → entries_in id queues ≡ option_map_or (λ queue. queue.entries) own []
entries_of kept queues id own stand seen_is is = ap (λ (queue : Option Contents). option_map_or (λ q. q.entries) queue []) (looked_up kept queues id own stand seen_is is)

-- where there is no such queue, nothing changes
pub stays : (kept : Kept) (queues : List Contents) (id : ℕ) (change : List Entry → List Entry) → StandAtTheirIds kept → values kept ≡ queues → get nat_cmp kept id ≡ None
    → changed_at id change queues ≡ queues
stays kept queues id change stand seen_is is = none_changed id change queues (looked_up kept queues id None stand seen_is is)

-- where the queue that was found is changed so, the list is
pub changes : (kept after : Kept) (queues : List Contents) (id : ℕ) (change : List Entry → List Entry) (old new : Contents) → StandAtTheirIds kept → values kept ≡ queues → get nat_cmp kept id ≡ Some old
    → after.entries ≡ set_value (is_at (nat_cmp id)) kept.entries new → new ≡ with_entries (change old.entries) old → values after ≡ changed_at id change queues
changes kept after queues id change old new stand seen_is is put changed =
    ap values_of (put ∙ ap (set_value (is_at (nat_cmp id)) kept.entries) changed)
    ∙ seen_set id change old kept.entries stand.at_id stand.ordered is
    ∙ ap (changed_at id change) seen_is

pub still_stands : (kept after : Kept) (id : ℕ) (old new : Contents) → StandAtTheirIds kept → get nat_cmp kept id ≡ Some old → after.entries ≡ set_value (is_at (nat_cmp id)) kept.entries new
    → IsOrdered nat_cmp after → new.id ≡ old.id → StandAtTheirIds after
still_stands kept after id old new stand is put ordered same =
    record { ordered = ordered; at_id = subst (AllByRecursion StandsAtItsId) (sym put) (still_at_set id old new kept.entries stand.at_id is same) }

-- where it is put back as it was, all is as it was
pub as_before : (kept after : Kept) (queues : List Contents) (id : ℕ) (old new : Contents) → values kept ≡ queues → get nat_cmp kept id ≡ Some old
    → after.entries ≡ set_value (is_at (nat_cmp id)) kept.entries new → new ≡ old → values after ≡ queues
as_before kept after queues id old new seen_is is put same = ap values_of (put ∙ set_value_same (is_at (nat_cmp id)) kept.entries new (is ∙ ap Some (sym same))) ∙ seen_is

-- a call that may fail leaves the queue its id, whether it did or not
pub either_id : {T E : Type 0} (result : Result T E) (old new : Contents) (entries : List Entry) → OnOk result (new ≡ with_entries entries old) → OnErr result (new ≡ old) → new.id ≡ old.id
either_id (Ok value) old new entries ok err = ap (λ (queue : Contents). queue.id) ok
either_id (Err error) old new entries ok err = ap (λ (queue : Contents). queue.id) err

-- ---- where an entry may have been given
-- the queue with the entry taken that was given
abbrev pub Gives : Option Taken → Contents → Contents → Type 0
Gives result old new = IfSome result (λ given. new ≡ with_entries (marked true (entry_of given) old.entries) old)

pub given_id : (result : Option Taken) (old new : Contents) → Gives result old new → IfNone result (new ≡ old) → new.id ≡ old.id
given_id (Some given) old new taken none = ap (λ (queue : Contents). queue.id) taken
given_id None old new taken none = ap (λ (queue : Contents). queue.id) none

pub changes_given : (kept after : Kept) (queues : List Contents) (id : ℕ) (result : Option Taken) (old new : Contents) → StandAtTheirIds kept → values kept ≡ queues → get nat_cmp kept id ≡ Some old
    → after.entries ≡ set_value (is_at (nat_cmp id)) kept.entries new → Gives result old new → IfSome result (λ given. values after ≡ changed_at id (marked true (entry_of given)) queues)
changes_given kept after queues id None old new stand seen_is is put taken = tt
changes_given kept after queues id (Some given) old new stand seen_is is put taken = changes kept after queues id (marked true (entry_of given)) old new stand seen_is is put taken

pub before_none : (kept after : Kept) (queues : List Contents) (id : ℕ) (result : Option Taken) (old new : Contents) → values kept ≡ queues → get nat_cmp kept id ≡ Some old
    → after.entries ≡ set_value (is_at (nat_cmp id)) kept.entries new → IfNone result (new ≡ old) → IfNone result (values after ≡ queues)
before_none kept after queues id None old new seen_is is put same = as_before kept after queues id old new seen_is is put same
before_none kept after queues id (Some given) old new seen_is is put same = tt
