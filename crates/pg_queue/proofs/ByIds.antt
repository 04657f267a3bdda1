-- The queues as they are kept by their ids, and the list that they are seen as.
use Rattle.std.proofs.Common.{◌≡◌, ℕ, ◌<◌, true, Bool, List, [], ◌∷◌, ◌++◌, refl, ap, ◌∙◌, subst, inl, inr, arith}
use Rattle.std.proofs.lemmas.Grind.{common_steps}
use Rattle.std.specs.Prelude.{◌==◌, All, Some, None}
use Rattle.std.specs.List.{AllByRecursion}
use Rattle.std.specs.List.Sorted.{IsStrictlySortedBy}
use Rattle.std.specs.declared.cmp.Ordering.TheVariants.{Less}
use Rattle.std.specs.Ordering.{nat_cmp}
use Rattle.std.specs.Map.{lookup, remove_entry, set_value, keys_of, values_of}
use Rattle.std.specs.BTreeMap.{insert_entry, is_at}
use Rattle.std.proofs.lemmas.Bool.{cases_Bool}
use Rattle.std.proofs.lemmas.List.{map-append}
use Rattle.std.proofs.lemmas.List.Elements.{All-cons, All-nil, All-head, All-tail}
use Rattle.std.proofs.lemmas.List.Kept.{AllPairs-cons}
use Rattle.std.proofs.lemmas.Map.Keys.{sorted_head, sorted_tail}
use Rattle.pg_queue.specs.Entries.{Contents, Entry, with_entries}
use Rattle.pg_queue.specs.Queues.{AreAscending, StandsAtItsId, changed_at, queue_with, without_queue}

-- the order of ids finds the same as the test of ids
pub tells_same : (id other : ℕ) → is_at (nat_cmp id) other ≡ (other == id)
tells_same id other = grind (arith, common_steps)

pub at_entry : (id : ℕ) (entry : ℕ × Contents) → StandsAtItsId entry → is_at (nat_cmp id) entry.0 ≡ (entry.1.id == id)
at_entry id entry at = ap (is_at (nat_cmp id)) at ∙ tells_same id entry.1.id

-- a look-up by the id finds the queue with it
pub found : (id : ℕ) (entries : List (ℕ × Contents)) → AllByRecursion StandsAtItsId entries → lookup (is_at (nat_cmp id)) entries ≡ queue_with id (values_of entries)
found id [] at = refl
found id (entry ∷ entries) at = grind (arith, common_steps, at_entry id entry at.0, found id entries at.1)

-- ---- where there is no such queue
pub none_changed : (id : ℕ) (change : List Entry → List Entry) (queues : List Contents) → queue_with id queues ≡ None → changed_at id change queues ≡ queues
none_changed id change [] none = refl
none_changed id change (queue ∷ queues) none =
    elim (cases_Bool (queue.id == id)) [
      | inl here ↦ absurd (grind (arith, common_steps, here, none))
      | inr other ↦ grind (arith, common_steps, other, none_changed id change queues (grind (arith, common_steps, other, none)))
    ]

pub none_left_out : (id : ℕ) (queues : List Contents) → queue_with id queues ≡ None → without_queue id queues ≡ queues
none_left_out id [] none = refl
none_left_out id (queue ∷ queues) none =
    elim (cases_Bool (queue.id == id)) [
      | inl here ↦ absurd (grind (arith, common_steps, here, none))
      | inr other ↦ grind (arith, common_steps, other, none_left_out id queues (grind (arith, common_steps, other, none)))
    ]

pub none_above : (id : ℕ) (entries : List (ℕ × Contents)) → AllByRecursion StandsAtItsId entries → AllByRecursion (λ other. nat_cmp id other ≡ Less) (keys_of entries)
    → queue_with id (values_of entries) ≡ None
none_above id [] at above = refl
none_above id (entry ∷ entries) at above = grind (arith, common_steps, at_entry id entry at.0, above.0, none_above id entries at.1 above.1)

-- behind the queue with the id there is none with it
pub none_behind : (id : ℕ) (entry : ℕ × Contents) (entries : List (ℕ × Contents)) → AllByRecursion StandsAtItsId (entry ∷ entries) → IsStrictlySortedBy nat_cmp (keys_of (entry ∷ entries))
    → entry.1.id ≡ id → queue_with id (values_of entries) ≡ None
none_behind id entry entries at sorted here =
    none_above id entries at.1 (subst (λ key. AllByRecursion (λ other. nat_cmp key other ≡ Less) (keys_of entries)) (at.0 ∙ here) (sorted_head nat_cmp entry.0 (keys_of entries) sorted))

pub same_number : (a b : ℕ) → (a == b) ≡ true → a ≡ b
same_number a b e = grind (arith, common_steps, e)

-- ---- one queue more, with an id above all others
pub put_last : (id : ℕ) (queue : Contents) (entries : List (ℕ × Contents)) → AllByRecursion StandsAtItsId entries → All (λ other. other.id < id) (values_of entries)
    → insert_entry nat_cmp entries id queue ≡ entries ++ (id, queue) ∷ []
put_last id queue [] at below = refl
put_last id queue (entry ∷ entries) at below =
    let rest : insert_entry nat_cmp entries id queue ≡ entries ++ (id, queue) ∷ [] = put_last id queue entries at.1 (All-tail (λ other. other.id < id) entry.1 (values_of entries) below) in
    grind (arith, common_steps, at.0, All-head (λ other. other.id < id) entry.1 (values_of entries) below, rest)

pub seen_with : (id : ℕ) (queue : Contents) (entries : List (ℕ × Contents)) → AllByRecursion StandsAtItsId entries → All (λ other. other.id < id) (values_of entries)
    → values_of (insert_entry nat_cmp entries id queue) ≡ values_of entries ++ queue ∷ []
seen_with id queue entries at below = ap values_of (put_last id queue entries at below) ∙ map-append (λ (entry : ℕ × Contents). entry.1) entries ((id, queue) ∷ [])

pub still_at_with : (id : ℕ) (queue : Contents) (entries : List (ℕ × Contents)) → AllByRecursion StandsAtItsId entries → id ≡ queue.id
    → AllByRecursion StandsAtItsId (entries ++ (id, queue) ∷ [])
still_at_with id queue [] at its = (its, tt)
still_at_with id queue (entry ∷ entries) at its = (at.0, still_at_with id queue entries at.1 its)

-- ---- one queue less
pub still_at_without : (test : ℕ → Bool) (entries : List (ℕ × Contents)) → AllByRecursion StandsAtItsId entries → AllByRecursion StandsAtItsId (remove_entry test entries)
still_at_without test [] at = tt
still_at_without test (entry ∷ entries) at = grind (arith, common_steps, at.0, at.1, still_at_without test entries at.1)

pub seen_without : (id : ℕ) (entries : List (ℕ × Contents)) → AllByRecursion StandsAtItsId entries → IsStrictlySortedBy nat_cmp (keys_of entries)
    → values_of (remove_entry (is_at (nat_cmp id)) entries) ≡ without_queue id (values_of entries)
seen_without id [] at sorted = refl
seen_without id (entry ∷ entries) at sorted =
    elim (cases_Bool (entry.1.id == id)) [
      | inl here ↦
          let none : queue_with id (values_of entries) ≡ None = none_behind id entry entries at sorted (same_number entry.1.id id here) in
          grind (arith, common_steps, here, at_entry id entry at.0, none_left_out id (values_of entries) none)
      | inr other ↦ grind (arith, common_steps, other, at_entry id entry at.0, seen_without id entries at.1 (sorted_tail nat_cmp entry.0 (keys_of entries) sorted))
    ]

-- ---- one queue changed
pub still_at_set : (id : ℕ) (old new : Contents) (entries : List (ℕ × Contents)) → AllByRecursion StandsAtItsId entries → lookup (is_at (nat_cmp id)) entries ≡ Some old → new.id ≡ old.id
    → AllByRecursion StandsAtItsId (set_value (is_at (nat_cmp id)) entries new)
still_at_set id old new [] at is same = tt
still_at_set id old new (entry ∷ entries) at is same =
    elim (cases_Bool (is_at (nat_cmp id) entry.0)) [
      | inl here ↦ grind (arith, common_steps, here, is, same, at.0, at.1)
      | inr other ↦ grind (arith, common_steps, other, at.0, still_at_set id old new entries at.1 (grind (arith, common_steps, other, is)) same)
    ]

pub seen_set : (id : ℕ) (change : List Entry → List Entry) (old : Contents) (entries : List (ℕ × Contents)) → AllByRecursion StandsAtItsId entries → IsStrictlySortedBy nat_cmp (keys_of entries)
    → lookup (is_at (nat_cmp id)) entries ≡ Some old → values_of (set_value (is_at (nat_cmp id)) entries (with_entries (change old.entries) old)) ≡ changed_at id change (values_of entries)
seen_set id change old [] at sorted is = refl
seen_set id change old (entry ∷ entries) at sorted is =
    elim (cases_Bool (entry.1.id == id)) [
      | inl here ↦
          let none : queue_with id (values_of entries) ≡ None = none_behind id entry entries at sorted (same_number entry.1.id id here) in
          let its : entry.1 ≡ old = grind (arith, common_steps, here, at_entry id entry at.0, is) in
          subst (λ queue. values_of (set_value (is_at (nat_cmp id)) (entry ∷ entries) (with_entries (change queue.entries) queue)) ≡ changed_at id change (values_of (entry ∷ entries))) its
          (grind (arith, common_steps, here, at_entry id entry at.0, none_changed id change (values_of entries) none))
      | inr other ↦
          let later : lookup (is_at (nat_cmp id)) entries ≡ Some old = grind (arith, common_steps, other, at_entry id entry at.0, is) in
          grind (arith, common_steps, other, at_entry id entry at.0, seen_set id change old entries at.1 (sorted_tail nat_cmp entry.0 (keys_of entries) sorted) later)
    ]

-- ---- the order
pub all_above : (id : ℕ) (entries : List (ℕ × Contents)) → AllByRecursion StandsAtItsId entries → AllByRecursion (λ other. nat_cmp id other ≡ Less) (keys_of entries)
    → All (λ other. id < other.id) (values_of entries)
all_above id [] at above = All-nil (λ other. id < other.id)
all_above id (entry ∷ entries) at above =
    let below : id < entry.1.id = grind (arith, common_steps, at.0, above.0) in
    All-cons (λ other. id < other.id) entry.1 (values_of entries) below (all_above id entries at.1 above.1)

pub ascending : (entries : List (ℕ × Contents)) → AllByRecursion StandsAtItsId entries → IsStrictlySortedBy nat_cmp (keys_of entries) → AreAscending (values_of entries)
ascending [] at sorted = λ i j d below within. grind (arith, common_steps, within)
ascending (entry ∷ entries) at sorted =
    AllPairs-cons (λ queue other. queue.id < other.id) entry.1 (values_of entries)
    (all_above entry.1.id entries at.1 (subst (λ key. AllByRecursion (λ other. nat_cmp key other ≡ Less) (keys_of entries)) at.0 (sorted_head nat_cmp entry.0 (keys_of entries) sorted)))
    (ascending entries at.1 (sorted_tail nat_cmp entry.0 (keys_of entries) sorted))
