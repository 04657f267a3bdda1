-- Messages that come and go, among those that are sound.
use Rattle.std.proofs.Common.{◌≡◌, ℕ, ◌≤◌, Bool, true, false, not, ◌&&◌, ◌==◌, List, [], ◌∷◌, ◌++◌, map, refl, sym, ◌∙◌, subst, arith, eqb-true}
use Rattle.std.specs.Prelude.{filter}
use Rattle.std.specs.List.{All, list_all}
use Rattle.std.proofs.lemmas.Bool.{and_from, and_parts, cond_both, or_left}
use Rattle.std.proofs.lemmas.List.Elements.{All-filter, All-map, All-push, All-weaker, filter_passes}
use Rattle.std.proofs.lemmas.List.Folds.{list_any-append}
use Rattle.std.proofs.lemmas.List.Kept.{AllPairs-filter}
use Rattle.std.proofs.lemmas.List.Quantifiers.{all_pairs_push}
use Rattle.pg_msg.specs.declared.message.MessageId.{MessageId}
use Rattle.pg_msg.specs.Messages.{IsMessage}
use Rattle.pg_fold.specs.declared.rows.AddressRow.{AddressRow}
use Rattle.pg_fold.specs.declared.rows.JournaledRow.{JournaledRow}
use Rattle.pg_fold.specs.declared.rows.QueueRow.{QueueRow}
use Rattle.pg_fold.specs.Rows.{acknowledged, dropped, has_address, has_message, has_queue_at, is_held, released, same_id, without_queue}
use Rattle.pg_fold.specs.Sound.{AreMessages, IsHeldRow}
use Rattle.pg_fold.proofs.MessagePairs.{all_acknowledged, By, pairs_acknowledged, pairs_released}
use Rattle.pg_fold.proofs.SoundAddresses.{each_fails, still_address}
use Rattle.pg_fold.proofs.SoundQueues.{any_kept}

-- the ids of two messages
abbrev Differ : MessageId → MessageId → Type 0
Differ id other = same_id id other ≡ false

abbrev Begun : ℕ → JournaledRow → Type 0
Begun epoch row = row.message.id.epoch ≤ epoch

abbrev Spelled : JournaledRow → Type 0
Spelled row = IsMessage row.message

pub messages_later : (epoch later : ℕ) (rows : List JournaledRow) → epoch ≤ later → AreMessages epoch rows → AreMessages later rows
messages_later epoch later rows le sound = record { ids = sound.ids; begun = All-weaker (Begun epoch) (Begun later) (λ r is. omega (arith, is, le)) rows sound.begun; messages = sound.messages }

pub messages_push : (epoch : ℕ) (rows : List JournaledRow) (row : JournaledRow) → AreMessages epoch rows → has_message rows row.message.id ≡ false → row.message.id.epoch ≤ epoch → IsMessage row.message
    → AreMessages epoch (rows ++ row ∷ [])
messages_push epoch rows row sound new begun message = record {
  ids = all_pairs_push (By Differ) rows row sound.ids (each_fails (λ r. same_id r.message.id row.message.id) rows new);
  begun = All-push (Begun epoch) rows row sound.begun begun;
  messages = All-push Spelled rows row sound.messages message;
}

pub messages_dropped : (epoch queue : ℕ) (rows : List JournaledRow) → AreMessages epoch rows → AreMessages epoch (dropped queue rows)
messages_dropped epoch queue rows sound = record {
  ids = AllPairs-filter (By Differ) is_held (map (released queue) rows) (pairs_released Differ queue rows sound.ids);
  begun = All-filter is_held (Begun epoch) (map (released queue) rows) (All-map (Begun epoch) (released queue) rows sound.begun);
  messages = All-filter is_held Spelled (map (released queue) rows) (All-map Spelled (released queue) rows sound.messages);
}

pub messages_acknowledged : (epoch queue : ℕ) (id : MessageId) (rows : List JournaledRow) → AreMessages epoch rows → AreMessages epoch (acknowledged queue id rows)
messages_acknowledged epoch queue id rows sound = record {
  ids = pairs_acknowledged Differ queue id rows sound.ids;
  begun = all_acknowledged (Begun epoch) queue id (λ row _ is. is) rows sound.begun;
  messages = all_acknowledged Spelled queue id (λ row _ is. is) rows sound.messages;
}

-- a number that isn't taken out stays among those that all pass
all_without : (p q : ℕ → Bool) (numbers : List ℕ) → list_all p numbers ≡ true → list_all p (filter q numbers) ≡ true
all_without p q [] all = all
all_without p q (number ∷ numbers) all =
    let both = and_parts (p number) (list_all p numbers) all in
    let others = all_without p q numbers both.1 in
    cond_both (q number) (number ∷ filter q numbers) (filter q numbers) (λ l. list_all p l ≡ true) (λ _. and_from _ _ both.0 others) (λ _. others)

-- and so with another test, which holds of those that stay
all_kept : (p q r : ℕ → Bool) → ((number : ℕ) → p number ≡ true → q number ≡ true → r number ≡ true) → (numbers : List ℕ) → list_all p numbers ≡ true → list_all r (filter q numbers) ≡ true
all_kept p q r then [] all = refl
all_kept p q r then (number ∷ numbers) all =
    let both = and_parts (p number) (list_all p numbers) all in
    let others = all_kept p q r then numbers both.1 in
    cond_both (q number) (number ∷ filter q numbers) (filter q numbers) (λ l. list_all r l ≡ true) (λ stays. and_from _ _ (then number both.0 stays) others) (λ _. others)

all_then : (p r : ℕ → Bool) → ((number : ℕ) → p number ≡ true → r number ≡ true) → (numbers : List ℕ) → list_all p numbers ≡ true → list_all r numbers ≡ true
all_then p r then [] all = refl
all_then p r then (number ∷ numbers) all = let both = and_parts (p number) (list_all p numbers) all in and_from _ _ (then number both.0) (all_then p r then numbers both.1)

-- the messages are held still, where an address or a queue is made
pub held_beside : (addresses : List AddressRow) (address : AddressRow) (queues : List QueueRow) (rows : List JournaledRow) → All (IsHeldRow addresses queues) rows → All (IsHeldRow (addresses ++ address ∷ []) queues) rows
held_beside addresses address queues rows held =
    All-weaker (IsHeldRow addresses queues) (IsHeldRow (addresses ++ address ∷ []) queues) (λ row is. record { placed = still_address addresses address row.address is.placed; held = is.held; holders = is.holders }) rows held

still_queue : (queues : List QueueRow) (queue : QueueRow) (address id : ℕ) → has_queue_at queues address id ≡ true → has_queue_at (queues ++ queue ∷ []) address id ≡ true
still_queue queues queue address id is = list_any-append (λ row. (row.id == id) && (row.address == address)) queues (queue ∷ []) ∙ or_left _ _ is

pub held_with : (addresses : List AddressRow) (queues : List QueueRow) (queue : QueueRow) (rows : List JournaledRow) → All (IsHeldRow addresses queues) rows → All (IsHeldRow addresses (queues ++ queue ∷ [])) rows
held_with addresses queues queue rows held =
    All-weaker (IsHeldRow addresses queues) (IsHeldRow addresses (queues ++ queue ∷ []))
    (λ row is. record {
      placed = is.placed;
      held = is.held;
      holders = all_then (has_queue_at queues row.address) (has_queue_at (queues ++ queue ∷ []) row.address) (λ number. still_queue queues queue row.address number) row.holders is.holders;
    }) rows held

-- a queue that isn't the one that goes stays
queue_stays : (queues : List QueueRow) (gone address id : ℕ) → has_queue_at queues address id ≡ true → not (id == gone) ≡ true → has_queue_at (without_queue gone queues) address id ≡ true
queue_stays queues gone address id is other =
    any_kept (λ row. (row.id == id) && (row.address == address)) (λ row. not (row.id == gone))
    (λ row here. subst (λ n. not (n == gone) ≡ true) (sym (eqb-true row.id id (and_parts _ _ here).0)) other) queues is

pub held_dropped : (addresses : List AddressRow) (queues : List QueueRow) (queue : ℕ) (rows : List JournaledRow) → All (IsHeldRow addresses queues) rows → All (IsHeldRow addresses (without_queue queue queues)) (dropped queue rows)
held_dropped addresses queues queue rows held =
    let Placed : JournaledRow → Type 0 = λ row. has_address addresses row.address ≡ true in
    let Kept : JournaledRow → Type 0 = λ row. list_all (has_queue_at (without_queue queue queues) row.address) row.holders ≡ true in
    let placed = All-filter is_held Placed (map (released queue) rows) (All-map Placed (released queue) rows (All-weaker (IsHeldRow addresses queues) Placed (λ row is. is.placed) rows held)) in
    let kept = All-filter is_held Kept (map (released queue) rows)
    (All-map Kept (released queue) rows (All-weaker (IsHeldRow addresses queues) (λ row. Kept (released queue row))
    (λ row is. all_kept (has_queue_at queues row.address) (λ number. not (number == queue)) (has_queue_at (without_queue queue queues) row.address) (λ number. queue_stays queues queue row.address number) row.holders is.holders) rows held)) in
    λ k d lt. record { placed = placed k d lt; held = filter_passes is_held (map (released queue) rows) k d lt; holders = kept k d lt }

pub held_acknowledged : (addresses : List AddressRow) (queues : List QueueRow) (queue : ℕ) (id : MessageId) (rows : List JournaledRow) → All (IsHeldRow addresses queues) rows → All (IsHeldRow addresses queues) (acknowledged queue id rows)
held_acknowledged addresses queues queue id rows held =
    all_acknowledged (IsHeldRow addresses queues) queue id
    (λ row there is. record { placed = is.placed; held = there; holders = all_without (has_queue_at queues row.address) (λ number. not (number == queue)) row.holders is.holders }) rows held
