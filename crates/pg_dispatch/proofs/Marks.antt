-- Entries are taken exactly where they are in flight, and stay so through each change.
use Rattle.std.proofs.Common.{◌≡◌, ℕ, Bool, true, false, not, ◌&&◌, ◌||◌, ◌==◌, cond, List, [], ◌∷◌, ◌++◌, refl, sym, ap, ap₂, ◌∙◌, subst, inl, inr, ◌⊎◌, arith}
use Rattle.std.proofs.lemmas.Grind.{common_steps}
use Rattle.std.specs.Prelude.{Some, None, map, filter, find}
use Rattle.std.specs.List.{AllByRecursion}
use Rattle.std.specs.Option.{option_map}
use Rattle.std.proofs.lemmas.Bool.{and_from, cases_Bool, eqb-true}
use Rattle.pg_msg.specs.declared.message.MessageId.{MessageId}
use Rattle.pg_model.specs.Broker.{same_id}
use Rattle.pg_queue.specs.Entries.{Contents, Entry, added, entry_at, first_waiting, has_entry, is_journaled, is_same, is_taken, mark, marked, without_entry}
use Rattle.pg_queue.specs.Queues.{changed_at, entries_in, without_queue}
use Rattle.pg_dispatch.specs.Dispatch.{has_id}
use Rattle.pg_dispatch.specs.Matching.{AreMarked, IsMarked}
use Rattle.pg_dispatch.proofs.Flying.{is_that, same_either, same_ids}

-- what is in flight, by queues and messages
abbrev pub Flies : Type 0
Flies = ℕ → MessageId → Bool

abbrev pub AllMarked : Flies → ℕ → List Entry → Type 0
AllMarked flies queue entries = AllByRecursion (IsMarked flies queue) entries

-- an entry in no page is told from the others by its message
pub same_entry : (flies : Flies) (queue : ℕ) (entry : Entry) (id : MessageId) → IsMarked flies queue entry → is_same entry (entry_at id None) ≡ same_id entry.id id
same_entry flies queue entry id is = grind (arith, common_steps, is.place)

-- ---- other messages are in flight
pub carried : (flies more : Flies) (queue : ℕ) → ((id : MessageId) → more queue id ≡ flies queue id) → (entries : List Entry) → AllMarked flies queue entries → AllMarked more queue entries
carried flies more queue same [] are = tt
carried flies more queue same (entry ∷ entries) are =
    (record { place = are.0.place; taken = are.0.taken ∙ sym (same entry.id) }, carried flies more queue same entries are.1)

pub all_carried : (flies more : Flies) → ((queue : ℕ) (id : MessageId) → more queue id ≡ flies queue id) → (queues : List Contents) → AreMarked flies queues → AreMarked more queues
all_carried flies more same [] are = tt
all_carried flies more same (queue ∷ queues) are =
    (carried flies more queue.id (same queue.id) queue.entries are.0, all_carried flies more same queues are.1)

-- the entries of one queue change with what is in flight from it
pub marked_at : (flies more : Flies) (queue : ℕ) (change : List Entry → List Entry) → ((entries : List Entry) → AllMarked flies queue entries → AllMarked more queue (change entries))
    → ((other : ℕ) → (other == queue) ≡ false → (id : MessageId) → more other id ≡ flies other id) → (queues : List Contents) → AreMarked flies queues → AreMarked more (changed_at queue change queues)
marked_at flies more queue change here there [] are = tt
marked_at flies more queue change here there (one ∷ queues) are =
    (at_one (cases_Bool (one.id == queue)), marked_at flies more queue change here there queues are.1)
  where
    at_one : ((one.id == queue) ≡ true) ⊎ ((one.id == queue) ≡ false)
        → AllMarked more (cond (one.id == queue) (record one { entries = change one.entries }) one).id (cond (one.id == queue) (record one { entries = change one.entries }) one).entries
    at_one (inl same) =
        let its : one.id ≡ queue = eqb-true one.id queue same in
        let now : AllMarked more one.id (change one.entries) =
        subst (λ q. AllMarked more q (change one.entries)) (sym its) (here one.entries (subst (λ q. AllMarked flies q one.entries) its are.0)) in
        rw same now
    at_one (inr apart) = rw apart (carried flies more one.id (there one.id apart) one.entries are.0)

-- ---- one message is in flight from the queue, or isn't any more
pub elsewhere : (queue other : ℕ) (id message : MessageId) → (other == queue) ≡ false → is_that queue id other message ≡ false
elsewhere queue other id message apart = grind (arith, common_steps, apart)

pub just_there : (queue : ℕ) (id message : MessageId) → is_that queue id queue message ≡ same_id id message
just_there queue id message = grind (arith, common_steps)

pub mark_given : (flies more : Flies) (queue : ℕ) (id : MessageId) → ((message : MessageId) → more queue message ≡ (same_id id message || flies queue message))
    → (entry : Entry) → IsMarked flies queue entry → IsMarked more queue (mark true (entry_at id None) entry)
mark_given flies more queue id change entry is =
    elim (cases_Bool (same_id entry.id id)) [
      | inl it ↦
          let same = same_entry flies queue entry id is ∙ it in
          let now : more queue entry.id ≡ true = change entry.id ∙ ap (λ b. b || flies queue entry.id) (same_either id entry.id ∙ it) in
          rw same (record { place = is.place; taken = sym now })
      | inr another ↦
          let differ = same_entry flies queue entry id is ∙ another in
          let still : more queue entry.id ≡ flies queue entry.id = change entry.id ∙ ap (λ b. b || flies queue entry.id) (same_either id entry.id ∙ another) in
          rw differ (record { place = is.place; taken = is.taken ∙ sym still })
    ]

pub mark_put_back : (flies more : Flies) (queue : ℕ) (id : MessageId) → ((message : MessageId) → more queue message ≡ (not (same_id id message) && flies queue message))
    → (entry : Entry) → IsMarked flies queue entry → IsMarked more queue (mark false (entry_at id None) entry)
mark_put_back flies more queue id change entry is =
    elim (cases_Bool (same_id entry.id id)) [
      | inl it ↦
          let same = same_entry flies queue entry id is ∙ it in
          let now : more queue entry.id ≡ false = change entry.id ∙ ap (λ b. not b && flies queue entry.id) (same_either id entry.id ∙ it) in
          rw same (record { place = is.place; taken = sym now })
      | inr another ↦
          let differ = same_entry flies queue entry id is ∙ another in
          let still : more queue entry.id ≡ flies queue entry.id = change entry.id ∙ ap (λ b. not b && flies queue entry.id) (same_either id entry.id ∙ another) in
          rw differ (record { place = is.place; taken = is.taken ∙ sym still })
    ]

pub marked_each : (flies more : Flies) (queue : ℕ) (change : Entry → Entry) → ((entry : Entry) → IsMarked flies queue entry → IsMarked more queue (change entry))
    → (entries : List Entry) → AllMarked flies queue entries → AllMarked more queue (map change entries)
marked_each flies more queue change each [] are = tt
marked_each flies more queue change each (entry ∷ entries) are = (each entry are.0, marked_each flies more queue change each entries are.1)

pub marks_given : (flies more : Flies) (queue : ℕ) (id : MessageId) → ((other : ℕ) (message : MessageId) → more other message ≡ (is_that queue id other message || flies other message))
    → (queues : List Contents) → AreMarked flies queues → AreMarked more (changed_at queue (marked true (entry_at id None)) queues)
marks_given flies more queue id change =
    marked_at flies more queue (marked true (entry_at id None))
    (marked_each flies more queue (mark true (entry_at id None))
    (mark_given flies more queue id (λ message. change queue message ∙ ap (λ b. b || flies queue message) (just_there queue id message))))
    (λ other apart message. change other message ∙ ap (λ b. b || flies other message) (elsewhere queue other id message apart))

pub marks_put_back : (flies more : Flies) (queue : ℕ) (id : MessageId) → ((other : ℕ) (message : MessageId) → more other message ≡ (not (is_that queue id other message) && flies other message))
    → (queues : List Contents) → AreMarked flies queues → AreMarked more (changed_at queue (marked false (entry_at id None)) queues)
marks_put_back flies more queue id change =
    marked_at flies more queue (marked false (entry_at id None))
    (marked_each flies more queue (mark false (entry_at id None))
    (mark_put_back flies more queue id (λ message. change queue message ∙ ap (λ b. not b && flies queue message) (just_there queue id message))))
    (λ other apart message. change other message ∙ ap (λ b. not b && flies other message) (elsewhere queue other id message apart))

-- ---- the entry goes, or a new one comes
pub left_marked : (flies more : Flies) (queue : ℕ) (id : MessageId) → ((message : MessageId) → more queue message ≡ (not (same_id id message) && flies queue message))
    → (entries : List Entry) → AllMarked flies queue entries → AllMarked more queue (without_entry (entry_at id None) entries)
left_marked flies more queue id change [] are = tt
left_marked flies more queue id change (entry ∷ entries) are =
    elim (cases_Bool (same_id entry.id id)) [
      | inl it ↦ rw (same_entry flies queue entry id are.0 ∙ it) (left_marked flies more queue id change entries are.1)
      | inr another ↦
          let still : more queue entry.id ≡ flies queue entry.id = change entry.id ∙ ap (λ b. not b && flies queue entry.id) (same_either id entry.id ∙ another) in
          rw (same_entry flies queue entry id are.0 ∙ another)
          (record { place = are.0.place; taken = are.0.taken ∙ sym still }, left_marked flies more queue id change entries are.1)
    ]

pub marks_left : (flies more : Flies) (queue : ℕ) (id : MessageId) → ((other : ℕ) (message : MessageId) → more other message ≡ (not (is_that queue id other message) && flies other message))
    → (queues : List Contents) → AreMarked flies queues → AreMarked more (changed_at queue (without_entry (entry_at id None)) queues)
marks_left flies more queue id change =
    marked_at flies more queue (without_entry (entry_at id None))
    (left_marked flies more queue id (λ message. change queue message ∙ ap (λ b. not b && flies queue message) (just_there queue id message)))
    (λ other apart message. change other message ∙ ap (λ b. not b && flies other message) (elsewhere queue other id message apart))

-- where all stand in no page, one more stands behind them
pub journaled_all : (flies : Flies) (queue : ℕ) (entries : List Entry) → AllMarked flies queue entries → filter is_journaled entries ≡ entries
journaled_all flies queue [] are = refl
journaled_all flies queue (entry ∷ entries) are = grind (arith, common_steps, are.0.place, journaled_all flies queue entries are.1)

pub none_paged : (flies : Flies) (queue : ℕ) (entries : List Entry) → AllMarked flies queue entries → filter (λ entry. not (is_journaled entry)) entries ≡ []
none_paged flies queue [] are = refl
none_paged flies queue (entry ∷ entries) are = grind (arith, common_steps, are.0.place, none_paged flies queue entries are.1)

pub added_behind : (flies : Flies) (queue : ℕ) (entry : Entry) (entries : List Entry) → AllMarked flies queue entries → added entry entries ≡ entries ++ entry ∷ []
added_behind flies queue entry entries are =
    ap₂ (λ (before behind : List Entry). before ++ entry ∷ behind) (journaled_all flies queue entries are) (none_paged flies queue entries are)

pub pushed : (flies : Flies) (queue : ℕ) (entry : Entry) (entries : List Entry) → IsMarked flies queue entry → AllMarked flies queue entries → AllMarked flies queue (entries ++ entry ∷ [])
pushed flies queue entry [] it are = (it, tt)
pushed flies queue entry (other ∷ entries) it are = (are.0, pushed flies queue entry entries it are.1)

pub marks_added : (flies : Flies) (queue : ℕ) (id : MessageId) → flies queue id ≡ false → (queues : List Contents) → AreMarked flies queues
    → AreMarked flies (changed_at queue (added (entry_at id None)) queues)
marks_added flies queue id free =
    marked_at flies flies queue (added (entry_at id None))
    (λ entries are.
    subst (AllMarked flies queue) (sym (added_behind flies queue (entry_at id None) entries are)) (pushed flies queue (entry_at id None) entries (record { place = refl; taken = sym free }) are))
    (λ other apart message. refl)

-- ---- a queue comes or goes
pub marks_with_queue : (flies : Flies) (queue : ℕ) (queues : List Contents) → AreMarked flies queues → AreMarked flies (queues ++ record { id = queue; entries = [] } ∷ [])
marks_with_queue flies queue [] are = (tt, tt)
marks_with_queue flies queue (one ∷ queues) are = (are.0, marks_with_queue flies queue queues are.1)

pub marks_without_queue : (flies : Flies) (queue : ℕ) (queues : List Contents) → AreMarked flies queues → AreMarked flies (without_queue queue queues)
marks_without_queue flies queue [] are = tt
marks_without_queue flies queue (one ∷ queues) are =
    elim (cases_Bool (one.id == queue)) [
      | inl gone ↦ rw gone (marks_without_queue flies queue queues are.1)
      | inr stays ↦ rw stays (are.0, marks_without_queue flies queue queues are.1)
    ]

-- ---- what the entries of a queue tell
pub entries_marked : (flies : Flies) (queue : ℕ) (queues : List Contents) → AreMarked flies queues → AllMarked flies queue (entries_in queue queues)
entries_marked flies queue [] are = tt
entries_marked flies queue (one ∷ queues) are =
    elim (cases_Bool (one.id == queue)) [
      | inl here ↦ rw here (subst (λ q. AllMarked flies q one.entries) (eqb-true one.id queue here) are.0)
      | inr there ↦ rw there (entries_marked flies queue queues are.1)
    ]

pub has_by_id : (flies : Flies) (queue : ℕ) (id : MessageId) (entries : List Entry) → AllMarked flies queue entries
    → has_entry entries (entry_at id None) ≡ has_id id (map (λ entry. entry.id) entries)
has_by_id flies queue id [] are = refl
has_by_id flies queue id (entry ∷ entries) are =
    ap₂ (λ (here later : Bool). here || later) (same_entry flies queue entry id are.0) (has_by_id flies queue id entries are.1)

pub taken_in_flight : (flies : Flies) (queue : ℕ) (id : MessageId) (entries : List Entry) → AllMarked flies queue entries → has_id id (map (λ entry. entry.id) entries) ≡ true
    → flies queue id ≡ true → is_taken entries (entry_at id None) ≡ true
taken_in_flight flies queue id [] are has flown = absurd (grind (arith, common_steps, has))
taken_in_flight flies queue id (entry ∷ entries) are has flown =
    elim (cases_Bool (same_id entry.id id)) [
      | inl it ↦
          let same = same_entry flies queue entry id are.0 ∙ it in
          let taken : entry.taken ≡ true = are.0.taken ∙ ap (flies queue) (same_ids entry.id id it) ∙ flown in
          ap₂ (λ (here later : Bool). here || later) (and_from _ _ same taken) refl
      | inr another ↦
          let rest : is_taken entries (entry_at id None) ≡ true = taken_in_flight flies queue id entries are.1 (grind (arith, common_steps, another, has)) flown in
          grind (arith, common_steps, rest)
    ]

-- the first that waits is the first that isn't in flight
pub first_free : (flies : Flies) (queue : ℕ) (entries : List Entry) → AllMarked flies queue entries
    → option_map (λ entry. entry.id) (first_waiting entries) ≡ find (λ id. not (flies queue id)) (map (λ entry. entry.id) entries)
first_free flies queue [] are = refl
first_free flies queue (entry ∷ entries) are =
    elim (cases_Bool entry.taken) [
      | inl taken ↦
          let flown : flies queue entry.id ≡ true = sym are.0.taken ∙ taken in
          grind (arith, common_steps, taken, flown, first_free flies queue entries are.1)
      | inr waits ↦
          let free : flies queue entry.id ≡ false = sym are.0.taken ∙ waits in
          grind (arith, common_steps, waits, free)
    ]

pub record IsFree (flies : Flies) (queue : ℕ) (id : MessageId) (entries : List Entry) : Type 0 where
  pub free : flies queue id ≡ false
  pub there : has_id id (map (λ entry. entry.id) entries) ≡ true

pub waiting_is_free : (flies : Flies) (queue : ℕ) (id : MessageId) (entries : List Entry) → AllMarked flies queue entries → first_waiting entries ≡ Some (entry_at id None)
    → IsFree flies queue id entries
waiting_is_free flies queue id [] are is = absurd (grind (arith, common_steps, is))
waiting_is_free flies queue id (entry ∷ entries) are is =
    elim (cases_Bool entry.taken) [
      | inl taken ↦
          let later = waiting_is_free flies queue id entries are.1 (grind (arith, common_steps, taken, is)) in
          record { free = later.free; there = grind (arith, common_steps, later.there) }
      | inr waits ↦
          let it : entry ≡ entry_at id None = grind (arith, common_steps, waits, is) in
          let its : entry.id ≡ id = ap (λ e. e.id) it in
          record {
            free = ap (flies queue) (sym its) ∙ sym are.0.taken ∙ waits;
            there = grind (arith, common_steps, its);
          }
    ]
