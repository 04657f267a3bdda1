-- An entry that is read is the one that was spelled, and what was spelled is read again, whatever stands behind it.
use Rattle.std.proofs.Common.{◌≡◌, inl, inr, ℕ, ◌^◌, ◌<◌, ◌≤◌, cond, eqb, List, ◌∷◌, ◌++◌, length, Some, None, refl, sym, ap, subst, ◌∙◌, append_assoc, arith}
use Rattle.std.specs.Int.{w8, w32, w64, to_be_bytes}
use Rattle.std.proofs.lemmas.Bool.{eqb-true, leb-true, le-leb, cases_Bool, cond-true, cond-false}
use Rattle.std.proofs.lemmas.List.{length-append}
use Rattle.std.proofs.lemmas.Option.{cond_some}
use Rattle.pg_msg.specs.declared.message.Message.{Message}
use Rattle.pg_msg.specs.declared.message.MessageId.{MessageId}
use Rattle.pg_msg.specs.Lists.{queues_bytes, pages_bytes}
use Rattle.pg_msg.specs.Messages.{id_bytes, message_bytes}
use Rattle.pg_msg.specs.Reading.{Read, number_at, id_at, name_at, queues_at, pages_at, message_at}
use Rattle.pg_msg.proofs.FieldLaws.{IsBytes, Takes, Takes-then, bind_some, some_is, wide32, wide64, number_takes, number_again, byte_takes, byte_again, id_takes, id_again, name_takes, name_again, queues_takes, queues_again, pages_takes, pages_again}
use Rattle.pg_msg.proofs.MessageLaws.{message_takes, message_again}
use Rattle.pg_records.specs.declared.entry.Entry.{Entry}
use Rattle.pg_records.specs.declared.entry.Entry.TheVariants.{Epoch, Address, Queue, DropQueue, Add, Ack, AckAt, PageDone, PageTx, Dup, LargeAdd, LargeAck, FirstPage, NextQueue, AckRun}
use Rattle.pg_records.specs.Entries.{short_bytes, filter_bytes, entry_bytes, HasFields}
use Rattle.pg_records.specs.Reading.{filter_at, duplicate_id_at, epoch_at, address_at, queue_at, drop_queue_at, add_at, ack_at, place_at, page_done_at, page_tx_at, dup_at, large_add_at, large_ack_at, first_page_at, next_queue_at, ack_run_at, fields_at, entry_at}
use Rattle.pg_records.proofs.FieldLaws.{filter_takes, filter_again, duplicate_id_takes, duplicate_id_again}

-- the entry stands at the front of the code and the bytes, and is in range
abbrev Stands : ℕ → List ℕ → Entry × List ℕ → Type 0
Stands code bytes read = Takes (code ∷ bytes) (entry_bytes read.0) read.1 × HasFields read.0

-- the fields behind a code
behind_code : (code : ℕ) (bytes fields rest : List ℕ) → Takes bytes fields rest → Takes (code ∷ bytes) (code ∷ fields) rest
behind_code code bytes fields rest taken = record { parts = ap (λ (t : List ℕ). code ∷ t) taken.parts; rest_fits = taken.rest_fits }

-- two and three fields behind a code
two_behind : (code : ℕ) (bytes x mid y rest : List ℕ) → Takes bytes x mid → Takes mid y rest → Takes (code ∷ bytes) (code ∷ (x ++ y)) rest
two_behind code bytes x mid y rest first second = behind_code code bytes (x ++ y) rest (Takes-then bytes x mid y rest first second)

three_behind : (code : ℕ) (bytes x mid y next z rest : List ℕ) → Takes bytes x mid → Takes mid y next → Takes next z rest → Takes (code ∷ bytes) (code ∷ (x ++ (y ++ z))) rest
three_behind code bytes x mid y next z rest first second third = two_behind code bytes x mid (y ++ z) rest first (Takes-then mid y next z rest second third)

-- ---- what is read

number32 : (bytes : List ℕ) (n : ℕ) (rest : List ℕ) → IsBytes bytes → number_at w32 bytes ≡ Some (n, rest) → Takes bytes (to_be_bytes w32 n) rest × (n < 2 ^ 32)
number32 bytes n rest fits e = number_takes w32 (2 ^ 32) wide32 bytes n rest fits e

number64 : (bytes : List ℕ) (n : ℕ) (rest : List ℕ) → IsBytes bytes → number_at w64 bytes ≡ Some (n, rest) → Takes bytes (to_be_bytes w64 n) rest × (n < 2 ^ 64)
number64 bytes n rest fits e = number_takes w64 (2 ^ 64) wide64 bytes n rest fits e

epoch_takes : (bytes : List ℕ) (x : Entry × List ℕ) → IsBytes bytes → epoch_at bytes ≡ Some x → Stands 1 bytes x
unfolding epoch_at
epoch_takes bytes x fits e =
    let a = bind_some (number_at w32 bytes) _ x e in
    let epoch = number32 bytes a.0.0 a.0.1 fits a.1 in
    let made : Entry × List ℕ = (Epoch a.0.0, a.0.1) in
    subst (Stands 1 bytes) {x = made} (some_is made x a.2) (behind_code 1 bytes (to_be_bytes w32 a.0.0) a.0.1 epoch.0, epoch.1)

address_takes : (bytes : List ℕ) (x : Entry × List ℕ) → IsBytes bytes → address_at bytes ≡ Some x → Stands 2 bytes x
unfolding address_at
address_takes bytes x fits e =
    let a = bind_some (number_at w32 bytes) _ x e in
    let b = bind_some (name_at a.0.1) _ x a.2 in
    let d = bind_some (number_at w64 b.0.1) _ x b.2 in
    let f = bind_some (number_at w64 d.0.1) _ x d.2 in
    let g = bind_some (number_at w64 f.0.1) _ x f.2 in
    let h = bind_some (number_at w32 g.0.1) _ x g.2 in
    let address = number32 bytes a.0.0 a.0.1 fits a.1 in
    let name = name_takes a.0.1 b.0.0 b.0.1 address.0.rest_fits b.1 in
    let max = number64 b.0.1 d.0.0 d.0.1 name.0.rest_fits d.1 in
    let page = number64 d.0.1 f.0.0 f.0.1 max.0.rest_fits f.1 in
    let ahead = number64 f.0.1 g.0.0 g.0.1 page.0.rest_fits g.1 in
    let dup = number32 g.0.1 h.0.0 h.0.1 ahead.0.rest_fits h.1 in
    let made : Entry × List ℕ = (Address a.0.0 b.0.0 d.0.0 f.0.0 g.0.0 h.0.0, h.0.1) in
    let two = Takes-then f.0.1 (to_be_bytes w64 g.0.0) g.0.1 (to_be_bytes w32 h.0.0) h.0.1 ahead.0 dup.0 in
    let three = Takes-then d.0.1 (to_be_bytes w64 f.0.0) f.0.1 (to_be_bytes w64 g.0.0 ++ to_be_bytes w32 h.0.0) h.0.1 page.0 two in
    let four = Takes-then b.0.1 (to_be_bytes w64 d.0.0) d.0.1 (to_be_bytes w64 f.0.0 ++ (to_be_bytes w64 g.0.0 ++ to_be_bytes w32 h.0.0)) h.0.1 max.0 three in
    let all = three_behind 2 bytes (to_be_bytes w32 a.0.0) a.0.1 (short_bytes b.0.0) b.0.1 (to_be_bytes w64 d.0.0 ++ (to_be_bytes w64 f.0.0 ++ (to_be_bytes w64 g.0.0 ++ to_be_bytes w32 h.0.0))) h.0.1 address.0 name.0 four in
    subst (Stands 2 bytes) {x = made} (some_is made x h.2) (all, (address.1, name.1, max.1, page.1, ahead.1, dup.1))

queue_takes : (bytes : List ℕ) (x : Entry × List ℕ) → IsBytes bytes → queue_at bytes ≡ Some x → Stands 3 bytes x
unfolding queue_at
queue_takes bytes x fits e =
    let a = bind_some (number_at w32 bytes) _ x e in
    let b = bind_some (number_at w32 a.0.1) _ x a.2 in
    let d = bind_some (name_at b.0.1) _ x b.2 in
    let f = bind_some (filter_at d.0.1) _ x d.2 in
    let queue = number32 bytes a.0.0 a.0.1 fits a.1 in
    let address = number32 a.0.1 b.0.0 b.0.1 queue.0.rest_fits b.1 in
    let name = name_takes b.0.1 d.0.0 d.0.1 address.0.rest_fits d.1 in
    let filter = filter_takes d.0.1 f.0.0 f.0.1 name.0.rest_fits f.1 in
    let made : Entry × List ℕ = (Queue a.0.0 b.0.0 d.0.0 f.0.0, f.0.1) in
    let two = Takes-then b.0.1 (short_bytes d.0.0) d.0.1 (filter_bytes f.0.0) f.0.1 name.0 filter.0 in
    let all = three_behind 3 bytes (to_be_bytes w32 a.0.0) a.0.1 (to_be_bytes w32 b.0.0) b.0.1 (short_bytes d.0.0 ++ filter_bytes f.0.0) f.0.1 queue.0 address.0 two in
    subst (Stands 3 bytes) {x = made} (some_is made x f.2) (all, (queue.1, address.1, name.1, filter.1))

drop_queue_takes : (bytes : List ℕ) (x : Entry × List ℕ) → IsBytes bytes → drop_queue_at bytes ≡ Some x → Stands 4 bytes x
unfolding drop_queue_at
drop_queue_takes bytes x fits e =
    let a = bind_some (number_at w32 bytes) _ x e in
    let queue = number32 bytes a.0.0 a.0.1 fits a.1 in
    let made : Entry × List ℕ = (DropQueue a.0.0, a.0.1) in
    subst (Stands 4 bytes) {x = made} (some_is made x a.2) (behind_code 4 bytes (to_be_bytes w32 a.0.0) a.0.1 queue.0, queue.1)

add_takes : (bytes : List ℕ) (x : Entry × List ℕ) → IsBytes bytes → add_at bytes ≡ Some x → Stands 5 bytes x
unfolding add_at
add_takes bytes x fits e =
    let a = bind_some (number_at w32 bytes) _ x e in
    let b = bind_some (queues_at a.0.1) _ x a.2 in
    let d = bind_some (message_at b.0.1) _ x b.2 in
    let address = number32 bytes a.0.0 a.0.1 fits a.1 in
    let queues = queues_takes a.0.1 b.0.0 b.0.1 address.0.rest_fits b.1 in
    let message = message_takes b.0.1 d.0.0 d.0.1 queues.0.rest_fits d.1 in
    let made : Entry × List ℕ = (Add a.0.0 b.0.0 d.0.0, d.0.1) in
    let all = three_behind 5 bytes (to_be_bytes w32 a.0.0) a.0.1 (queues_bytes b.0.0) b.0.1 (message_bytes d.0.0) d.0.1 address.0 queues.0 message.0 in
    subst (Stands 5 bytes) {x = made} (some_is made x d.2) (all, (address.1, queues.1, message.1))

ack_takes : (bytes : List ℕ) (x : Entry × List ℕ) → IsBytes bytes → ack_at bytes ≡ Some x → Stands 6 bytes x
unfolding ack_at
ack_takes bytes x fits e =
    let a = bind_some (number_at w32 bytes) _ x e in
    let b = bind_some (id_at a.0.1) _ x a.2 in
    let queue = number32 bytes a.0.0 a.0.1 fits a.1 in
    let message = id_takes a.0.1 b.0.0 b.0.1 queue.0.rest_fits b.1 in
    let made : Entry × List ℕ = (Ack a.0.0 b.0.0, b.0.1) in
    let all = two_behind 6 bytes (to_be_bytes w32 a.0.0) a.0.1 (id_bytes b.0.0) b.0.1 queue.0 message.0 in
    subst (Stands 6 bytes) {x = made} (some_is made x b.2) (all, (queue.1, message.1))

place_takes : (bytes : List ℕ) (x : Entry × List ℕ) → IsBytes bytes → place_at bytes ≡ Some x → Stands 7 bytes x
unfolding place_at
place_takes bytes x fits e =
    let a = bind_some (number_at w32 bytes) _ x e in
    let b = bind_some (number_at w64 a.0.1) _ x a.2 in
    let d = bind_some (number_at w32 b.0.1) _ x b.2 in
    let queue = number32 bytes a.0.0 a.0.1 fits a.1 in
    let page = number64 a.0.1 b.0.0 b.0.1 queue.0.rest_fits b.1 in
    let index = number32 b.0.1 d.0.0 d.0.1 page.0.rest_fits d.1 in
    let made : Entry × List ℕ = (AckAt a.0.0 b.0.0 d.0.0, d.0.1) in
    let all = three_behind 7 bytes (to_be_bytes w32 a.0.0) a.0.1 (to_be_bytes w64 b.0.0) b.0.1 (to_be_bytes w32 d.0.0) d.0.1 queue.0 page.0 index.0 in
    subst (Stands 7 bytes) {x = made} (some_is made x d.2) (all, (queue.1, page.1, index.1))

page_done_takes : (bytes : List ℕ) (x : Entry × List ℕ) → IsBytes bytes → page_done_at bytes ≡ Some x → Stands 8 bytes x
unfolding page_done_at
page_done_takes bytes x fits e =
    let a = bind_some (number_at w32 bytes) _ x e in
    let b = bind_some (number_at w64 a.0.1) _ x a.2 in
    let queue = number32 bytes a.0.0 a.0.1 fits a.1 in
    let page = number64 a.0.1 b.0.0 b.0.1 queue.0.rest_fits b.1 in
    let made : Entry × List ℕ = (PageDone a.0.0 b.0.0, b.0.1) in
    let all = two_behind 8 bytes (to_be_bytes w32 a.0.0) a.0.1 (to_be_bytes w64 b.0.0) b.0.1 queue.0 page.0 in
    subst (Stands 8 bytes) {x = made} (some_is made x b.2) (all, (queue.1, page.1))

page_tx_takes : (bytes : List ℕ) (x : Entry × List ℕ) → IsBytes bytes → page_tx_at bytes ≡ Some x → Stands 9 bytes x
unfolding page_tx_at
page_tx_takes bytes x fits e =
    let a = bind_some (id_at bytes) _ x e in
    let b = bind_some (pages_at a.0.1) _ x a.2 in
    let tx = id_takes bytes a.0.0 a.0.1 fits a.1 in
    let last = pages_takes a.0.1 b.0.0 b.0.1 tx.0.rest_fits b.1 in
    let made : Entry × List ℕ = (PageTx a.0.0 b.0.0, b.0.1) in
    let all = two_behind 9 bytes (id_bytes a.0.0) a.0.1 (pages_bytes b.0.0) b.0.1 tx.0 last.0 in
    subst (Stands 9 bytes) {x = made} (some_is made x b.2) (all, (tx.1, last.1))

dup_takes : (bytes : List ℕ) (x : Entry × List ℕ) → IsBytes bytes → dup_at bytes ≡ Some x → Stands 10 bytes x
unfolding dup_at
dup_takes bytes x fits e =
    let a = bind_some (number_at w32 bytes) _ x e in
    let b = bind_some (duplicate_id_at a.0.1) _ x a.2 in
    let address = number32 bytes a.0.0 a.0.1 fits a.1 in
    let id = duplicate_id_takes a.0.1 b.0.0 b.0.1 address.0.rest_fits b.1 in
    let made : Entry × List ℕ = (Dup a.0.0 b.0.0, b.0.1) in
    let all = two_behind 10 bytes (to_be_bytes w32 a.0.0) a.0.1 (short_bytes b.0.0) b.0.1 address.0 id.0 in
    subst (Stands 10 bytes) {x = made} (some_is made x b.2) (all, (address.1, id.1))

large_add_takes : (bytes : List ℕ) (x : Entry × List ℕ) → IsBytes bytes → large_add_at bytes ≡ Some x → Stands 11 bytes x
unfolding large_add_at
large_add_takes bytes x fits e =
    let a = bind_some (id_at bytes) _ x e in
    let b = bind_some (number_at w64 a.0.1) _ x a.2 in
    let d = bind_some (queues_at b.0.1) _ x b.2 in
    let message = id_takes bytes a.0.0 a.0.1 fits a.1 in
    let size = number64 a.0.1 b.0.0 b.0.1 message.0.rest_fits b.1 in
    let queues = queues_takes b.0.1 d.0.0 d.0.1 size.0.rest_fits d.1 in
    let made : Entry × List ℕ = (LargeAdd a.0.0 b.0.0 d.0.0, d.0.1) in
    let all = three_behind 11 bytes (id_bytes a.0.0) a.0.1 (to_be_bytes w64 b.0.0) b.0.1 (queues_bytes d.0.0) d.0.1 message.0 size.0 queues.0 in
    subst (Stands 11 bytes) {x = made} (some_is made x d.2) (all, (message.1, size.1, queues.1))

large_ack_takes : (bytes : List ℕ) (x : Entry × List ℕ) → IsBytes bytes → large_ack_at bytes ≡ Some x → Stands 12 bytes x
unfolding large_ack_at
large_ack_takes bytes x fits e =
    let a = bind_some (number_at w32 bytes) _ x e in
    let b = bind_some (id_at a.0.1) _ x a.2 in
    let queue = number32 bytes a.0.0 a.0.1 fits a.1 in
    let message = id_takes a.0.1 b.0.0 b.0.1 queue.0.rest_fits b.1 in
    let made : Entry × List ℕ = (LargeAck a.0.0 b.0.0, b.0.1) in
    let all = two_behind 12 bytes (to_be_bytes w32 a.0.0) a.0.1 (id_bytes b.0.0) b.0.1 queue.0 message.0 in
    subst (Stands 12 bytes) {x = made} (some_is made x b.2) (all, (queue.1, message.1))

first_page_takes : (bytes : List ℕ) (x : Entry × List ℕ) → IsBytes bytes → first_page_at bytes ≡ Some x → Stands 13 bytes x
unfolding first_page_at
first_page_takes bytes x fits e =
    let a = bind_some (number_at w32 bytes) _ x e in
    let b = bind_some (number_at w64 a.0.1) _ x a.2 in
    let address = number32 bytes a.0.0 a.0.1 fits a.1 in
    let page = number64 a.0.1 b.0.0 b.0.1 address.0.rest_fits b.1 in
    let made : Entry × List ℕ = (FirstPage a.0.0 b.0.0, b.0.1) in
    let all = two_behind 13 bytes (to_be_bytes w32 a.0.0) a.0.1 (to_be_bytes w64 b.0.0) b.0.1 address.0 page.0 in
    subst (Stands 13 bytes) {x = made} (some_is made x b.2) (all, (address.1, page.1))

next_queue_takes : (bytes : List ℕ) (x : Entry × List ℕ) → IsBytes bytes → next_queue_at bytes ≡ Some x → Stands 14 bytes x
unfolding next_queue_at
next_queue_takes bytes x fits e =
    let a = bind_some (number_at w32 bytes) _ x e in
    let queue = number32 bytes a.0.0 a.0.1 fits a.1 in
    let made : Entry × List ℕ = (NextQueue a.0.0, a.0.1) in
    subst (Stands 14 bytes) {x = made} (some_is made x a.2) (behind_code 14 bytes (to_be_bytes w32 a.0.0) a.0.1 queue.0, queue.1)

ack_run_takes : (bytes : List ℕ) (x : Entry × List ℕ) → IsBytes bytes → ack_run_at bytes ≡ Some x → Stands 15 bytes x
unfolding ack_run_at
ack_run_takes bytes x fits e =
    let a = bind_some (number_at w32 bytes) _ x e in
    let b = bind_some (number_at w64 a.0.1) _ x a.2 in
    let d = bind_some (number_at w32 b.0.1) _ x b.2 in
    let f = bind_some (number_at w32 d.0.1) _ x d.2 in
    let queue = number32 bytes a.0.0 a.0.1 fits a.1 in
    let page = number64 a.0.1 b.0.0 b.0.1 queue.0.rest_fits b.1 in
    let first = number32 b.0.1 d.0.0 d.0.1 page.0.rest_fits d.1 in
    let last = number32 d.0.1 f.0.0 f.0.1 first.0.rest_fits f.1 in
    let passed = cond_some _ _ _ f.2 in
    let two = Takes-then b.0.1 (to_be_bytes w32 d.0.0) d.0.1 (to_be_bytes w32 f.0.0) f.0.1 first.0 last.0 in
    let all = three_behind 15 bytes (to_be_bytes w32 a.0.0) a.0.1 (to_be_bytes w64 b.0.0) b.0.1 (to_be_bytes w32 d.0.0 ++ to_be_bytes w32 f.0.0) f.0.1 queue.0 page.0 two in
    subst (Stands 15 bytes) passed.1 (all, (queue.1, page.1, leb-true d.0.0 f.0.0 passed.0, last.1))

-- ---- what is spelled

again32 : (n : ℕ) (rest : List ℕ) → n < 2 ^ 32 → number_at w32 (to_be_bytes w32 n ++ rest) ≡ Some (n, rest)
again32 n rest lt = number_again w32 (2 ^ 32) wide32 n rest lt

again64 : (n : ℕ) (rest : List ℕ) → n < 2 ^ 64 → number_at w64 (to_be_bytes w64 n ++ rest) ≡ Some (n, rest)
again64 n rest lt = number_again w64 (2 ^ 64) wide64 n rest lt

-- so many fields, and what stands behind them
regroup_three : (a b c rest : List ℕ) → (a ++ (b ++ c)) ++ rest ≡ a ++ (b ++ (c ++ rest))
regroup_three a b c rest = simp append_assoc

regroup_four : (a b c d rest : List ℕ) → (a ++ (b ++ (c ++ d))) ++ rest ≡ a ++ (b ++ (c ++ (d ++ rest)))
regroup_four a b c d rest = simp append_assoc

regroup_six : (a b c d e f rest : List ℕ) → (a ++ (b ++ (c ++ (d ++ (e ++ f))))) ++ rest ≡ a ++ (b ++ (c ++ (d ++ (e ++ (f ++ rest)))))
regroup_six a b c d e f rest = simp append_assoc

epoch_again : (epoch : ℕ) (rest : List ℕ) → HasFields (Epoch epoch) → epoch_at (to_be_bytes w32 epoch ++ rest) ≡ Some (Epoch epoch, rest)
unfolding epoch_at
epoch_again epoch rest fields = rw (again32 epoch rest fields) refl

address_again : (address : ℕ) (name : List ℕ) (max page ahead dup : ℕ) (rest : List ℕ) → HasFields (Address address name max page ahead dup)
    → address_at ((to_be_bytes w32 address ++ (short_bytes name ++ (to_be_bytes w64 max ++ (to_be_bytes w64 page ++ (to_be_bytes w64 ahead ++ to_be_bytes w32 dup))))) ++ rest) ≡ Some (Address address name max page ahead dup, rest)
unfolding address_at
address_again address name max page ahead dup rest fields =
    let five : List ℕ = to_be_bytes w32 dup ++ rest in
    let four : List ℕ = to_be_bytes w64 ahead ++ five in
    let three : List ℕ = to_be_bytes w64 page ++ four in
    let two : List ℕ = to_be_bytes w64 max ++ three in
    ap address_at (regroup_six (to_be_bytes w32 address) (short_bytes name) (to_be_bytes w64 max) (to_be_bytes w64 page) (to_be_bytes w64 ahead) (to_be_bytes w32 dup) rest)
    ∙ rw (again32 address (short_bytes name ++ two) fields.0, name_again name two fields.1, again64 max three fields.2, again64 page four fields.3, again64 ahead five fields.4, again32 dup rest fields.5) refl

queue_again : (queue address : ℕ) (name filter rest : List ℕ) → HasFields (Queue queue address name filter)
    → queue_at ((to_be_bytes w32 queue ++ (to_be_bytes w32 address ++ (short_bytes name ++ filter_bytes filter))) ++ rest) ≡ Some (Queue queue address name filter, rest)
unfolding queue_at
queue_again queue address name filter rest fields =
    let three : List ℕ = filter_bytes filter ++ rest in
    let two : List ℕ = short_bytes name ++ three in
    ap queue_at (regroup_four (to_be_bytes w32 queue) (to_be_bytes w32 address) (short_bytes name) (filter_bytes filter) rest)
    ∙ rw (again32 queue (to_be_bytes w32 address ++ two) fields.0, again32 address two fields.1, name_again name three fields.2, filter_again filter rest fields.3) refl

drop_queue_again : (queue : ℕ) (rest : List ℕ) → HasFields (DropQueue queue) → drop_queue_at (to_be_bytes w32 queue ++ rest) ≡ Some (DropQueue queue, rest)
unfolding drop_queue_at
drop_queue_again queue rest fields = rw (again32 queue rest fields) refl

add_again : (address : ℕ) (queues : List ℕ) (message : Message) (rest : List ℕ) → HasFields (Add address queues message)
    → add_at ((to_be_bytes w32 address ++ (queues_bytes queues ++ message_bytes message)) ++ rest) ≡ Some (Add address queues message, rest)
unfolding add_at
add_again address queues message rest fields =
    let two : List ℕ = message_bytes message ++ rest in
    ap add_at (regroup_three (to_be_bytes w32 address) (queues_bytes queues) (message_bytes message) rest)
    ∙ rw (again32 address (queues_bytes queues ++ two) fields.0, queues_again queues two fields.1, message_again message rest fields.2) refl

ack_again : (queue : ℕ) (message : MessageId) (rest : List ℕ) → HasFields (Ack queue message) → ack_at ((to_be_bytes w32 queue ++ id_bytes message) ++ rest) ≡ Some (Ack queue message, rest)
unfolding ack_at
ack_again queue message rest fields =
    ap ack_at (append_assoc (to_be_bytes w32 queue) (id_bytes message) rest) ∙ rw (again32 queue (id_bytes message ++ rest) fields.0, id_again message rest fields.1) refl

place_again : (queue page index : ℕ) (rest : List ℕ) → HasFields (AckAt queue page index)
    → place_at ((to_be_bytes w32 queue ++ (to_be_bytes w64 page ++ to_be_bytes w32 index)) ++ rest) ≡ Some (AckAt queue page index, rest)
unfolding place_at
place_again queue page index rest fields =
    let two : List ℕ = to_be_bytes w32 index ++ rest in
    ap place_at (regroup_three (to_be_bytes w32 queue) (to_be_bytes w64 page) (to_be_bytes w32 index) rest)
    ∙ rw (again32 queue (to_be_bytes w64 page ++ two) fields.0, again64 page two fields.1, again32 index rest fields.2) refl

page_done_again : (queue page : ℕ) (rest : List ℕ) → HasFields (PageDone queue page) → page_done_at ((to_be_bytes w32 queue ++ to_be_bytes w64 page) ++ rest) ≡ Some (PageDone queue page, rest)
unfolding page_done_at
page_done_again queue page rest fields =
    ap page_done_at (append_assoc (to_be_bytes w32 queue) (to_be_bytes w64 page) rest) ∙ rw (again32 queue (to_be_bytes w64 page ++ rest) fields.0, again64 page rest fields.1) refl

page_tx_again : (tx : MessageId) (last : List (ℕ × ℕ)) (rest : List ℕ) → HasFields (PageTx tx last) → page_tx_at ((id_bytes tx ++ pages_bytes last) ++ rest) ≡ Some (PageTx tx last, rest)
unfolding page_tx_at
page_tx_again tx last rest fields =
    ap page_tx_at (append_assoc (id_bytes tx) (pages_bytes last) rest) ∙ rw (id_again tx (pages_bytes last ++ rest) fields.0, pages_again last rest fields.1) refl

dup_again : (address : ℕ) (id rest : List ℕ) → HasFields (Dup address id) → dup_at ((to_be_bytes w32 address ++ short_bytes id) ++ rest) ≡ Some (Dup address id, rest)
unfolding dup_at
dup_again address id rest fields =
    ap dup_at (append_assoc (to_be_bytes w32 address) (short_bytes id) rest) ∙ rw (again32 address (short_bytes id ++ rest) fields.0, duplicate_id_again id rest fields.1) refl

large_add_again : (message : MessageId) (size : ℕ) (queues rest : List ℕ) → HasFields (LargeAdd message size queues)
    → large_add_at ((id_bytes message ++ (to_be_bytes w64 size ++ queues_bytes queues)) ++ rest) ≡ Some (LargeAdd message size queues, rest)
unfolding large_add_at
large_add_again message size queues rest fields =
    let two : List ℕ = queues_bytes queues ++ rest in
    ap large_add_at (regroup_three (id_bytes message) (to_be_bytes w64 size) (queues_bytes queues) rest)
    ∙ rw (id_again message (to_be_bytes w64 size ++ two) fields.0, again64 size two fields.1, queues_again queues rest fields.2) refl

large_ack_again : (queue : ℕ) (message : MessageId) (rest : List ℕ) → HasFields (LargeAck queue message) → large_ack_at ((to_be_bytes w32 queue ++ id_bytes message) ++ rest) ≡ Some (LargeAck queue message, rest)
unfolding large_ack_at
large_ack_again queue message rest fields =
    ap large_ack_at (append_assoc (to_be_bytes w32 queue) (id_bytes message) rest) ∙ rw (again32 queue (id_bytes message ++ rest) fields.0, id_again message rest fields.1) refl

first_page_again : (address page : ℕ) (rest : List ℕ) → HasFields (FirstPage address page) → first_page_at ((to_be_bytes w32 address ++ to_be_bytes w64 page) ++ rest) ≡ Some (FirstPage address page, rest)
unfolding first_page_at
first_page_again address page rest fields =
    ap first_page_at (append_assoc (to_be_bytes w32 address) (to_be_bytes w64 page) rest) ∙ rw (again32 address (to_be_bytes w64 page ++ rest) fields.0, again64 page rest fields.1) refl

next_queue_again : (queue : ℕ) (rest : List ℕ) → HasFields (NextQueue queue) → next_queue_at (to_be_bytes w32 queue ++ rest) ≡ Some (NextQueue queue, rest)
unfolding next_queue_at
next_queue_again queue rest fields = rw (again32 queue rest fields) refl

ack_run_again : (queue page first last : ℕ) (rest : List ℕ) → HasFields (AckRun queue page first last)
    → ack_run_at ((to_be_bytes w32 queue ++ (to_be_bytes w64 page ++ (to_be_bytes w32 first ++ to_be_bytes w32 last))) ++ rest) ≡ Some (AckRun queue page first last, rest)
unfolding ack_run_at
ack_run_again queue page first last rest fields =
    let three : List ℕ = to_be_bytes w32 last ++ rest in
    let two : List ℕ = to_be_bytes w32 first ++ three in
    ap ack_run_at (regroup_four (to_be_bytes w32 queue) (to_be_bytes w64 page) (to_be_bytes w32 first) (to_be_bytes w32 last) rest)
    ∙ rw (again32 queue (to_be_bytes w64 page ++ two) fields.0, again64 page two fields.1, again32 first three (omega (arith, fields.2, fields.3)), again32 last rest fields.3, le-leb first last fields.2) refl

-- ---- entries

-- the entry of a code is read, or one of the codes behind it
at_code : (code own : ℕ) (here others : Read Entry) (bytes : List ℕ) (x : Entry × List ℕ) → cond (eqb code own) here others ≡ Some x → (here ≡ Some x → Stands own bytes x) → (others ≡ Some x → Stands code bytes x) → Stands code bytes x
at_code code own here others bytes x e first behind =
    elim (cases_Bool (eqb code own)) [
      | inl is ↦ subst (λ (n : ℕ). Stands n bytes x) (sym (eqb-true code own is)) (first (sym (cond-true (eqb code own) here others is) ∙ e))
      | inr not ↦ behind (sym (cond-false (eqb code own) here others not) ∙ e)
    ]

fields_take : (code : ℕ) (bytes : List ℕ) (x : Entry × List ℕ) → IsBytes bytes → fields_at code bytes ≡ Some x → Stands code bytes x
unfolding fields_at
fields_take code bytes x fits e =
    at_code code 1 (epoch_at bytes) _ bytes x e (epoch_takes bytes x fits) (λ e.
    at_code code 2 (address_at bytes) _ bytes x e (address_takes bytes x fits) (λ e.
    at_code code 3 (queue_at bytes) _ bytes x e (queue_takes bytes x fits) (λ e.
    at_code code 4 (drop_queue_at bytes) _ bytes x e (drop_queue_takes bytes x fits) (λ e.
    at_code code 5 (add_at bytes) _ bytes x e (add_takes bytes x fits) (λ e.
    at_code code 6 (ack_at bytes) _ bytes x e (ack_takes bytes x fits) (λ e.
    at_code code 7 (place_at bytes) _ bytes x e (place_takes bytes x fits) (λ e.
    at_code code 8 (page_done_at bytes) _ bytes x e (page_done_takes bytes x fits) (λ e.
    at_code code 9 (page_tx_at bytes) _ bytes x e (page_tx_takes bytes x fits) (λ e.
    at_code code 10 (dup_at bytes) _ bytes x e (dup_takes bytes x fits) (λ e.
    at_code code 11 (large_add_at bytes) _ bytes x e (large_add_takes bytes x fits) (λ e.
    at_code code 12 (large_ack_at bytes) _ bytes x e (large_ack_takes bytes x fits) (λ e.
    at_code code 13 (first_page_at bytes) _ bytes x e (first_page_takes bytes x fits) (λ e.
    at_code code 14 (next_queue_at bytes) _ bytes x e (next_queue_takes bytes x fits) (λ e.
    at_code code 15 (ack_run_at bytes) None bytes x e (ack_run_takes bytes x fits) (λ e. absurd cc)))))))))))))))

pub entry_takes : (bytes : List ℕ) (x : Entry × List ℕ) → IsBytes bytes → entry_at bytes ≡ Some x → Takes bytes (entry_bytes x.0) x.1 × HasFields x.0
unfolding entry_at
entry_takes bytes x fits e =
    let a = bind_some (number_at w8 bytes) _ x e in
    let code = byte_takes bytes a.0.0 a.0.1 fits a.1 in
    subst (λ (t : List ℕ). Takes t (entry_bytes x.0) x.1 × HasFields x.0) (sym code.0.parts) (fields_take a.0.0 a.0.1 x code.0.rest_fits a.2)

-- an entry behind its code
fields_again : (code : ℕ) (bytes : List ℕ) (x : Entry × List ℕ) → fields_at code bytes ≡ Some x → entry_at (code ∷ bytes) ≡ Some x
unfolding entry_at
fields_again code bytes x e = rw (byte_again code bytes) e

pub entry_again : (entry : Entry) (rest : List ℕ) → HasFields entry → entry_at (entry_bytes entry ++ rest) ≡ Some (entry, rest)
unfolding fields_at
entry_again (Epoch epoch) rest fields = fields_again 1 _ _ (epoch_again epoch rest fields)
entry_again (Address address name max page ahead dup) rest fields = fields_again 2 _ _ (address_again address name max page ahead dup rest fields)
entry_again (Queue queue address name filter) rest fields = fields_again 3 _ _ (queue_again queue address name filter rest fields)
entry_again (DropQueue queue) rest fields = fields_again 4 _ _ (drop_queue_again queue rest fields)
entry_again (Add address queues message) rest fields = fields_again 5 _ _ (add_again address queues message rest fields)
entry_again (Ack queue message) rest fields = fields_again 6 _ _ (ack_again queue message rest fields)
entry_again (AckAt queue page index) rest fields = fields_again 7 _ _ (place_again queue page index rest fields)
entry_again (PageDone queue page) rest fields = fields_again 8 _ _ (page_done_again queue page rest fields)
entry_again (PageTx tx last) rest fields = fields_again 9 _ _ (page_tx_again tx last rest fields)
entry_again (Dup address id) rest fields = fields_again 10 _ _ (dup_again address id rest fields)
entry_again (LargeAdd message size queues) rest fields = fields_again 11 _ _ (large_add_again message size queues rest fields)
entry_again (LargeAck queue message) rest fields = fields_again 12 _ _ (large_ack_again queue message rest fields)
entry_again (FirstPage address page) rest fields = fields_again 13 _ _ (first_page_again address page rest fields)
entry_again (NextQueue queue) rest fields = fields_again 14 _ _ (next_queue_again queue rest fields)
entry_again (AckRun queue page first last) rest fields = fields_again 15 _ _ (ack_run_again queue page first last rest fields)

-- the code is a byte
entry_has_bytes : (entry : Entry) → 1 ≤ length (entry_bytes entry)
entry_has_bytes (Epoch epoch) = omega arith
entry_has_bytes (Address address name max page ahead dup) = omega arith
entry_has_bytes (Queue queue address name filter) = omega arith
entry_has_bytes (DropQueue queue) = omega arith
entry_has_bytes (Add address queues message) = omega arith
entry_has_bytes (Ack queue message) = omega arith
entry_has_bytes (AckAt queue page index) = omega arith
entry_has_bytes (PageDone queue page) = omega arith
entry_has_bytes (PageTx tx last) = omega arith
entry_has_bytes (Dup address id) = omega arith
entry_has_bytes (LargeAdd message size queues) = omega arith
entry_has_bytes (LargeAck queue message) = omega arith
entry_has_bytes (FirstPage address page) = omega arith
entry_has_bytes (NextQueue queue) = omega arith
entry_has_bytes (AckRun queue page first last) = omega arith

-- fewer bytes are left behind an entry
pub entry_shortens : (entry : Entry) (rest : List ℕ) → length rest < length (entry_bytes entry ++ rest)
entry_shortens entry rest = omega (arith, length-append (entry_bytes entry) rest, entry_has_bytes entry)
