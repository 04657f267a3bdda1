-- Reading entries from left to right: an entry and the bytes behind it, or nothing where no entry is spelled there.
use Rattle.std.specs.Prelude.{ℕ, zero, suc, Bool, true, false, List, [], ◌∷◌, length, Option, Some, None, nat_le, ◌==◌, if◌then◌else◌}
use Rattle.std.specs.Int.{w8, w16, w32, w64}
use Rattle.std.specs.Str.{is_utf8}
use Rattle.pg_msg.specs.declared.limits.TheConstants.{LONGEST_DUPLICATE_ID}
use Rattle.pg_msg.specs.Reading.{Read, ◌>>=◌, guarded, is_between, number_at, octets_at, id_at, name_at, queues_at, pages_at, message_at}
use Rattle.pg_records.specs.declared.entry.Entry.{Entry}
use Rattle.pg_records.specs.declared.entry.Entry.TheVariants.{Epoch, Address, Queue, DropQueue, Add, Ack, AckAt, PageDone, PageTx, Dup, LargeAdd, LargeAck, FirstPage, NextQueue, AckRun}

-- a length in 2 bytes and so many bytes, which are a text
unfoldable pub filter_at : List ℕ → Read (List ℕ)
filter_at bytes = do
  count ← number_at w16 bytes
  filter ← octets_at count.0 count.1
  guarded (is_utf8 filter.0) filter

-- a length byte that isn't 0 or too great, and so many bytes
unfoldable pub duplicate_id_at : List ℕ → Read (List ℕ)
duplicate_id_at bytes = do
  count ← number_at w8 bytes
  id ← octets_at count.0 count.1
  guarded (is_between 1 LONGEST_DUPLICATE_ID count.0) id

unfoldable pub epoch_at : List ℕ → Read Entry
epoch_at bytes = do
  epoch ← number_at w32 bytes
  Some (Epoch epoch.0, epoch.1)

unfoldable pub address_at : List ℕ → Read Entry
address_at bytes = do
  address ← number_at w32 bytes
  name ← name_at address.1
  max ← number_at w64 name.1
  page ← number_at w64 max.1
  ahead ← number_at w64 page.1
  dup ← number_at w32 ahead.1
  Some (Address address.0 name.0 max.0 page.0 ahead.0 dup.0, dup.1)

unfoldable pub queue_at : List ℕ → Read Entry
queue_at bytes = do
  queue ← number_at w32 bytes
  address ← number_at w32 queue.1
  name ← name_at address.1
  filter ← filter_at name.1
  Some (Queue queue.0 address.0 name.0 filter.0, filter.1)

unfoldable pub drop_queue_at : List ℕ → Read Entry
drop_queue_at bytes = do
  queue ← number_at w32 bytes
  Some (DropQueue queue.0, queue.1)

unfoldable pub add_at : List ℕ → Read Entry
add_at bytes = do
  address ← number_at w32 bytes
  queues ← queues_at address.1
  message ← message_at queues.1
  Some (Add address.0 queues.0 message.0, message.1)

unfoldable pub ack_at : List ℕ → Read Entry
ack_at bytes = do
  queue ← number_at w32 bytes
  message ← id_at queue.1
  Some (Ack queue.0 message.0, message.1)

unfoldable pub place_at : List ℕ → Read Entry
place_at bytes = do
  queue ← number_at w32 bytes
  page ← number_at w64 queue.1
  index ← number_at w32 page.1
  Some (AckAt queue.0 page.0 index.0, index.1)

unfoldable pub page_done_at : List ℕ → Read Entry
page_done_at bytes = do
  queue ← number_at w32 bytes
  page ← number_at w64 queue.1
  Some (PageDone queue.0 page.0, page.1)

unfoldable pub page_tx_at : List ℕ → Read Entry
page_tx_at bytes = do
  tx ← id_at bytes
  last ← pages_at tx.1
  Some (PageTx tx.0 last.0, last.1)

unfoldable pub dup_at : List ℕ → Read Entry
dup_at bytes = do
  address ← number_at w32 bytes
  id ← duplicate_id_at address.1
  Some (Dup address.0 id.0, id.1)

unfoldable pub large_add_at : List ℕ → Read Entry
large_add_at bytes = do
  message ← id_at bytes
  size ← number_at w64 message.1
  queues ← queues_at size.1
  Some (LargeAdd message.0 size.0 queues.0, queues.1)

unfoldable pub large_ack_at : List ℕ → Read Entry
large_ack_at bytes = do
  queue ← number_at w32 bytes
  message ← id_at queue.1
  Some (LargeAck queue.0 message.0, message.1)

unfoldable pub first_page_at : List ℕ → Read Entry
first_page_at bytes = do
  address ← number_at w32 bytes
  page ← number_at w64 address.1
  Some (FirstPage address.0 page.0, page.1)

unfoldable pub next_queue_at : List ℕ → Read Entry
next_queue_at bytes = do
  queue ← number_at w32 bytes
  Some (NextQueue queue.0, queue.1)

unfoldable pub ack_run_at : List ℕ → Read Entry
ack_run_at bytes = do
  queue ← number_at w32 bytes
  page ← number_at w64 queue.1
  from ← number_at w32 page.1
  to ← number_at w32 from.1
  guarded (nat_le from.0 to.0) (AckRun queue.0 page.0 from.0 to.0, to.1)

-- the fields behind the code of an entry
unfoldable pub fields_at : ℕ → List ℕ → Read Entry
fields_at code bytes =
    if code == 1 then epoch_at bytes else (
    if code == 2 then address_at bytes else (
    if code == 3 then queue_at bytes else (
    if code == 4 then drop_queue_at bytes else (
    if code == 5 then add_at bytes else (
    if code == 6 then ack_at bytes else (
    if code == 7 then place_at bytes else (
    if code == 8 then page_done_at bytes else (
    if code == 9 then page_tx_at bytes else (
    if code == 10 then dup_at bytes else (
    if code == 11 then large_add_at bytes else (
    if code == 12 then large_ack_at bytes else (
    if code == 13 then first_page_at bytes else (
    if code == 14 then next_queue_at bytes else (
    if code == 15 then ack_run_at bytes else None))))))))))))))

-- a code byte and the fields of such an entry
unfoldable pub entry_at : List ℕ → Read Entry
entry_at bytes = do
  code ← number_at w8 bytes
  fields_at code.0 code.1

-- entries until no bytes are left, at most so many
unfoldable pub entries_at : ℕ → List ℕ → Option (List Entry)
entries_at most [] = Some []
entries_at zero (byte ∷ bytes) = None
entries_at (suc most) (byte ∷ bytes) = do
  entry ← entry_at (byte ∷ bytes)
  entries ← entries_at most entry.1
  Some (entry.0 ∷ entries)

abbrev pub is_some_list : List Entry → Bool
is_some_list [] = false
is_some_list (entry ∷ entries) = true

-- all of the bytes, which are at least one entry; each has at least one byte
unfoldable pub batch_at : List ℕ → Option (List Entry)
batch_at bytes = do
  entries ← entries_at (length bytes) bytes
  guarded (is_some_list entries) entries
