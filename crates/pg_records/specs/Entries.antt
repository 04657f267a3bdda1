-- How a batch of the journal spells its entries.
use Rattle.std.specs.Prelude.{◌≡◌, ◌≢◌, ◌<◌, ◌≤◌, ◌^◌, ℕ, List, [], ◌∷◌, ◌++◌, length, IsUtf8}
use Rattle.std.specs.Int.{to_be_bytes, w16, w32, w64}
use Rattle.pg_msg.specs.Lists.{AreQueues, ArePages, queues_bytes, pages_bytes}
use Rattle.pg_msg.specs.Messages.{IsDuplicateId, IsMessage, IsMessageId, id_bytes, message_bytes}
use Rattle.pg_msg.specs.Names.{IsName}
use Rattle.pg_records.specs.declared.entry.Entry.{Entry}
use Rattle.pg_records.specs.declared.entry.Entry.TheVariants.{Epoch, Address, Queue, DropQueue, Add, Ack, AckAt, PageDone, PageTx, Dup, LargeAdd, LargeAck, FirstPage, NextQueue, AckRun}

-- one byte with the length, and the bytes
abbrev pub short_bytes : List ℕ → List ℕ
short_bytes bytes = length bytes ∷ bytes

-- the length in 2 bytes, and the text
abbrev pub filter_bytes : List ℕ → List ℕ
filter_bytes filter = to_be_bytes w16 (length filter) ++ filter

-- a code byte, and the fields, whose numbers are big-endian
abbrev pub entry_bytes : Entry → List ℕ
entry_bytes (Epoch epoch) = 1 ∷ to_be_bytes w32 epoch
entry_bytes (Address address name max page ahead dup) =
    2 ∷ (to_be_bytes w32 address ++ (short_bytes name ++
    (to_be_bytes w64 max ++ (to_be_bytes w64 page ++ (to_be_bytes w64 ahead ++ to_be_bytes w32 dup)))))
entry_bytes (Queue queue address name filter) =
    3 ∷ (to_be_bytes w32 queue ++ (to_be_bytes w32 address ++ (short_bytes name ++ filter_bytes filter)))
entry_bytes (DropQueue queue) = 4 ∷ to_be_bytes w32 queue
entry_bytes (Add address queues message) =
    5 ∷ (to_be_bytes w32 address ++ (queues_bytes queues ++ message_bytes message))
entry_bytes (Ack queue message) = 6 ∷ (to_be_bytes w32 queue ++ id_bytes message)
entry_bytes (AckAt queue page index) = 7 ∷ (to_be_bytes w32 queue ++ (to_be_bytes w64 page ++ to_be_bytes w32 index))
entry_bytes (PageDone queue page) = 8 ∷ (to_be_bytes w32 queue ++ to_be_bytes w64 page)
entry_bytes (PageTx tx last) = 9 ∷ (id_bytes tx ++ pages_bytes last)
entry_bytes (Dup address id) = 10 ∷ (to_be_bytes w32 address ++ short_bytes id)
entry_bytes (LargeAdd message length queues) =
    11 ∷ (id_bytes message ++ (to_be_bytes w64 length ++ queues_bytes queues))
entry_bytes (LargeAck queue message) = 12 ∷ (to_be_bytes w32 queue ++ id_bytes message)
entry_bytes (FirstPage address page) = 13 ∷ (to_be_bytes w32 address ++ to_be_bytes w64 page)
entry_bytes (NextQueue queue) = 14 ∷ to_be_bytes w32 queue
entry_bytes (AckRun queue page from to) =
    15 ∷ (to_be_bytes w32 queue ++ (to_be_bytes w64 page ++ (to_be_bytes w32 from ++ to_be_bytes w32 to)))

-- one behind the other
abbrev pub batch_bytes : List Entry → List ℕ
batch_bytes [] = []
batch_bytes (entry ∷ entries) = entry_bytes entry ++ batch_bytes entries

-- a text of at most 65,535 bytes, whatever it says
abbrev pub IsFilterText : List ℕ → Type 0
IsFilterText filter = IsUtf8 filter × (length filter ≤ 65535)

-- Each field is in its range. Which pages there may be isn't asked here, so that a page is any number of 64 bits.
abbrev pub HasFields : Entry → Type 0
HasFields (Epoch epoch) = epoch < 2 ^ 32
HasFields (Address address name max page ahead dup) =
    (address < 2 ^ 32) × IsName name × (max < 2 ^ 64) × (page < 2 ^ 64) × (ahead < 2 ^ 64) × (dup < 2 ^ 32)
HasFields (Queue queue address name filter) = (queue < 2 ^ 32) × (address < 2 ^ 32) × IsName name × IsFilterText filter
HasFields (DropQueue queue) = queue < 2 ^ 32
HasFields (Add address queues message) = (address < 2 ^ 32) × AreQueues queues × IsMessage message
HasFields (Ack queue message) = (queue < 2 ^ 32) × IsMessageId message
HasFields (AckAt queue page index) = (queue < 2 ^ 32) × (page < 2 ^ 64) × (index < 2 ^ 32)
HasFields (PageDone queue page) = (queue < 2 ^ 32) × (page < 2 ^ 64)
HasFields (PageTx tx last) = IsMessageId tx × ArePages last
HasFields (Dup address id) = (address < 2 ^ 32) × IsDuplicateId id
HasFields (LargeAdd message length queues) = IsMessageId message × (length < 2 ^ 64) × AreQueues queues
HasFields (LargeAck queue message) = (queue < 2 ^ 32) × IsMessageId message
HasFields (FirstPage address page) = (address < 2 ^ 32) × (page < 2 ^ 64)
HasFields (NextQueue queue) = queue < 2 ^ 32
HasFields (AckRun queue page from to) = (queue < 2 ^ 32) × (page < 2 ^ 64) × (from ≤ to) × (to < 2 ^ 32)

abbrev pub HaveFields : List Entry → Type 0
HaveFields [] = Unit {0}
HaveFields (entry ∷ entries) = HasFields entry × HaveFields entries

-- the payload of a batch spells a list of at least one entry
pub record SpellsBatch (payload : List ℕ) (entries : List Entry) : Type 0 where
  pub bytes : payload ≡ batch_bytes entries
  pub some : entries ≢ []
  pub fields : HaveFields entries

-- batch after batch spells the entries
abbrev pub SpellBatches : List (List ℕ) → List Entry → Type 0
SpellBatches [] entries = entries ≡ []
SpellBatches (payload ∷ batches) entries =
    (first : List Entry) × (others : List Entry) × SpellsBatch payload first × SpellBatches batches others
    × (entries ≡ first ++ others)
