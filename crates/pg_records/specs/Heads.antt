-- The bytes of an entry in two parts, for the private writers.
use Rattle.std.specs.Prelude.{ℕ, List, [], ◌∷◌, ◌++◌}
use Rattle.std.specs.Int.{to_be_bytes, w32, w64}
use Rattle.pg_msg.specs.Lists.{queues_bytes, pages_bytes}
use Rattle.pg_msg.specs.Messages.{id_bytes, message_bytes}
use Rattle.pg_records.specs.declared.entry.Entry.{Entry}
use Rattle.pg_records.specs.declared.entry.Entry.TheVariants.{Epoch, Address, Queue, DropQueue, Add, Ack, AckAt, PageDone, PageTx, Dup, LargeAdd, LargeAck, FirstPage, NextQueue, AckRun}
use Rattle.pg_records.specs.Entries.{short_bytes, filter_bytes}

-- the code and the first field
abbrev pub head_bytes : Entry → List ℕ
head_bytes (Epoch epoch) = 1 ∷ to_be_bytes w32 epoch
head_bytes (Address address name max page ahead dup) = 2 ∷ to_be_bytes w32 address
head_bytes (Queue queue address name filter) = 3 ∷ to_be_bytes w32 queue
head_bytes (DropQueue queue) = 4 ∷ to_be_bytes w32 queue
head_bytes (Add address queues message) = 5 ∷ to_be_bytes w32 address
head_bytes (Ack queue message) = 6 ∷ to_be_bytes w32 queue
head_bytes (AckAt queue page index) = 7 ∷ to_be_bytes w32 queue
head_bytes (PageDone queue page) = 8 ∷ to_be_bytes w32 queue
head_bytes (PageTx tx last) = 9 ∷ id_bytes tx
head_bytes (Dup address id) = 10 ∷ to_be_bytes w32 address
head_bytes (LargeAdd message length queues) = 11 ∷ id_bytes message
head_bytes (LargeAck queue message) = 12 ∷ to_be_bytes w32 queue
head_bytes (FirstPage address page) = 13 ∷ to_be_bytes w32 address
head_bytes (NextQueue queue) = 14 ∷ to_be_bytes w32 queue
head_bytes (AckRun queue page from to) = 15 ∷ to_be_bytes w32 queue

-- the other fields
abbrev pub behind_head : Entry → List ℕ
behind_head (Epoch epoch) = []
behind_head (Address address name max page ahead dup) =
    short_bytes name ++ (to_be_bytes w64 max ++
    (to_be_bytes w64 page ++ (to_be_bytes w64 ahead ++ to_be_bytes w32 dup)))
behind_head (Queue queue address name filter) = to_be_bytes w32 address ++ (short_bytes name ++ filter_bytes filter)
behind_head (DropQueue queue) = []
behind_head (Add address queues message) = queues_bytes queues ++ message_bytes message
behind_head (Ack queue message) = id_bytes message
behind_head (AckAt queue page index) = to_be_bytes w64 page ++ to_be_bytes w32 index
behind_head (PageDone queue page) = to_be_bytes w64 page
behind_head (PageTx tx last) = pages_bytes last
behind_head (Dup address id) = short_bytes id
behind_head (LargeAdd message length queues) = to_be_bytes w64 length ++ queues_bytes queues
behind_head (LargeAck queue message) = id_bytes message
behind_head (FirstPage address page) = to_be_bytes w64 page
behind_head (NextQueue queue) = []
behind_head (AckRun queue page from to) = to_be_bytes w64 page ++ (to_be_bytes w32 from ++ to_be_bytes w32 to)
