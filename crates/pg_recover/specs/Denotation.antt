-- What the files of a directory denote: the durable part of a broker.
use Rattle.std.specs.Prelude.{◌≡◌, ◌+◌, ℕ, List, map, filter, sum_by, ◌==◌}
use Rattle.pg_msg.specs.declared.message.Message.{Message}
use Rattle.pg_msg.specs.Messages.{weight_of}
use Rattle.pg_records.specs.declared.entry.Entry.{Entry}
use Rattle.pg_records.specs.Entries.{SpellBatches}
use Rattle.pg_fold.specs.declared.durable.Durable.{Durable}
use Rattle.pg_fold.specs.declared.rows.AddressRow.{AddressRow}
use Rattle.pg_fold.specs.declared.rows.JournaledRow.{JournaledRow}
use Rattle.pg_fold.specs.declared.rows.QueueRow.{QueueRow}
use Rattle.pg_fold.specs.Fold.{fresh, Folds}
use Rattle.pg_fold.specs.Rows.{has_number}
use Rattle.pg_journal.specs.Generations.{JournalOf}
use Rattle.pg_disk.specs.Views.{Contents}
use Rattle.pg_model.specs.Broker.{Address, Queue}
use Rattle.pg_model.specs.Broker.{Durable as BrokerDurable}

-- the messages that the queue holds, in order
abbrev pub held_by : ℕ → List JournaledRow → List Message
held_by queue rows = map (λ row. row.message) (filter (λ row. has_number row.holders queue) rows)

-- the messages of the address, each once
abbrev pub held_at : ℕ → List JournaledRow → List Message
held_at address rows = map (λ row. row.message) (filter (λ row. row.address == address) rows)

-- how many bytes those are
abbrev pub weight_at : ℕ → List JournaledRow → ℕ
weight_at address rows = sum_by weight_of (held_at address rows)

-- an address and a queue of the broker, from their rows
abbrev pub address_of : AddressRow → Address
address_of row = record {
  name = row.name;
  settings = record { max = row.max; page = row.page; ahead = row.ahead; dup = row.dup };
}

abbrev pub queue_of : List JournaledRow → QueueRow → Queue
queue_of rows row = record {
  id = row.id;
  name = row.name;
  address = row.address;
  filter = row.filter;
  messages = held_by row.id rows;
}

-- the durable part that a state stands for
abbrev pub durable_part : Durable → BrokerDurable
durable_part d = record {
  epoch = d.epoch;
  next = d.next;
  addresses = map address_of d.addresses;
  queues = map (queue_of d.journaled) d.queues;
}

-- the same state in the next epoch
abbrev pub raised : Durable → Durable
raised d = record d { epoch = d.epoch + 1 }

-- The journal's batches spell entries, which give this state.
pub record FoldsTo (contents : Contents) (d : Durable) : Type 0 where
  pub batches : List (List ℕ)
  pub entries : List Entry
  pub says : JournalOf contents batches
  pub spelled : SpellBatches batches entries
  pub folded : Folds fresh entries d

-- the durable part is that of the state that the journal gives
pub record Denotes (contents : Contents) (durable : BrokerDurable) : Type 0 where
  pub state : Durable
  pub folds : FoldsTo contents state
  pub is : durable ≡ durable_part state
