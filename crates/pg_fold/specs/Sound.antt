-- What is true of every state that entries give.
use Rattle.std.specs.Prelude.{◌≡◌, ◌≢◌, ◌≤◌, ◌<◌, ℕ, true, false, List, length, All, AllPairs}
use Rattle.std.specs.List.{list_all}
use Rattle.pg_msg.specs.declared.limits.TheConstants.{LONGEST_FILTER, MOST_ADDRESSES, MOST_QUEUES}
use Rattle.pg_msg.specs.Messages.{IsMessage}
use Rattle.pg_parse.specs.FilterTexts.{IsReadable}
use Rattle.pg_fold.specs.declared.durable.Durable.{Durable}
use Rattle.pg_fold.specs.declared.rows.AddressRow.{AddressRow}
use Rattle.pg_fold.specs.declared.rows.JournaledRow.{JournaledRow}
use Rattle.pg_fold.specs.declared.rows.QueueRow.{QueueRow}
use Rattle.pg_fold.specs.Fold.{are_settings}
use Rattle.pg_fold.specs.Rows.{has_address, has_queue_at, queues_at, is_held, same_id, AreNumbered, AreAscending}

-- The addresses have their places for ids and names that differ, they aren't too many, and their settings are in their
-- ranges.
pub record AreAddresses (rows : List AddressRow) : Type 0 where
  pub numbered : AreNumbered rows
  pub names : AllPairs (λ row other. row.name ≢ other.name) rows
  pub few : length rows ≤ MOST_ADDRESSES
  pub settings : All (λ row. are_settings row.max row.page row.ahead row.dup ≡ true) rows

-- The live queues have ascending ids below the next one and names that differ, their addresses are there and have not
-- too many of them, and their filters are readable and not too long.
pub record AreQueues (addresses : List AddressRow) (next : ℕ) (rows : List QueueRow) : Type 0 where
  pub ascending : AreAscending rows
  pub below : All (λ row. row.id < next) rows
  pub names : AllPairs (λ row other. row.name ≢ other.name) rows
  pub placed : All (λ row. has_address addresses row.address ≡ true) rows
  pub few : (address : ℕ) → queues_at rows address ≤ MOST_QUEUES
  pub readable : All (λ row. IsReadable row.filter) rows
  pub short : All (λ row. length row.filter ≤ LONGEST_FILTER) rows

-- a message has its address, some queue holds it, and those that do are live ones of the address
pub record IsHeldRow (addresses : List AddressRow) (queues : List QueueRow) (row : JournaledRow) : Type 0 where
  pub placed : has_address addresses row.address ≡ true
  pub held : is_held row ≡ true
  pub holders : list_all (has_queue_at queues row.address) row.holders ≡ true

-- The messages have ids that differ, of epochs that were begun, and keep the ranges of their fields.
pub record AreMessages (epoch : ℕ) (rows : List JournaledRow) : Type 0 where
  pub ids : AllPairs (λ row other. same_id row.message.id other.message.id ≡ false) rows
  pub begun : All (λ row. row.message.id.epoch ≤ epoch) rows
  pub messages : All (λ row. IsMessage row.message) rows

pub record IsSound (d : Durable) : Type 0 where
  pub addresses : AreAddresses d.addresses
  pub queues : AreQueues d.addresses d.next d.queues
  pub messages : AreMessages d.epoch d.journaled
  pub held : All (IsHeldRow d.addresses d.queues) d.journaled
