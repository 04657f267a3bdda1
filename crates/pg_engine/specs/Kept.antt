-- What is kept in memory, and the broker and the view that it stands for.
use Rattle.std.specs.Prelude.{◌≡◌, ◌≤◌, ◌<◌, ◌-◌, ℕ, Bool, false, List, map, find, length, if◌then◌else◌, All, slice_get, slice_index_or, Option, Some, None}
use Rattle.std.specs.Option.{option_and_then}
use Rattle.pg_msg.specs.declared.message.Message.{Message}
use Rattle.pg_msg.specs.declared.message.MessageId.{MessageId}
use Rattle.pg_msg.specs.Messages.{weight_of}
use Rattle.pg_dispatch.specs.Dispatch.{Line}
use Rattle.pg_fold.specs.declared.durable.Durable.{Durable}
use Rattle.pg_fold.specs.declared.rows.AddressRow.{AddressRow}
use Rattle.pg_fold.specs.declared.rows.JournaledRow.{JournaledRow}
use Rattle.pg_fold.specs.declared.rows.QueueRow.{QueueRow}
use Rattle.pg_fold.specs.Rows.{is_held, released, same_id}
use Rattle.pg_fold.specs.Sound.{IsSound}
use Rattle.pg_parse.specs.declared.tree.Tree.{Tree}
use Rattle.pg_parse.specs.FilterTexts.{ReadsAs}
use Rattle.pg_model.specs.Broker.{Broker, Consumer, Queue, IsDrawn, consumer_named, queue_with}
use Rattle.pg_model.specs.Changes.{with_flights, with_id}
use Rattle.pg_model.specs.Refusals.{View}
use Rattle.pg_model.specs.Steps.{available}
use Rattle.pg_recover.specs.Denotation.{durable_part, weight_at}
use Rattle.pg_recover.specs.WellFormed.{AreRoomy}
use Rattle.pg_routes.specs.Names.{AddressName, QueueName, RouteNames}

-- the folded state, how many message ids were drawn since the opening, how many an epoch has, of each address whether it
-- has a page, and the open consumers
pub record Kept : Type 0 where
  pub durable : Durable
  pub drawn : ℕ
  pub ids : ℕ
  pub paged : List Bool
  pub consumers : List Consumer

-- the broker that this stands for
abbrev pub broker_of : Kept → Broker
broker_of kept = record {
  durable = durable_part kept.durable;
  running = record { drawn = kept.drawn; consumers = kept.consumers };
  ids = kept.ids;
}

-- and what it tells of the addresses
abbrev pub view_of : Kept → View
view_of kept = λ id. record {
  resident = weight_at id kept.durable.journaled;
  is_paging = slice_index_or kept.paged (id - 1) false;
}

-- an id is that of one of so many addresses
abbrev pub IsId : ℕ → ℕ → Type 0
IsId count id = (1 ≤ id) × (id ≤ count)

-- the filters of live queues as trees, by the ids of the queues
abbrev pub Trees : Type 0
Trees = ℕ → Option Tree

-- an address and a live queue as the routes name them
abbrev pub name_of_address : AddressRow → AddressName
name_of_address row = record { id = row.id; name = row.name }

abbrev pub name_of_queue : Trees → QueueRow → QueueName
name_of_queue trees row = record { id = row.id; address = row.address; name = row.name; filter = trees row.id }

-- the trees are those that the texts of the queues' filters are read as
abbrev pub AreTreesOf : Trees → List QueueRow → Type 0
AreTreesOf trees queues = All (λ row. ReadsAs row.filter (trees row.id)) queues

-- The routes have these addresses, and name these queues, each with the tree of its filter.
pub record AreNamed (addresses : List AddressName) (queues : List QueueRow) (names : RouteNames) : Type 0 where
  pub trees : Trees
  pub named : names ≡ record { addresses = addresses; queues = map (name_of_queue trees) queues }
  pub read : AreTreesOf trees queues

-- So they name these addresses and queues.
abbrev pub AreRoutesOf : List AddressRow → List QueueRow → RouteNames → Type 0
AreRoutesOf addresses queues names = AreNamed (map name_of_address addresses) queues names

-- The bytes of the messages of each address.
abbrev pub weights_in : Durable → List ℕ
weights_in d = map (λ row. weight_at row.id d.journaled) d.addresses

-- and the ids of the messages of each live queue
abbrev pub line_from : Queue → Line
line_from q = record { queue = q.id; ids = map (λ m. m.id) q.messages }

abbrev pub lines_in : Durable → List Line
lines_in d = map line_from (durable_part d).queues

-- What is true of the parts: the state is one that entries give, its messages have room and ids that were drawn, and
-- the names, the weights and the lines of messages that are kept beside it are those in it.
pub record IsFit (durable : Durable) (names : RouteNames) (weights : List ℕ) (lines : List Line) (paged : List Bool) (drawn : ℕ)
    : Type 0 where
  pub sound : IsSound durable
  pub begun : 1 ≤ durable.epoch
  pub roomy : AreRoomy durable
  pub drawn_all : All (λ row. IsDrawn durable.epoch drawn row.message.id) durable.journaled
  pub named : AreRoutesOf durable.addresses durable.queues names
  pub weighed : weights ≡ weights_in durable
  pub lined : lines ≡ lines_in durable
  pub counted : length paged ≡ length durable.addresses

-- The address with that id holds less than its limit.
abbrev pub HasRoom : Durable → ℕ → Type 0
HasRoom d id = (row : AddressRow) → slice_get d.addresses (id - 1) ≡ Some row → weight_at id d.journaled < row.max

-- The address of the message with that id, and how many bytes fewer it holds once the queue holds the message no more.
pub record IsRelief (rows : List JournaledRow) (queue : ℕ) (id : MessageId) (address bytes : ℕ) : Type 0 where
  pub row : JournaledRow
  pub found : find (λ r. same_id r.message.id id) rows ≡ Some row
  pub address_is : address ≡ row.address
  pub bytes_are : bytes ≡ (if is_held (released queue row) then 0 else weight_of row.message)

-- ---- consumers
-- the same with these consumers
abbrev pub with_consumers : List Consumer → Kept → Kept
with_consumers consumers s = record s { consumers = consumers }

-- the message that the consumer of that name gets next
abbrev pub next_for : List ℕ → Kept → Option Message
next_for name s =
    option_and_then (λ c. option_and_then (available (broker_of s)) (queue_with (broker_of s).durable.queues c.queue))
    (consumer_named s.consumers name)

-- the message is in flight for the consumer of that name, if one is given
abbrev pub after_giving : List ℕ → Option Message → Kept → Kept
after_giving name None s = s
after_giving name (Some m) s = with_consumers (with_flights name (with_id m.id) s.consumers) s
