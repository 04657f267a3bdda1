-- What a command does to what is kept in memory, and the batch that the journal gets for it.
use Rattle.std.specs.Prelude.{◌≡◌, ◌⊎◌, ◌≤◌, ◌+◌, ℕ, Bool, false, List, [], ◌∷◌, ◌++◌, length, Option, Some, None, MatchOption}
use Rattle.std.specs.Option.{option_map_or}
use Rattle.pg_disk.specs.declared.fault.Fault.{Fault}
use Rattle.pg_disk.specs.declared.fault.Fault.TheVariants.{Failed, Damaged, Spent, Memory}
use Rattle.pg_msg.specs.declared.limits.TheConstants.{QUEUE_ID_LIMIT}
use Rattle.pg_msg.specs.declared.message.Message.{Message}
use Rattle.pg_msg.specs.declared.reply.Refusal.{Refusal}
use Rattle.pg_model.specs.Actions.{Action, MakeAddress, MakeQueue, DropQueue, Send, Open, Receive, Acknowledge, Cancel, Close, Count}
use Rattle.pg_model.specs.Broker.{Settings, address_named, consumer_named, queue_named}
use Rattle.pg_model.specs.Causes.{IsFirst}
use Rattle.pg_model.specs.Changes.{message_of, next_id}
use Rattle.pg_model.specs.Refusals.{causes}
use Rattle.pg_model.specs.Routing.{IsRouted, text_of}
use Rattle.pg_model.specs.Steps.{Takes}
use Rattle.pg_records.specs.declared.entry.Entry.{Entry}
use Rattle.pg_records.specs.declared.entry.Entry.TheVariants as entry
use Rattle.pg_records.specs.Entries.{HasFields, batch_bytes}
use Rattle.pg_fold.specs.declared.rows.AddressRow.{AddressRow}
use Rattle.pg_fold.specs.Fold.{IsApplied}
use Rattle.pg_fold.specs.Rows.{has_address}
use Rattle.pg_recover.specs.WellFormed.{AreRoomy}
use Rattle.pg_engine.specs.declared.address.Settings.{Settings as MadeWith}
use Rattle.pg_engine.specs.declared.state.Outcome.{Outcome}
use Rattle.pg_engine.specs.declared.state.Outcome.TheVariants.{Unchanged, Changed}
use Rattle.pg_engine.specs.Kept.{Kept, broker_of, view_of}

-- the settings of an address, as the code has them
abbrev pub settings_of : MadeWith → Settings
settings_of settings = record { max = settings.max; page = settings.page; ahead = settings.ahead; dup = settings.dup }

-- ---- what the journal gets
-- the entry of a message that goes to these queues
abbrev pub entries_of_message : ℕ → List ℕ → Message → List Entry
entries_of_message address [] m = []
entries_of_message address (number ∷ numbers) m = entry.Add address (number ∷ numbers) m ∷ []

-- the batch of an action that isn't refused, where its message goes to these queues; one without entries writes nothing
abbrev pub entries_of : Kept → List ℕ → Action → List Entry
entries_of s numbers (MakeAddress name settings) =
    entry.Address (length s.durable.addresses + 1) name settings.max settings.page settings.ahead settings.dup ∷ []
entries_of s numbers (MakeQueue name address filter) =
    option_map_or (λ id. entry.Queue s.durable.next id name (text_of filter) ∷ [])
    (address_named (broker_of s).durable.addresses address) []
entries_of s numbers (DropQueue name) =
    option_map_or (λ q. entry.DropQueue q.id ∷ []) (queue_named (broker_of s).durable.queues name) []
entries_of s numbers (Send address properties body) =
    option_map_or (λ id. entries_of_message id numbers (message_of (next_id (broker_of s)) properties body))
    (address_named (broker_of s).durable.addresses address) []
entries_of s numbers (Open name queue) = []
entries_of s numbers (Receive consumer) = []
entries_of s numbers (Acknowledge consumer id) =
    option_map_or (λ c. entry.Ack c.queue id ∷ []) (consumer_named s.consumers consumer) []
entries_of s numbers (Cancel consumer id) = []
entries_of s numbers (Close consumer) = []
entries_of s numbers (Count queue) = []

-- these are the queues that the message of an action goes to; an action without a message has none
abbrev pub AreTakers : Kept → Action → List ℕ → Type 0
AreTakers s (Send address properties body) numbers =
    MatchOption (address_named (broker_of s).durable.addresses address) (numbers ≡ [])
    (λ id. IsRouted (broker_of s) id properties numbers)
AreTakers s (MakeAddress name settings) numbers = numbers ≡ []
AreTakers s (MakeQueue name address filter) numbers = numbers ≡ []
AreTakers s (DropQueue name) numbers = numbers ≡ []
AreTakers s (Open name queue) numbers = numbers ≡ []
AreTakers s (Receive consumer) numbers = numbers ≡ []
AreTakers s (Acknowledge consumer id) numbers = numbers ≡ []
AreTakers s (Cancel consumer id) numbers = numbers ≡ []
AreTakers s (Close consumer) numbers = numbers ≡ []
AreTakers s (Count queue) numbers = numbers ≡ []

-- so this is the batch of the action
pub record HasEntries (s : Kept) (action : Action) (batch : List Entry) : Type 0 where
  pub takers : List ℕ
  pub are : AreTakers s action takers
  pub is : batch ≡ entries_of s takers action

-- no id is left for a further queue
abbrev pub WantsQueueId : Kept → Action → Type 0
WantsQueueId s (MakeQueue name address filter) = QUEUE_ID_LIMIT ≤ s.durable.next
WantsQueueId s (MakeAddress name settings) = ⊥
WantsQueueId s (DropQueue name) = ⊥
WantsQueueId s (Send address properties body) = ⊥
WantsQueueId s (Open name queue) = ⊥
WantsQueueId s (Receive consumer) = ⊥
WantsQueueId s (Acknowledge consumer id) = ⊥
WantsQueueId s (Cancel consumer id) = ⊥
WantsQueueId s (Close consumer) = ⊥
WantsQueueId s (Count queue) = ⊥

-- the action isn't refused
abbrev pub IsAccepted : Kept → Action → Type 0
IsAccepted s action = IsFirst (causes (view_of s) (broker_of s) action) None

-- the batch of the action, and nothing where it is refused
abbrev pub AddsUnless : Kept → Action → Option Refusal → List Entry → Type 0
AddsUnless s action None batch = HasEntries s action batch
AddsUnless s action (Some refusal) batch = batch ≡ []

-- what is asked adds this to the journal
abbrev pub Adds : Kept → Option Action → List Entry → Type 0
Adds s None batch = batch ≡ []
Adds s (Some action) batch =
    (refusal : Option Refusal) × IsFirst (causes (view_of s) (broker_of s) action) refusal
    × AddsUnless s action refusal batch

-- ---- what comes of it in memory
-- an action that isn't refused finds no id for its queue
abbrev pub MeetsNoQueueId : Kept → Option Action → Type 0
MeetsNoQueueId s None = ⊥
MeetsNoQueueId s (Some action) = IsAccepted s action × WantsQueueId s action

-- it adds nothing, and doesn't want a queue id where none is left
pub record AddsNothing (s : Kept) (asked : Option Action) : Type 0 where
  pub nothing : Adds s asked []
  pub queue_id : MeetsNoQueueId s asked → ⊥

-- The addresses and what is known of their pages are as before, or there is one more, whose id is new and which has no
-- page.
abbrev pub GrowsTo : List AddressRow → List Bool → List AddressRow → List Bool → Type 0
GrowsTo rows paged more now =
    ((more ≡ rows) × (now ≡ paged))
    ⊎ ((row : AddressRow) × (more ≡ rows ++ (row ∷ [])) × (has_address rows row.id ≡ false) × (now ≡ paged ++ (false ∷ [])))

-- The action isn't refused, its batch has one entry, which gives the state after it, the bytes spell the batch, and
-- the messages have room.
pub record Records (s : Kept) (action : Action) (batch : List ℕ) (t : Kept) : Type 0 where
  pub entry : Entry
  pub accepted : IsAccepted s action
  pub queue_id : WantsQueueId s action → ⊥
  pub has_entry : HasEntries s action (entry ∷ [])
  pub applied : IsApplied s.durable entry t.durable
  pub fields : HasFields entry
  pub bytes : batch ≡ batch_bytes (entry ∷ [])
  pub roomy : AreRoomy t.durable
  pub grows : GrowsTo s.durable.addresses s.paged t.durable.addresses t.paged

-- what is asked does so
abbrev pub RecordsAsked : Kept → Option Action → List ℕ → Kept → Type 0
RecordsAsked s None batch t = ⊥
RecordsAsked s (Some action) batch t = Records s action batch t

-- What outlives the run, and what is known of pages, is as before: at most what ends with the run changed.
pub record IsAsBefore (s t : Kept) : Type 0 where
  pub durable : t.durable ≡ s.durable
  pub paged : t.paged ≡ s.paged

-- one step, which keeps what outlives the run or has a batch
abbrev pub IsOutcome : Kept → Option Action → Outcome → Type 0
IsOutcome s asked (Unchanged t reply) =
    IsAsBefore s t × Takes (view_of s) (broker_of s) asked reply (broker_of t) × AddsNothing s asked
IsOutcome s asked (Changed t batch reply) =
    Takes (view_of s) (broker_of s) asked reply (broker_of t) × RecordsAsked s asked batch t

-- no outcome: for want of memory, or where an action that isn't refused finds no queue id
abbrev pub IsNoOutcome : Kept → Option Action → Fault → Type 0
IsNoOutcome s asked Failed = ⊥
IsNoOutcome s asked (Damaged damage) = ⊥
IsNoOutcome s asked Spent = MeetsNoQueueId s asked
IsNoOutcome s asked Memory = Unit {0}
