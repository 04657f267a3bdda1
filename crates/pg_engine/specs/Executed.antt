-- What a command does to the broker and to its files, and what a crash within it leaves.
use Rattle.std.specs.Prelude.{◌≡◌, ◌≢◌, ◌⊎◌, ◌≤◌, ◌<◌, ◌+◌, ◌-◌, ℕ, List, [], ◌∷◌, ◌++◌, length, slice_get, Option, Some, true, Result, IfOk, OnOk}
use Rattle.std.specs.FinMap.{FinMap}
use Rattle.pg_disk.specs.declared.disk.Disk.{Ghosts}
use Rattle.pg_disk.specs.declared.fault.Fault.{Fault}
use Rattle.pg_disk.specs.declared.fault.Fault.TheVariants.{Failed, Damaged, Spent, Memory}
use Rattle.pg_disk.specs.Account.{FileState, Account, account, IsHonest}
use Rattle.pg_disk.specs.Calls.{ChangesWhere, OnlyReads, ReadsSome}
use Rattle.pg_disk.specs.Files.{file_cmp, Files}
use Rattle.pg_disk.specs.Image.{Only}
use Rattle.pg_disk.specs.Meanings.{Decides}
use Rattle.pg_disk.specs.Views.{as_left, as_read}
use Rattle.pg_msg.specs.declared.command.Command.{Command}
use Rattle.pg_msg.specs.declared.limits.TheConstants.{FILE_LIMIT, WEIGHT_LIMIT}
use Rattle.pg_msg.specs.declared.reply.Reply.{Reply}
use Rattle.pg_model.specs.Actions.{Action}
use Rattle.pg_model.specs.Broker.{Address, Durable, Broker}
use Rattle.pg_model.specs.Refusals.{View}
use Rattle.pg_model.specs.Steps.{Step, asked}
use Rattle.pg_fold.specs.Rows.{has_address}
use Rattle.pg_records.specs.declared.entry.Entry.{Entry}
use Rattle.pg_records.specs.Entries.{batch_bytes}
use Rattle.pg_journal.specs.declared.journal.Journal.{Journal}
use Rattle.pg_journal.specs.Stands.{Stands, counted, name_of}
use Rattle.pg_recover.specs.Denotation.{Denotes}
use Rattle.pg_recover.specs.Recovered.{KeepsOthers, Owns as OwnsJournal}
use Rattle.pg_recover.specs.Staying.{LeavesWell, StaysWell}
use Rattle.pg_recover.specs.Viewing.{ArePaged, Shows}
use Rattle.pg_recover.specs.WellFormed.{AreRoomy, IsThere, page_file}
use Rattle.pg_engine.specs.declared.engine.Engine.{Engine}
use Rattle.pg_engine.specs.Kept.{Kept, broker_of, view_of}
use Rattle.pg_engine.specs.Outcomes.{Adds, HasEntries, IsAccepted, WantsQueueId}

-- the state that the engine stands for, and what it tells of the addresses
abbrev pub state_of : Engine → Broker
state_of engine = broker_of engine.state

abbrev pub seen_by : Engine → View
seen_by engine = view_of engine.state

-- What is known of pages is so, and no page is there but those of addresses.
pub record OwnsPages (state : Kept) (files : FinMap file_cmp FileState) : Type 0 where
  pub paged : ArePaged (as_read files) state.durable.addresses state.paged
  pub known : (address number : ℕ) → IsThere (as_read files) (page_file address number)
      → has_address state.durable.addresses address ≡ true

-- The files are the engine's own: its journal is the only generation, the journal's batches give the engine's state,
-- and the next one goes behind them; and so are the pages. The messages of each address have room in memory.
pub record Owns (engine : Engine) (files : FinMap file_cmp FileState) : Type 0 where
  pub journal : OwnsJournal engine.journal engine.state.durable files
  pub pages : OwnsPages engine.state files
  pub roomy : AreRoomy engine.state.durable

-- What each address holds in memory keeps its bound: the limit of the address, which the last message may have passed.
abbrev pub IsBounded : Broker → View → Type 0
IsBounded s view =
    (id : ℕ) (address : Address) → 1 ≤ id → slice_get s.durable.addresses (id - 1) ≡ Some address
    → (view id).resident < address.settings.max + WEIGHT_LIMIT

-- with the batch of the action, which isn't empty, the journal would grow past its limit
pub record PassesLimit (engine : Engine) (action : Action) : Type 0 where
  pub batch : List Entry
  pub has : HasEntries engine.state action batch
  pub some : batch ≢ []
  pub past : FILE_LIMIT < counted engine.journal + length (batch_bytes batch) + 9

-- the command isn't refused, and no queue id is left for it, or with its batch the journal would grow past its limit
pub record MeetsLimit (engine : Engine) (command : Command) : Type 0 where
  pub action : Action
  pub asks : asked (Some command) ≡ Some action
  pub accepted : IsAccepted engine.state action
  pub full : WantsQueueId engine.state action ⊎ PassesLimit engine action

-- The journal says what it said and then the bytes of the batch, in its file, and nothing else changed. Where the batch
-- is empty nothing is written or synced.
abbrev pub Writes : Journal → Journal → List Entry → Account → Account → Type 0
Writes journal next [] = OnlyReads
Writes journal next (entry ∷ entries) = ChangesWhere (Only (name_of journal)) ReadsSome
    (λ files now. (batches : List (List ℕ)) → Stands journal batches files
    → Stands next (batches ++ batch_bytes (entry ∷ entries) ∷ []) now)

-- so it is for what the command adds
abbrev pub WritesFor : Engine → Command → Journal → Account → Account → Type 0
WritesFor engine command next old new =
    (batch : List Entry) × Adds engine.state (asked (Some command)) batch × Writes engine.journal next batch old new

-- the files denote this state, and well formed files stay so
pub record Keeps (d : Durable) (entry : Option Account) (image : Files) : Type 0 where
  pub denoted : Denotes (as_left image) d
  pub well : LeavesWell entry image

-- the engine stands for the state, and owns the files
pub record StandsAt (engine : Engine) (state : Broker) (now : Option Account) : Type 0 where
  pub kept : IsHonest now
  pub stands : state_of engine ≡ state
  pub owns : Owns engine (account now).files

-- A command, or a line that is none, is one step, under the view of the files that there are before it. At each moment
-- the files denote the state before it or the one after it. Each file that is no generation of the journal keeps its
-- bytes.
pub record Executes {D : Type 0} (m : Ghosts D) (before : Broker) (item : Option Command) (old new : D)
    (result : Result (Engine × Reply) Fault) : Type 0 where
  pub view : View
  pub shown : Shows (as_read (account (m.tells old)).files) before.durable view
  pub bounded : IsBounded before view
  pub reply : Reply
  pub next : Broker
  pub step : Step view before item reply next
  pub moments : Decides m (Keeps before.durable) (Keeps next.durable) old new
  pub kept : IsHonest (m.tells new)
  pub told : (account (m.tells new)).told ≡ (account (m.tells old)).told
  pub others : KeepsOthers (account (m.tells old)).files (account (m.tells new)).files
  pub ok : IfOk result (λ done. (done.1 ≡ reply) × StandsAt done.0 next (m.tells new))
  pub stays : OnOk result (StaysWell (m.tells old) (m.tells new))

abbrev pub IsDamaged : Fault → Type 0
IsDamaged Failed = ⊥
IsDamaged (Damaged damage) = Unit {0}
IsDamaged Spent = ⊥
IsDamaged Memory = ⊥
