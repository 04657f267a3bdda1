-- The step of a broker without pages.
use Rattle.std.specs.Prelude.{◌≡◌, ◌<◌, ℕ, false, List, [], ◌∷◌, Option, Some, None}
use Rattle.pg_msg.specs.declared.command.Command.{Command}
use Rattle.pg_msg.specs.declared.limits.TheConstants.{QUEUE_ID_LIMIT}
use Rattle.pg_msg.specs.declared.reply.Refusal.{Refusal}
use Rattle.pg_msg.specs.declared.reply.Refusal.TheVariants as refusal
use Rattle.pg_msg.specs.declared.reply.Reply.{Reply}
use Rattle.pg_msg.specs.Commands.{IsInRange}
use Rattle.pg_model.specs.Actions.{Action, MakeAddress, MakeQueue, DropQueue, Send, Open, Receive, Acknowledge, Cancel, Close, Count, action_of}
use Rattle.pg_model.specs.Broker.{Broker}
use Rattle.pg_model.specs.Causes.{Cause, IsFirst}
use Rattle.pg_model.specs.Refusals.{View, HasAddress, IsHeavy, WantsNumber, cause, causes}
use Rattle.pg_model.specs.Steps.{Answers, Refuses}

-- no address has a page, and none holds a byte
abbrev pub no_pages : View
no_pages address = record { resident = 0; is_paging = false }

-- Why an action is refused where nothing is ever paged. By the causes of the paged broker an address with `max` 0 has no
-- room in memory, whatever it holds, so those of a message leave out the one on pages. The others don't look at pages.
-- A message of 15 bytes to an address with `max` 0 is refused for none of these, and goes to the queues of the address whose
-- filters it matches.
abbrev pub unpaged_causes : Broker → Action → List (Cause Refusal)
unpaged_causes s (Send address properties body) =
    cause (HasAddress s address → ⊥) refusal.Address ∷ cause (IsHeavy s properties body) refusal.Size
    ∷ cause (WantsNumber s address properties) refusal.Ids ∷ []
unpaged_causes s (MakeAddress name settings) = causes no_pages s (MakeAddress name settings)
unpaged_causes s (MakeQueue name address filter) = causes no_pages s (MakeQueue name address filter)
unpaged_causes s (DropQueue name) = causes no_pages s (DropQueue name)
unpaged_causes s (Open name queue) = causes no_pages s (Open name queue)
unpaged_causes s (Receive consumer) = causes no_pages s (Receive consumer)
unpaged_causes s (Acknowledge consumer id) = causes no_pages s (Acknowledge consumer id)
unpaged_causes s (Cancel consumer id) = causes no_pages s (Cancel consumer id)
unpaged_causes s (Close consumer) = causes no_pages s (Close consumer)
unpaged_causes s (Count queue) = causes no_pages s (Count queue)

-- an action is refused for the first of these causes that holds, and does what it does where none holds
pub record ActsUnpaged (s : Broker) (action : Action) (reply : Reply) (t : Broker) : Type 0 where
  pub refusal : Option Refusal
  pub first : IsFirst (unpaged_causes s action) refusal
  pub answers : Answers s action refusal reply t

-- A command without an action is refused as an unreadable line is. Every action is taken.
abbrev pub TakesUnpaged : Broker → Option Action → Reply → Broker → Type 0
TakesUnpaged s None reply t = Refuses s refusal.Line reply t
TakesUnpaged s (Some action) reply t = ActsUnpaged s action reply t

-- one command
abbrev pub StepUnpaged : Broker → Command → Reply → Broker → Type 0
StepUnpaged s command reply t = TakesUnpaged s (action_of command) reply t

-- an id is left for the queue that the command makes, if it makes one
abbrev pub HasQueueId : Broker → Command → Type 0
HasQueueId s command =
    (name address : List ℕ) (filter : Option (List ℕ)) → action_of command ≡ Some (MakeQueue name address filter)
    → s.durable.next < QUEUE_ID_LIMIT

-- What the caller of a step owes: the command's values are in their ranges, and an id is left.
pub record IsServable (s : Broker) (command : Command) : Type 0 where
  pub in_range : IsInRange command
  pub left : HasQueueId s command
