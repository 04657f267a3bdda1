-- What the laws of the broker speak of: what a queue holds, what takes a message away, and which states come later.
use Rattle.std.specs.Prelude.{◌≡◌, ◌≢◌, ◌⊎◌, ◌≤◌, ◌<◌, ℕ, List, [], ◌∷◌, ◌++◌, All, AllPairs, Option, Some, None, MatchOption}
use Rattle.std.specs.List.{Contains}
use Rattle.pg_msg.specs.declared.command.Command.{Command}
use Rattle.pg_msg.specs.declared.message.Message.{Message}
use Rattle.pg_msg.specs.declared.message.MessageId.{MessageId}
use Rattle.pg_msg.specs.declared.reply.Reply.{Reply}
use Rattle.pg_parse.specs.Filters.{IsBadAt}
use Rattle.pg_parse.specs.FilterTexts.{IsReadable}
use Rattle.pg_model.specs.Actions.{Action, MakeAddress, MakeQueue, DropQueue, Send, Open, Receive, Acknowledge, Cancel, Close, Count}
use Rattle.pg_model.specs.Broker.{Queue, Durable, Broker, HoldsMessage, queue_named, consumer_named, opened_from}
use Rattle.pg_model.specs.Refusals.{View}
use Rattle.pg_model.specs.Routing.{HasReading}
use Rattle.pg_model.specs.Steps.{StepSeen, asked}

-- A live queue of this id has the message in its list.
pub record IsIn (queues : List Queue) (queue : ℕ) (m : Message) : Type 0 where
  pub holder : Queue
  pub live : Contains queues holder
  pub is_queue : holder.id ≡ queue
  pub held : Contains holder.messages m

-- No live queue of this id has a message of that id in its list.
abbrev pub IsOut : List Queue → ℕ → MessageId → Type 0
IsOut queues queue id = HoldsMessage queues queue id → ⊥

-- The action takes the message of that id out of the queue: it drops the queue, or acknowledges the message for a
-- consumer of the queue.
abbrev pub TakesOut : Broker → Action → ℕ → MessageId → Type 0
TakesOut s (MakeAddress name settings) queue id = ⊥
TakesOut s (MakeQueue name address filter) queue id = ⊥
TakesOut s (DropQueue name) queue id = MatchOption (queue_named s.durable.queues name) ⊥ (λ q. q.id ≡ queue)
TakesOut s (Send address properties body) queue id = ⊥
TakesOut s (Open name on) queue id = ⊥
TakesOut s (Receive consumer) queue id = ⊥
TakesOut s (Acknowledge consumer message) queue id =
    (message ≡ id) × MatchOption (consumer_named s.running.consumers consumer) ⊥ (λ c. c.queue ≡ queue)
TakesOut s (Cancel consumer message) queue id = ⊥
TakesOut s (Close consumer) queue id = ⊥
TakesOut s (Count on) queue id = ⊥

-- There is no filter, or its text has a reading, or it is bad at some offset. No text is both, and `parse` tells of each
-- which it is; a law has no code that would, so one that needs to know asks for it.
abbrev pub IsDecidedFilter : Option (List ℕ) → Type 0
IsDecidedFilter None = Unit {0}
IsDecidedFilter (Some text) = HasReading (Some text) ⊎ ((at : ℕ) × IsBadAt text at)

-- Of a queue that is to be made it is known whether its filter has a reading. Of all other actions nothing is asked.
abbrev pub IsDecided : Action → Type 0
IsDecided (MakeQueue name address filter) = IsDecidedFilter filter
IsDecided _ = Unit {0}

-- and so of the action that a line asks for, if there is one
abbrev pub IsDecidedLine : Option Command → Type 0
IsDecidedLine item = (action : Action) → asked item ≡ Some action → IsDecided action

-- What a durable part must be so that what is opened from it is valid: names and ids of queues are as in a valid state,
-- filters are readable, a queue holds each message once, and none is of a later epoch.
pub record MayOpen (d : Durable) : Type 0 where
  pub addresses : AllPairs (λ a other. a.name ≢ other.name) d.addresses
  pub names : AllPairs (λ q other. q.name ≢ other.name) d.queues
  pub ids : AllPairs (λ q other. q.id ≢ other.id) d.queues
  pub below : All (λ q. q.id < d.next) d.queues
  pub readable : All (λ q. IsReadable q.filter) d.queues
  pub distinct : All (λ q. AllPairs (λ m other. m.id ≢ other.id) q.messages) d.queues
  pub epochs : All (λ q. All (λ m. m.id.epoch ≤ d.epoch) q.messages) d.queues

-- some of the elements, in their order
pub data IsPart {X : Type 0} : List X → List X → Type 0 where
  ends : IsPart [] []
  leaves : {x : X} {xs ys : List X} → IsPart xs ys → IsPart xs (x ∷ ys)
  keeps : {x : X} {xs ys : List X} → IsPart xs ys → IsPart (x ∷ xs) (x ∷ ys)

-- Of the messages before some are left, in their order, and what came stands behind them.
pub record GoesOn (before after : List Message) : Type 0 where
  pub left : List Message
  pub more : List Message
  pub part : IsPart left before
  pub is : after ≡ left ++ more

-- every view is seen of every state
abbrev pub any_view : Broker → View → Type 0
any_view s view = Unit {0}

-- A state that comes after another: itself, or one that comes after a line was taken, or after the broker was opened anew
-- from what is durable, with whatever limit of ids. Lines and openings come any number of times, in any order.
pub data IsLater : Broker → Broker → Type 0 where
  itself : (s : Broker) → IsLater s s
  after_line : (s t u : Broker) (item : Option Command) (reply : Reply) → StepSeen any_view s item reply t
      → IsLater t u → IsLater s u
  after_opening : (s u : Broker) (ids : ℕ) → IsLater (opened_from ids s.durable) u → IsLater s u
