-- Why an action is refused: its causes, in their order.
use Rattle.std.specs.Prelude.{◌≡◌, ◌⊎◌, ◌≤◌, ◌-◌, ◌==◌, ℕ, Bool, true, List, [], ◌∷◌, length, slice_get, Option, Some, None, is_some}
use Rattle.std.specs.List.{list_any, Contains}
use Rattle.pg_msg.specs.declared.limits.TheConstants.{MOST_ADDRESSES, MOST_QUEUES, WEIGHT_LIMIT}
use Rattle.pg_msg.specs.declared.message.MessageId.{MessageId}
use Rattle.pg_msg.specs.declared.properties.Property.{Property}
use Rattle.pg_msg.specs.declared.reply.Refusal.{Refusal}
use Rattle.pg_msg.specs.declared.reply.Refusal.TheVariants as refusal
use Rattle.pg_msg.specs.Messages.{weight_of}
use Rattle.pg_parse.specs.Filters.{IsBadAt}
use Rattle.pg_model.specs.Actions.{Action, MakeAddress, MakeQueue, DropQueue, Send, Open, Receive, Acknowledge, Cancel, Close, Count}
use Rattle.pg_model.specs.Broker.{Address, Queue, Consumer, Broker, address_named, queue_named, consumer_named}
use Rattle.pg_model.specs.Causes.{Cause}
use Rattle.pg_model.specs.Changes.{message_of, next_id}
use Rattle.pg_model.specs.Routing.{HasTaker, queues_of}

-- What the paged broker alone can tell of an address: the bytes of its messages that are held in memory, and whether it
-- has a page.
pub record Paging : Type 0 where
  pub resident : ℕ
  pub is_paging : Bool

-- that of each address, by its id
abbrev pub View : Type 0
View = ℕ → Paging

-- ---- the causes
abbrev pub HasAddress : Broker → List ℕ → Type 0
HasAddress s name = is_some (address_named s.durable.addresses name) ≡ true

abbrev pub HasQueue : Broker → List ℕ → Type 0
HasQueue s name = is_some (queue_named s.durable.queues name) ≡ true

abbrev pub HasConsumer : Broker → List ℕ → Type 0
HasConsumer s name = is_some (consumer_named s.running.consumers name) ≡ true

-- the address of that name has as many queues as it may have
abbrev pub HasMostQueues : Broker → List ℕ → Type 0
HasMostQueues s name =
    (address : ℕ) × (address_named s.durable.addresses name ≡ Some address) × (MOST_QUEUES ≤ length (queues_of address s.durable.queues))

-- a consumer is open on the queue of that name
abbrev pub IsConsumed : Broker → List ℕ → Type 0
IsConsumed s name =
    (q : Queue) × (queue_named s.durable.queues name ≡ Some q)
    × (list_any (λ c. c.queue == q.id) s.running.consumers ≡ true)

-- the message of these parts is as heavy as none may be, whatever its id is
abbrev pub IsHeavy : Broker → List Property → List ℕ → Type 0
IsHeavy s properties body = WEIGHT_LIMIT ≤ weight_of (message_of (next_id s) properties body)

-- a message of these properties to the address of that name goes to some queue, and no number is left for it
abbrev pub WantsNumber : Broker → List ℕ → List Property → Type 0
WantsNumber s name properties =
    (address : ℕ) × (address_named s.durable.addresses name ≡ Some address) × HasTaker s address properties
    × (s.ids ≤ s.running.drawn)

-- the address pages, or the messages that it holds in memory come to its limit
abbrev pub WouldPage : View → Broker → ℕ → Type 0
WouldPage view s address =
    ((view address).is_paging ≡ true)
    ⊎ ((a : Address) × (slice_get s.durable.addresses (address - 1) ≡ Some a) × (a.settings.max ≤ (view address).resident))

-- a message of these properties to the address of that name goes to some queue, and would be paged
abbrev pub WantsPage : View → Broker → List ℕ → List Property → Type 0
WantsPage view s name properties =
    (address : ℕ) × (address_named s.durable.addresses name ≡ Some address) × HasTaker s address properties
    × WouldPage view s address

-- the consumer of that name has the message in flight
abbrev pub HasFlight : Broker → List ℕ → MessageId → Type 0
HasFlight s name id =
    (c : Consumer) × (consumer_named s.running.consumers name ≡ Some c) × Contains c.in_flight id

-- ---- each action's causes, in their order
abbrev pub cause : Type 0 → Refusal → Cause Refusal
cause holds answer = record { holds = holds; tells = λ _. answer }

-- The filter has no reading. The answer tells where the first token begins that can't stand there.
abbrev pub unreadable : Option (List ℕ) → List (Cause Refusal)
unreadable None = []
unreadable (Some text) = record { holds = (at : ℕ) × IsBadAt text at; tells = λ bad. refusal.Filter bad.0 } ∷ []

-- Pages aren't built: a message that would be paged is answered as an unreadable line is.
abbrev pub causes : View → Broker → Action → List (Cause Refusal)
causes view s (MakeAddress name settings) =
    cause (HasAddress s name) refusal.Name ∷ cause (MOST_ADDRESSES ≤ length s.durable.addresses) refusal.Room ∷ []
causes view s (MakeQueue name address filter) =
    cause (HasQueue s name) refusal.Name ∷ cause (HasAddress s address → ⊥) refusal.Address
    ∷ cause (HasMostQueues s address) refusal.Room ∷ unreadable filter
causes view s (DropQueue name) =
    cause (HasQueue s name → ⊥) refusal.Queue ∷ cause (IsConsumed s name) refusal.ConsumerOpen ∷ []
causes view s (Send address properties body) =
    cause (HasAddress s address → ⊥) refusal.Address ∷ cause (IsHeavy s properties body) refusal.Size
    ∷ cause (WantsNumber s address properties) refusal.Ids ∷ cause (WantsPage view s address properties) refusal.Line ∷ []
causes view s (Open name queue) =
    cause (HasConsumer s name) refusal.Name ∷ cause (HasQueue s queue → ⊥) refusal.Queue ∷ []
causes view s (Receive consumer) = cause (HasConsumer s consumer → ⊥) refusal.Consumer ∷ []
causes view s (Acknowledge consumer id) =
    cause (HasConsumer s consumer → ⊥) refusal.Consumer ∷ cause (HasFlight s consumer id → ⊥) refusal.Delivery ∷ []
causes view s (Cancel consumer id) =
    cause (HasConsumer s consumer → ⊥) refusal.Consumer ∷ cause (HasFlight s consumer id → ⊥) refusal.Delivery ∷ []
causes view s (Close consumer) = cause (HasConsumer s consumer → ⊥) refusal.Consumer ∷ []
causes view s (Count queue) = cause (HasQueue s queue → ⊥) refusal.Queue ∷ []
