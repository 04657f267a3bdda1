-- What a command asks of the broker.
use Rattle.std.specs.Prelude.{ℕ, List, Option, Some, None}
use Rattle.pg_msg.specs.declared.command.Command.{Command}
use Rattle.pg_msg.specs.declared.command.Command.TheVariants as command
use Rattle.pg_msg.specs.declared.message.MessageId.{MessageId}
use Rattle.pg_msg.specs.declared.properties.Property.{Property}
use Rattle.pg_model.specs.Broker.{Settings}

-- an action of the broker, a case for each
pub data Action : Type 0 where
  MakeAddress : List ℕ → Settings → Action
  MakeQueue : List ℕ → List ℕ → Option (List ℕ) → Action
  DropQueue : List ℕ → Action
  Send : List ℕ → List Property → List ℕ → Action
  Open : List ℕ → List ℕ → Action
  Receive : List ℕ → Action
  Acknowledge : List ℕ → MessageId → Action
  Cancel : List ℕ → MessageId → Action
  Close : List ℕ → Action
  Count : List ℕ → Action

-- What each command asks for. Duplicate ids, transactions, large messages and the commands on pages aren't built: a
-- command that has no action is answered as an unreadable line is.
abbrev pub action_of : Command → Option Action
action_of (command.Address name max page ahead dup) =
    Some (MakeAddress name (record { max = max; page = page; ahead = ahead; dup = dup }))
action_of (command.Queue name address filter) = Some (MakeQueue name address filter)
action_of (command.DropQueue name) = Some (DropQueue name)
action_of (command.Send address None None properties body) = Some (Send address properties body)
action_of (command.Send address None (Some id) properties body) = None
action_of (command.Send address (Some tx) id properties body) = None
action_of (command.Consumer name queue) = Some (Open name queue)
action_of (command.Receive consumer) = Some (Receive consumer)
action_of (command.Ack consumer message None) = Some (Acknowledge consumer message)
action_of (command.Ack consumer message (Some tx)) = None
action_of (command.Cancel consumer message) = Some (Cancel consumer message)
action_of (command.Close consumer) = Some (Close consumer)
action_of (command.Count queue) = Some (Count queue)
action_of (command.Begin tx) = None
action_of (command.Commit tx) = None
action_of (command.Rollback tx) = None
action_of (command.Large address name id properties) = None
action_of (command.Part name bytes) = None
action_of (command.End name) = None
action_of (command.PartOf consumer message start count) = None
action_of (command.Cleanup address) = None
action_of (command.Ahead queue) = None
action_of command.Checkpoint = None
action_of (command.Stat address) = None
