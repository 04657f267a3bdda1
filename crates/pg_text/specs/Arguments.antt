-- Reading a command: its first word, and what stands behind that.
use Rattle.std.specs.Prelude.{ℕ, List, [], ◌∷◌, Option, Some, None, codes, if◌then◌else◌}
use Rattle.std.specs.Str.{bytes_eq}
use Rattle.pg_msg.specs.declared.command.Command.{Command}
use Rattle.pg_msg.specs.declared.command.Command.TheVariants as command
use Rattle.pg_msg.specs.declared.limits.TheConstants.{GREATEST_MAX, GREATEST_PAGE, GREATEST_AHEAD, GREATEST_DUP, LONGEST_PIECE, FILE_LIMIT}
use Rattle.pg_msg.specs.Reading.{◌>>=◌}
use Rattle.pg_text.specs.declared.verbs.Verb.{Verb}
use Rattle.pg_text.specs.declared.verbs.Verb.TheVariants as verb
use Rattle.pg_text.specs.declared.verbs.Single.{Single}
use Rattle.pg_text.specs.declared.verbs.Single.TheVariants as single
use Rattle.pg_text.specs.Reading.{before, onward, behind, last_of, name_behind, last_name_behind, number_behind, message_id_at, tx_at, id_at, filter_at, body_at, hex_of, properties_at}

-- the first words of lines, with what each stands for
abbrev pub single_of : List ℕ → Option Single
single_of word =
    if bytes_eq word (codes "drop") then Some single.Drop else
    (if bytes_eq word (codes "begin") then Some single.Begin else
    (if bytes_eq word (codes "commit") then Some single.Commit else
    (if bytes_eq word (codes "rollback") then Some single.Rollback else
    (if bytes_eq word (codes "receive") then Some single.Receive else
    (if bytes_eq word (codes "close") then Some single.Close else
    (if bytes_eq word (codes "end") then Some single.End else
    (if bytes_eq word (codes "cleanup") then Some single.Cleanup else
    (if bytes_eq word (codes "ahead") then Some single.Ahead else
    (if bytes_eq word (codes "stat") then Some single.Stat else
    (if bytes_eq word (codes "count") then Some single.Count else None))))))))))

abbrev pub one_of : Option Single → Option Verb
one_of None = None
one_of (Some what) = Some (verb.One what)

abbrev pub verb_of : List ℕ → Option Verb
verb_of word =
    if bytes_eq word (codes "address") then Some verb.Address else
    (if bytes_eq word (codes "queue") then Some verb.Queue else
    (if bytes_eq word (codes "send") then Some verb.Send else
    (if bytes_eq word (codes "consumer") then Some verb.Consumer else
    (if bytes_eq word (codes "ack") then Some verb.Ack else
    (if bytes_eq word (codes "cancel") then Some verb.Cancel else
    (if bytes_eq word (codes "large") then Some verb.Large else
    (if bytes_eq word (codes "part") then Some verb.Part else
    (if bytes_eq word (codes "part-of") then Some verb.PartOf else
    (if bytes_eq word (codes "checkpoint") then Some verb.Checkpoint else one_of (single_of word))))))))))

-- the command with this name
abbrev pub single_command : Single → List ℕ → Command
single_command single.Drop name = command.DropQueue name
single_command single.Begin name = command.Begin name
single_command single.Commit name = command.Commit name
single_command single.Rollback name = command.Rollback name
single_command single.Receive name = command.Receive name
single_command single.Close name = command.Close name
single_command single.End name = command.End name
single_command single.Cleanup name = command.Cleanup name
single_command single.Ahead name = command.Ahead name
single_command single.Stat name = command.Stat name
single_command single.Count name = command.Count name

-- ---- what stands behind the first word, one definition for each

unfoldable pub address_at : List ℕ → Option Command
address_at arguments = do
  name ← name_behind (32 ∷ []) arguments
  max ← number_behind (codes " max ") 0 GREATEST_MAX name.1
  page ← number_behind (codes " page ") 1 GREATEST_PAGE max.1
  ahead ← number_behind (codes " ahead ") 0 GREATEST_AHEAD page.1
  dup ← number_behind (codes " dup ") 0 GREATEST_DUP ahead.1
  last_of (command.Address name.0 max.0 page.0 ahead.0 dup.0, dup.1)

unfoldable pub queue_at : List ℕ → Option Command
queue_at arguments = do
  name ← name_behind (32 ∷ []) arguments
  address ← name_behind (codes " on ") name.1
  filter ← filter_at address.1
  Some (command.Queue name.0 address.0 filter)

unfoldable pub send_at : List ℕ → Option Command
send_at arguments = do
  address ← name_behind (32 ∷ []) arguments
  tx ← tx_at address.1
  id ← id_at tx.1
  properties ← properties_at id.1
  body ← body_at properties.1
  Some (command.Send address.0 tx.0 id.0 properties.0 body)

unfoldable pub large_at : List ℕ → Option Command
large_at arguments = do
  address ← name_behind (32 ∷ []) arguments
  name ← name_behind (32 ∷ []) address.1
  id ← id_at name.1
  properties ← properties_at id.1
  last_of (command.Large address.0 name.0 id.0 properties.0, properties.1)

unfoldable pub consumer_at : List ℕ → Option Command
consumer_at arguments = do
  name ← name_behind (32 ∷ []) arguments
  queue ← last_name_behind (codes " on ") name.1
  Some (command.Consumer name.0 queue)

unfoldable pub ack_at : List ℕ → Option Command
ack_at arguments = do
  consumer ← name_behind (32 ∷ []) arguments
  message ← message_id_at consumer.1
  tx ← tx_at message.1
  last_of (command.Ack consumer.0 message.0 tx.0, tx.1)

unfoldable pub cancel_at : List ℕ → Option Command
cancel_at arguments = do
  consumer ← name_behind (32 ∷ []) arguments
  message ← message_id_at consumer.1
  last_of (command.Cancel consumer.0 message.0, message.1)

unfoldable pub part_at : List ℕ → Option Command
part_at arguments = do
  name ← name_behind (32 ∷ []) arguments
  digits ← behind (32 ∷ []) name.1
  bytes ← hex_of digits
  Some (command.Part name.0 bytes)

unfoldable pub part_of_at : List ℕ → Option Command
part_of_at arguments = do
  consumer ← name_behind (32 ∷ []) arguments
  message ← message_id_at consumer.1
  start ← number_behind (32 ∷ []) 0 FILE_LIMIT message.1
  size ← number_behind (32 ∷ []) 0 LONGEST_PIECE start.1
  last_of (command.PartOf consumer.0 message.0 start.0 size.0, size.1)

unfoldable pub single_at : Single → List ℕ → Option Command
single_at what arguments = do
  name ← last_name_behind (32 ∷ []) arguments
  Some (single_command what name)

abbrev pub arguments_at : Verb → List ℕ → Option Command
arguments_at verb.Address arguments = address_at arguments
arguments_at verb.Queue arguments = queue_at arguments
arguments_at verb.Send arguments = send_at arguments
arguments_at verb.Consumer arguments = consumer_at arguments
arguments_at verb.Ack arguments = ack_at arguments
arguments_at verb.Cancel arguments = cancel_at arguments
arguments_at verb.Large arguments = large_at arguments
arguments_at verb.Part arguments = part_at arguments
arguments_at verb.PartOf arguments = part_of_at arguments
arguments_at verb.Checkpoint arguments = last_of (command.Checkpoint, arguments)
arguments_at (verb.One what) arguments = single_at what arguments

-- the command that the line spells
unfoldable pub command_at : List ℕ → Option Command
command_at line = do
  verb ← verb_of (before 32 line)
  arguments_at verb (onward 32 line)
