-- The ranges of what a command holds.
use Rattle.std.specs.Prelude.{◌≤◌, ℕ, List, length, IfSome, IsUtf8}
use Rattle.pg_msg.specs.declared.command.Command.{Command}
use Rattle.pg_msg.specs.declared.command.Command.TheVariants.{Address, Queue, DropQueue, Send, Begin, Commit, Rollback, Consumer, Receive, Ack, Cancel, Close, Large, Part, End, PartOf, Cleanup, Ahead, Checkpoint, Stat, Count}
use Rattle.pg_msg.specs.declared.limits.TheConstants.{GREATEST_MAX, GREATEST_PAGE, GREATEST_AHEAD, GREATEST_DUP, LONGEST_FILTER, LONGEST_PIECE, FILE_LIMIT}
use Rattle.pg_msg.specs.Names.{IsBetween, IsName}
use Rattle.pg_msg.specs.Messages.{IsMessageId, IsDuplicateId, AreProperties}

-- the settings of an address are in their ranges
pub record AreSettings (max page ahead dup : ℕ) : Type 0 where
  pub max_fits : max ≤ GREATEST_MAX
  pub page_fits : IsBetween 1 GREATEST_PAGE page
  pub ahead_fits : ahead ≤ GREATEST_AHEAD
  pub dup_fits : dup ≤ GREATEST_DUP

-- the text of a filter, whether it has a reading or not
abbrev pub IsFilterText : List ℕ → Type 0
IsFilterText filter = IsUtf8 filter × (length filter ≤ LONGEST_FILTER)

-- what the command holds is in its range; a body may have any bytes, as many as there are
abbrev pub IsInRange : Command → Type 0
IsInRange (Address name max page ahead dup) = IsName name × AreSettings max page ahead dup
IsInRange (Queue name address filter) = IsName name × IsName address × IfSome filter IsFilterText
IsInRange (DropQueue name) = IsName name
IsInRange (Send address tx id properties body) =
    IsName address × IfSome tx IsName × IfSome id IsDuplicateId × AreProperties properties
IsInRange (Begin tx) = IsName tx
IsInRange (Commit tx) = IsName tx
IsInRange (Rollback tx) = IsName tx
IsInRange (Consumer name queue) = IsName name × IsName queue
IsInRange (Receive consumer) = IsName consumer
IsInRange (Ack consumer message tx) = IsName consumer × IsMessageId message × IfSome tx IsName
IsInRange (Cancel consumer message) = IsName consumer × IsMessageId message
IsInRange (Close consumer) = IsName consumer
IsInRange (Large address name id properties) =
    IsName address × IsName name × IfSome id IsDuplicateId × AreProperties properties
IsInRange (Part name bytes) = IsName name
IsInRange (End name) = IsName name
IsInRange (PartOf consumer message start size) =
    IsName consumer × IsMessageId message × (start ≤ FILE_LIMIT) × (size ≤ LONGEST_PIECE)
IsInRange (Cleanup address) = IsName address
IsInRange (Ahead queue) = IsName queue
IsInRange Checkpoint = Unit {0}
IsInRange (Stat address) = IsName address
IsInRange (Count queue) = IsName queue
