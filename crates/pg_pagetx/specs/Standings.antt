-- The standing of a page transaction.
use Rattle.std.specs.Prelude.{◌==◌, ◌&&◌, Bool, List, if◌then◌else◌}
use Rattle.std.specs.List.{list_any}
use Rattle.pg_msg.specs.declared.message.MessageId.{MessageId}
use Rattle.pg_pagetx.specs.declared.standing.Standing.{Standing}
use Rattle.pg_pagetx.specs.declared.standing.Standing.TheVariants.{Counts, Pending, Void}

-- the ids of the page transactions that are committed, and of those that are undecided
pub record Transactions : Type 0 where
  pub committed : List MessageId
  pub pending : List MessageId

-- the id is among these
abbrev pub is_among : MessageId → List MessageId → Bool
is_among tx ids = list_any (λ other. (other.epoch == tx.epoch) && (other.number == tx.number)) ids

-- a page transaction counts where it is committed, is pending where it is undecided, and is void where it is neither
abbrev pub standing_of : Transactions → MessageId → Standing
standing_of txs tx = if is_among tx txs.committed then Counts else (if is_among tx txs.pending then Pending else Void)
