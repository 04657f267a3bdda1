-- How the messages that the journal holds are kept: by numbers, which ascend in the order in which they were added.
use Rattle.std.specs.Prelude.{◌≡◌, ◌<◌, ℕ, Some, All}
use Rattle.std.specs.declared.cmp.Ordering.{Ordering}
use Rattle.std.specs.Ordering.{nat_cmp, ordering_then}
use Rattle.std.specs.BTreeMap.{BTreeMap, get, IsOrdered}
use Rattle.pg_msg.specs.declared.message.MessageId.{MessageId}
use Rattle.pg_fold.specs.declared.rows.JournaledRow.{JournaledRow}

-- what a message is looked for by: the epoch and the number of its id
abbrev pub Key : Type 0
Key = ℕ × ℕ

abbrev pub key_cmp : Key → Key → Ordering
key_cmp a b = ordering_then (nat_cmp a.0 b.0) (nat_cmp a.1 b.1)

abbrev pub key_of : MessageId → Key
key_of id = (id.epoch, id.number)

-- messages by their numbers
abbrev pub Numbered : Type 0
Numbered = BTreeMap ℕ JournaledRow

-- the numbers of messages by their keys
abbrev pub Numbers : Type 0
Numbers = BTreeMap Key ℕ

-- each message's number is found by its id
abbrev pub IsTold : Numbers → ℕ × JournaledRow → Type 0
IsTold numbers entry = get key_cmp numbers (key_of entry.1.message.id) ≡ Some entry.0

-- each message's number is below the next one, and is found by the message's id
pub record AreNumbered (next : ℕ) (rows : Numbered) (numbers : Numbers) : Type 0 where
  pub ordered : IsOrdered nat_cmp rows
  pub below : All (λ entry. entry.0 < next) rows.entries
  pub told : All (IsTold numbers) rows.entries

-- the message with the id has this number, and is this row
pub record IsRowOf (rows : Numbered) (numbers : Numbers) (id : MessageId) (number : ℕ) (row : JournaledRow) : Type 0 where
  pub there : get nat_cmp rows number ≡ Some row
  pub its : get key_cmp numbers (key_of id) ≡ Some number
  pub same : row.message.id ≡ id
