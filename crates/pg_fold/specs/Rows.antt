-- What is looked for among the rows of each kind, what is taken out of them, and the order that they keep.
use Rattle.std.specs.Prelude.{◌≡◌, ◌+◌, ◌<◌, ℕ, Bool, not, ◌&&◌, List, [], ◌∷◌, length, map, filter, count_by, ◌==◌, if◌then◌else◌, slice_index_or, AllPairs}
use Rattle.std.specs.List.{list_any}
use Rattle.std.specs.Str.{bytes_eq}
use Rattle.pg_msg.specs.declared.message.MessageId.{MessageId}
use Rattle.pg_fold.specs.declared.rows.AddressRow.{AddressRow}
use Rattle.pg_fold.specs.declared.rows.QueueRow.{QueueRow}
use Rattle.pg_fold.specs.declared.rows.JournaledRow.{JournaledRow}

abbrev pub has_address : List AddressRow → ℕ → Bool
has_address rows id = list_any (λ row. row.id == id) rows

abbrev pub has_address_named : List AddressRow → List ℕ → Bool
has_address_named rows name = list_any (λ row. bytes_eq row.name name) rows

abbrev pub has_queue : List QueueRow → ℕ → Bool
has_queue rows id = list_any (λ row. row.id == id) rows

abbrev pub has_queue_named : List QueueRow → List ℕ → Bool
has_queue_named rows name = list_any (λ row. bytes_eq row.name name) rows

-- the queue is a live one of the address
abbrev pub has_queue_at : List QueueRow → ℕ → ℕ → Bool
has_queue_at rows address id = list_any (λ row. (row.id == id) && (row.address == address)) rows

-- how many live queues the address has
abbrev pub queues_at : List QueueRow → ℕ → ℕ
queues_at rows address = count_by (λ row. row.address == address) rows

abbrev pub same_id : MessageId → MessageId → Bool
same_id a b = (a.epoch == b.epoch) && (a.number == b.number)

abbrev pub has_message : List JournaledRow → MessageId → Bool
has_message rows id = list_any (λ row. same_id row.message.id id) rows

abbrev pub has_number : List ℕ → ℕ → Bool
has_number numbers number = list_any (λ other. other == number) numbers

-- the queue holds a message with that id
abbrev pub has_holder : List JournaledRow → MessageId → ℕ → Bool
has_holder rows id queue = list_any (λ row. same_id row.message.id id && has_number row.holders queue) rows

-- the numbers but this one
abbrev pub without_number : ℕ → List ℕ → List ℕ
without_number number numbers = filter (λ other. not (other == number)) numbers

abbrev pub without_queue : ℕ → List QueueRow → List QueueRow
without_queue id rows = filter (λ row. not (row.id == id)) rows

-- the queue holds this message no more
abbrev pub released : ℕ → JournaledRow → JournaledRow
released queue row = record row { holders = without_number queue row.holders }

-- some queue holds this message
abbrev pub is_held : JournaledRow → Bool
is_held row = not (length row.holders == 0)

-- the queue holds nothing any more, and what no queue holds is gone
abbrev pub dropped : ℕ → List JournaledRow → List JournaledRow
dropped queue rows = filter is_held (map (released queue) rows)

-- the row in front of the others, unless no queue holds its message any more
abbrev pub with_row : JournaledRow → List JournaledRow → List JournaledRow
with_row row rows = if is_held row then row ∷ rows else rows

-- the queue holds the message of that id no more
abbrev pub acknowledged : ℕ → MessageId → List JournaledRow → List JournaledRow
acknowledged queue id [] = []
acknowledged queue id (row ∷ rows) =
    if same_id row.message.id id then with_row (released queue row) rows else row ∷ acknowledged queue id rows

-- each id is the place, from 1
abbrev pub AreNumbered : List AddressRow → Type 0
AreNumbered rows = (k : ℕ) (other : AddressRow) → k < length rows → (slice_index_or rows k other).id ≡ k + 1

-- each id is below those behind it
abbrev pub AreAscending : List QueueRow → Type 0
AreAscending rows = AllPairs (λ row other. row.id < other.id) rows

-- the queue at the place has the id
abbrev pub IsPlaceOf : List QueueRow → ℕ → ℕ → Type 0
IsPlaceOf rows id place = (place < length rows) × ((other : QueueRow) → (slice_index_or rows place other).id ≡ id)

-- the id is above that of the last of the rows
abbrev pub IsBehind : QueueRow → List QueueRow → Type 0
IsBehind row rows = (k : ℕ) (other : QueueRow) → k + 1 ≡ length rows → (slice_index_or rows k other).id < row.id
