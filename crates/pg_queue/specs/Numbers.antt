-- How the entries of a queue are kept: by numbers, which ascend in their order.
use Rattle.std.specs.Prelude.{◌≡◌, ◌<◌, ℕ, not, Some, None, is_some, IsSome, List, map}
use Rattle.std.specs.Ordering.{nat_cmp}
use Rattle.std.specs.BTreeMap.{BTreeMap, get, IsOrdered}
use Rattle.pg_msg.specs.declared.message.MessageId.{MessageId}
use Rattle.pg_flight.specs.Ids.{Key, key_cmp, key_of}
use Rattle.pg_queue.specs.Entries.{Contents, Entry}

-- entries by their numbers
abbrev pub Numbered : Type 0
Numbered = BTreeMap ℕ MessageId

-- the numbers of entries by what their messages are looked for by
abbrev pub Numbers : Type 0
Numbers = BTreeMap Key ℕ

-- an entry is taken where its number isn't among those that wait
abbrev pub seen_at : Numbered → ℕ × MessageId → Entry
seen_at waiting row = record { id = row.1; place = None; taken = not (is_some (get nat_cmp waiting row.0)) }

abbrev pub seen_entries : Numbered → Numbered → List Entry
seen_entries waiting rows = map (seen_at waiting) rows.entries

abbrev pub seen : ℕ → Numbered → Numbered → Contents
seen id waiting rows = record { id = id; entries = seen_entries waiting rows }

-- Each entry's number is below the next one, and is found by the entry's message. What waits is an entry.
pub record AreNumbered (next : ℕ) (rows waiting : Numbered) (numbers : Numbers) : Type 0 where
  pub ordered : IsOrdered nat_cmp rows
  pub below : (number : ℕ) → IsSome (get nat_cmp rows number) → number < next
  pub found : (number : ℕ) (id : MessageId) → get nat_cmp rows number ≡ Some id → get key_cmp numbers (key_of id) ≡ Some number
  pub waits : (number : ℕ) (id : MessageId) → get nat_cmp waiting number ≡ Some id → get nat_cmp rows number ≡ Some id

-- the message's entry has the number
abbrev pub IsNumberOf : Numbered → Numbers → MessageId → ℕ → Type 0
IsNumberOf rows numbers id number = (get nat_cmp rows number ≡ Some id) × (get key_cmp numbers (key_of id) ≡ Some number)
