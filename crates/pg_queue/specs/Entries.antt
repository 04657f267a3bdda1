-- A queue as the list of its entries, and what its calls make of them.
use Rattle.std.specs.Prelude.{◌-◌, ◌^◌, ◌==◌, ◌&&◌, ℕ, Bool, true, false, not, Option, Some, None, is_some, List, [], ◌∷◌, ◌++◌, length, map, filter, min, if◌then◌else◌}
use Rattle.std.specs.List.{list_any}
use Rattle.pg_msg.specs.declared.message.MessageId.{MessageId}
use Rattle.pg_page.specs.declared.place.Place.{Place}
use Rattle.pg_flight.specs.Ids.{same_id}
use Rattle.pg_queue.specs.declared.taken.Taken.{Taken}
use Rattle.pg_queue.specs.declared.taken.Taken.TheVariants.{Journaled}

-- one entry: its message, where that stands in a page (nowhere, where the journal holds it), and whether it is taken
pub record Entry : Type 0 where
  pub id : MessageId
  pub place : Option Place
  pub taken : Bool

-- the id of a queue, and its entries in their order
pub record Contents : Type 0 where
  pub id : ℕ
  pub entries : List Entry

-- the same queue with these entries
abbrev pub with_entries : List Entry → Contents → Contents
with_entries entries queue = record queue { entries = entries }

-- the entry of the message at that place, which nobody has taken
abbrev pub entry_at : MessageId → Option Place → Entry
entry_at id place = record { id = id; place = place; taken = false }

-- what was given is this entry
abbrev pub entry_of : Taken → Entry
entry_of (Journaled id) = entry_at id None

abbrev pub same_place : Option Place → Option Place → Bool
same_place None None = true
same_place (Some a) (Some b) = ((a.position.page == b.position.page) && (a.position.index == b.position.index)) && (a.offset == b.offset)
same_place _ _ = false

-- an entry is told from the others by its message and its place
abbrev pub is_same : Entry → Entry → Bool
is_same a b = same_id a.id b.id && same_place a.place b.place

abbrev pub has_entry : List Entry → Entry → Bool
has_entry entries entry = list_any (λ other. is_same other entry) entries

abbrev pub is_taken : List Entry → Entry → Bool
is_taken entries entry = list_any (λ other. is_same other entry && other.taken) entries

-- the first entry that isn't taken
abbrev pub first_waiting : List Entry → Option Entry
first_waiting [] = None
first_waiting (entry ∷ entries) = if entry.taken then first_waiting entries else Some entry

-- the entry is taken from now on, or no longer, and stands where it stood
abbrev pub mark : Bool → Entry → Entry → Entry
mark taken entry other = if is_same other entry then record other { taken = taken } else other

abbrev pub marked : Bool → Entry → List Entry → List Entry
marked taken entry entries = map (mark taken entry) entries

-- the entries but that one
abbrev pub without_entry : Entry → List Entry → List Entry
without_entry entry entries = filter (λ other. not (is_same other entry)) entries

abbrev pub is_journaled : Entry → Bool
is_journaled entry = not (is_some entry.place)

-- one more journaled entry, which stands behind the journaled ones and before those in pages
abbrev pub added : Entry → List Entry → List Entry
added entry entries = filter is_journaled entries ++ (entry ∷ filter (λ other. not (is_journaled other)) entries)

-- how many entries there are, as far as 64 bits can tell
abbrev pub count_of : List Entry → ℕ
count_of entries = min (length entries) (2 ^ 64 - 1)
