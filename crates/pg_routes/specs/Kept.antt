-- How the routes are kept: by id, with the ids by name, and the ids of each address's queues beside them.
use Rattle.std.specs.Prelude.{◌≡◌, ℕ, Bool, false, List, map, Some, String}
use Rattle.std.specs.BTreeMap.{BTreeMap, get, IsOrdered}
use Rattle.std.specs.Option.{option_map_or}
use Rattle.std.specs.Ordering.{nat_cmp}
use Rattle.std.specs.declared.alloc.Global.{Global}
use Rattle.std.specs.declared.hash.FoldHasher.{FoldHasher}
use Rattle.std.specs.declared.hash.BuildHasherDefault.{BuildHasherDefault}
use Rattle.indexmap.specs.IndexMap.{IndexMap, get_by_text}
use Rattle.pg_msg.specs.declared.properties.Property.{Property}
use Rattle.pg_eval.specs.Truth.{is_match}
use Rattle.pg_routes.specs.declared.routes.QueueEntry.{QueueEntry}
use Rattle.pg_routes.specs.Lists.{Lists, ids_at}
use Rattle.pg_routes.specs.Names.{AddressName, QueueName, RouteNames, ids_naming}

-- the names of the addresses by their ids, and the live queues by theirs
abbrev pub Addresses : Type 0
Addresses = BTreeMap ℕ (List ℕ)

abbrev pub Queues : Type 0
Queues = BTreeMap ℕ QueueEntry

-- ids by names
abbrev pub Ids : Type 0
Ids = IndexMap (String Global) ℕ (BuildHasherDefault FoldHasher)

abbrev pub address_of : ℕ × List ℕ → AddressName
address_of entry = record { id = entry.0; name = entry.1 }

abbrev pub queue_of : ℕ × QueueEntry → QueueName
queue_of entry =
    record { id = entry.0; address = entry.1.address; name = entry.1.name; filter = entry.1.filter }

abbrev pub seen : Addresses → Queues → RouteNames
seen addresses queues = record { addresses = map address_of addresses.entries; queues = map queue_of queues.entries }

-- whether a message with these properties goes to the queue with that id
abbrev pub takes : Queues → List Property → ℕ → Bool
takes queues properties id =
    option_map_or (λ queue. is_match properties queue.filter) (get nat_cmp queues id) false

-- Each address and each queue is found by its name. The ids that are listed for an address are those of its queues.
pub record AreKept (addresses : Addresses) (queues : Queues) (address_ids queue_ids : Ids) (lists : Lists)
    : Type 0 where
  pub addresses_ordered : IsOrdered nat_cmp addresses
  pub queues_ordered : IsOrdered nat_cmp queues
  pub addresses_found : (id : ℕ) (name : List ℕ) → get nat_cmp addresses id ≡ Some name
      → get_by_text address_ids name ≡ Some id
  pub queues_found : (id : ℕ) (queue : QueueEntry) → get nat_cmp queues id ≡ Some queue
      → get_by_text queue_ids queue.name ≡ Some id
  pub listed : (address : ℕ) → ids_at lists address ≡ ids_naming address (map queue_of queues.entries)
