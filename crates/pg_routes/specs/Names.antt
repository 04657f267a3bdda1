-- The addresses and the live queues as two lists, and what the calls make of them.
use Rattle.std.specs.Prelude.{◌==◌, ◌&&◌, ℕ, Bool, not, nat_lt, List, ◌∷◌, ◌++◌, map, filter, find, Option}
use Rattle.std.specs.List.{list_any}
use Rattle.std.specs.List.Sorted.{IsStrictlySortedBy}
use Rattle.std.specs.Option.{option_map}
use Rattle.std.specs.Ordering.{nat_cmp}
use Rattle.std.specs.Str.{bytes_eq}
use Rattle.pg_msg.specs.declared.properties.Property.{Property}
use Rattle.pg_parse.specs.declared.tree.Tree.{Tree}
use Rattle.pg_eval.specs.Truth.{is_match}

-- an address: its id and its name
pub record AddressName : Type 0 where
  pub id : ℕ
  pub name : List ℕ

-- a live queue: its id, the id of its address, its name, and its filter, if it has one
pub record QueueName : Type 0 where
  pub id : ℕ
  pub address : ℕ
  pub name : List ℕ
  pub filter : Option Tree

-- the addresses and the live queues, each ascending by id
pub record RouteNames : Type 0 where
  pub addresses : List AddressName
  pub queues : List QueueName

-- the id of the address of that name
abbrev pub address_named : List ℕ → RouteNames → Option ℕ
address_named name routes =
    option_map (λ address. address.id) (find (λ address. bytes_eq name address.name) routes.addresses)

-- the id of the live queue of that name
abbrev pub queue_named : List ℕ → RouteNames → Option ℕ
queue_named name routes =
    option_map (λ queue. queue.id) (find (λ queue. bytes_eq name queue.name) routes.queues)

-- an address has that id
abbrev pub has_address : ℕ → RouteNames → Bool
has_address id routes = list_any (λ address. address.id == id) routes.addresses

-- a live queue has that id
abbrev pub has_queue : ℕ → RouteNames → Bool
has_queue id routes = list_any (λ queue. queue.id == id) routes.queues

-- the ids of the queues among these whose address is that one, in their order
abbrev pub ids_naming : ℕ → List QueueName → List ℕ
ids_naming address queues = map (λ queue. queue.id) (filter (λ queue. queue.address == address) queues)

-- the ids of the live queues of the address
abbrev pub queue_ids_at : ℕ → RouteNames → List ℕ
queue_ids_at address routes = ids_naming address routes.queues

-- The ids of the queues that a message with these properties goes to: of the live queues of the address, those whose
-- filter is true of them, and those that have none.
abbrev pub routed_at : ℕ → List Property → RouteNames → List ℕ
routed_at address properties routes =
    map (λ queue. queue.id)
    (filter (λ queue. (queue.address == address) && is_match properties queue.filter) routes.queues)

-- one address more, behind those with smaller ids and before those with greater ones
abbrev pub with_address : AddressName → RouteNames → RouteNames
with_address address routes =
    record routes {
      addresses = filter (λ other. nat_lt other.id address.id) routes.addresses
          ++ (address ∷ filter (λ other. nat_lt address.id other.id) routes.addresses);
    }

-- one queue more, behind those with smaller ids and before those with greater ones
abbrev pub with_queue : QueueName → RouteNames → RouteNames
with_queue queue routes =
    record routes {
      queues = filter (λ other. nat_lt other.id queue.id) routes.queues
          ++ (queue ∷ filter (λ other. nat_lt queue.id other.id) routes.queues);
    }

-- the same addresses, and the live queues but the one with that id
abbrev pub without_queue : ℕ → RouteNames → RouteNames
without_queue id routes = record routes { queues = filter (λ queue. not (queue.id == id)) routes.queues }

-- the ids of the addresses ascend, and so do those of the live queues
pub record AreAscending (routes : RouteNames) : Type 0 where
  pub addresses : IsStrictlySortedBy nat_cmp (map (λ address. address.id) routes.addresses)
  pub queues : IsStrictlySortedBy nat_cmp (map (λ queue. queue.id) routes.queues)
