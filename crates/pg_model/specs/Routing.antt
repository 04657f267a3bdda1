-- Which queues a message goes to, and which filters a queue may have.
use Rattle.std.specs.Prelude.{◌≡◌, ◌≢◌, ℕ, Bool, true, false, ◌==◌, List, [], ◌∷◌, filter, Option, Some, None}
use Rattle.pg_msg.specs.declared.properties.Property.{Property}
use Rattle.pg_parse.specs.declared.tree.Tree.{Tree}
use Rattle.pg_parse.specs.Filters.{Reads}
use Rattle.pg_eval.specs.Matching.{IsMatchBy}
use Rattle.pg_model.specs.Broker.{Queue, Broker}

-- ---- the filter of a queue
-- the text that is kept of a filter: an empty one for none
abbrev pub text_of : Option (List ℕ) → List ℕ
text_of None = []
text_of (Some text) = text

-- there is no filter, or it has a reading
abbrev pub HasReading : Option (List ℕ) → Type 0
HasReading None = Unit {0}
HasReading (Some text) = (tree : Tree) × Reads text tree

-- ---- the way of a message
-- the queues of the address, in their order
abbrev pub queues_of : ℕ → List Queue → List Queue
queues_of address queues = filter (λ q. q.address == address) queues

-- the id in front, where the queue takes the message
abbrev pub with_taker : Bool → ℕ → List ℕ → List ℕ
with_taker true id ids = id ∷ ids
with_taker false id ids = ids

-- Of these queues, the message goes to those without a filter and to those whose filter is true of its properties; and
-- these are their ids, in their order.
abbrev pub GoesTo : List Property → List Queue → List ℕ → Type 0
GoesTo properties [] ids = ids ≡ []
GoesTo properties (q ∷ queues) ids =
    (takes : Bool) × (others : List ℕ) × IsMatchBy q.filter properties takes × GoesTo properties queues others
    × (ids ≡ with_taker takes q.id others)

-- a message of these properties to the address goes to the queues of these ids
abbrev pub IsRouted : Broker → ℕ → List Property → List ℕ → Type 0
IsRouted s address properties ids = GoesTo properties (queues_of address s.durable.queues) ids

-- and that is to some queue
abbrev pub HasTaker : Broker → ℕ → List Property → Type 0
HasTaker s address properties = (ids : List ℕ) × IsRouted s address properties ids × (ids ≢ [])
