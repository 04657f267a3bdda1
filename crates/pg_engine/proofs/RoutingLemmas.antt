-- Where the routes lead, the broker's messages go.
use Rattle.std.proofs.Common.{◌≡◌, refl, ℕ, Bool, true, false, cond, ◌&&◌, ◌==◌, List, [], ◌∷◌, map, filter}
use Rattle.std.specs.List.{AllByRecursion}
use Rattle.pg_msg.specs.declared.properties.Property.{Property}
use Rattle.pg_fold.specs.declared.rows.JournaledRow.{JournaledRow}
use Rattle.pg_fold.specs.declared.rows.QueueRow.{QueueRow}
use Rattle.pg_parse.specs.FilterTexts.{ReadsAs}
use Rattle.pg_eval.specs.Truth.{is_match}
use Rattle.pg_model.specs.Broker.{Queue}
use Rattle.pg_model.specs.Routing.{GoesTo, queues_of, with_taker}
use Rattle.pg_recover.specs.Denotation.{queue_of}
use Rattle.pg_routes.specs.Names.{QueueName}
use Rattle.pg_engine.specs.Kept.{Trees, name_of_queue}

module _ (trees : Trees) (address : ℕ) (properties : List Property) (messages : List JournaledRow) where
  -- the queue of the routes takes the message
  abbrev takes : QueueName → Bool
  takes queue = (queue.address == address) && is_match properties queue.filter

  abbrev takers : List QueueRow → List QueueName
  takers rows = filter takes (map (name_of_queue trees) rows)

  abbrev ids : List QueueName → List ℕ
  ids queues = map (λ (queue : QueueName). queue.id) queues

  abbrev held : List QueueRow → List Queue
  held rows = queues_of address (map (queue_of messages) rows)

  pub goes_where_found : (rows : List QueueRow) → AllByRecursion (λ row. ReadsAs row.filter (trees row.id)) rows → GoesTo properties (held rows) (ids (takers rows))
  goes_where_found [] read = refl
  goes_where_found (row ∷ rows) read = by (row.address == address) (goes_where_found rows read.1)
    where
      taken : (b : Bool) → ids (cond b (name_of_queue trees row ∷ takers rows) (takers rows)) ≡ with_taker b row.id (ids (takers rows))
      taken true = refl
      taken false = refl

      by : (b : Bool) → GoesTo properties (held rows) (ids (takers rows))
          → GoesTo properties (cond b (queue_of messages row ∷ held rows) (held rows)) (ids (cond (b && is_match properties (trees row.id)) (name_of_queue trees row ∷ takers rows) (takers rows)))
      by true before = (
        is_match properties (trees row.id),
        ids (takers rows),
        record { filter = trees row.id; read = read.0; is = refl },
        before,
        taken (is_match properties (trees row.id)),
      )
      by false before = before
