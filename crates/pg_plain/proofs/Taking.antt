-- Which queues a message goes to, queue after queue.
use Rattle.std.proofs.Common.{◌≡◌, refl, sym, ap, subst, ◌∙◌, ℕ, Bool, true, false, ◌==◌, List, [], ◌∷◌, ◌++◌}
use Rattle.std.proofs.lemmas.List.Elements.{filter-append}
use Rattle.pg_msg.specs.declared.properties.Property.{Property}
use Rattle.pg_model.specs.Broker.{Queue}
use Rattle.pg_model.specs.Routing.{GoesTo, queues_of, with_taker}

taker_before : (takes : Bool) (id : ℕ) (others more : List ℕ) → with_taker takes id others ++ more ≡ with_taker takes id (others ++ more)
taker_before true id others more = refl
taker_before false id others more = refl

-- the queues of the one list, and those of the other behind them
goes_both : (properties : List Property) (queues behind : List Queue) (ids more : List ℕ) → GoesTo properties queues ids → GoesTo properties behind more → GoesTo properties (queues ++ behind) (ids ++ more)
goes_both properties [] behind ids more goes also = subst (λ (none : List ℕ). GoesTo properties behind (none ++ more)) (sym goes) also
goes_both properties (q ∷ queues) behind ids more goes also = (
  goes.0,
  goes.1 ++ more,
  goes.2,
  goes_both properties queues behind goes.1 more goes.3 also,
  ap (λ (before : List ℕ). before ++ more) goes.4 ∙ taker_before goes.0 q.id goes.1 more,
)

-- a further queue behind the others
pub goes_further : (properties : List Property) (address : ℕ) (queues : List Queue) (ids : List ℕ) (q : Queue) (takes : Bool) → GoesTo properties (queues_of address queues) ids
    → GoesTo properties (queues_of address (q ∷ [])) (with_taker takes q.id []) → GoesTo properties (queues_of address (queues ++ q ∷ [])) (ids ++ with_taker takes q.id [])
goes_further properties address queues ids q takes goes one =
    subst (λ (those : List Queue). GoesTo properties those (ids ++ with_taker takes q.id [])) (sym (filter-append (λ (q : Queue). q.address == address) queues (q ∷ [])))
    (goes_both properties (queues_of address queues) (queues_of address (q ∷ [])) ids (with_taker takes q.id []) goes one)
