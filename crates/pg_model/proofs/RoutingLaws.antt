-- A message goes to the queues of one list.
use Rattle.std.proofs.Common.{◌≡◌, ℕ, List, [], ◌∷◌, ◌==◌, refl, sym, ◌∙◌, ap}
use Rattle.std.specs.Prelude.{All}
use Rattle.std.proofs.lemmas.List.Elements.{All-filter, All-head, All-tail}
use Rattle.pg_msg.specs.declared.properties.Property.{Property}
use Rattle.pg_parse.specs.FilterTexts.{IsReadable}
use Rattle.pg_eval.proofs.MatchLaws.{match_one, match_some}
use Rattle.pg_model.specs.Broker.{Queue, Broker, IsValid}
use Rattle.pg_model.specs.Routing.{GoesTo, IsRouted, queues_of, with_taker}

pub goes_once : (properties : List Property) (queues : List Queue) (a b : List ℕ) → GoesTo properties queues a → GoesTo properties queues b → a ≡ b
goes_once properties [] a b this that = this ∙ sym that
goes_once properties (q ∷ queues) a b this that =
    let same : this.0 ≡ that.0 = match_one q.filter properties this.0 that.0 this.2 that.2 in
    let others : this.1 ≡ that.1 = goes_once properties queues this.1 that.1 this.3 that.3 in
    this.4 ∙ (ap (λ takes. with_taker takes q.id this.1) same ∙ (ap (λ ids. with_taker that.0 q.id ids) others ∙ sym that.4))

pub goes_somewhere : (properties : List Property) (queues : List Queue) → All (λ q. IsReadable q.filter) queues → (ids : List ℕ) × GoesTo properties queues ids
goes_somewhere properties [] all = ([], refl)
goes_somewhere properties (q ∷ queues) all =
    let here = match_some q.filter properties (All-head (λ (q : Queue). IsReadable q.filter) q queues all) in
    let others = goes_somewhere properties queues (All-tail (λ (q : Queue). IsReadable q.filter) q queues all) in
    (with_taker here.0 q.id others.0, (here.0, others.0, here.1, others.1, refl))

pub routed_somewhere : (s : Broker) (address : ℕ) (properties : List Property) → IsValid s → (ids : List ℕ) × IsRouted s address properties ids
routed_somewhere s address properties valid =
    goes_somewhere properties (queues_of address s.durable.queues)
    (All-filter (λ (q : Queue). q.address == address) (λ q. IsReadable q.filter) s.durable.queues valid.readable)
