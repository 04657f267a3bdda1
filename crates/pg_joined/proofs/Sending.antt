-- Messages that are sent, to queues of the broker alone and behind what stands in pages.
use Rattle.std.proofs.Common.{◌≡◌, ◌≢◌, ℕ, ◌==◌, ◌+◌, ◌||◌, true, List, [], ◌∷◌, refl, sym, ap, subst, ◌∙◌, inl, inr}
use Rattle.std.proofs.lemmas.Bool.{cases_Bool, eqb-true, false≢true}
use Rattle.std.proofs.lemmas.List.Elements.{All-contains}
use Rattle.std.specs.Prelude.{Some, None, All}
use Rattle.std.specs.List.{Contains}
use Rattle.pg_msg.specs.declared.properties.Property.{Property}
use Rattle.pg_msg.specs.declared.reply.Reply.{Reply}
use Rattle.pg_msg.specs.declared.reply.Reply.TheVariants as answer
use Rattle.pg_model.specs.Actions.{Send}
use Rattle.pg_model.specs.Broker.{Queue, Consumer, Broker, address_named}
use Rattle.pg_model.specs.Causes.{IsFirst}
use Rattle.pg_model.specs.Changes.{with_queues, next_id, message_of, has_number}
use Rattle.pg_model.specs.Refusals.{View, causes}
use Rattle.pg_model.specs.Routing.{IsRouted}
use Rattle.pg_model.specs.Steps.{Sends, Does, Acts}
use Rattle.pg_joined.specs.Joined.{GoesPastPages, PagedFlights, PagedMessages, joined, joined_consumers, with_drawn, with_paged}
use Rattle.pg_joined.proofs.Causing.{routed_to}
use Rattle.pg_joined.proofs.Lists.{in_first, in_rest, is_matched, matched}
use Rattle.pg_joined.proofs.Parting.{named}
use Rattle.pg_joined.proofs.Queues.{given_to_broker, given_to_pages}
use Rattle.pg_joined.proofs.Lifting.{lifted_same}

numbers_contain : (numbers : List ℕ) (number : ℕ) → has_number numbers number ≡ true → Contains numbers number
numbers_contain [] number has = absurd (false≢true has)
numbers_contain (other ∷ numbers) number has =
    elim (cases_Bool (other == number)) [
      | inl same ↦ subst (λ n. Contains (other ∷ numbers) n) (eqb-true other number same) (in_first other numbers)
      | inr differs ↦ in_rest number other numbers (numbers_contain numbers number (sym (ap (λ b. b || has_number numbers number) differs) ∙ has))
    ]

-- the broker with these queues and one more message id drawn
abbrev pub drawn_on : Broker → List Queue → List Consumer → Broker
drawn_on s queues consumers =
    record { durable = with_queues s.durable queues; running = record { drawn = s.running.drawn + 1; consumers = consumers }; ids = s.ids }

sends_on : (s t : Broker) (paged : PagedMessages) (flights : PagedFlights) (reply : Reply) (properties : List Property) (body : List ℕ) (numbers : List ℕ)
    → All (λ number. paged number ≡ []) numbers → Sends s numbers properties body reply t → Sends (joined paged flights s) numbers properties body reply (joined paged flights t)
sends_on s t paged flights reply properties body [] none sends = (sends.0, ap (joined paged flights) sends.1)
sends_on s t paged flights reply properties body (number ∷ numbers) none sends = (
  sends.0,
  ap (joined paged flights) sends.1
      ∙ ap (λ queues. drawn_on s queues (joined_consumers flights s.running.consumers))
      (given_to_broker paged (number ∷ numbers) (message_of (next_id s) properties body) s.durable.queues
      (λ q has. All-contains (λ number. paged number ≡ []) (number ∷ numbers) q.id none (numbers_contain (number ∷ numbers) q.id has))),
)

pub send : (view : View) (s t : Broker) (paged : PagedMessages) (flights : PagedFlights) (reply : Reply) (address : List ℕ) (properties : List Property) (body : List ℕ)
    → GoesPastPages paged s address properties → Acts view s (Send address properties body) reply t
    → Acts view (joined paged flights s) (Send address properties body) reply (joined paged flights t)
send view s t paged flights reply address properties body past acts = lifted_same view s t paged flights (Send address properties body) reply tt lift acts
  where
    lift : Does s (Send address properties body) reply t → Does (joined paged flights s) (Send address properties body) reply (joined paged flights t)
    lift does =
        let at = matched (address_named s.durable.addresses address) (λ id. (numbers : List ℕ) × IsRouted s id properties numbers × Sends s numbers properties body reply t) does in
        is_matched (address_named s.durable.addresses address)
        (λ id. (numbers : List ℕ) × IsRouted (joined paged flights s) id properties numbers × Sends (joined paged flights s) numbers properties body reply (joined paged flights t)) at.0 at.1 (
          at.2.0,
          routed_to paged flights s at.0 properties at.2.0 at.2.1,
          sends_on s t paged flights reply properties body at.2.0 (past at.0 at.2.0 at.1 at.2.1) at.2.2,
        )

pub unrouted : (view : View) (s t : Broker) (paged : PagedMessages) (flights : PagedFlights) (address : List ℕ) (properties : List Property) (body : List ℕ)
    → Acts view s (Send address properties body) answer.Unrouted t
    → Acts view (joined paged flights s) (Send address properties body) answer.Unrouted (joined paged flights t)
unrouted view s t paged flights address properties body acts = lifted_same view s t paged flights (Send address properties body) answer.Unrouted tt lift acts
  where
    nowhere : (numbers : List ℕ) → Sends s numbers properties body answer.Unrouted t → Sends (joined paged flights s) numbers properties body answer.Unrouted (joined paged flights t)
    nowhere [] sends = (refl, ap (joined paged flights) sends.1)
    nowhere (number ∷ numbers) sends = let is : answer.Unrouted ≡ answer.Sent (next_id s) = sends.0 in absurd (cc)

    lift : Does s (Send address properties body) answer.Unrouted t → Does (joined paged flights s) (Send address properties body) answer.Unrouted (joined paged flights t)
    lift does =
        let at = matched (address_named s.durable.addresses address) (λ id. (numbers : List ℕ) × IsRouted s id properties numbers × Sends s numbers properties body answer.Unrouted t) does in
        is_matched (address_named s.durable.addresses address)
        (λ id. (numbers : List ℕ) × IsRouted (joined paged flights s) id properties numbers × Sends (joined paged flights s) numbers properties body answer.Unrouted (joined paged flights t)) at.0 at.1
        (at.2.0, routed_to paged flights s at.0 properties at.2.0 at.2.1, nowhere at.2.0 at.2.2)

-- ---- behind what stands in pages
sends_behind : (s : Broker) (paged : PagedMessages) (flights : PagedFlights) (properties : List Property) (body : List ℕ) (numbers : List ℕ) → numbers ≢ []
    → Sends (joined paged flights s) numbers properties body (answer.Sent (next_id s)) (joined (with_paged numbers (message_of (next_id s) properties body) paged) flights (with_drawn s))
sends_behind s paged flights properties body [] some = absurd (some refl)
sends_behind s paged flights properties body (number ∷ numbers) some = (
  refl,
  ap (λ queues. drawn_on s queues (joined_consumers flights s.running.consumers)) (given_to_pages paged (number ∷ numbers) (message_of (next_id s) properties body) s.durable.queues),
)

pub send_behind : (view : View) (s : Broker) (paged : PagedMessages) (flights : PagedFlights) (address : List ℕ) (properties : List Property) (body : List ℕ) (id : ℕ) (numbers : List ℕ)
    → IsFirst (causes view (joined paged flights s) (Send address properties body)) None → address_named s.durable.addresses address ≡ Some id → IsRouted s id properties numbers → numbers ≢ []
    → Acts view (joined paged flights s) (Send address properties body) (answer.Sent (next_id s)) (joined (with_paged numbers (message_of (next_id s) properties body) paged) flights (with_drawn s))
send_behind view s paged flights address properties body id numbers first named routed some = record {
  refusal = None;
  first = first;
  answers =
      is_matched (address_named s.durable.addresses address)
      (λ id. (numbers : List ℕ) × IsRouted (joined paged flights s) id properties numbers
      × Sends (joined paged flights s) numbers properties body (answer.Sent (next_id s)) (joined (with_paged numbers' (message_of (next_id s) properties body) paged) flights (with_drawn s))) id named
      (numbers, routed_to paged flights s id properties numbers routed, sends_behind s paged flights properties body numbers some);
}
  where
    numbers' : List ℕ
    numbers' = numbers
