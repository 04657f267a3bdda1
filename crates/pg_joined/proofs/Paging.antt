-- Steps of the whole with messages in pages.
use Rattle.std.proofs.Common.{◌≡◌, ℕ, ◌==◌, ◌||◌, true, false, List, refl, sym, ap, ap₂, subst, ◌∙◌, inl, inr}
use Rattle.std.proofs.lemmas.Bool.{cases_Bool, eqb-true}
use Rattle.std.specs.Prelude.{Option, Some, None, is_some, MatchOption}
use Rattle.std.specs.Option.{option_map, option_or}
use Rattle.std.specs.List.{Contains}
use Rattle.pg_msg.specs.declared.message.Message.{Message}
use Rattle.pg_msg.specs.declared.message.MessageId.{MessageId}
use Rattle.pg_msg.specs.declared.reply.Reply.{Reply}
use Rattle.pg_msg.specs.declared.reply.Reply.TheVariants as answer
use Rattle.pg_model.specs.Actions.{Receive, Acknowledge, Cancel}
use Rattle.pg_model.specs.Broker.{Queue, Consumer, Broker, queue_with, consumer_named, same_id}
use Rattle.pg_model.specs.Changes.{with_durable, with_consumers, with_queues, acknowledged, with_id, without_id, with_flights, without_message}
use Rattle.pg_model.specs.Refusals.{View, HasFlight}
use Rattle.pg_model.specs.Steps.{Gives, IsDone, Acts, available}
use Rattle.pg_joined.specs.Joined.{HasMessage, IsSplit, PagedFlights, PagedMessages, joined, joined_consumer, joined_consumers, joined_queue, joined_queues, merged, paged_available, with_flights_at, with_messages_at}
use Rattle.pg_joined.proofs.Causing.{consumer_found, has_consumer}
use Rattle.pg_joined.proofs.Consumers.{first_available, pages_changed}
use Rattle.pg_joined.proofs.Ids.{contains_it, has_id, has_it, has_merged, one_id, put_merged, taken_in_front}
use Rattle.pg_joined.proofs.Lists.{found_mapped, in_found, is_matched}
use Rattle.pg_joined.proofs.Parting.{in_order, named, not_both, not_with_broker, open_by_name, paged_by}
use Rattle.pg_joined.proofs.Queues.{gone_from_pages}
use Rattle.pg_joined.proofs.Lifting.{rebuilt}

-- ---- a consumer gets a message in pages
gives : (view : View) (s u : Broker) (paged : PagedMessages) (flights : PagedFlights) (name : List ℕ) (c : Consumer) (q : Queue) (o : Option Message) (reply : Reply) → IsSplit paged flights s
    → consumer_named s.running.consumers name ≡ Some c → queue_with s.durable.queues c.queue ≡ Some q → available s q ≡ None → paged_available paged flights s q ≡ o
    → Gives (joined paged flights s) name o reply u → Acts view (joined paged flights s) (Receive name) reply u
gives view s u paged flights name c q o reply split found of none first given = record {
  refusal = None;
  first = inr ((λ closed. closed (has_consumer paged flights s name ∙ ap is_some found)), refl);
  answers =
      is_matched (consumer_named (joined_consumers flights s.running.consumers) name)
      (λ c. MatchOption (queue_with (joined_queues paged s.durable.queues) c.queue) ⊥ (λ q. Gives (joined paged flights s) name (available (joined paged flights s) q) reply u))
      (joined_consumer flights c) (consumer_found flights s.running.consumers name ∙ ap (option_map (joined_consumer flights)) found)
      (is_matched (queue_with (joined_queues paged s.durable.queues) c.queue)
      (λ q. Gives (joined paged flights s) name (available (joined paged flights s) q) reply u)
      (joined_queue paged q) (found_mapped (λ (q : Queue). q.id == c.queue) (joined_queue paged) (λ q. refl) s.durable.queues ∙ ap (option_map (joined_queue paged)) of)
      (subst (λ o. Gives (joined paged flights s) name o reply u) (sym is) given));
}
  where
    is : available (joined paged flights s) (joined_queue paged q) ≡ o
    is = first_available paged flights s split q (in_found (λ (q : Queue). q.id == c.queue) s.durable.queues q of).0 ∙ ap₂ option_or none first

pub receive : (view : View) (s : Broker) (paged : PagedMessages) (flights : PagedFlights) (name : List ℕ) (c : Consumer) (q : Queue) (m : Message) → IsSplit paged flights s
    → consumer_named s.running.consumers name ≡ Some c → queue_with s.durable.queues c.queue ≡ Some q → available s q ≡ None → paged_available paged flights s q ≡ Some m
    → Acts view (joined paged flights s) (Receive name) (answer.Given m) (joined paged (with_flights_at name (with_id m.id) flights) s)
receive view s paged flights name c q m split found of none first =
    gives view s (joined paged (with_flights_at name (with_id m.id) flights) s) paged flights name c q (Some m) (answer.Given m) split found of none first (
      refl,
      ap (rebuilt s (joined_queues paged s.durable.queues))
          (pages_changed flights name (with_id m.id) s.running.consumers (λ c there is. put_merged m.id (flights c.name) c.in_flight)),
    )

pub nothing_left : (view : View) (s : Broker) (paged : PagedMessages) (flights : PagedFlights) (name : List ℕ) (c : Consumer) (q : Queue) → IsSplit paged flights s
    → consumer_named s.running.consumers name ≡ Some c → queue_with s.durable.queues c.queue ≡ Some q → available s q ≡ None → paged_available paged flights s q ≡ None
    → Acts view (joined paged flights s) (Receive name) answer.Empty (joined paged flights s)
nothing_left view s paged flights name c q split found of none first =
    gives view s (joined paged flights s) paged flights name c q None answer.Empty split found of none first (refl, refl)

-- ---- a consumer gives a message in pages up
flying : (s : Broker) (paged : PagedMessages) (flights : PagedFlights) (name : List ℕ) (id : MessageId) (c : Consumer) → consumer_named s.running.consumers name ≡ Some c → Contains (flights name) id
    → HasFlight (joined paged flights s) name id
flying s paged flights name id c found its =
    let at = open_by_name s.running.consumers name c found in (
      joined_consumer flights c,
      consumer_found flights s.running.consumers name ∙ ap (option_map (joined_consumer flights)) found,
      contains_it id (merged (flights c.name) c.in_flight)
          (has_merged id (flights c.name) c.in_flight ∙ ap (λ b. b || has_id id c.in_flight) (ap (λ other. has_id id (flights other)) (sym at.1) ∙ has_it id (flights name) its)),
    )

consumers_without : (s : Broker) (paged : PagedMessages) (flights : PagedFlights) (name : List ℕ) (id : MessageId) → IsSplit paged flights s → Contains (flights name) id
    → joined_consumers (with_flights_at name (without_id id) flights) s.running.consumers ≡ with_flights name (without_id id) (joined_consumers flights s.running.consumers)
consumers_without s paged flights name id split its =
    pages_changed flights name (without_id id) s.running.consumers
    (λ c there is. sym (taken_in_front id (flights c.name) c.in_flight
    (not_with_broker paged flights s split c.queue id (paged_by paged flights s split c there id (subst (λ other. Contains (flights other) id) (named name c.name is) its)) c there refl)
    (in_order paged flights s split c there)))

pub cancel : (view : View) (s : Broker) (paged : PagedMessages) (flights : PagedFlights) (name : List ℕ) (id : MessageId) (c : Consumer) → IsSplit paged flights s
    → consumer_named s.running.consumers name ≡ Some c → Contains (flights name) id
    → Acts view (joined paged flights s) (Cancel name id) answer.Done (joined paged (with_flights_at name (without_id id) flights) s)
cancel view s paged flights name id c split found its = record {
  refusal = None;
  first = inr ((λ closed. closed (has_consumer paged flights s name ∙ ap is_some found)), inr ((λ none. none (flying s paged flights name id c found its)), refl));
  answers = (refl, ap (rebuilt s (joined_queues paged s.durable.queues)) (consumers_without s paged flights name id split its));
}

pub acknowledge : (view : View) (s : Broker) (paged : PagedMessages) (flights : PagedFlights) (name : List ℕ) (id : MessageId) (c : Consumer) → IsSplit paged flights s
    → consumer_named s.running.consumers name ≡ Some c → Contains (flights name) id
    → Acts view (joined paged flights s) (Acknowledge name id) answer.Done (joined (with_messages_at c.queue (without_message id) paged) (with_flights_at name (without_id id) flights) s)
acknowledge view s paged flights name id c split found its = record {
  refusal = None;
  first = inr ((λ closed. closed (has_consumer paged flights s name ∙ ap is_some found)), inr ((λ none. none (flying s paged flights name id c found its)), refl));
  answers =
      is_matched (consumer_named (joined_consumers flights s.running.consumers) name)
      (λ c'. IsDone answer.Done (joined (with_messages_at c.queue (without_message id) paged) (with_flights_at name (without_id id) flights) s)
      (with_durable (with_consumers (joined paged flights s) (with_flights name (without_id id) (joined_consumers flights s.running.consumers))) (with_queues s.durable (acknowledged c'.queue id (joined_queues paged s.durable.queues)))))
      (joined_consumer flights c) (consumer_found flights s.running.consumers name ∙ ap (option_map (joined_consumer flights)) found)
      (refl, ap₂ (rebuilt s) (gone_from_pages paged c.queue id s.durable.queues apart) (consumers_without s paged flights name id split its));
}
  where
    at : Contains s.running.consumers c × (name ≡ c.name)
    at = open_by_name s.running.consumers name c found

    apart : (q : Queue) → Contains s.durable.queues q → q.id == c.queue ≡ true → (m : Message) → Contains q.messages m → same_id m.id id ≡ false
    apart q there is m held =
        elim (cases_Bool (same_id m.id id)) [
          | inl same ↦ absurd (not_both paged flights s split q there m held
              (subst (λ queue. HasMessage (paged queue) m.id) (sym (eqb-true q.id c.queue is))
              (subst (HasMessage (paged c.queue)) (sym (one_id m.id id same)) (paged_by paged flights s split c at.0 id (subst (λ other. Contains (flights other) id) at.1 its)))))
          | inr differs ↦ differs
        ]
