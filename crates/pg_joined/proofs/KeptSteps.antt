-- Parts that fit together behind a step of the broker alone.
use Rattle.std.proofs.Common.{◌≡◌, ◌≢◌, ℕ, suc, ◌==◌, ◌⊎◌, ◌&&◌, ◌||◌, cond, Bool, true, false, not, List, [], ◌∷◌, ◌++◌, length, refl, sym, ap, subst, ◌∙◌, inl, inr, arith}
use Rattle.std.proofs.lemmas.Bool.{cases_Bool, cond_both, eq-eqb, eqb-true, false≢true}
use Rattle.std.proofs.lemmas.Grind.{common_steps}
use Rattle.std.proofs.lemmas.List.Elements.{All-contains, Contains-push_cases}
use Rattle.std.proofs.lemmas.List.Kept.{AllPairs-cons, AllPairs-filter}
use Rattle.std.specs.Prelude.{Option, Some, None, MatchOption, AllPairs}
use Rattle.std.specs.List.{Contains}
use Rattle.std.specs.Str.{bytes_eq}
use Rattle.pg_msg.specs.declared.message.Message.{Message}
use Rattle.pg_msg.specs.declared.message.MessageId.{MessageId}
use Rattle.pg_msg.specs.declared.properties.Property.{Property}
use Rattle.pg_msg.specs.declared.reply.Refusal.{Refusal}
use Rattle.pg_msg.specs.declared.reply.Reply.{Reply}
use Rattle.pg_msg.specs.declared.reply.Reply.TheVariants as answer
use Rattle.pg_model.specs.Actions.{Action, MakeAddress, MakeQueue, DropQueue, Send, Open, Receive, Acknowledge, Cancel, Close, Count}
use Rattle.pg_model.specs.Broker.{Queue, Consumer, Broker, IsValid, address_named, queue_named, queue_with, consumer_named, same_id}
use Rattle.pg_model.specs.Changes.{with_durable, with_consumers, with_queues, with_queue, without_queue, acknowledged, is_before, with_id, without_id, with_flights, without_consumer}
use Rattle.pg_model.specs.Refusals.{View}
use Rattle.pg_model.specs.Routing.{IsRouted, text_of}
use Rattle.pg_model.specs.Steps.{Sends, Gives, IsDone, Does, Answers, Acts, available, is_in_flight}
use Rattle.pg_joined.specs.Joined.{Ascends, HasMessage, IsSplit, OpensWithNone, PagedFlights, PagedMessages, joined, joined_consumer, joined_consumers}
use Rattle.pg_joined.proofs.Ids.{contains_it, has_id, has_it, has_put, one_id}
use Rattle.pg_joined.proofs.Keeping.{Fits, across, all_by, before_mapped, held_apart, in_mapped, split_by}
use Rattle.pg_joined.proofs.Lists.{from_filtered, in_cases, in_first, in_found, matched, nothing_in}
use Rattle.pg_joined.proofs.Parting.{held_by, named, not_both, not_held_and_paged, open_by_name, paged_by}

-- ---- ids that ascend
follows : (a b c : MessageId) → is_before a b ≡ true → is_before b c ≡ true → is_before a c ≡ true
follows a b c this that = grind (arith, common_steps, this, that)

in_front : (a x : MessageId) → is_before x a ≡ false → same_id x a ≡ false → is_before a x ≡ true
in_front a x not_before differs = grind (arith, common_steps, not_before, differs)

pub in_put : (a y : MessageId) (ids : List MessageId) → Contains (with_id a ids) y → (a ≡ y) ⊎ Contains ids y
in_put a y ids there =
    let has : (same_id a y || has_id y ids) ≡ true = sym (has_put y a ids) ∙ has_it y (with_id a ids) there in
    elim (cases_Bool (same_id a y)) [
      | inl same ↦ inl (one_id a y same)
      | inr differs ↦ inr (contains_it y ids (sym (ap (λ b. b || has_id y ids) differs) ∙ has))
    ]

put_ascends : (a : MessageId) (ids : List MessageId) → Ascends ids → has_id a ids ≡ false → Ascends (with_id a ids)
put_ascends a [] ascends lacks = λ i j d less within. absurd (omega (arith, less, within))
put_ascends a (x ∷ ids) ascends lacks =
    cond_both (is_before x a) (x ∷ with_id a ids) (a ∷ x ∷ ids) Ascends
    (λ before. AllPairs-cons (λ id other. is_before id other ≡ true) x (with_id a ids)
    (all_by (λ other. is_before x other ≡ true) (with_id a ids) (λ y there. later y before (in_put a y ids there)))
    (put_ascends a ids (λ i j d less within. ascends (suc i) (suc j) d (omega (arith, less)) (omega (arith, within))) (rest (same_id x a) (has_id a ids) lacks)))
    (λ not_before. AllPairs-cons (λ id other. is_before id other ≡ true) a (x ∷ ids)
    (all_by (λ other. is_before a other ≡ true) (x ∷ ids) (λ y there. all_later y (in_front a x not_before (front (same_id x a) (has_id a ids) lacks)) (in_cases y x ids there))) ascends)
  where
    rest : (here later : Bool) → (here || later) ≡ false → later ≡ false
    rest true later none = absurd (false≢true (sym none))
    rest false later none = none

    front : (here later : Bool) → (here || later) ≡ false → here ≡ false
    front true later none = none
    front false later none = refl

    behind : (y : MessageId) → Contains ids y → is_before x y ≡ true
    behind y there = across (λ id other. is_before id other ≡ true) (x ∷ []) ids x y ascends (in_first x []) there

    later : (y : MessageId) → is_before x a ≡ true → (a ≡ y) ⊎ Contains ids y → is_before x y ≡ true
    later y before (inl is) = subst (λ y. is_before x y ≡ true) is before
    later y before (inr there) = behind y there

    all_later : (y : MessageId) → is_before a x ≡ true → (x ≡ y) ⊎ Contains ids y → is_before a y ≡ true
    all_later y before (inl is) = subst (λ y. is_before a y ≡ true) is before
    all_later y before (inr there) = follows a x y before (behind y there)

-- ---- what is asked of a consumer, as it changes
fits_still : (paged : PagedMessages) (flying : PagedFlights) (s t : Broker) → IsSplit paged flying s → IsValid (joined paged flying t) → (c : Consumer) → Contains s.running.consumers c → Fits paged flying t c
fits_still paged flying s t split valid c there = record {
  ascends = All-contains (λ (c : Consumer). Ascends c.in_flight) s.running.consumers c split.ascending there;
  out_of_pages = λ id its. not_held_and_paged paged flying s split c.queue id (held_by paged flying s split c there id its);
  out_of_broker = λ id its held. held_apart paged flying t valid c.queue id held (paged_by paged flying s split c there id its);
}

fits_less : (paged : PagedMessages) (flying : PagedFlights) (t : Broker) (id : MessageId) (c : Consumer) (b : Bool) → Fits paged flying t c
    → Fits paged flying t (cond b (record c { in_flight = without_id id c.in_flight }) c)
fits_less paged flying t id c false fits = fits
fits_less paged flying t id c true fits = record {
  ascends = AllPairs-filter (λ id other. is_before id other ≡ true) (λ other. not (same_id other id)) c.in_flight fits.ascends;
  out_of_pages = λ other its. fits.out_of_pages other (from_filtered (λ other. not (same_id other id)) c.in_flight other its).0;
  out_of_broker = fits.out_of_broker;
}

fits_more : (paged : PagedMessages) (flying : PagedFlights) (t : Broker) (id : MessageId) (c : Consumer) (b : Bool) → Fits paged flying t c
    → (b ≡ true → has_id id c.in_flight ≡ false) → (b ≡ true → HasMessage (paged c.queue) id → ⊥)
    → Fits paged flying t (cond b (record c { in_flight = with_id id c.in_flight }) c)
fits_more paged flying t id c false fits lacks held = fits
fits_more paged flying t id c true fits lacks held = record {
  ascends = put_ascends id c.in_flight fits.ascends (lacks refl);
  out_of_pages = λ other its. either other (in_put id other c.in_flight its);
  out_of_broker = fits.out_of_broker;
}
  where
    either : (other : MessageId) → (id ≡ other) ⊎ Contains c.in_flight other → HasMessage (paged c.queue) other → ⊥
    either other (inl is) = subst (λ id. HasMessage (paged c.queue) id → ⊥) is (held refl)
    either other (inr its) = fits.out_of_pages other its

-- ---- the consumers behind a step
pub by_consumers : (paged : PagedMessages) (flying : PagedFlights) (t : Broker) (consumers : List Consumer) → IsValid (joined paged flying t) → t.running.consumers ≡ consumers
    → ((c : Consumer) → Contains consumers c → Fits paged flying t c) → IsSplit paged flying t
by_consumers paged flying t consumers valid is fits = split_by paged flying t valid (λ c there. fits c (subst (λ cs. Contains cs c) is there))

same_consumers : (paged : PagedMessages) (flying : PagedFlights) (s t : Broker) → IsSplit paged flying s → IsValid (joined paged flying t) → t.running.consumers ≡ s.running.consumers → IsSplit paged flying t
same_consumers paged flying s t split valid is = by_consumers paged flying t s.running.consumers valid is (fits_still paged flying s t split valid)

consumers_less : (paged : PagedMessages) (flying : PagedFlights) (s t : Broker) (name : List ℕ) (id : MessageId) → IsSplit paged flying s → IsValid (joined paged flying t)
    → t.running.consumers ≡ with_flights name (without_id id) s.running.consumers → IsSplit paged flying t
consumers_less paged flying s t name id split valid is =
    by_consumers paged flying t (with_flights name (without_id id) s.running.consumers) valid is
    (λ c there.
    let at = before_mapped changed s.running.consumers c there in
    subst (Fits paged flying t) at.2 (fits_less paged flying t id at.0 (bytes_eq name at.0.name) (fits_still paged flying s t split valid at.0 at.1)))
  where
    changed : Consumer → Consumer
    changed c = cond (bytes_eq name c.name) (record c { in_flight = without_id id c.in_flight }) c

pub one_named : (consumers : List Consumer) (a b : Consumer) → AllPairs (λ (c other : Consumer). c.name ≢ other.name) consumers → Contains consumers a → Contains consumers b → a.name ≡ b.name → a ≡ b
one_named [] a b differ this that same = absurd (nothing_in a this)
one_named (c ∷ consumers) a b differ this that same =
    either (λ this that. one_named consumers a b (λ i j d less within. differ (suc i) (suc j) d (omega (arith, less)) (omega (arith, within))) this that same) (in_cases a c consumers this) (in_cases b c consumers that)
  where
    other : (d : Consumer) → Contains consumers d → c.name ≡ d.name → ⊥
    other d there = across (λ (c other : Consumer). c.name ≢ other.name) (c ∷ []) consumers c d differ (in_first c []) there

    either : (Contains consumers a → Contains consumers b → a ≡ b) → (c ≡ a) ⊎ Contains consumers a → (c ≡ b) ⊎ Contains consumers b → a ≡ b
    either both (inl is_a) (inl is_b) = sym is_a ∙ is_b
    either both (inl is_a) (inr there) = absurd (other b there (ap (λ (c : Consumer). c.name) is_a ∙ same))
    either both (inr there) (inl is_b) = absurd (other a there (ap (λ (c : Consumer). c.name) is_b ∙ sym same))
    either both (inr this) (inr that) = both this that

-- consumers of one name are of one queue
one_queue : (paged : PagedMessages) (flying : PagedFlights) (s t : Broker) (name : List ℕ) (id : MessageId) → IsValid (joined paged flying t)
    → t.running.consumers ≡ with_flights name (with_id id) s.running.consumers → (a b : Consumer) → Contains s.running.consumers a → Contains s.running.consumers b → a.name ≡ b.name → a.queue ≡ b.queue
one_queue paged flying s t name id valid is a b this that same =
    sym (queue_of a) ∙ (ap (λ (c : Consumer). c.queue) (one_named (joined_consumers flying t.running.consumers) (whole a) (whole b) valid.consumers (there a this) (there b that) (name_of a ∙ (same ∙ sym (name_of b)))) ∙ queue_of b)
  where
    changed : Consumer → Consumer
    changed c = cond (bytes_eq name c.name) (record c { in_flight = with_id id c.in_flight }) c

    whole : Consumer → Consumer
    whole c = joined_consumer flying (changed c)

    name_of : (c : Consumer) → (whole c).name ≡ c.name
    name_of c = cond_both (bytes_eq name c.name) (record c { in_flight = with_id id c.in_flight }) c (λ (other : Consumer). other.name ≡ c.name) (λ _. refl) (λ _. refl)

    queue_of : (c : Consumer) → (whole c).queue ≡ c.queue
    queue_of c = cond_both (bytes_eq name c.name) (record c { in_flight = with_id id c.in_flight }) c (λ (other : Consumer). other.queue ≡ c.queue) (λ _. refl) (λ _. refl)

    there : (c : Consumer) → Contains s.running.consumers c → Contains (joined_consumers flying t.running.consumers) (whole c)
    there c its = in_mapped (joined_consumer flying) t.running.consumers (changed c) (subst (λ cs. Contains cs (changed c)) (sym is) (in_mapped changed s.running.consumers c its))

not_flying : (consumers : List Consumer) (queue : ℕ) (id : MessageId) (c : Consumer) → is_in_flight consumers queue id ≡ false → Contains consumers c → c.queue ≡ queue → has_id id c.in_flight ≡ false
not_flying [] queue id c none there its = absurd (nothing_in c there)
not_flying (d ∷ consumers) queue id c none there its =
    elim (in_cases c d consumers there) [
      | inl is ↦
          subst (λ (c : Consumer). has_id id c.in_flight ≡ false) is
          (second (d.queue == queue) (has_id id d.in_flight) (eq-eqb d.queue queue (ap (λ (c : Consumer). c.queue) is ∙ its)) (first ((d.queue == queue) && has_id id d.in_flight) (is_in_flight consumers queue id) none))
      | inr rest ↦ not_flying consumers queue id c (later ((d.queue == queue) && has_id id d.in_flight) (is_in_flight consumers queue id) none) rest its
    ]
  where
    first : (a b : Bool) → (a || b) ≡ false → a ≡ false
    first true b none = none
    first false b none = refl

    later : (a b : Bool) → (a || b) ≡ false → b ≡ false
    later true b none = absurd (false≢true (sym none))
    later false b none = none

    second : (a b : Bool) → a ≡ true → (a && b) ≡ false → b ≡ false
    second true b is none = none
    second false b is none = absurd (false≢true is)

consumers_more : (paged : PagedMessages) (flying : PagedFlights) (s t : Broker) (name : List ℕ) (c : Consumer) (q : Queue) (m : Message) → IsSplit paged flying s → IsValid (joined paged flying t)
    → consumer_named s.running.consumers name ≡ Some c → queue_with s.durable.queues c.queue ≡ Some q → available s q ≡ Some m
    → t.running.consumers ≡ with_flights name (with_id m.id) s.running.consumers → IsSplit paged flying t
consumers_more paged flying s t name c q m split valid found of first is =
    by_consumers paged flying t (with_flights name (with_id m.id) s.running.consumers) valid is
    (λ d there.
    let at = before_mapped changed s.running.consumers d there in
    subst (Fits paged flying t) at.2
    (fits_more paged flying t m.id at.0 (bytes_eq name at.0.name) (fits_still paged flying s t split valid at.0 at.1)
    (λ its. not_flying s.running.consumers q.id m.id at.0 free at.1 (here at.0 at.1 its))
    (λ its has. not_both paged flying s split q live.0 m held.0 (subst (λ queue. HasMessage (paged queue) m.id) (here at.0 at.1 its) has))))
  where
    changed : Consumer → Consumer
    changed c = cond (bytes_eq name c.name) (record c { in_flight = with_id m.id c.in_flight }) c

    live : Contains s.durable.queues q × (q.id == c.queue ≡ true)
    live = in_found (λ (q : Queue). q.id == c.queue) s.durable.queues q of

    held : Contains q.messages m × (not (is_in_flight s.running.consumers q.id m.id) ≡ true)
    held = in_found (λ (m : Message). not (is_in_flight s.running.consumers q.id m.id)) q.messages m first

    is_false : (b : Bool) → not b ≡ true → b ≡ false
    is_false true not_so = absurd (false≢true not_so)
    is_false false not_so = refl

    free : is_in_flight s.running.consumers q.id m.id ≡ false
    free = is_false (is_in_flight s.running.consumers q.id m.id) held.1

    here : (d : Consumer) → Contains s.running.consumers d → bytes_eq name d.name ≡ true → d.queue ≡ q.id
    here d there its =
        let at = open_by_name s.running.consumers name c found in
        one_queue paged flying s t name m.id valid is d c there at.0 (sym (named name d.name its) ∙ at.1) ∙ sym (eqb-true q.id c.queue live.1)

-- ---- each action
sent : (paged : PagedMessages) (flying : PagedFlights) (s t : Broker) (numbers : List ℕ) (properties : List Property) (body : List ℕ) (reply : Reply) → IsSplit paged flying s → IsValid (joined paged flying t)
    → Sends s numbers properties body reply t → IsSplit paged flying t
sent paged flying s t [] properties body reply split valid sends = same_consumers paged flying s t split valid (ap (λ (t : Broker). t.running.consumers) sends.1)
sent paged flying s t (number ∷ numbers) properties body reply split valid sends = same_consumers paged flying s t split valid (ap (λ (t : Broker). t.running.consumers) sends.1)

given : (paged : PagedMessages) (flying : PagedFlights) (s t : Broker) (name : List ℕ) (c : Consumer) (q : Queue) (o : Option Message) (reply : Reply) → IsSplit paged flying s → IsValid (joined paged flying t)
    → consumer_named s.running.consumers name ≡ Some c → queue_with s.durable.queues c.queue ≡ Some q → available s q ≡ o → Gives s name o reply t → IsSplit paged flying t
given paged flying s t name c q None reply split valid found of first gives = same_consumers paged flying s t split valid (ap (λ (t : Broker). t.running.consumers) gives.1)
given paged flying s t name c q (Some m) reply split valid found of first gives =
    consumers_more paged flying s t name c q m split valid found of first (ap (λ (t : Broker). t.running.consumers) gives.1)

done : (paged : PagedMessages) (flying : PagedFlights) (s t : Broker) (action : Action) (reply : Reply) → IsSplit paged flying s → IsValid (joined paged flying t) → OpensWithNone flying action reply
    → Does s action reply t → IsSplit paged flying t
done paged flying s t (MakeAddress name settings) reply split valid none does = same_consumers paged flying s t split valid (ap (λ (t : Broker). t.running.consumers) does.1)
done paged flying s t (MakeQueue name address filter) reply split valid none does =
    let at = matched (address_named s.durable.addresses address) (λ id. IsDone reply t (with_durable s (with_queue s.durable name id (text_of filter)))) does.1 in
    same_consumers paged flying s t split valid (ap (λ (t : Broker). t.running.consumers) at.2.1)
done paged flying s t (DropQueue name) reply split valid none does =
    let at = matched (queue_named s.durable.queues name) (λ q. IsDone reply t (with_durable s (with_queues s.durable (without_queue q.id s.durable.queues)))) does in
    same_consumers paged flying s t split valid (ap (λ (t : Broker). t.running.consumers) at.2.1)
done paged flying s t (Send address properties body) reply split valid none does =
    let at = matched (address_named s.durable.addresses address) (λ id. (numbers : List ℕ) × IsRouted s id properties numbers × Sends s numbers properties body reply t) does in
    sent paged flying s t at.2.0 properties body reply split valid at.2.2
done paged flying s t (Open name queue) reply split valid none does =
    let at = matched (queue_named s.durable.queues queue) (λ q. IsDone reply t (with_consumers s (s.running.consumers ++ (record { name = name; queue = q.id; in_flight = [] } ∷ [])))) does in
    by_consumers paged flying t (s.running.consumers ++ (record { name = name; queue = at.0.id; in_flight = [] } ∷ [])) valid (ap (λ (t : Broker). t.running.consumers) at.2.1)
    (λ c there. elim (Contains-push_cases s.running.consumers (record { name = name; queue = at.0.id; in_flight = [] }) c there) [
      | inl before ↦ fits_still paged flying s t split valid c before
      | inr is ↦ subst (Fits paged flying t) is (record {
        ascends = λ i j d less within. absurd (omega (arith, less, within));
        out_of_pages = λ id its. absurd (nothing_in id its);
        out_of_broker = λ id its. absurd (nothing_in id (subst (λ ids. Contains ids id) (none at.2.0) its));
      })
    ])
done paged flying s t (Receive consumer) reply split valid none does =
    let at = matched (consumer_named s.running.consumers consumer) (λ c. MatchOption (queue_with s.durable.queues c.queue) ⊥ (λ q. Gives s consumer (available s q) reply t)) does in
    let of = matched (queue_with s.durable.queues at.0.queue) (λ q. Gives s consumer (available s q) reply t) at.2 in
    given paged flying s t consumer at.0 of.0 (available s of.0) reply split valid at.1 of.1 refl of.2
done paged flying s t (Acknowledge consumer id) reply split valid none does =
    let at = matched (consumer_named s.running.consumers consumer)
    (λ c. IsDone reply t (with_durable (with_consumers s (with_flights consumer (without_id id) s.running.consumers)) (with_queues s.durable (acknowledged c.queue id s.durable.queues)))) does in
    consumers_less paged flying s t consumer id split valid (ap (λ (t : Broker). t.running.consumers) at.2.1)
done paged flying s t (Cancel consumer id) reply split valid none does = consumers_less paged flying s t consumer id split valid (ap (λ (t : Broker). t.running.consumers) does.1)
done paged flying s t (Close consumer) reply split valid none does =
    by_consumers paged flying t (without_consumer consumer s.running.consumers) valid (ap (λ (t : Broker). t.running.consumers) does.1)
    (λ c there. fits_still paged flying s t split valid c (from_filtered (λ (c : Consumer). not (bytes_eq consumer c.name)) s.running.consumers c there).0)
done paged flying s t (Count queue) reply split valid none does =
    let at = matched (queue_named s.durable.queues queue) (λ q. (reply ≡ answer.Count (length q.messages)) × (t ≡ s)) does in
    same_consumers paged flying s t split valid (ap (λ (t : Broker). t.running.consumers) at.2.1)

answered : (paged : PagedMessages) (flying : PagedFlights) (s t : Broker) (action : Action) (o : Option Refusal) (reply : Reply) → IsSplit paged flying s → IsValid (joined paged flying t)
    → OpensWithNone flying action reply → Answers s action o reply t → IsSplit paged flying t
answered paged flying s t action None reply split valid none answers = done paged flying s t action reply split valid none answers
answered paged flying s t action (Some refusal) reply split valid none answers = subst (IsSplit paged flying) (sym answers.1) split

pub acts_kept : (view : View) (s t : Broker) (paged : PagedMessages) (flying : PagedFlights) (action : Action) (reply : Reply) → IsSplit paged flying s → IsValid (joined paged flying t)
    → OpensWithNone flying action reply → Acts view s action reply t → IsSplit paged flying t
acts_kept view s t paged flying action reply split valid none acts = answered paged flying s t action acts.refusal reply split valid none acts.answers
