use Rattle.std.proofs.Common.{◌≡◌, ◌≢◌, Some, ℕ, ◌∙◌, List, [], length, ap, sym, subst, arith}
use Rattle.std.proofs.lemmas.Bool.{both_ways}
use Rattle.pg_msg.specs.declared.message.Message.{Message}
use Rattle.pg_msg.specs.declared.message.MessageId.{MessageId}
use Rattle.pg_msg.specs.declared.properties.Property.{Property}
use Rattle.pg_msg.specs.Messages.{HasFields, weight_of}
use Rattle.pg_model.specs.Actions.{Send}
use Rattle.pg_model.specs.Changes.{message_of, next_id}
use Rattle.pg_model.specs.Broker.{Broker}
use Rattle.pg_model.specs.Routing.{IsRouted}
use Rattle.pg_engine.specs.Kept.{Kept, broker_of}
use Rattle.pg_engine.specs.Outcomes.{IsOutcome}
use Rattle.pg_engine.proofs.LookupLemmas.{address_id_within}
use Rattle.pg_engine.proofs.StepLemmas.{none_in, send_heavy, send_nowhere, send_numberless, send_paged, send_unrouted, sent_at, some_in}
use Rattle.pg_engine.proofs.WeightLemmas.{body_within, room_left, weight_any}
use Rattle.pg_engine.proofs.state.State.send.Goals as goal

-- the message that was made has the properties that were given
routed_by : (b : Broker) (address : ℕ) (queues : List ℕ) (made : Message) (id : MessageId) (properties : List Property) (body : List ℕ) → IsRouted b address made.properties queues → made ≡ message_of id properties body → IsRouted b address properties queues
routed_by b address queues made id properties body routed is = subst (λ (m : Message). IsRouted b address m.properties queues) is routed

pub returns-in_default-clause-outcome : goal.returns-in_default-clause-outcome
returns-in_default-clause-outcome c =
    subst (λ o. IsOutcome c.args.self (Some (Send c.args.address c.args.properties c.args.body)) o) (sym c.refused.ensures) (send_nowhere c.args.self c.args.address c.args.properties c.args.body (sym c.address_id.ensures ∙ c.in_default.is))

pub returns-then-as_slice-ge-WEIGHT_LIMIT-clause-outcome : goal.returns-then-as_slice-ge-WEIGHT_LIMIT-clause-outcome
returns-then-as_slice-ge-WEIGHT_LIMIT-clause-outcome c =
    let more = body_within (next_id (broker_of c.args.self)) c.args.properties c.args.body in
    subst (λ o. IsOutcome c.args.self (Some (Send c.args.address c.args.properties c.args.body)) o) (sym c.refused-then-as_slice-ge-WEIGHT_LIMIT.ensures)
    (send_heavy c.args.self c.args.address c.args.properties c.args.body c.in-Some.id (sym c.address_id.ensures ∙ c.in-Some.is)
    (omega (arith, more, c.if-as_slice-ge-WEIGHT_LIMIT.true, ap (λ (l : List ℕ). length l) c.as_slice.ensures.value)))

pub weight-requires : goal.weight-requires
weight-requires c =
    subst HasFields (sym c.plain_message-message.ensures)
    (record { id = c.next_id.ensures.fields; dup = tt; properties = c.requires; body = omega (arith, c.if-as_slice-ge-WEIGHT_LIMIT.false, ap (λ (l : List ℕ). length l) c.as_slice.ensures.value) })

pub returns-then-weight-ge-WEIGHT_LIMIT-clause-outcome : goal.returns-then-weight-ge-WEIGHT_LIMIT-clause-outcome
returns-then-weight-ge-WEIGHT_LIMIT-clause-outcome c =
    let same = weight_any c.next_id.result (next_id (broker_of c.args.self)) c.args.properties c.args.body in
    subst (λ o. IsOutcome c.args.self (Some (Send c.args.address c.args.properties c.args.body)) o) (sym c.refused-then-weight-ge-WEIGHT_LIMIT.ensures)
    (send_heavy c.args.self c.args.address c.args.properties c.args.body c.in-Some.id (sym c.address_id.ensures ∙ c.in-Some.is)
    (omega (arith, same, c.if-weight-ge-WEIGHT_LIMIT.true, c.weight.ensures, ap weight_of c.plain_message-message.ensures)))

pub returns-then-is_empty-clause-outcome : goal.returns-then-is_empty-clause-outcome
returns-then-is_empty-clause-outcome c =
    let same = weight_any c.next_id.result (next_id (broker_of c.args.self)) c.args.properties c.args.body in
    subst (λ o. IsOutcome c.args.self (Some (Send c.args.address c.args.properties c.args.body)) o) (sym c.unchanged.ensures)
    (send_unrouted c.args.self c.args.address c.args.properties c.args.body c.in-Some.id (sym c.address_id.ensures ∙ c.in-Some.is)
    (λ heavy. omega (arith, heavy, same, c.if-weight-ge-WEIGHT_LIMIT.false, c.weight.ensures, ap weight_of c.plain_message-message.ensures))
    c.in_ok-queues.queues (routed_by (broker_of c.args.self) c.in-Some.id c.in_ok-queues.queues c.plain_message-message.result c.next_id.result c.args.properties c.args.body c.in_ok-queues.ensures.routed c.plain_message-message.ensures)
    (sym c.as_slice-2.ensures.value ∙ none_in c.as_slice-2.result.now (sym c.is_empty.ensures ∙ c.if-is_empty.true)))

pub returns-then-self-clause-outcome : goal.returns-then-self-clause-outcome
returns-then-self-clause-outcome c =
    let same = weight_any c.next_id.result (next_id (broker_of c.args.self)) c.args.properties c.args.body in
    let some = subst (λ (l : List ℕ). l ≢ []) c.as_slice-2.ensures.value (some_in c.as_slice-2.result.now (sym c.is_empty.ensures ∙ c.if-is_empty.false)) in
    subst (λ o. IsOutcome c.args.self (Some (Send c.args.address c.args.properties c.args.body)) o) (sym c.refused-then-self.ensures)
    (send_numberless c.args.self c.args.address c.args.properties c.args.body c.in-Some.id (sym c.address_id.ensures ∙ c.in-Some.is)
    (λ heavy. omega (arith, heavy, same, c.if-weight-ge-WEIGHT_LIMIT.false, c.weight.ensures, ap weight_of c.plain_message-message.ensures))
    c.in_ok-queues.queues (routed_by (broker_of c.args.self) c.in-Some.id c.in_ok-queues.queues c.plain_message-message.result c.next_id.result c.args.properties c.args.body c.in_ok-queues.ensures.routed c.plain_message-message.ensures) some
    (omega (arith, c.if-self.true, ap (λ (k : Kept). k.drawn) c.self.view_is, ap (λ (k : Kept). k.ids) c.self.view_is)))

pub returns-then-would_page-clause-outcome : goal.returns-then-would_page-clause-outcome
returns-then-would_page-clause-outcome c =
    let same = weight_any c.next_id.result (next_id (broker_of c.args.self)) c.args.properties c.args.body in
    let some = subst (λ (l : List ℕ). l ≢ []) c.as_slice-2.ensures.value (some_in c.as_slice-2.result.now (sym c.is_empty.ensures ∙ c.if-is_empty.false)) in
    subst (λ o. IsOutcome c.args.self (Some (Send c.args.address c.args.properties c.args.body)) o) (sym c.refused-then-would_page.ensures)
    (send_paged c.args.self c.args.address c.args.properties c.args.body c.in-Some.id (sym c.address_id.ensures ∙ c.in-Some.is)
    (λ heavy. omega (arith, heavy, same, c.if-weight-ge-WEIGHT_LIMIT.false, c.weight.ensures, ap weight_of c.plain_message-message.ensures))
    c.in_ok-queues.queues (routed_by (broker_of c.args.self) c.in-Some.id c.in_ok-queues.queues c.plain_message-message.result c.next_id.result c.args.properties c.args.body c.in_ok-queues.ensures.routed c.plain_message-message.ensures)
    (omega (arith, c.if-self.false, ap (λ (k : Kept). k.drawn) c.self.view_is, ap (λ (k : Kept). k.ids) c.self.view_is)) some (c.would_page.ensures.0 c.if-would_page.true))

pub would_page-requires : goal.would_page-requires
would_page-requires c = address_id_within c.args.address c.args.self.durable.addresses c.in-Some.id (sym c.address_id.ensures ∙ c.in-Some.is)

pub hold-requires-clause-known : goal.hold-requires-clause-known
hold-requires-clause-known c = address_id_within c.args.address c.args.self.durable.addresses c.in-Some.id (sym c.address_id.ensures ∙ c.in-Some.is)

pub hold-requires-clause-routed : goal.hold-requires-clause-routed
hold-requires-clause-routed c = c.in_ok-queues.ensures.routed

pub hold-requires-clause-some : goal.hold-requires-clause-some
hold-requires-clause-some c = subst (λ (l : List ℕ). l ≢ []) c.as_slice-2.ensures.value (some_in c.as_slice-2.result.now (sym c.is_empty.ensures ∙ c.if-is_empty.false))

pub hold-requires-clause-in_range : goal.hold-requires-clause-in_range
hold-requires-clause-in_range c = c.in_ok-queues.ensures.in_range

pub hold-requires-clause-message : goal.hold-requires-clause-message
hold-requires-clause-message c = record {
  fields = subst HasFields (sym c.plain_message-message.ensures)
      (record { id = c.next_id.ensures.fields; dup = tt; properties = c.requires; body = omega (arith, c.if-as_slice-ge-WEIGHT_LIMIT.false, ap (λ (l : List ℕ). length l) c.as_slice.ensures.value) });
  light = omega (arith, c.if-weight-ge-WEIGHT_LIMIT.false, c.weight.ensures);
}

pub hold-requires-clause-next : goal.hold-requires-clause-next
hold-requires-clause-next c =
    ap (λ (x : Message). x.id) c.plain_message-message.ensures
    ∙ c.next_id.ensures.next (omega (arith, c.if-self.false, ap (λ (k : Kept). k.drawn) c.self.view_is, ap (λ (k : Kept). k.ids) c.self.view_is))

pub hold-requires-clause-left : goal.hold-requires-clause-left
hold-requires-clause-left c = omega (arith, c.if-self.false, ap (λ (k : Kept). k.drawn) c.self.view_is, ap (λ (k : Kept). k.ids) c.self.view_is)

pub hold-requires-clause-room : goal.hold-requires-clause-room
hold-requires-clause-room c = room_left c.args.self c.in-Some.id (λ paged. both_ways c.would_page.result c.if-would_page.false (c.would_page.ensures.1 paged))

pub returns-clause-outcome : goal.returns-clause-outcome
returns-clause-outcome c =
    let next = c.next_id.ensures.next (omega (arith, c.if-self.false, ap (λ (k : Kept). k.drawn) c.self.view_is, ap (λ (k : Kept). k.ids) c.self.view_is)) in
    sent_at c.args.self c.plain_message-message.result c.in-Some.id c.hold.result c.hold.ensures.outcome c.args.address c.args.properties c.args.body (sym c.address_id.ensures ∙ c.in-Some.is)
    (c.plain_message-message.ensures ∙ ap (λ (x : MessageId). message_of x c.args.properties c.args.body) next)
    (λ paged. both_ways c.would_page.result c.if-would_page.false (c.would_page.ensures.1 paged))
