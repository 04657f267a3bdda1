-- An action has one batch.
use Rattle.std.proofs.Common.{◌≡◌, sym, ◌∙◌, ap, subst, ℕ, List, [], Option, Some, None, MatchOption}
use Rattle.pg_msg.specs.declared.properties.Property.{Property}
use Rattle.pg_msg.specs.declared.reply.Refusal.{Refusal}
use Rattle.pg_model.specs.Actions.{Action, MakeAddress, MakeQueue, DropQueue, Send, Open, Receive, Acknowledge, Cancel, Close, Count}
use Rattle.pg_model.specs.Broker.{Broker, address_named}
use Rattle.pg_model.specs.Routing.{IsRouted, queues_of}
use Rattle.pg_model.proofs.CauseLaws.{refused_once}
use Rattle.pg_model.proofs.RoutingLaws.{goes_once}
use Rattle.pg_records.specs.declared.entry.Entry.{Entry}
use Rattle.pg_engine.specs.Kept.{Kept, broker_of, view_of}
use Rattle.pg_engine.specs.Outcomes.{Adds, AddsUnless, AreTakers, HasEntries, IsAccepted, entries_of}

-- a message goes to the queues of one list
sent_once : (b : Broker) (properties : List Property) (found : Option ℕ) (these those : List ℕ) → MatchOption found (these ≡ []) (λ id. IsRouted b id properties these)
    → MatchOption found (those ≡ []) (λ id. IsRouted b id properties those) → these ≡ those
sent_once b properties None these those this that = this ∙ sym that
sent_once b properties (Some id) these those this that = goes_once properties (queues_of id b.durable.queues) these those this that

one_takers : (s : Kept) (action : Action) (these those : List ℕ) → AreTakers s action these → AreTakers s action those → these ≡ those
one_takers s (Send address properties body) these those this that = sent_once (broker_of s) properties (address_named (broker_of s).durable.addresses address) these those this that
one_takers s (MakeAddress name settings) these those this that = this ∙ sym that
one_takers s (MakeQueue name address filter) these those this that = this ∙ sym that
one_takers s (DropQueue name) these those this that = this ∙ sym that
one_takers s (Open name queue) these those this that = this ∙ sym that
one_takers s (Receive consumer) these those this that = this ∙ sym that
one_takers s (Acknowledge consumer id) these those this that = this ∙ sym that
one_takers s (Cancel consumer id) these those this that = this ∙ sym that
one_takers s (Close consumer) these those this that = this ∙ sym that
one_takers s (Count queue) these those this that = this ∙ sym that

pub one_batch : (s : Kept) (action : Action) (batch other : List Entry) → HasEntries s action batch → HasEntries s action other → batch ≡ other
one_batch s action batch other this that = this.is ∙ (ap (λ (numbers : List ℕ). entries_of s numbers action) (one_takers s action this.takers that.takers this.are that.are) ∙ sym that.is)

-- an action that isn't refused adds its batch
pub added_by : (s : Kept) (action : Action) (batch : List Entry) → IsAccepted s action → Adds s (Some action) batch → HasEntries s action batch
added_by s action batch accepted adds =
    subst (λ (refusal : Option Refusal). AddsUnless s action refusal batch) (refused_once (view_of s) (broker_of s) action adds.0 None adds.1 accepted) adds.2
