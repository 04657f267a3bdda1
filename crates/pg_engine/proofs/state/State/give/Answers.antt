use Rattle.std.proofs.Common.{Option, Some, is_some, option_map, sym, ◌∙◌, ap}
use Rattle.pg_msg.specs.declared.message.MessageId.{MessageId}
use Rattle.pg_dispatch.specs.Dispatch.{Dispatch, given_to}
use Rattle.pg_model.specs.Broker.{Consumer, consumer_named}
use Rattle.pg_model.specs.Changes.{with_flights, with_id}
use Rattle.pg_engine.specs.Kept.{Kept, next_for, with_consumers}
use Rattle.pg_engine.proofs.AcknowledgingLemmas.{apart}
use Rattle.pg_engine.proofs.LineLemmas.{gives_has, gives_message, gives_none, gives_row, is_one}
use Rattle.pg_engine.proofs.state.State.give.Goals as goal

pub held_message-requires : goal.held_message-requires
held_message-requires c =
    let i = c.self.inside in
    let s : Kept = record { durable = i.durable; drawn = i.drawn; ids = i.ids; paged = i.paged.items; consumers = i.dispatcher.consumers } in
    let one = is_one (consumer_named i.dispatcher.consumers c.args.consumer.now) (ap (λ (k : Kept). is_some (consumer_named k.consumers c.args.consumer.now)) c.self.view_is ∙ c.requires) in
    let first = sym c.in-Some.is ∙ c.in_ok-id.ensures.given one.0.queue (ap (option_map (λ (x : Consumer). x.queue)) one.1) in
    let gives = gives_row s i.dispatcher.lines c.args.consumer.now one.0 c.in-Some.id c.self.invariant.lined (apart i.durable.journaled c.self.invariant.sound.messages.ids) one.1 first in
    gives_has s c.args.consumer.now c.in-Some.id gives

pub returns-in_default-clause-given : goal.returns-in_default-clause-given
returns-in_default-clause-given c =
    let i = c.self.inside in
    let s : Kept = record { durable = i.durable; drawn = i.drawn; ids = i.ids; paged = i.paged.items; consumers = i.dispatcher.consumers } in
    let one = is_one (consumer_named i.dispatcher.consumers c.args.consumer.now) (ap (λ (k : Kept). is_some (consumer_named k.consumers c.args.consumer.now)) c.self.view_is ∙ c.requires) in
    gives_none s i.dispatcher.lines c.args.consumer.now one.0 c.self.invariant.lined one.1 (sym c.in_default.is ∙ c.in_ok-id.ensures.given one.0.queue (ap (option_map (λ (x : Consumer). x.queue)) one.1))
    ∙ ap (next_for c.args.consumer.now) c.self.view_is

pub returns-in_default-clause-taken : goal.returns-in_default-clause-taken
returns-in_default-clause-taken c =
    let i = c.self.inside in
    ap (λ (x : Dispatch). record { durable = i.durable; drawn = i.drawn; ids = i.ids; paged = i.paged.items; consumers = x.consumers })
    (c.in_ok-id.ensures.taken ∙ ap (λ (o : Option MessageId). given_to c.args.consumer.now o i.dispatcher) c.in_default.is)
    ∙ c.self.view_is

pub returns-clause-given : goal.returns-clause-given
returns-clause-given c =
    let i = c.self.inside in
    let s : Kept = record { durable = i.durable; drawn = i.drawn; ids = i.ids; paged = i.paged.items; consumers = i.dispatcher.consumers } in
    let one = is_one (consumer_named i.dispatcher.consumers c.args.consumer.now) (ap (λ (k : Kept). is_some (consumer_named k.consumers c.args.consumer.now)) c.self.view_is ∙ c.requires) in
    let first = sym c.in-Some.is ∙ c.in_ok-id.ensures.given one.0.queue (ap (option_map (λ (x : Consumer). x.queue)) one.1) in
    let gives = gives_row s i.dispatcher.lines c.args.consumer.now one.0 c.in-Some.id c.self.invariant.lined (apart i.durable.journaled c.self.invariant.sound.messages.ids) one.1 first in
    (gives_message s c.args.consumer.now c.in-Some.id c.in_ok-held_message.field-0 gives c.in_ok-held_message.ensures).0 ∙ ap (next_for c.args.consumer.now) c.self.view_is

pub returns-clause-taken : goal.returns-clause-taken
returns-clause-taken c =
    let i = c.self.inside in
    let s : Kept = record { durable = i.durable; drawn = i.drawn; ids = i.ids; paged = i.paged.items; consumers = i.dispatcher.consumers } in
    let one = is_one (consumer_named i.dispatcher.consumers c.args.consumer.now) (ap (λ (k : Kept). is_some (consumer_named k.consumers c.args.consumer.now)) c.self.view_is ∙ c.requires) in
    let first = sym c.in-Some.is ∙ c.in_ok-id.ensures.given one.0.queue (ap (option_map (λ (x : Consumer). x.queue)) one.1) in
    let gives = gives_row s i.dispatcher.lines c.args.consumer.now one.0 c.in-Some.id c.self.invariant.lined (apart i.durable.journaled c.self.invariant.sound.messages.ids) one.1 first in
    let id = (gives_message s c.args.consumer.now c.in-Some.id c.in_ok-held_message.field-0 gives c.in_ok-held_message.ensures).1 in
    ap (λ (x : Dispatch). record { durable = i.durable; drawn = i.drawn; ids = i.ids; paged = i.paged.items; consumers = x.consumers })
    (c.in_ok-id.ensures.taken ∙ ap (λ (o : Option MessageId). given_to c.args.consumer.now o i.dispatcher) c.in-Some.is ∙ ap (λ (x : MessageId). given_to c.args.consumer.now (Some x) i.dispatcher) (sym id))
    ∙ ap (λ (k : Kept). with_consumers (with_flights c.args.consumer.now (with_id c.in_ok-held_message.field-0.id) k.consumers) k) c.self.view_is
