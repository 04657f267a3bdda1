use Rattle.std.proofs.Common.{◌≡◌, false, Some, ℕ, ◌+◌, ◌∙◌, ◌≤◌, min, List, length, ap, sym, subst, refl, arith}
use Rattle.pg_msg.specs.declared.message.Message.{Message}
use Rattle.pg_msg.specs.declared.message.MessageId.{MessageId}
use Rattle.pg_msg.specs.declared.properties.Property.{Property}
use Rattle.pg_msg.specs.declared.reply.Reply.TheVariants.{Sent}
use Rattle.pg_msg.specs.Messages.{weight_of}
use Rattle.pg_model.specs.Actions.{Send}
use Rattle.std.specs.List.{AllByRecursion}
use Rattle.std.proofs.lemmas.List.Elements.{recursion_from_All}
use Rattle.pg_fold.specs.Rows.{same_id}
use Rattle.pg_model.specs.Broker.{IsDrawn, address_named}
use Rattle.pg_model.specs.Changes.{message_of, next_id}
use Rattle.pg_model.specs.Refusals.{WouldPage}
use Rattle.pg_model.specs.Routing.{IsRouted}
use Rattle.pg_recover.specs.Denotation.{weight_at}
use Rattle.pg_engine.specs.declared.state.Outcome.TheVariants.{Changed}
use Rattle.pg_engine.specs.Kept.{Kept, HasRoom, IsId, broker_of, view_of}
use Rattle.pg_engine.specs.Outcomes.{IsOutcome}
use Rattle.pg_engine.proofs.EntryLemmas.{add_condition, add_fields, new_everywhere}
use Rattle.pg_dispatch.specs.Dispatch.{Dispatch, has_in_lines, with_message}
use Rattle.pg_engine.proofs.FitLemmas.{new_weight, with_message_fit}
use Rattle.pg_engine.proofs.LineLemmas.{in_no_line, lined_message}
use Rattle.pg_engine.proofs.StepLemmas.{send_made}
use Rattle.pg_engine.proofs.state.State.hold.Goals as goal

pub record_entry-requires-clause-condition : goal.record_entry-requires-clause-condition
record_entry-requires-clause-condition c =
    let i = c.self.inside in
    let d = i.durable in
    let m = c.args.message in
    let known : IsId (length d.addresses) c.args.address = subst (λ (k : Kept). IsId (length k.durable.addresses) c.args.address) (sym c.self.view_is) c.requires.known in
    let to = subst (λ (k : Kept). IsRouted (broker_of k) c.args.address m.properties c.args.queues) (sym c.self.view_is) c.requires.routed in
    let id : m.id ≡ record { epoch = d.epoch; number = i.drawn + 1 } = c.requires.next ∙ ap (λ (k : Kept). next_id (broker_of k)) (sym c.self.view_is) in
    let condition = add_condition d c.args.address i.drawn m.properties c.args.queues m c.self.invariant.sound to id c.self.invariant.drawn_all known.0 known.1 in
    let fields = add_fields d c.args.address i.drawn m.properties c.args.queues m c.self.invariant.sound to id c.requires.message c.requires.in_range c.requires.some known.1 in
    condition

pub record_entry-requires-clause-fields : goal.record_entry-requires-clause-fields
record_entry-requires-clause-fields c =
    let i = c.self.inside in
    let d = i.durable in
    let m = c.args.message in
    let known : IsId (length d.addresses) c.args.address = subst (λ (k : Kept). IsId (length k.durable.addresses) c.args.address) (sym c.self.view_is) c.requires.known in
    let to = subst (λ (k : Kept). IsRouted (broker_of k) c.args.address m.properties c.args.queues) (sym c.self.view_is) c.requires.routed in
    let id : m.id ≡ record { epoch = d.epoch; number = i.drawn + 1 } = c.requires.next ∙ ap (λ (k : Kept). next_id (broker_of k)) (sym c.self.view_is) in
    let condition = add_condition d c.args.address i.drawn m.properties c.args.queues m c.self.invariant.sound to id c.self.invariant.drawn_all known.0 known.1 in
    let fields = add_fields d c.args.address i.drawn m.properties c.args.queues m c.self.invariant.sound to id c.requires.message c.requires.in_range c.requires.some known.1 in
    fields

pub invariant_of-state : goal.invariant_of-state
invariant_of-state c =
    let i = c.self.inside in
    let d = i.durable in
    let m = c.args.message in
    let known : IsId (length d.addresses) c.args.address = subst (λ (k : Kept). IsId (length k.durable.addresses) c.args.address) (sym c.self.view_is) c.requires.known in
    let to = subst (λ (k : Kept). IsRouted (broker_of k) c.args.address m.properties c.args.queues) (sym c.self.view_is) c.requires.routed in
    let id : m.id ≡ record { epoch = d.epoch; number = i.drawn + 1 } = c.requires.next ∙ ap (λ (k : Kept). next_id (broker_of k)) (sym c.self.view_is) in
    let condition = add_condition d c.args.address i.drawn m.properties c.args.queues m c.self.invariant.sound to id c.self.invariant.drawn_all known.0 known.1 in
    let fields = add_fields d c.args.address i.drawn m.properties c.args.queues m c.self.invariant.sound to id c.requires.message c.requires.in_range c.requires.some known.1 in
    let room : HasRoom d c.args.address = subst (λ (k : Kept). HasRoom k.durable c.args.address) (sym c.self.view_is) c.requires.room in
    let light : weight_of m ≤ 102399 = omega (arith, c.requires.message.light) in
    let heavier : c.saturating_add.result ≡ weight_at c.args.address d.journaled + weight_of m =
    c.saturating_add.ensures ∙ ap (λ (w : ℕ). min (c.index.result.now + w) 18446744073709551615) c.weight.ensures
    ∙ new_weight d i.routes i.weights.items i.dispatcher.lines i.paged.items i.drawn c.args.address c.self.invariant known c.args.queues m room light id c.index.result.now c.index.ensures in
    with_message_fit d i.routes i.weights.items i.dispatcher.lines i.paged.items i.drawn c.args.address c.self.invariant known c.args.queues m room light id c.in_ok-durable.durable c.saturating_add.result c.add.new.self.lines condition fields c.in_ok-durable.ensures.changed heavier
    (ap (λ (x : Dispatch). x.lines) (c.in_ok-add.ensures ∙ ap (λ (numbers : List ℕ). with_message numbers c.args.message.id i.dispatcher) c.as_slice.ensures.value) ∙ lined_message d i.dispatcher c.self.invariant.lined c.args.address c.args.queues m)

pub returns-clause-outcome : goal.returns-clause-outcome
returns-clause-outcome c name properties body named made unpaged =
    let i = c.self.inside in
    let d = i.durable in
    let m = c.args.message in
    let known : IsId (length d.addresses) c.args.address = subst (λ (k : Kept). IsId (length k.durable.addresses) c.args.address) (sym c.self.view_is) c.requires.known in
    let to = subst (λ (k : Kept). IsRouted (broker_of k) c.args.address m.properties c.args.queues) (sym c.self.view_is) c.requires.routed in
    let id : m.id ≡ record { epoch = d.epoch; number = i.drawn + 1 } = c.requires.next ∙ ap (λ (k : Kept). next_id (broker_of k)) (sym c.self.view_is) in
    let condition = add_condition d c.args.address i.drawn m.properties c.args.queues m c.self.invariant.sound to id c.self.invariant.drawn_all known.0 known.1 in
    let fields = add_fields d c.args.address i.drawn m.properties c.args.queues m c.self.invariant.sound to id c.requires.message c.requires.in_range c.requires.some known.1 in
    let room : HasRoom d c.args.address = subst (λ (k : Kept). HasRoom k.durable c.args.address) (sym c.self.view_is) c.requires.room in
    let light : weight_of m ≤ 102399 = omega (arith, c.requires.message.light) in
    let s : Kept = record { durable = d; drawn = i.drawn; ids = i.ids; paged = i.paged.items; consumers = i.dispatcher.consumers } in
    let t : Kept = record { durable = c.in_ok-durable.durable; drawn = i.drawn + 1; ids = i.ids; paged = i.paged.items; consumers = c.add.new.self.consumers } in
    let fit = with_message_fit d i.routes i.weights.items i.dispatcher.lines i.paged.items i.drawn c.args.address c.self.invariant known c.args.queues m room light id c.in_ok-durable.durable
    (weight_at c.args.address d.journaled + weight_of m) _ condition fields c.in_ok-durable.ensures.changed refl refl in
    let is : m ≡ message_of (next_id (broker_of s)) properties body = made ∙ ap (λ (k : Kept). message_of (next_id (broker_of k)) properties body) (sym c.self.view_is) in
    subst (λ (k : Kept). IsOutcome k (Some (Send name properties body)) (Changed t c.in_ok-durable.batch (Sent m.id))) c.self.view_is
    (subst (λ (x : MessageId). IsOutcome s (Some (Send name properties body)) (Changed t c.in_ok-durable.batch (Sent x))) (sym id)
    (send_made s name properties body c.args.address (ap (λ (k : Kept). address_named (broker_of k).durable.addresses name) c.self.view_is ∙ named) (λ heavy. omega (arith, light, heavy, ap weight_of is))
    c.args.queues (subst (λ (p : List Property). IsRouted (broker_of s) c.args.address p c.args.queues) (ap (λ (x : Message). x.properties) is) to)
    (omega (arith, c.requires.left, ap (λ (k : Kept). k.drawn) c.self.view_is, ap (λ (k : Kept). k.ids) c.self.view_is)) m t c.in_ok-durable.batch is c.requires.some
    (λ paged. unpaged (subst (λ (k : Kept). WouldPage (view_of k) (broker_of k) c.args.address) c.self.view_is paged)) condition fields c.in_ok-durable.ensures.changed refl refl (ap (λ (x : Dispatch). x.consumers) c.in_ok-add.ensures) refl c.in_ok-durable.ensures.batch fit.roomy))

pub add-requires : goal.add-requires
add-requires c =
    let i = c.self.inside in
    let d = i.durable in
    let id : c.args.message.id ≡ record { epoch = d.epoch; number = i.drawn + 1 } = c.requires.next ∙ ap (λ (k : Kept). next_id (broker_of k)) (sym c.self.view_is) in
    ap (has_in_lines c.args.message.id) c.self.invariant.lined
    ∙ in_no_line c.args.message.id d.journaled d.queues
    (subst (λ (x : MessageId). AllByRecursion (λ row. same_id row.message.id x ≡ false) d.journaled) (sym id)
    (new_everywhere d.epoch i.drawn d.journaled (recursion_from_All (λ row. IsDrawn d.epoch i.drawn row.message.id) d.journaled c.self.invariant.drawn_all)))
