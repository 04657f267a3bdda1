use Rattle.std.proofs.Common.{◌≡◌, ℕ, ◌-◌, ◌∙◌, length, set, Some, is_some, refl, sym, ap, subst, arith}
use Rattle.std.proofs.lemmas.List.{length-map}
use Rattle.std.proofs.lemmas.List.Elements.{All-weaker}
use Rattle.pg_msg.specs.declared.reply.Reply.TheVariants.{Done}
use Rattle.pg_msg.specs.Messages.{HasFields as HasMessageFields, IsMessage}
use Rattle.pg_records.specs.declared.entry.Entry.TheVariants as entry
use Rattle.pg_records.specs.Entries.{HasFields}
use Rattle.pg_fold.specs.declared.rows.AddressRow.{AddressRow}
use Rattle.pg_fold.specs.declared.rows.JournaledRow.{JournaledRow}
use Rattle.pg_fold.specs.Rows.{has_holder, same_id}
use Rattle.pg_dispatch.specs.Dispatch.{Dispatch, flight_from}
use Rattle.pg_model.specs.Actions.{Acknowledge}
use Rattle.pg_recover.specs.Denotation.{weight_at}
use Rattle.pg_recover.specs.WellFormed.{AreRoomy}
use Rattle.pg_engine.specs.declared.state.Outcome.TheVariants.{Changed}
use Rattle.pg_engine.specs.Kept.{Kept, IsFit, IsId}
use Rattle.pg_engine.specs.Outcomes.{IsOutcome}
use Rattle.pg_engine.proofs.AcknowledgingLemmas.{apart}
use Rattle.pg_engine.proofs.EntryLemmas.{ack_condition, row_known}
use Rattle.pg_engine.proofs.FitLemmas.{roomy_acknowledged, without_message_fit}
use Rattle.pg_engine.proofs.LineLemmas.{lined_ack}
use Rattle.pg_engine.proofs.StepLemmas.{ack_made}
use Rattle.pg_engine.proofs.state.State.relieve.Goals as goal

pub relief-address-requires-clause-held : goal.relief-address-requires-clause-held
relief-address-requires-clause-held c = ap (λ (k : Kept). has_holder k.durable.journaled c.args.id c.args.queue) c.self.view_is ∙ c.requires.held

pub relief-address-requires-clause-fields : goal.relief-address-requires-clause-fields
relief-address-requires-clause-fields c =
    let d = c.self.inside.durable in
    All-weaker (λ (row : JournaledRow). IsMessage row.message) (λ row. HasMessageFields row.message) (λ row is. is.fields) d.journaled c.self.invariant.sound.messages.messages

pub acknowledge-requires : goal.acknowledge-requires
acknowledge-requires c =
    ap is_some (ap (λ (k : Kept). flight_from c.args.consumer.now c.args.id k.consumers) c.self.view_is ∙ c.requires.from)

pub record_entry-requires-clause-condition : goal.record_entry-requires-clause-condition
record_entry-requires-clause-condition c =
    ack_condition c.self.inside.durable c.args.queue c.args.id (ap (λ (k : Kept). has_holder k.durable.journaled c.args.id c.args.queue) c.self.view_is ∙ c.requires.held)

pub record_entry-requires-clause-fields : goal.record_entry-requires-clause-fields
record_entry-requires-clause-fields c = (omega (arith, c.ranges.queue.fits), c.requires.id)

pub invariant_of-state : goal.invariant_of-state
invariant_of-state c =
    let i = c.self.inside in
    let d = i.durable in
    let from : flight_from c.args.consumer.now c.args.id i.dispatcher.consumers ≡ Some c.args.queue = ap (λ (k : Kept). flight_from c.args.consumer.now c.args.id k.consumers) c.self.view_is ∙ c.requires.from in
    let condition = ack_condition d c.args.queue c.args.id (ap (λ (k : Kept). has_holder k.durable.journaled c.args.id c.args.queue) c.self.view_is ∙ c.requires.held) in
    let fields : HasFields (entry.Ack c.args.queue c.args.id) = (omega (arith, c.ranges.queue.fits), c.requires.id) in
    let relief = c.relief-address.ensures in
    let known = row_known d relief.row (λ (r : JournaledRow). same_id r.message.id c.args.id) c.self.invariant.sound relief.found in
    let address : IsId (length d.addresses) c.relief-address.result.0 = (omega (arith, relief.address_is, known.0), omega (arith, relief.address_is, known.1)) in
    let left = c.acknowledge.ensures c.args.queue from in
    let effect = c.in_ok-durable.ensures.changed in
    let lined = ap (λ (x : Dispatch). x.lines) left ∙ lined_ack d i.dispatcher c.self.invariant.lined c.args.consumer.now c.args.queue c.args.id (apart d.journaled c.self.invariant.sound.messages.ids) in
    subst (λ (w : ℕ). IsFit c.in_ok-durable.durable i.routes (set i.weights.items (c.relief-address.result.0 - 1) w) c.acknowledge.new.self.lines i.paged.items i.drawn) (sym c.saturating_sub.ensures)
    (without_message_fit d c.in_ok-durable.durable i.routes i.weights.items i.dispatcher.lines c.acknowledge.new.self.lines i.paged.items i.drawn c.args.queue c.relief-address.result.0 c.index.result.now c.relief-address.result.1 c.args.id relief.row
    c.self.invariant address relief.found (sym relief.address_is) relief.bytes_are c.index.ensures condition fields effect lined)

pub returns-clause-outcome : goal.returns-clause-outcome
returns-clause-outcome c =
    let i = c.self.inside in
    let d = i.durable in
    let from : flight_from c.args.consumer.now c.args.id i.dispatcher.consumers ≡ Some c.args.queue = ap (λ (k : Kept). flight_from c.args.consumer.now c.args.id k.consumers) c.self.view_is ∙ c.requires.from in
    let condition = ack_condition d c.args.queue c.args.id (ap (λ (k : Kept). has_holder k.durable.journaled c.args.id c.args.queue) c.self.view_is ∙ c.requires.held) in
    let fields : HasFields (entry.Ack c.args.queue c.args.id) = (omega (arith, c.ranges.queue.fits), c.requires.id) in
    let effect = c.in_ok-durable.ensures.changed in
    let relief = c.relief-address.ensures in
    let left = c.acknowledge.ensures c.args.queue from in
    let s : Kept = record { durable = d; drawn = i.drawn; ids = i.ids; paged = i.paged.items; consumers = i.dispatcher.consumers } in
    let t : Kept = record { durable = c.in_ok-durable.durable; drawn = i.drawn; ids = i.ids; paged = i.paged.items; consumers = c.acknowledge.new.self.consumers } in
    subst (λ (k : Kept). IsOutcome k (Some (Acknowledge c.args.consumer.now c.args.id)) (Changed t c.in_ok-durable.batch Done)) c.self.view_is
    (ack_made s c.args.consumer.now c.args.id c.args.queue t c.in_ok-durable.batch from (apart d.journaled c.self.invariant.sound.messages.ids) condition fields effect refl refl (ap (λ (x : Dispatch). x.consumers) left) refl c.in_ok-durable.ensures.batch
    (subst AreRoomy (sym effect) (roomy_acknowledged d c.args.queue c.args.id relief.row relief.found c.self.invariant.roomy)))

pub overflow_sub-place : goal.overflow_sub-place
overflow_sub-place c =
    let relief = c.relief-address.ensures in
    let known = row_known c.self.inside.durable relief.row (λ (r : JournaledRow). same_id r.message.id c.args.id) c.self.invariant.sound relief.found in
    omega (arith, relief.address_is, known.0)

pub index-requires : goal.index-requires
index-requires c =
    let relief = c.relief-address.ensures in
    let known = row_known c.self.inside.durable relief.row (λ (r : JournaledRow). same_id r.message.id c.args.id) c.self.invariant.sound relief.found in
    let many = ap length c.self.invariant.weighed ∙ length-map c.self.inside.durable.addresses (λ (r : AddressRow). weight_at r.id c.self.inside.durable.journaled) in
    omega (arith, relief.address_is, known.0, known.1, many)

pub index_mut-requires : goal.index_mut-requires
index_mut-requires c =
    let relief = c.relief-address.ensures in
    let known = row_known c.self.inside.durable relief.row (λ (r : JournaledRow). same_id r.message.id c.args.id) c.self.invariant.sound relief.found in
    let many = ap length c.self.invariant.weighed ∙ length-map c.self.inside.durable.addresses (λ (r : AddressRow). weight_at r.id c.self.inside.durable.journaled) in
    omega (arith, relief.address_is, known.0, known.1, many)
