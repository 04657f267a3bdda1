use Rattle.std.proofs.Common.{◌≡◌, ℕ, eqb, [], ◌∷◌, None, Some, ◌∙◌, List, length, map, ap, sym, subst, refl, arith}
use Rattle.std.specs.List.{list_any}
use Rattle.std.specs.Option.{option_map}
use Rattle.std.proofs.lemmas.List.Elements.{All-weaker}
use Rattle.pg_msg.specs.declared.reply.Reply.TheVariants.{Done}
use Rattle.pg_msg.specs.Messages.{HasFields as HasMessageFields, IsMessage}
use Rattle.pg_records.specs.declared.entry.Entry.TheVariants as entry
use Rattle.pg_records.specs.Entries.{HasFields, batch_bytes}
use Rattle.pg_fold.specs.Fold.{changed, rule_of}
use Rattle.pg_fold.specs.declared.durable.Durable.{Durable}
use Rattle.pg_fold.specs.declared.rows.AddressRow.{AddressRow}
use Rattle.pg_fold.specs.declared.rows.JournaledRow.{JournaledRow}
use Rattle.pg_fold.specs.Sound.{IsSound}
use Rattle.pg_fold.proofs.SoundLaws.{sound_kept}
use Rattle.pg_model.specs.Actions.{DropQueue}
use Rattle.pg_dispatch.specs.Dispatch.{Dispatch}
use Rattle.pg_model.specs.Broker.{Consumer, Queue, queue_named}
use Rattle.pg_recover.specs.Denotation.{queue_of}
use Rattle.pg_recover.specs.WellFormed.{AreRoomy}
use Rattle.pg_engine.specs.declared.state.Outcome.TheVariants.{Changed}
use Rattle.pg_engine.specs.Kept.{Kept, broker_of}
use Rattle.pg_engine.specs.Outcomes.{IsOutcome}
use Rattle.pg_engine.proofs.EntryLemmas.{drop_condition}
use Rattle.pg_engine.proofs.FitLemmas.{roomy_left, without_queue_fit}
use Rattle.pg_engine.proofs.LookupLemmas.{queue_row}
use Rattle.pg_engine.proofs.LineLemmas.{lined_drop}
use Rattle.pg_engine.proofs.StepLemmas.{drop_made}
use Rattle.pg_engine.proofs.WeightLemmas.{weights_are}
use Rattle.pg_engine.proofs.state.State.remove_queue.Goals as goal

pub record_entry-requires-clause-condition : goal.record_entry-requires-clause-condition
record_entry-requires-clause-condition c =
    let i = c.self.inside in
    let d = i.durable in
    let asks = c.requires.named in
    let found : option_map (λ (q : Queue). q.id) (queue_named (map (queue_of d.journaled) d.queues) asks.0) ≡ Some c.args.queue = ap (λ (k : Kept). option_map (λ (q : Queue). q.id) (queue_named (broker_of k).durable.queues asks.0)) c.self.view_is ∙ asks.1 in
    let condition = drop_condition d asks.0 c.args.queue found in
    condition

pub weights_by_address-requires : goal.weights_by_address-requires
weights_by_address-requires c =
    let i = c.self.inside in
    let d = i.durable in
    let asks = c.requires.named in
    let found : option_map (λ (q : Queue). q.id) (queue_named (map (queue_of d.journaled) d.queues) asks.0) ≡ Some c.args.queue = ap (λ (k : Kept). option_map (λ (q : Queue). q.id) (queue_named (broker_of k).durable.queues asks.0)) c.self.view_is ∙ asks.1 in
    let condition = drop_condition d asks.0 c.args.queue found in
    let fields : HasFields (entry.DropQueue c.args.queue) = omega (arith, c.ranges.queue.fits) in
    let effect = c.in_ok-durable.ensures.changed in
    let sound : IsSound c.in_ok-durable.durable = sound_kept d c.in_ok-durable.durable (entry.DropQueue c.args.queue) c.self.invariant.sound fields (record { condition = condition; readable = tt; effect = effect }) in
    All-weaker (λ (row : JournaledRow). IsMessage row.message) (λ row. HasMessageFields row.message) (λ row is. is.fields) c.in_ok-durable.durable.journaled sound.messages.messages

pub invariant_of-state : goal.invariant_of-state
invariant_of-state c =
    let i = c.self.inside in
    let d = i.durable in
    let asks = c.requires.named in
    let found : option_map (λ (q : Queue). q.id) (queue_named (map (queue_of d.journaled) d.queues) asks.0) ≡ Some c.args.queue = ap (λ (k : Kept). option_map (λ (q : Queue). q.id) (queue_named (broker_of k).durable.queues asks.0)) c.self.view_is ∙ asks.1 in
    let condition = drop_condition d asks.0 c.args.queue found in
    let fields : HasFields (entry.DropQueue c.args.queue) = omega (arith, c.ranges.queue.fits) in
    let effect = c.in_ok-durable.ensures.changed in
    let sound : IsSound c.in_ok-durable.durable = sound_kept d c.in_ok-durable.durable (entry.DropQueue c.args.queue) c.self.invariant.sound fields (record { condition = condition; readable = tt; effect = effect }) in
    without_queue_fit d c.in_ok-durable.durable i.routes c.drop_queue.new.self i.weights.items c.in_ok-weights.weights.items i.dispatcher.lines c.drop_queue-2.new.self.lines i.paged.items i.drawn c.args.queue c.self.invariant condition fields effect c.drop_queue.ensures
    (weights_are c.in_ok-durable.durable c.in_ok-weights.weights.items sound.addresses (subst (λ (x : Durable). AreRoomy x) (sym effect) (roomy_left d c.args.queue c.self.invariant.roomy))
    (c.in_ok-weights.ensures.count ∙ ap (λ (l : List AddressRow). length l) c.as_slice-count.ensures)
    c.in_ok-weights.ensures.each)
    (ap (λ (x : Dispatch). x.lines) c.drop_queue-2.ensures ∙ lined_drop d i.dispatcher c.self.invariant.lined c.args.queue)

pub returns-clause-outcome : goal.returns-clause-outcome
returns-clause-outcome c name named =
    let i = c.self.inside in
    let d = i.durable in
    let found : option_map (λ (q : Queue). q.id) (queue_named (map (queue_of d.journaled) d.queues) name) ≡ Some c.args.queue = ap (λ (k : Kept). option_map (λ (q : Queue). q.id) (queue_named (broker_of k).durable.queues name)) c.self.view_is ∙ named in
    let row = queue_row name d.journaled d.queues c.args.queue found in
    let id : c.args.queue ≡ row.0.id = sym row.1 in
    let fields : HasFields (entry.DropQueue c.args.queue) = omega (arith, c.ranges.queue.fits) in
    let effect = c.in_ok-durable.ensures.changed in
    let s : Kept = record { durable = d; drawn = i.drawn; ids = i.ids; paged = i.paged.items; consumers = i.dispatcher.consumers } in
    let t : Kept = record { durable = c.in_ok-durable.durable; drawn = i.drawn; ids = i.ids; paged = i.paged.items; consumers = c.drop_queue-2.new.self.consumers } in
    subst (λ (k : Kept). IsOutcome k (Some (DropQueue name)) (Changed t c.in_ok-durable.batch Done)) c.self.view_is
    (drop_made s name (queue_of d.journaled row.0) row.2 t c.in_ok-durable.batch
    (ap (λ (n : ℕ). list_any (λ (x : Consumer). eqb x.queue n) i.dispatcher.consumers) (sym id) ∙ ap (λ (k : Kept). list_any (λ (x : Consumer). eqb x.queue c.args.queue) k.consumers) c.self.view_is ∙ c.requires.free)
    (subst (λ (n : ℕ). rule_of d (entry.DropQueue n) ≡ None) id (drop_condition d name c.args.queue found)) (subst (λ (n : ℕ). HasFields (entry.DropQueue n)) id fields)
    (effect ∙ ap (λ (n : ℕ). changed d (entry.DropQueue n)) id) refl refl (ap (λ (x : Dispatch). x.consumers) c.drop_queue-2.ensures) refl
    (c.in_ok-durable.ensures.batch ∙ ap (λ (n : ℕ). batch_bytes (entry.DropQueue n ∷ [])) id)
    (subst (λ (x : Durable). AreRoomy x) (sym effect) (roomy_left d c.args.queue c.self.invariant.roomy)))

pub drop_queue-requires-2 : goal.drop_queue-requires-2
drop_queue-requires-2 c = ap (λ (k : Kept). list_any (λ (x : Consumer). eqb x.queue c.args.queue) k.consumers) c.self.view_is ∙ c.requires.free
