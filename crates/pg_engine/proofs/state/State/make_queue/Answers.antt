use Rattle.std.proofs.Common.{◌≡◌, Option, Some, ℕ, ◌∙◌, ◌<◌, List, [], ◌∷◌, length, map, All, None, inl, ap, sym, subst, refl, arith}
use Rattle.std.specs.Option.{option_map}
use Rattle.pg_msg.specs.declared.reply.Reply.TheVariants.{Done}
use Rattle.pg_records.specs.declared.entry.Entry.{Entry}
use Rattle.pg_records.specs.declared.entry.Entry.TheVariants as entry
use Rattle.pg_records.specs.Entries.{HasFields, batch_bytes}
use Rattle.pg_fold.specs.declared.durable.Durable.{Durable}
use Rattle.pg_fold.specs.Fold.{changed, rule_of}
use Rattle.pg_fold.specs.Sound.{IsSound}
use Rattle.pg_model.specs.Actions.{MakeQueue}
use Rattle.pg_model.specs.Broker.{Queue, address_named, queue_named}
use Rattle.pg_model.specs.Routing.{queues_of, text_of}
use Rattle.pg_parse.specs.declared.tree.Tree.{Tree}
use Rattle.pg_recover.specs.Denotation.{queue_of}
use Rattle.pg_recover.specs.WellFormed.{AreRoomy}
use Rattle.pg_routes.specs.Names.{queue_named as name_of}
use Rattle.pg_engine.specs.declared.state.Outcome.TheVariants.{Changed}
use Rattle.pg_engine.specs.Filters.{IsTreeOf}
use Rattle.pg_engine.specs.Kept.{Kept, IsId, broker_of, line_from}
use Rattle.pg_engine.specs.Outcomes.{IsOutcome}
use Rattle.pg_engine.proofs.EntryLemmas.{queue_condition, queue_fields}
use Rattle.std.proofs.lemmas.List.Elements.{All-map}
use Rattle.pg_dispatch.specs.Dispatch.{Dispatch, Line}
use Rattle.pg_engine.proofs.FitLemmas.{with_queue_fit}
use Rattle.pg_engine.proofs.LineLemmas.{lined_queue}
use Rattle.pg_engine.proofs.FilterLemmas.{has_reading}
use Rattle.pg_engine.proofs.LookupLemmas.{queue_found}
use Rattle.pg_engine.proofs.NamingLemmas.{no_queue_id}
use Rattle.pg_engine.proofs.StepLemmas.{queue_made}
use Rattle.pg_engine.proofs.state.State.make_queue.Goals as goal

pub record_entry-requires-clause-condition : goal.record_entry-requires-clause-condition
record_entry-requires-clause-condition c =
    let i = c.self.inside in
    let d = i.durable in
    let new : queue_named (map (queue_of d.journaled) d.queues) c.args.name ≡ None = ap (λ (k : Kept). queue_named (broker_of k).durable.queues c.args.name) c.self.view_is ∙ c.requires.new in
    let known : IsId (length d.addresses) c.args.address = subst (λ (k : Kept). IsId (length k.durable.addresses) c.args.address) (sym c.self.view_is) c.requires.known in
    let room : length (queues_of c.args.address (map (queue_of d.journaled) d.queues)) < 1000 = omega (arith, c.requires.few, ap (λ (k : Kept). length (queues_of c.args.address (broker_of k).durable.queues)) c.self.view_is) in
    let left : d.next < 4294967295 = omega (arith, c.requires.left, ap (λ (k : Kept). k.durable.next) c.self.view_is) in
    let made : c.queue_entry-entry.result ≡ entry.Queue d.next c.args.address c.args.name c.args.filter = c.queue_entry-entry.ensures ∙ ap (λ (t : List ℕ). entry.Queue d.next c.args.address t c.args.filter) c.in_ok-copy.ensures in
    let condition = queue_condition d c.args.address c.args.name c.args.filter c.self.invariant.sound new known.0 known.1 room left c.requires.text.1 in
    subst (λ (e : Entry). rule_of d e ≡ None) (sym made) condition

pub add_queue-requires-clause-new_id : goal.add_queue-requires-clause-new_id
add_queue-requires-clause-new_id c = no_queue_id c.self.inside.durable c.self.inside.routes c.self.invariant.sound c.self.invariant.named

pub add_queue-requires-clause-new_name : goal.add_queue-requires-clause-new_name
add_queue-requires-clause-new_name c =
    let d = c.self.inside.durable in
    ap (name_of c.args.name) c.self.invariant.named.named ∙ queue_found c.args.name d.journaled d.queues c.self.invariant.named.trees
    ∙ ap (λ (k : Kept). option_map (λ (q : Queue). q.id) (queue_named (broker_of k).durable.queues c.args.name)) c.self.view_is
    ∙ ap (option_map (λ (q : Queue). q.id)) c.requires.new

pub invariant_of-state : goal.invariant_of-state
invariant_of-state c =
    let i = c.self.inside in
    let d = i.durable in
    let new : queue_named (map (queue_of d.journaled) d.queues) c.args.name ≡ None = ap (λ (k : Kept). queue_named (broker_of k).durable.queues c.args.name) c.self.view_is ∙ c.requires.new in
    let known : IsId (length d.addresses) c.args.address = subst (λ (k : Kept). IsId (length k.durable.addresses) c.args.address) (sym c.self.view_is) c.requires.known in
    let room : length (queues_of c.args.address (map (queue_of d.journaled) d.queues)) < 1000 = omega (arith, c.requires.few, ap (λ (k : Kept). length (queues_of c.args.address (broker_of k).durable.queues)) c.self.view_is) in
    let left : d.next < 4294967295 = omega (arith, c.requires.left, ap (λ (k : Kept). k.durable.next) c.self.view_is) in
    let made : c.queue_entry-entry.result ≡ entry.Queue d.next c.args.address c.args.name c.args.filter = c.queue_entry-entry.ensures ∙ ap (λ (t : List ℕ). entry.Queue d.next c.args.address t c.args.filter) c.in_ok-copy.ensures in
    let condition = queue_condition d c.args.address c.args.name c.args.filter c.self.invariant.sound new known.0 known.1 room left c.requires.text.1 in
    with_queue_fit d c.in_ok-durable.durable i.routes c.add_queue.new.self i.weights.items i.dispatcher.lines c.add_queue-2.new.self.lines i.paged.items i.drawn c.args.address c.args.name c.args.filter c.args.tree c.self.invariant condition
    (queue_fields d c.args.address c.args.name c.args.filter c.self.invariant.sound known.1 left c.requires.name c.requires.text) c.requires.read (c.in_ok-durable.ensures.changed ∙ ap (changed d) made) c.in_ok-add_queue.ensures.ok
    (ap (λ (x : Dispatch). x.lines) c.in_ok-add_queue-2.ensures.ok ∙ lined_queue d i.dispatcher c.self.invariant.lined c.args.address c.args.name c.args.filter c.self.invariant.sound)

-- the queue that was asked for has the filter of this text
module _ (s t : Kept) (name at : List ℕ) (address : ℕ) (tree : Option Tree) (batch : List ℕ) (filter : List ℕ) where
  abbrev Made : List ℕ → Type 0
  Made text = rule_of s.durable (entry.Queue s.durable.next address name text) ≡ None × HasFields (entry.Queue s.durable.next address name text) × (t.durable ≡ changed s.durable (entry.Queue s.durable.next address name text))
      × (batch ≡ batch_bytes (entry.Queue s.durable.next address name text ∷ []))

  asked_made : IsSound s.durable → s.durable.next < 4294967295 → queue_named (broker_of s).durable.queues name ≡ None → length (queues_of address (broker_of s).durable.queues) < 1000 → t.drawn ≡ s.drawn → t.ids ≡ s.ids → t.consumers ≡ s.consumers
      → AreRoomy t.durable → t.paged ≡ s.paged → Made filter → (asked : Option (List ℕ)) → address_named (broker_of s).durable.addresses at ≡ Some address → IsTreeOf asked tree → filter ≡ text_of asked → IsOutcome s (Some (MakeQueue name at asked)) (Changed t batch Done)
  asked_made sound left new few drawn ids same roomy paged made asked named reads text =
      let now = subst Made text made in
      queue_made s name at asked new address named (has_reading asked tree reads) t batch sound left few now.0 now.1 now.2 drawn ids same now.3 roomy (inl (ap (λ (x : Durable). x.addresses) now.2, paged))

pub returns-clause-outcome : goal.returns-clause-outcome
returns-clause-outcome c at asked named reads text =
    let i = c.self.inside in
    let d = i.durable in
    let new : queue_named (map (queue_of d.journaled) d.queues) c.args.name ≡ None = ap (λ (k : Kept). queue_named (broker_of k).durable.queues c.args.name) c.self.view_is ∙ c.requires.new in
    let known : IsId (length d.addresses) c.args.address = subst (λ (k : Kept). IsId (length k.durable.addresses) c.args.address) (sym c.self.view_is) c.requires.known in
    let room : length (queues_of c.args.address (map (queue_of d.journaled) d.queues)) < 1000 = omega (arith, c.requires.few, ap (λ (k : Kept). length (queues_of c.args.address (broker_of k).durable.queues)) c.self.view_is) in
    let left : d.next < 4294967295 = omega (arith, c.requires.left, ap (λ (k : Kept). k.durable.next) c.self.view_is) in
    let made : c.queue_entry-entry.result ≡ entry.Queue d.next c.args.address c.args.name c.args.filter = c.queue_entry-entry.ensures ∙ ap (λ (t : List ℕ). entry.Queue d.next c.args.address t c.args.filter) c.in_ok-copy.ensures in
    let condition = queue_condition d c.args.address c.args.name c.args.filter c.self.invariant.sound new known.0 known.1 room left c.requires.text.1 in
    let fields = queue_fields d c.args.address c.args.name c.args.filter c.self.invariant.sound known.1 left c.requires.name c.requires.text in
    let effect = c.in_ok-durable.ensures.changed ∙ ap (changed d) made in
    let roomy : AreRoomy c.in_ok-durable.durable = subst AreRoomy (sym effect) c.self.invariant.roomy in
    let s : Kept = record { durable = d; drawn = i.drawn; ids = i.ids; paged = i.paged.items; consumers = i.dispatcher.consumers } in
    let t : Kept = record { durable = c.in_ok-durable.durable; drawn = i.drawn; ids = i.ids; paged = i.paged.items; consumers = c.add_queue-2.new.self.consumers } in
    subst (λ (k : Kept). IsOutcome k (Some (MakeQueue c.args.name at asked)) (Changed t c.in_ok-durable.batch Done)) c.self.view_is
    (asked_made s t c.args.name at c.args.address c.args.tree c.in_ok-durable.batch c.args.filter c.self.invariant.sound left new room refl refl (ap (λ (x : Dispatch). x.consumers) c.in_ok-add_queue-2.ensures.ok) roomy refl
    (condition, fields, effect, c.in_ok-durable.ensures.batch ∙ ap (λ (e : Entry). batch_bytes (e ∷ [])) made)
    asked (ap (λ (k : Kept). address_named (broker_of k).durable.addresses at) c.self.view_is ∙ named) reads text)

pub add_queue-requires-2 : goal.add_queue-requires-2
add_queue-requires-2 c =
    let d = c.self.inside.durable in
    subst (λ (ls : List Line). All (λ line. line.queue < d.next) ls) (sym c.self.invariant.lined)
    (All-map (λ (line : Line). line.queue < d.next) line_from (map (queue_of d.journaled) d.queues) (All-map (λ (q : Queue). q.id < d.next) (queue_of d.journaled) d.queues c.self.invariant.sound.queues.below))
