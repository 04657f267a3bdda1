use Rattle.std.proofs.Common.{◌≡◌, Some, ℕ, ◌+◌, ◌∙◌, ◌<◌, List, [], ◌∷◌, length, map, None, inr, ap, ap₂, sym, subst, refl, arith}
use Rattle.pg_msg.specs.declared.reply.Reply.TheVariants.{Done}
use Rattle.pg_records.specs.declared.entry.Entry.{Entry}
use Rattle.pg_records.specs.declared.entry.Entry.TheVariants as entry
use Rattle.pg_records.specs.Entries.{batch_bytes}
use Rattle.pg_fold.specs.declared.durable.Durable.{Durable}
use Rattle.pg_fold.specs.declared.rows.AddressRow.{AddressRow}
use Rattle.pg_fold.specs.Fold.{changed, rule_of}
use Rattle.pg_model.specs.Actions.{MakeAddress}
use Rattle.pg_model.specs.Broker.{address_named}
use Rattle.pg_recover.specs.Denotation.{address_of}
use Rattle.pg_routes.specs.Names.{with_address}
use Rattle.pg_routes.specs.Names.{address_named as name_of}
use Rattle.pg_engine.specs.declared.state.Outcome.TheVariants.{Changed}
use Rattle.pg_engine.specs.Kept.{Kept, broker_of}
use Rattle.pg_engine.specs.Outcomes.{IsOutcome, settings_of}
use Rattle.pg_engine.proofs.EntryLemmas.{address_condition, address_fields}
use Rattle.pg_engine.proofs.FitLemmas.{with_address_fit}
use Rattle.pg_engine.proofs.LookupLemmas.{address_found}
use Rattle.pg_engine.proofs.NamingLemmas.{no_address_id}
use Rattle.pg_engine.proofs.PartLemmas.{new_behind}
use Rattle.pg_engine.proofs.StepLemmas.{address_made}
use Rattle.pg_engine.proofs.state.State.make_address.Goals as goal

pub record_entry-requires-clause-condition : goal.record_entry-requires-clause-condition
record_entry-requires-clause-condition c =
    let i = c.self.inside in
    let d = i.durable in
    let st = c.args.settings in
    let count : length c.as_slice.result.now ≡ length d.addresses = ap length c.as_slice.ensures in
    let few : length d.addresses < 1000 = omega (arith, c.requires.few, ap (λ (k : Kept). length k.durable.addresses) c.self.view_is) in
    let new : address_named (map address_of d.addresses) c.args.name ≡ None = ap (λ (k : Kept). address_named (broker_of k).durable.addresses c.args.name) c.self.view_is ∙ c.requires.new in
    let made : c.address_entry-entry.result ≡ entry.Address (length d.addresses + 1) c.args.name st.max st.page st.ahead st.dup =
    c.address_entry-entry.ensures ∙ ap₂ (λ (n : ℕ) (t : List ℕ). entry.Address (n + 1) t st.max st.page st.ahead st.dup) count c.in_ok-copy.ensures in
    let condition = address_condition d c.args.name st.max st.page st.ahead st.dup c.self.invariant.sound new few c.requires.settings in
    subst (λ (e : Entry). rule_of d e ≡ None) (sym made) condition

pub add_address-requires-clause-new_id : goal.add_address-requires-clause-new_id
add_address-requires-clause-new_id c =
    let d = c.self.inside.durable in
    no_address_id d (length c.as_slice.result.now + 1) c.self.inside.routes c.self.invariant.sound (ap (λ (l : List AddressRow). length l + 1) c.as_slice.ensures) c.self.invariant.named

pub add_address-requires-clause-new_name : goal.add_address-requires-clause-new_name
add_address-requires-clause-new_name c =
    let d = c.self.inside.durable in
    ap (name_of c.args.name) c.self.invariant.named.named ∙ address_found c.args.name d.addresses c.self.invariant.sound.addresses.numbered
    ∙ ap (λ (k : Kept). address_named (broker_of k).durable.addresses c.args.name) c.self.view_is ∙ c.requires.new

pub invariant_of-state : goal.invariant_of-state
invariant_of-state c =
    let i = c.self.inside in
    let d = i.durable in
    let st = c.args.settings in
    let count : length c.as_slice.result.now ≡ length d.addresses = ap length c.as_slice.ensures in
    let few : length d.addresses < 1000 = omega (arith, c.requires.few, ap (λ (k : Kept). length k.durable.addresses) c.self.view_is) in
    let new : address_named (map address_of d.addresses) c.args.name ≡ None = ap (λ (k : Kept). address_named (broker_of k).durable.addresses c.args.name) c.self.view_is ∙ c.requires.new in
    let made : c.address_entry-entry.result ≡ entry.Address (length d.addresses + 1) c.args.name st.max st.page st.ahead st.dup =
    c.address_entry-entry.ensures ∙ ap₂ (λ (n : ℕ) (t : List ℕ). entry.Address (n + 1) t st.max st.page st.ahead st.dup) count c.in_ok-copy.ensures in
    let condition = address_condition d c.args.name st.max st.page st.ahead st.dup c.self.invariant.sound new few c.requires.settings in
    let fields = address_fields d c.args.name st.max st.page st.ahead st.dup few c.requires.name c.requires.settings in
    with_address_fit d c.in_ok-durable.durable i.routes c.add_address.new.self i.weights.items c.add_weight.new.weights.items i.dispatcher.lines i.paged.items c.add_mark.new.paged.items i.drawn c.args.name st.max st.page st.ahead st.dup c.self.invariant
    condition fields (c.in_ok-durable.ensures.changed ∙ ap (changed d) made)
    (c.in_ok-add_address.ensures.ok ∙ ap (λ (n : ℕ). with_address (record { id = n + 1; name = c.args.name }) i.routes) count)
    c.in_ok-add_weight.ensures c.in_ok-add_mark.ensures

pub returns-clause-outcome : goal.returns-clause-outcome
returns-clause-outcome c =
    let i = c.self.inside in
    let d = i.durable in
    let st = c.args.settings in
    let count : length c.as_slice.result.now ≡ length d.addresses = ap length c.as_slice.ensures in
    let few : length d.addresses < 1000 = omega (arith, c.requires.few, ap (λ (k : Kept). length k.durable.addresses) c.self.view_is) in
    let new : address_named (map address_of d.addresses) c.args.name ≡ None = ap (λ (k : Kept). address_named (broker_of k).durable.addresses c.args.name) c.self.view_is ∙ c.requires.new in
    let made : c.address_entry-entry.result ≡ entry.Address (length d.addresses + 1) c.args.name st.max st.page st.ahead st.dup =
    c.address_entry-entry.ensures ∙ ap₂ (λ (n : ℕ) (t : List ℕ). entry.Address (n + 1) t st.max st.page st.ahead st.dup) count c.in_ok-copy.ensures in
    let condition = address_condition d c.args.name st.max st.page st.ahead st.dup c.self.invariant.sound new few c.requires.settings in
    let fields = address_fields d c.args.name st.max st.page st.ahead st.dup few c.requires.name c.requires.settings in
    let effect = c.in_ok-durable.ensures.changed ∙ ap (changed d) made in
    let fit = with_address_fit d c.in_ok-durable.durable i.routes c.add_address.new.self i.weights.items c.add_weight.new.weights.items i.dispatcher.lines i.paged.items c.add_mark.new.paged.items i.drawn c.args.name st.max st.page st.ahead st.dup
    c.self.invariant condition fields effect
    (c.in_ok-add_address.ensures.ok ∙ ap (λ (n : ℕ). with_address (record { id = n + 1; name = c.args.name }) i.routes) count)
    c.in_ok-add_weight.ensures c.in_ok-add_mark.ensures in
    let s : Kept = record { durable = d; drawn = i.drawn; ids = i.ids; paged = i.paged.items; consumers = i.dispatcher.consumers } in
    let t : Kept = record { durable = c.in_ok-durable.durable; drawn = i.drawn; ids = i.ids; paged = c.add_mark.new.paged.items; consumers = i.dispatcher.consumers } in
    let row : AddressRow = record { id = length d.addresses + 1; name = c.args.name; max = st.max; page = st.page; ahead = st.ahead; dup = st.dup; first = 1 } in
    subst (λ (k : Kept). IsOutcome k (Some (MakeAddress c.args.name (settings_of st))) (Changed t c.in_ok-durable.batch Done)) c.self.view_is
    (address_made s c.args.name (settings_of st) t c.in_ok-durable.batch new few condition fields effect refl refl refl (c.in_ok-durable.ensures.batch ∙ ap (λ (e : Entry). batch_bytes (e ∷ [])) made) fit.roomy
    (inr (row, ap (λ (x : Durable). x.addresses) effect, new_behind d.addresses row.id c.self.invariant.sound.addresses.numbered refl, c.in_ok-add_mark.ensures)))
