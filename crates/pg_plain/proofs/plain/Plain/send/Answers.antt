use Rattle.std.proofs.Common.{◌≢◌, ◌∙◌, List, ℕ, [], ap, sym, subst, arith}
use Rattle.std.proofs.lemmas.Bool.{both_ways}
use Rattle.std.specs.Vec.{vec_len}
use Rattle.pg_msg.specs.declared.message.Message.{Message}
use Rattle.pg_msg.specs.declared.properties.Property.{Property}
use Rattle.pg_model.specs.Broker.{Broker}
use Rattle.pg_model.specs.Routing.{IsRouted}
use Rattle.pg_plain.proofs.StepLemmas.{delivered, heavy_by, light_by, none_in, some_in, send_heavy, send_nowhere, send_numberless, send_unrouted}
use Rattle.pg_plain.proofs.plain.Plain.send.Goals as goal

pub returns-in_default : goal.returns-in_default
returns-in_default c = send_nowhere c.args.self c.args.address.now c.args.properties c.args.body (sym c.address_id.ensures ∙ c.in_default.is)

pub returns-then-heavy : goal.returns-then-heavy
returns-then-heavy c =
    let weighed = c.weighed-message.ensures in
    send_heavy c.args.self c.args.address.now c.args.properties c.args.body c.in-Some.id (sym c.in-Some.ensures)
    (heavy_by c.args.self c.args.properties c.args.body _ weighed.message (weighed.heavy.0 c.if-heavy.true))

pub returns-then-is_empty : goal.returns-then-is_empty
returns-then-is_empty c =
    let weighed = c.weighed-message.ensures in
    let numbers : List ℕ = c.in_ok-numbers.numbers.items in
    let routed : IsRouted c.args.self c.in-Some.id c.args.properties numbers =
    subst (λ (properties : List Property). IsRouted c.args.self c.in-Some.id properties numbers) (c.as_slice.ensures ∙ ap (λ (m : Message). m.properties) weighed.message) c.in_ok-numbers.ensures in
    send_unrouted c.args.self c.args.address.now c.args.properties c.args.body c.in-Some.id (sym c.in-Some.ensures)
    (light_by c.args.self c.args.properties c.args.body _ weighed.message (λ heavy. both_ways _ c.if-heavy.false (weighed.heavy.1 heavy)))
    (subst (λ (l : List ℕ). IsRouted c.args.self c.in-Some.id c.args.properties l) (none_in numbers (vec_len c.in_ok-numbers.numbers) (omega (arith, c.in_ok-numbers.numbers.ok.0)) (sym c.is_empty.ensures ∙ c.if-is_empty.true)) routed)

pub returns-then-self : goal.returns-then-self
returns-then-self c =
    let weighed = c.weighed-message.ensures in
    let numbers : List ℕ = c.in_ok-numbers.numbers.items in
    let routed : IsRouted c.args.self c.in-Some.id c.args.properties numbers =
    subst (λ (properties : List Property). IsRouted c.args.self c.in-Some.id properties numbers) (c.as_slice.ensures ∙ ap (λ (m : Message). m.properties) weighed.message) c.in_ok-numbers.ensures in
    send_numberless c.args.self c.args.address.now c.args.properties c.args.body c.in-Some.id numbers (sym c.in-Some.ensures)
    (light_by c.args.self c.args.properties c.args.body _ weighed.message (λ heavy. both_ways _ c.if-heavy.false (weighed.heavy.1 heavy)))
    routed (some_in numbers (vec_len c.in_ok-numbers.numbers) (omega (arith, c.in_ok-numbers.numbers.ok.0)) (sym c.is_empty.ensures ∙ c.if-is_empty.false))
    (omega (arith, c.if-self.true, ap (λ (b : Broker). b.running.drawn) c.self.view_is, ap (λ (b : Broker). b.ids) c.self.view_is))

pub returns : goal.returns
returns c =
    let weighed = c.weighed-message.ensures in
    let numbers : List ℕ = c.in_ok-numbers.numbers.items in
    let routed : IsRouted c.args.self c.in-Some.id c.args.properties numbers =
    subst (λ (properties : List Property). IsRouted c.args.self c.in-Some.id properties numbers) (c.as_slice.ensures ∙ ap (λ (m : Message). m.properties) weighed.message) c.in_ok-numbers.ensures in
    delivered c.args.self c.args.address.now c.args.properties c.args.body c.in-Some.id c.as_slice-2.result.now _ c.deliver.result (sym c.in-Some.ensures)
    (light_by c.args.self c.args.properties c.args.body _ weighed.message (λ heavy. both_ways _ c.if-heavy.false (weighed.heavy.1 heavy)))
    (subst (λ (l : List ℕ). IsRouted c.args.self c.in-Some.id c.args.properties l) (sym c.as_slice-2.ensures.value) routed)
    (subst (λ (l : List ℕ). l ≢ []) (sym c.as_slice-2.ensures.value) (some_in numbers (vec_len c.in_ok-numbers.numbers) (omega (arith, c.in_ok-numbers.numbers.ok.0)) (sym c.is_empty.ensures ∙ c.if-is_empty.false)))
    (omega (arith, c.if-self.false, ap (λ (b : Broker). b.running.drawn) c.self.view_is, ap (λ (b : Broker). b.ids) c.self.view_is)) weighed.message c.deliver.ensures.reply c.deliver.ensures.state
