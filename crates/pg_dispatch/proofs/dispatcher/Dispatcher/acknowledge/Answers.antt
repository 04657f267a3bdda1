use Rattle.std.proofs.Common.{◌∙◌, ap, ap₂, sym}
use Rattle.pg_dispatch.specs.Dispatch.{acknowledged}
use Rattle.pg_dispatch.specs.Matching.{seen}
use Rattle.pg_dispatch.proofs.Seen.{flight_delivered}
use Rattle.pg_dispatch.proofs.Steps.{is_found, its_entry_taken, matched_acknowledged, matched_where, same_from, seen_acknowledged}
use Rattle.pg_dispatch.proofs.dispatcher.Dispatcher.acknowledge.Goals as goal

pub remove-requires : goal.remove-requires
remove-requires c =
    let inside = c.self.inside in
    let flight = flight_delivered c.args.name.now c.args.id inside.consumers c.in-Some.delivery c.self.invariant.theirs (sym c.take.ensures.given ∙ c.in-Some.is) in
    its_entry_taken c.args.name.now c.args.id c.in-Some.delivery.queue inside.queues inside.consumers c.self.invariant flight

pub invariant_of-self : goal.invariant_of-self
invariant_of-self c =
    let inside = c.self.inside in
    let flight = flight_delivered c.args.name.now c.args.id inside.consumers c.in-Some.delivery c.self.invariant.theirs (sym c.take.ensures.given ∙ c.in-Some.is) in
    matched_where c.remove.ensures c.take.ensures.left (matched_acknowledged c.args.name.now c.args.id c.in-Some.delivery.queue inside.queues inside.consumers c.self.invariant flight)

pub invariant_of-self-in_default : goal.invariant_of-self-in_default
invariant_of-self-in_default c =
    let inside = c.self.inside in
    absurd (is_found c.args.name.now c.args.id inside.queues inside.consumers c.args.self.now c.self.invariant.theirs c.self.view_is c.requires (sym c.in_default.is ∙ c.take.ensures.given))

pub returns-in-Some : goal.returns-in-Some
returns-in-Some c = λ queue is.
    let inside = c.self.inside in
    let its = c.in-Some.delivery.queue in
    let flight = flight_delivered c.args.name.now c.args.id inside.consumers c.in-Some.delivery c.self.invariant.theirs (sym c.take.ensures.given ∙ c.in-Some.is) in
    ap₂ seen c.remove.ensures c.take.ensures.left
    ∙ seen_acknowledged c.args.name.now c.args.id its inside.queues inside.consumers c.self.invariant
    ∙ ap (acknowledged c.args.name.now its c.args.id) c.self.view_is
    ∙ ap (λ q. acknowledged c.args.name.now q c.args.id c.args.self.now) (same_from c.args.name.now c.args.id its queue inside.queues inside.consumers c.args.self.now c.self.view_is flight is)

pub returns-in_default : goal.returns-in_default
returns-in_default c = λ queue is.
    let inside = c.self.inside in
    absurd (is_found c.args.name.now c.args.id inside.queues inside.consumers c.args.self.now c.self.invariant.theirs c.self.view_is c.requires (sym c.in_default.is ∙ c.take.ensures.given))
