use Rattle.std.proofs.Common.{◌∙◌, ap, ap₂, sym}
use Rattle.pg_dispatch.specs.Dispatch.{cancelled}
use Rattle.pg_dispatch.specs.Matching.{seen}
use Rattle.pg_dispatch.proofs.Seen.{flight_delivered}
use Rattle.pg_dispatch.proofs.Steps.{is_found, its_entry_taken, matched_cancelled, matched_where, seen_cancelled}
use Rattle.pg_dispatch.proofs.dispatcher.Dispatcher.cancel.Goals as goal

pub returns-in_default-clause-ok : goal.returns-in_default-clause-ok
returns-in_default-clause-ok c =
    let inside = c.self.inside in
    absurd (is_found c.args.name.now c.args.id inside.queues inside.consumers c.args.self.now c.self.invariant.theirs c.self.view_is c.requires (sym c.in_default.is ∙ c.get.ensures))

pub put_back-requires : goal.put_back-requires
put_back-requires c =
    let inside = c.self.inside in
    let flight = flight_delivered c.args.name.now c.args.id inside.consumers c.in-Some.delivery c.self.invariant.theirs (sym c.get.ensures ∙ c.in-Some.is) in
    its_entry_taken c.args.name.now c.args.id c.in-Some.delivery.queue inside.queues inside.consumers c.self.invariant flight

pub invariant_of-self-2 : goal.invariant_of-self-2
invariant_of-self-2 c =
    let inside = c.self.inside in
    let flight = flight_delivered c.args.name.now c.args.id inside.consumers c.in-Some.delivery c.self.invariant.theirs (sym c.get.ensures ∙ c.in-Some.is) in
    matched_where c.in_ok-put_back.ensures.ok c.take.ensures.left (matched_cancelled c.args.name.now c.args.id c.in-Some.delivery.queue inside.queues inside.consumers c.self.invariant flight)

pub returns-clause-ok : goal.returns-clause-ok
returns-clause-ok c =
    let inside = c.self.inside in
    ap₂ seen c.in_ok-put_back.ensures.ok c.take.ensures.left
    ∙ seen_cancelled c.args.name.now c.args.id c.in-Some.delivery.queue inside.queues inside.consumers
    ∙ ap (cancelled c.args.name.now c.args.id) c.self.view_is
