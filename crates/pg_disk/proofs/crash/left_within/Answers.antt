use Rattle.std.proofs.Common.{take, subst, ◌∙◌}
use Rattle.std.proofs.lemmas.Option.{get_or_from_slice_get}
use Rattle.pg_disk.specs.declared.call_record.Event.{Event}
use Rattle.pg_disk.specs.Crash.{RedoesAll}
use Rattle.pg_disk.specs.Left.{last_done}
use Rattle.pg_disk.proofs.RedoLemmas.{begins_within, follows_all}
use Rattle.pg_disk.proofs.crash.left_within.Goals as goal

pub returns-clause-left : goal.returns-clause-left
returns-clause-left c =
    let es = c.args.events.now in
    let place = c.place_of_call-place.result in
    let event = c.place_of_call-place.ensures.0 in
    let call = c.place_of_call-place.ensures.1 in
    let pick = c.args.pick in
    let same = c.index-events-place.is ∙ get_or_from_slice_get es place event c.index-events-place.result call.there in
    let was = c.in_ok-remains.remains in
    let now = c.stop_within.new.self in
    let stopped = subst (λ (e : Event). RedoesAll pick (last_done pick e) was now) same c.in_ok-stop_within.ensures in
    begins_within es c.args.number place event pick now c.deref.result.now c.begun.result call
    (follows_all pick was now (take place es) (last_done pick event) stopped c.in_ok-remains.ensures) c.deref.ensures.value c.begun.ensures.contents c.begun.ensures.told
