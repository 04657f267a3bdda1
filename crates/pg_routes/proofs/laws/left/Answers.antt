use Rattle.pg_routes.proofs.Dropping.{IsGiven, over_later, given_later, live_given}
use Rattle.pg_routes.proofs.Leaving.{IsPast, past_run, past_later}
use Rattle.pg_routes.proofs.Validity.{drawn_of, out_of_next}
use Rattle.pg_routes.proofs.laws.left.Goals as goal

pub returns-clause-run : goal.returns-clause-run
returns-clause-run c = λ s items replies states queue id drawn out run. past_run s items replies states queue id (record { drawn = drawn; out = out }) run

pub returns-clause-later : goal.returns-clause-later
returns-clause-later c = λ s t queue id drawn out later. (past_later queue id later (record { drawn = drawn; out = out })).out

-- That its id was drawn is still known at the later state: the message was in no queue of the id that the next one gets.
pub returns-clause-taken_out : goal.returns-clause-taken_out
returns-clause-taken_out c = λ s t u queue id valid held first out then.
    let was : IsPast s s.durable.next id = record { drawn = drawn_of s queue id valid held; out = out_of_next s id valid } in
    let is : IsPast t s.durable.next id = past_later s.durable.next id first was in
    (past_later queue id then (record { drawn = is.drawn; out = out })).out

pub returns-clause-dropped : goal.returns-clause-dropped
returns-clause-dropped c = λ s t u queue valid live first gone then.
    let is : IsGiven t queue = given_later queue first (live_given s queue valid live) in
    (over_later queue then (record { below = is.below; gone = gone })).gone
