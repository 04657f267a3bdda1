use Rattle.std.proofs.Common.{◌≡◌, true, sym, subst}
use Rattle.pg_acks.specs.Acked.{is_acknowledged}
use Rattle.pg_cursor.specs.Places.{HasPlace}
use Rattle.pg_cursor.specs.Tracking.{Cursor, Tracks}
use Rattle.pg_cursor.proofs.Moving.{removed}
use Rattle.pg_cursor.proofs.subscription.Subscription.remove.Goals as goal

pub returns-clause-tracks : goal.returns-clause-tracks
returns-clause-tracks c = λ acks txs pages tracks done.
    let inside = c.self.inside in
    let old : Cursor = record { queue = inside.queue; address = inside.address; tail = inside.tail; front = inside.front; taken = inside.taken } in
    removed old acks txs pages c.args.place (subst (λ (u : Cursor). Tracks u acks txs pages) (sym c.self.view_is) tracks) (subst (λ (u : Cursor). HasPlace u.taken c.args.place) (sym c.self.view_is) c.requires)
    (subst (λ (u : Cursor). is_acknowledged acks u.queue c.args.place.position ≡ true) (sym c.self.view_is) done) c.remove.new.self c.remove.ensures
