use Rattle.std.proofs.Common.{◌≡◌, false, sym, subst}
use Rattle.pg_acks.specs.Acked.{is_acknowledged}
use Rattle.pg_cursor.specs.Places.{HasPlace}
use Rattle.pg_cursor.specs.Tracking.{Cursor, Tracks}
use Rattle.pg_cursor.proofs.Moving.{available, put_back}
use Rattle.pg_cursor.proofs.subscription.Subscription.put_back.Goals as goal

pub returns-clause-tracks : goal.returns-clause-tracks
returns-clause-tracks c = λ acks txs pages tracks open_.
    let inside = c.self.inside in
    let old : Cursor = record { queue = inside.queue; address = inside.address; tail = inside.tail; front = inside.front; taken = inside.taken } in
    put_back old acks txs pages c.args.place (subst (λ (u : Cursor). Tracks u acks txs pages) (sym c.self.view_is) tracks) (subst (λ (u : Cursor). HasPlace u.taken c.args.place) (sym c.self.view_is) c.requires)
    (subst (λ (u : Cursor). is_acknowledged acks u.queue c.args.place.position ≡ false) (sym c.self.view_is) open_) c.insert.new.self c.remove.new.self c.in_ok-insert.ensures.ok c.remove.ensures

pub returns-clause-available : goal.returns-clause-available
returns-clause-available c = λ acks txs pages tracks open_.
    let inside = c.self.inside in
    let old : Cursor = record { queue = inside.queue; address = inside.address; tail = inside.tail; front = inside.front; taken = inside.taken } in
    available old acks txs pages c.args.place (subst (λ (u : Cursor). Tracks u acks txs pages) (sym c.self.view_is) tracks) (subst (λ (u : Cursor). HasPlace u.taken c.args.place) (sym c.self.view_is) c.requires)
    (subst (λ (u : Cursor). is_acknowledged acks u.queue c.args.place.position ≡ false) (sym c.self.view_is) open_) c.insert.new.self c.remove.new.self c.in_ok-insert.ensures.ok c.remove.ensures
