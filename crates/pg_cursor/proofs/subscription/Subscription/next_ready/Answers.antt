use Rattle.std.proofs.Common.{Some, sym, subst, arith}
use Rattle.std.specs.Prelude.{IfNone}
use Rattle.pg_disk.specs.Account.{account}
use Rattle.pg_disk.specs.Views.{as_read}
use Rattle.pg_page.specs.Pages.{pages_of}
use Rattle.pg_cursor.specs.Places.{page_of}
use Rattle.pg_cursor.specs.Tracking.{Cursor, GivesNext}
use Rattle.pg_cursor.specs.Walking.{AreThere, IsAtEnd, TailStands}
use Rattle.pg_cursor.specs.Entries.{pages_from}
use Rattle.pg_cursor.specs.Ways.{ReadsAlong}
use Rattle.pg_cursor.proofs.Along.{reads_nothing}
use Rattle.pg_cursor.proofs.FirstPage.{end_from, walks_from}
use Rattle.pg_cursor.proofs.Giving.{gives_front, gives_walked, none_on}
use Rattle.pg_cursor.proofs.Walked.{page_later}
use Rattle.pg_cursor.proofs.subscription.Subscription.next_ready.Goals as goal

pub returns-in-Some-clause-next : goal.returns-in-Some-clause-next
returns-in-Some-clause-next g c = λ h.
    let inside = c.self.inside in
    let old : Cursor = record { queue = inside.queue; address = inside.address; tail = inside.tail; front = inside.front; taken = inside.taken } in
    let new : Cursor = record { queue = inside.queue; address = inside.address; tail = inside.tail; front = c.pop_first.new.self; taken = c.insert.new.self } in
    let files = (account (g.D.Disk.tells c.args.disk.now)).files in
    subst (λ (u : Cursor). GivesNext c.args.last c.args.acks.now c.args.txs.now (Some c.in-Some.place) u new (pages_of (as_read files) u.address)) c.self.view_is
    (record {
      stands = subst (λ (u : Cursor). TailStands u.tail (pages_of (as_read files) u.address)) (sym c.self.view_is) (c.requires.stands h);
      follows = λ first below. gives_front c.args.last old c.args.acks.now c.args.txs.now (pages_from first (pages_of (as_read files) inside.address)) c.in-Some.place c.pop_first.new.self c.insert.new.self c.in-Some.ensures.first c.in-Some.ensures.rest c.in_ok-insert.ensures.ok;
    })

pub walk-requires-clause-there : goal.walk-requires-clause-there
walk-requires-clause-there g c = λ h.
    subst (λ (u : Cursor). AreThere u.address (page_of u.tail) c.args.last (account (g.D.Disk.tells c.args.disk.now)).files) (sym c.self.view_is) (c.requires.there h)

pub walk-requires-clause-stands : goal.walk-requires-clause-stands
walk-requires-clause-stands g c = λ h.
    subst (λ (u : Cursor). TailStands u.tail (pages_of (as_read (account (g.D.Disk.tells c.args.disk.now)).files) u.address)) (sym c.self.view_is) (c.requires.stands h)

pub returns-clause-next : goal.returns-clause-next
returns-clause-next g c = λ h.
    let inside = c.self.inside in
    let old : Cursor = record { queue = inside.queue; address = inside.address; tail = inside.tail; front = inside.front; taken = inside.taken } in
    let new : Cursor = record { queue = inside.queue; address = inside.address; tail = c.in_ok-tail.tail; front = c.pop_first.new.self; taken = c.put_in.new.places } in
    let files = (account (g.D.Disk.tells c.args.disk.now)).files in
    let end : IfNone c.in_ok-tail.found (IsAtEnd inside.queue c.args.acks.now c.args.txs.now c.args.last c.in_ok-tail.tail (pages_of (as_read files) inside.address)) =
    none_on c.in_ok-tail.found (λ at. at h) c.in_ok-tail.ensures.end in
    subst (λ (u : Cursor). GivesNext c.args.last c.args.acks.now c.args.txs.now c.in_ok-tail.found u new (pages_of (as_read files) u.address)) c.self.view_is
    (record {
      stands = (c.in_ok-tail.ensures.walked h).stands;
      follows = λ first below.
          let pages = pages_of (as_read files) inside.address in
          gives_walked c.args.last old c.args.acks.now c.args.txs.now (pages_from first pages) c.pop_first.new.self c.in_default.ensures.none c.in_default.ensures.empty c.in_ok-tail.tail c.in_ok-tail.ensures.later
          c.in_ok-tail.found c.put_in.new.places
          (walks_from first pages inside.queue c.args.acks.now c.args.txs.now inside.tail c.in_ok-tail.tail c.in_ok-tail.found below (page_later inside.tail c.in_ok-tail.tail c.in_ok-tail.ensures.later) (c.in_ok-tail.ensures.walked h))
          (none_on c.in_ok-tail.found (end_from first pages inside.queue c.args.acks.now c.args.txs.now c.args.last c.in_ok-tail.tail) end)
          c.in_ok-put_in.ensures.some c.in_ok-put_in.ensures.none;
    })

pub returns-in-Some-clause-taken : goal.returns-in-Some-clause-taken
returns-in-Some-clause-taken g c = λ h.
    let now = account (g.D.Disk.tells c.args.disk.now) in
    subst (λ (u : Cursor). ReadsAlong 18 u.tail c.self.inside.tail (pages_of (as_read now.files) u.address) now.taken now.taken) c.self.view_is
    (reads_nothing (pages_of (as_read now.files) c.self.inside.address) c.self.inside.tail 18 now.taken now.taken (omega arith))
