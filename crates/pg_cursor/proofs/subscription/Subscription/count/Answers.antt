use Rattle.std.proofs.Common.{◌+◌, ◌∙◌, ap, length, sym, subst}
use Rattle.std.specs.Prelude.{min, ◌^◌, ◌-◌}
use Rattle.pg_disk.specs.Account.{account}
use Rattle.pg_disk.specs.Views.{as_read}
use Rattle.pg_page.specs.Pages.{pages_of}
use Rattle.pg_cursor.specs.Counting.{CountsLive}
use Rattle.pg_cursor.specs.Places.{page_of}
use Rattle.pg_cursor.specs.Tracking.{Cursor}
use Rattle.pg_cursor.specs.Walking.{AreThere, TailStands}
use Rattle.pg_cursor.proofs.CountedBehind.{counts_live}
use Rattle.pg_cursor.proofs.subscription.Subscription.count.Goals as goal

pub count_behind-requires-clause-there : goal.count_behind-requires-clause-there
count_behind-requires-clause-there g c = λ h.
    subst (λ (u : Cursor). AreThere u.address (page_of u.tail) c.args.last (account (g.D.Disk.tells c.args.disk.now)).files) (sym c.self.view_is) (c.requires.there h)

pub count_behind-requires-clause-stands : goal.count_behind-requires-clause-stands
count_behind-requires-clause-stands g c = λ h.
    subst (λ (u : Cursor). TailStands u.tail (pages_of (as_read (account (g.D.Disk.tells c.args.disk.now)).files) u.address)) (sym c.self.view_is) (c.requires.stands h)

pub returns-clause-count : goal.returns-clause-count
returns-clause-count g c = λ h.
    let inside = c.self.inside in
    let cursor : Cursor = record { queue = inside.queue; address = inside.address; tail = inside.tail; front = inside.front; taken = inside.taken } in
    let files = (account (g.D.Disk.tells c.args.disk.now)).files in
    subst (λ (u : Cursor). CountsLive c.args.last u c.args.acks.now c.args.txs.now c.saturating_add-2.result (pages_of (as_read files) u.address)) c.self.view_is
    (counts_live c.args.last cursor c.args.acks.now c.args.txs.now (pages_of (as_read files) inside.address) c.in_ok-behind.behind c.saturating_add-2.result c.count.ensures.once c.count_open-taken.ensures.once (c.in_ok-behind.ensures.count h)
    (c.saturating_add-2.ensures
    ∙ ap (λ n. min (n + c.count_open-taken.result) (2 ^ 64 - 1)) (c.saturating_add.ensures ∙ ap (λ n. min (c.in_ok-behind.behind + n) (2 ^ 64 - 1)) c.count.ensures.count)
    ∙ ap (λ n. min (min (c.in_ok-behind.behind + length inside.front) (2 ^ 64 - 1) + n) (2 ^ 64 - 1)) c.count_open-taken.ensures.count))
