use Rattle.std.proofs.Common.{subst}
use Rattle.pg_disk.specs.Account.{account, IsHonest}
use Rattle.pg_store.specs.Pages.{IsLast, states_of}
use Rattle.pg_store.proofs.Reopening.{reopened}
use Rattle.pg_store.proofs.store.Store.open.Goals as goal

pub returns-in_ok-writer-in-Some-clause-opened : goal.returns-in_ok-writer-in-Some-clause-opened
returns-in_ok-writer-in-Some-clause-opened g c =
    reopened _ c.args.address c.args.first c.in-Some.page (g.D.Disk.tells c.args.disk.now) (g.D.Disk.tells c.open.new.disk) c.in_ok-writer-in-Some.ensures.page.1
    (subst (λ o. IsHonest (g.D.Disk.tells c.args.disk.now) → IsLast c.args.first o (states_of (account (g.D.Disk.tells c.args.disk.now)).files c.args.address)) c.in-Some.is c.requires.last)
    c.in_ok-writer-in-Some.ensures.opened c.open.ensures.stays
