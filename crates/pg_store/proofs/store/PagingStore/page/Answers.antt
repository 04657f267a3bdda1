use Rattle.pg_store.proofs.Runs.{unpaged}
use Rattle.pg_store.proofs.store.PagingStore.page.Goals as goal

pub returns-then-page-ge-LAST-clause-any_moment : goal.returns-then-page-ge-LAST-clause-any_moment
returns-then-page-ge-LAST-clause-any_moment g c = unpaged g.D.Disk c.args.self c.args.payload.now c.args.disk.now (g.met.D.Disk.only_now c.args.disk.now)
