use Rattle.std.proofs.Common.{refl}
use Rattle.pg_store.proofs.Runs.{added, adding}
use Rattle.pg_store.proofs.store.PagingStore.add.Goals as goal

pub returns-in_err-writer-clause-any_moment : goal.returns-in_err-writer-clause-any_moment
returns-in_err-writer-clause-any_moment g c = adding g.D.Disk c.args.self c.args.payload.now c.args.disk.now c.write.new.disk c.requires.room c.write.ensures.any_moment

pub returns-clause-paged : goal.returns-clause-paged
returns-clause-paged g c =
    added c.args.self c.args.payload.now _ c.in_ok-writer.place (g.D.Disk.tells c.args.disk.now) (g.D.Disk.tells c.write.new.disk) refl c.in_ok-writer.ensures.page.1 c.in_ok-writer.ensures.place.0 c.in_ok-writer.ensures.written

pub returns-clause-any_moment : goal.returns-clause-any_moment
returns-clause-any_moment g c = adding g.D.Disk c.args.self c.args.payload.now c.args.disk.now c.write.new.disk c.requires.room c.write.ensures.any_moment
