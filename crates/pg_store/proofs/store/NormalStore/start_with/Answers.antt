use Rattle.pg_store.proofs.EitherState.{start_may, start_paged, start_somehow, starting_may}
use Rattle.pg_store.proofs.store.NormalStore.start_with.Goals as goal

pub returns-in_err-store-clause-any_moment : goal.returns-in_err-store-clause-any_moment
returns-in_err-store-clause-any_moment g c = starting_may g.D.Disk c.args.self c.args.payload.now c.args.disk.now c.start.new.disk c.start.ensures.any_moment

pub returns-in_err-next-clause-any_moment : goal.returns-in_err-next-clause-any_moment
returns-in_err-next-clause-any_moment g c =
    start_may c.args.self c.in_ok-store.store c.args.payload.now c.in_ok-store.ensures.same.0 c.in_ok-store.ensures.same.1 g.D.Disk c.args.disk.now c.start.new.disk c.add.new.disk c.start.ensures.any_moment c.in_ok-store.ensures.started c.add.ensures.any_moment

pub returns-in_err-next-clause-other_files : goal.returns-in_err-next-clause-other_files
returns-in_err-next-clause-other_files g c =
    start_somehow c.args.self c.in_ok-store.store c.args.payload.now c.in_ok-store.ensures.same.0 c.in_ok-store.ensures.same.1 (g.D.Disk.tells c.args.disk.now) (g.D.Disk.tells c.start.new.disk) (g.D.Disk.tells c.add.new.disk) c.in_ok-store.ensures.started c.add.ensures.other_files

pub returns-clause-paged : goal.returns-clause-paged
returns-clause-paged g c =
    start_paged c.args.self c.in_ok-store.store c.args.payload.now c.in_ok-store.ensures.same.0 c.in_ok-store.ensures.same.1 c.in_ok-next.next c.in_ok-next.place (g.D.Disk.tells c.args.disk.now) (g.D.Disk.tells c.start.new.disk) (g.D.Disk.tells c.add.new.disk) c.in_ok-store.ensures.started c.in_ok-next.ensures.paged

pub returns-clause-other_files : goal.returns-clause-other_files
returns-clause-other_files g c =
    start_somehow c.args.self c.in_ok-store.store c.args.payload.now c.in_ok-store.ensures.same.0 c.in_ok-store.ensures.same.1 (g.D.Disk.tells c.args.disk.now) (g.D.Disk.tells c.start.new.disk) (g.D.Disk.tells c.add.new.disk) c.in_ok-store.ensures.started c.add.ensures.other_files

pub returns-clause-any_moment : goal.returns-clause-any_moment
returns-clause-any_moment g c =
    start_may c.args.self c.in_ok-store.store c.args.payload.now c.in_ok-store.ensures.same.0 c.in_ok-store.ensures.same.1 g.D.Disk c.args.disk.now c.start.new.disk c.add.new.disk c.start.ensures.any_moment c.in_ok-store.ensures.started c.add.ensures.any_moment
