use Rattle.pg_store.specs.declared.store.Store.TheVariants.{Paging}
use Rattle.pg_store.proofs.EitherState.{normal_may, normal_paged, normal_takes, paging_may, paging_paged}
use Rattle.pg_store.proofs.store.Store.page.Goals as goal

pub returns-in_err-next-in-Normal-clause-any_moment : goal.returns-in_err-next-in-Normal-clause-any_moment
returns-in_err-next-in-Normal-clause-any_moment g c = normal_may c.args.self c.in-Normal.store c.in-Normal.is c.args.payload.now g.D.Disk c.args.disk.now c.start_with.new.disk c.start_with.ensures.any_moment

pub returns-in_ok-next-in-Normal-clause-any_moment : goal.returns-in_ok-next-in-Normal-clause-any_moment
returns-in_ok-next-in-Normal-clause-any_moment g c = normal_may c.args.self c.in-Normal.store c.in-Normal.is c.args.payload.now g.D.Disk c.args.disk.now c.start_with.new.disk c.start_with.ensures.any_moment

pub returns-in_ok-next-in-Normal-clause-paged : goal.returns-in_ok-next-in-Normal-clause-paged
returns-in_ok-next-in-Normal-clause-paged g c =
    normal_paged c.args.self c.in-Normal.store c.in-Normal.is c.args.payload.now _ c.in_ok-next-in-Normal.place (g.D.Disk.tells c.args.disk.now) (g.D.Disk.tells c.start_with.new.disk) c.in_ok-next-in-Normal.ensures.paged

pub returns-in_err-next-in-Paging-clause-any_moment : goal.returns-in_err-next-in-Paging-clause-any_moment
returns-in_err-next-in-Paging-clause-any_moment g c = paging_may c.args.self c.in-Paging.store c.in-Paging.is c.args.payload.now g.D.Disk c.args.disk.now c.page.new.disk c.page.ensures.any_moment

pub returns-in_ok-next-in-Paging-clause-any_moment : goal.returns-in_ok-next-in-Paging-clause-any_moment
returns-in_ok-next-in-Paging-clause-any_moment g c = paging_may c.args.self c.in-Paging.store c.in-Paging.is c.args.payload.now g.D.Disk c.args.disk.now c.page.new.disk c.page.ensures.any_moment

pub returns-in_ok-next-in-Paging-clause-paged : goal.returns-in_ok-next-in-Paging-clause-paged
returns-in_ok-next-in-Paging-clause-paged g c =
    paging_paged c.args.self c.in-Paging.store c.in-Paging.is c.args.payload.now c.in_ok-next-in-Paging.next c.in_ok-next-in-Paging.place (g.D.Disk.tells c.args.disk.now) (g.D.Disk.tells c.page.new.disk) c.in_ok-next-in-Paging.ensures.paged

pub returns-in_ok-next-in-Normal-clause-takes : goal.returns-in_ok-next-in-Normal-clause-takes
returns-in_ok-next-in-Normal-clause-takes g c =
    normal_takes c.args.self c.in-Normal.store c.in-Normal.is c.args.payload.now c.args.limit (Paging c.in_ok-next-in-Normal.next) c.in_ok-next-in-Normal.place c.in_ok-next-in-Normal.ensures.takes
