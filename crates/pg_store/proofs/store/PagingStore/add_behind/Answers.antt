use Rattle.pg_store.proofs.Runs.{may_one, may_two, two_paged, two_somehow}
use Rattle.pg_store.proofs.store.PagingStore.add_behind.Goals as goal

pub returns-in_err-next-clause-any_moment : goal.returns-in_err-next-clause-any_moment
returns-in_err-next-clause-any_moment g c = may_one g.D.Disk c.args.self c.args.payload.now c.args.disk.now c.turn.new.disk c.turn.ensures.any_moment

pub returns-in_err-store-clause-other_files : goal.returns-in_err-store-clause-other_files
returns-in_err-store-clause-other_files g c =
    two_somehow c.args.self c.in_ok-next.next c.args.payload.now c.in_ok-next.ensures.same.0 c.in_ok-next.ensures.same.1 (g.D.Disk.tells c.args.disk.now) (g.D.Disk.tells c.turn.new.disk) (g.D.Disk.tells c.add.new.disk) c.turn.ensures.other_files c.add.ensures.other_files

pub returns-in_err-store-clause-any_moment : goal.returns-in_err-store-clause-any_moment
returns-in_err-store-clause-any_moment g c =
    may_two c.args.self c.in_ok-next.next c.args.payload.now c.in_ok-next.ensures.same.0 c.in_ok-next.ensures.same.1 g.D.Disk c.args.disk.now c.turn.new.disk c.add.new.disk c.turn.ensures.any_moment c.in_ok-next.ensures.turned c.add.ensures.any_moment

pub returns-clause-paged : goal.returns-clause-paged
returns-clause-paged g c =
    two_paged c.args.self c.in_ok-next.next c.args.payload.now c.in_ok-next.ensures.same.0 c.in_ok-next.ensures.same.1 c.in_ok-store.store c.in_ok-store.place (g.D.Disk.tells c.args.disk.now) (g.D.Disk.tells c.turn.new.disk) (g.D.Disk.tells c.add.new.disk) c.in_ok-next.ensures.turned c.in_ok-store.ensures.paged

pub returns-clause-other_files : goal.returns-clause-other_files
returns-clause-other_files g c =
    two_somehow c.args.self c.in_ok-next.next c.args.payload.now c.in_ok-next.ensures.same.0 c.in_ok-next.ensures.same.1 (g.D.Disk.tells c.args.disk.now) (g.D.Disk.tells c.turn.new.disk) (g.D.Disk.tells c.add.new.disk) c.turn.ensures.other_files c.add.ensures.other_files

pub returns-clause-any_moment : goal.returns-clause-any_moment
returns-clause-any_moment g c =
    may_two c.args.self c.in_ok-next.next c.args.payload.now c.in_ok-next.ensures.same.0 c.in_ok-next.ensures.same.1 g.D.Disk c.args.disk.now c.turn.new.disk c.add.new.disk c.turn.ensures.any_moment c.in_ok-next.ensures.turned c.add.ensures.any_moment
