use Rattle.std.proofs.Common.{length}
use Rattle.std.proofs.lemmas.Result.{err_from_is_err_and}
use Rattle.pg_store.proofs.Everywhere.{all_may, all_paged, all_ready, all_somehow, is_ready, spent_passed, unspent}
use Rattle.pg_store.proofs.Listed.{had, has, stay}
use Rattle.pg_store.proofs.stores.Stores.page.Goals as goal

pub page-requires-clause-ready : goal.page-requires-clause-ready
page-requires-clause-ready g c = is_ready c.args.address c.args.self c.replace-store.result (had c.args.address c.args.self c.self.inside.list.items c.self.view_is c.requires.there c.index_mut.result.now c.replace-store.result c.index_mut.ensures.value c.replace-store.ensures.value) c.args.payload.now (g.D.Disk.tells c.args.disk.now) (g.D.Disk.tells c.args.disk.now) c.requires.ready

pub returns-in_err-next-clause-other_files : goal.returns-in_err-next-clause-other_files
returns-in_err-next-clause-other_files g c = all_somehow c.args.address c.args.self c.replace-store.result (had c.args.address c.args.self c.self.inside.list.items c.self.view_is c.requires.there c.index_mut.result.now c.replace-store.result c.index_mut.ensures.value c.replace-store.ensures.value) c.args.payload.now (g.D.Disk.tells c.args.disk.now) (g.D.Disk.tells c.page.new.disk) c.requires.ready c.page.ensures.other_files

pub returns-in_err-next-clause-any_moment : goal.returns-in_err-next-clause-any_moment
returns-in_err-next-clause-any_moment g c = all_may c.args.address c.args.self c.replace-store.result (had c.args.address c.args.self c.self.inside.list.items c.self.view_is c.requires.there c.index_mut.result.now c.replace-store.result c.index_mut.ensures.value c.replace-store.ensures.value) c.args.payload.now g.D.Disk c.args.disk.now c.page.new.disk c.requires.ready c.page.ensures.any_moment

pub returns-clause-takes : goal.returns-clause-takes
returns-clause-takes g c = (c.replace-store.result, had c.args.address c.args.self c.self.inside.list.items c.self.view_is c.requires.there c.index_mut.result.now c.replace-store.result c.index_mut.ensures.value c.replace-store.ensures.value, (c.in_ok-next.next, has c.args.address c.args.self c.self.inside.list.items c.self.view_is c.requires.there c.index_mut.result.now c.replace-store.result c.index_mut.ensures.value c.replace-store.ensures.value c.replace-store.new.dest c.in_ok-next.next, c.in_ok-next.ensures.takes))

pub returns-clause-others : goal.returns-clause-others
returns-clause-others g c = stay c.args.address c.args.self c.self.inside.list.items c.self.view_is c.requires.there c.index_mut.result.now c.replace-store.result c.index_mut.ensures.value c.replace-store.ensures.value c.replace-store.new.dest c.in_ok-next.next

pub returns-clause-ready : goal.returns-clause-ready
returns-clause-ready g c = all_ready c.args.address c.args.self c.replace-store.result (had c.args.address c.args.self c.self.inside.list.items c.self.view_is c.requires.there c.index_mut.result.now c.replace-store.result c.index_mut.ensures.value c.replace-store.ensures.value) c.args.payload.now (g.D.Disk.tells c.args.disk.now) (g.D.Disk.tells c.page.new.disk) c.requires.ready _ c.in_ok-next.next c.in_ok-next.place (has c.args.address c.args.self c.self.inside.list.items c.self.view_is c.requires.there c.index_mut.result.now c.replace-store.result c.index_mut.ensures.value c.replace-store.ensures.value c.replace-store.new.dest c.in_ok-next.next) c.in_ok-next.ensures.paged (stay c.args.address c.args.self c.self.inside.list.items c.self.view_is c.requires.there c.index_mut.result.now c.replace-store.result c.index_mut.ensures.value c.replace-store.ensures.value c.replace-store.new.dest c.in_ok-next.next) c.in_ok-next.ensures.takes.address

pub returns-clause-paged : goal.returns-clause-paged
returns-clause-paged g c = all_paged c.args.address c.args.self c.replace-store.result (had c.args.address c.args.self c.self.inside.list.items c.self.view_is c.requires.there c.index_mut.result.now c.replace-store.result c.index_mut.ensures.value c.replace-store.ensures.value) c.args.payload.now (g.D.Disk.tells c.args.disk.now) (g.D.Disk.tells c.page.new.disk) c.requires.ready _ c.in_ok-next.next c.in_ok-next.place (has c.args.address c.args.self c.self.inside.list.items c.self.view_is c.requires.there c.index_mut.result.now c.replace-store.result c.index_mut.ensures.value c.replace-store.ensures.value c.replace-store.new.dest c.in_ok-next.next) c.in_ok-next.ensures.paged

pub returns-clause-other_files : goal.returns-clause-other_files
returns-clause-other_files g c = all_somehow c.args.address c.args.self c.replace-store.result (had c.args.address c.args.self c.self.inside.list.items c.self.view_is c.requires.there c.index_mut.result.now c.replace-store.result c.index_mut.ensures.value c.replace-store.ensures.value) c.args.payload.now (g.D.Disk.tells c.args.disk.now) (g.D.Disk.tells c.page.new.disk) c.requires.ready c.page.ensures.other_files

pub returns-clause-any_moment : goal.returns-clause-any_moment
returns-clause-any_moment g c = all_may c.args.address c.args.self c.replace-store.result (had c.args.address c.args.self c.self.inside.list.items c.self.view_is c.requires.there c.index_mut.result.now c.replace-store.result c.index_mut.ensures.value c.replace-store.ensures.value) c.args.payload.now g.D.Disk c.args.disk.now c.page.new.disk c.requires.ready c.page.ensures.any_moment

pub returns-in_err-next-clause-spent : goal.returns-in_err-next-clause-spent
returns-in_err-next-clause-spent g c =
    let is = err_from_is_err_and c.from_residual.result c.from_residual.ensures.1 in
    spent_passed c.args.address c.args.self c.replace-store.result (had c.args.address c.args.self c.self.inside.list.items c.self.view_is c.requires.there c.index_mut.result.now c.replace-store.result c.index_mut.ensures.value c.replace-store.ensures.value) c.page.result c.from_residual.result c.in_err-next.field-0.0 is.0 c.in_err-next.was is.1 is.2 (length c.args.payload.now) c.args.limit c.page.ensures.spent

pub returns-clause-spent : goal.returns-clause-spent
returns-clause-spent g c = unspent c.args.address c.args.self c.replace-store.result (had c.args.address c.args.self c.self.inside.list.items c.self.view_is c.requires.there c.index_mut.result.now c.replace-store.result c.index_mut.ensures.value c.replace-store.ensures.value) c.page.result (c.in_ok-next.next, c.in_ok-next.place) _ c.in_ok-next.was (length c.args.payload.now) c.args.limit c.page.ensures.spent
