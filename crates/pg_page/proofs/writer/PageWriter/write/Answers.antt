use Rattle.std.proofs.Common.{refl}
use Rattle.pg_page.proofs.WritingLaws.{adding, written}
use Rattle.pg_page.proofs.writer.PageWriter.write.Goals as goal

pub returns-in_err-rest-clause-any_moment : goal.returns-in_err-rest-clause-any_moment
returns-in_err-rest-clause-any_moment g c = adding c.args.self c.args.payload.now g.D.Disk c.args.disk.now c.append_at_once.new.disk c.as_slice.result.now c.as_slice.ensures.value c.append_at_once.ensures.any_moment

pub returns-clause-any_moment : goal.returns-clause-any_moment
returns-clause-any_moment g c = adding c.args.self c.args.payload.now g.D.Disk c.args.disk.now c.append_at_once.new.disk c.as_slice.result.now c.as_slice.ensures.value c.append_at_once.ensures.any_moment

pub returns-clause-written : goal.returns-clause-written
returns-clause-written g c =
    written c.args.self c.args.payload.now c.as_slice.result.now c.as_slice.ensures.value (g.D.Disk.tells c.args.disk.now) (g.D.Disk.tells c.append_at_once.new.disk) _ c.in_ok-rest.rest refl refl c.in_ok-rest.ensures.appended
