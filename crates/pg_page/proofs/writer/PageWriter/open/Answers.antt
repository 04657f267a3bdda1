use Rattle.pg_page.specs.Pages.{page_file}
use Rattle.pg_page.proofs.OpeningLaws.{opens, too_many}
use Rattle.pg_page.proofs.writer.PageWriter.open.Goals as goal

pub returns-clause-opened : goal.returns-clause-opened
returns-clause-opened g c =
    opens c.page_file.result (page_file c.args.address c.args.page) c.page_file.ensures (g.D.Disk.tells c.args.disk.now) (g.D.Disk.tells c.scan.new.disk) c.in_ok-rest.rest c.in_ok-rest.spans.items c.deref.result.now c.deref.ensures.value c.in_ok-rest.ensures.scanned
    c.writer_of.result c.writer_of.ensures.same

pub returns-clause-damaged : goal.returns-clause-damaged
returns-clause-damaged g c =
    too_many c.page_file.result (page_file c.args.address c.args.page) c.page_file.ensures (g.D.Disk.tells c.args.disk.now) (g.D.Disk.tells c.scan.new.disk) c.in_ok-rest.rest c.in_ok-rest.spans.items c.deref.result.now c.deref.ensures.value c.in_ok-rest.ensures.scanned
    c.in_ok-rest.ensures.file c.writer_of.result c.writer_of.ensures.damaged
