use Rattle.pg_page.specs.Pages.{page_file}
use Rattle.pg_page.proofs.ReadLaws.{place_answer, place_fault, short_named}
use Rattle.pg_page.proofs.reading.next_place.Goals as goal

pub returns-clause-next : goal.returns-clause-next
returns-clause-next g c =
    place_answer c.page_file-file.result (page_file c.args.address c.args.after.position.page) c.page_file-file.ensures (g.D.Disk.tells c.args.disk.now) c.args.after c.in_ok-span.span c.in_ok-span.ensures.next c.place_after.result c.place_after.ensures.next

pub returns-clause-short : goal.returns-clause-short
returns-clause-short g c =
    short_named c.place_after.result c.page_file-file.result (page_file c.args.address c.args.after.position.page) c.page_file-file.ensures (g.D.Disk.tells c.args.disk.now) c.in_ok-span.ensures.short

pub returns-clause-damaged : goal.returns-clause-damaged
returns-clause-damaged g c =
    place_fault c.page_file-file.result (page_file c.args.address c.args.after.position.page) c.page_file-file.ensures (g.D.Disk.tells c.args.disk.now) c.args.after c.in_ok-span.span c.in_ok-span.ensures.next
    c.requires.place c.place_after.result c.place_after.ensures.damaged
