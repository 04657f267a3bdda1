use Rattle.pg_page.specs.Pages.{page_file}
use Rattle.pg_page.proofs.PayloadLaws.{frame_answer, frame_fault}
use Rattle.pg_page.proofs.reading.read_frame.Goals as goal

pub returns-clause-frame : goal.returns-clause-frame
returns-clause-frame g c =
    frame_answer c.page_file-file.result (page_file c.args.address c.args.place.position.page) c.page_file-file.ensures (g.D.Disk.tells c.args.disk.now) c.args.place c.in_ok-payload.payload c.in_ok-payload.ensures.payload c.frame_of.result c.frame_of.ensures.frame

pub returns-clause-damaged : goal.returns-clause-damaged
returns-clause-damaged g c =
    frame_fault c.page_file-file.result (page_file c.args.address c.args.place.position.page) c.page_file-file.ensures (g.D.Disk.tells c.args.disk.now) c.args.place c.in_ok-payload.payload c.in_ok-payload.ensures.payload c.requires.place c.frame_of.result c.frame_of.ensures.damaged
