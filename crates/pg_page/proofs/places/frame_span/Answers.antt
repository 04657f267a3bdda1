use Rattle.pg_gate.proofs.Reading.{as_read_before}
use Rattle.pg_page.proofs.PayloadLaws.{ok_is, too_long}
use Rattle.pg_page.proofs.places.frame_span.Goals as goal

pub returns-clause-span : goal.returns-clause-span
returns-clause-span g c =
    ok_is c.not_too_long.result c.in_ok-span.span _ c.not_too_long.ensures.same
    (as_read_before c.args.file (g.D.Disk.tells c.args.disk.now) (g.D.Disk.tells c.length.new.self) 0 _ c.length.ensures.same c.in_ok-span.ensures.span)

pub returns-clause-damaged : goal.returns-clause-damaged
returns-clause-damaged g c =
    too_long c.args.file (g.D.Disk.tells c.args.disk.now) c.args.offset c.in_ok-span.span c.requires.stands
    (as_read_before c.args.file (g.D.Disk.tells c.args.disk.now) (g.D.Disk.tells c.length.new.self) 0 _ c.length.ensures.same c.in_ok-span.ensures.span) c.not_too_long.result c.not_too_long.ensures.damaged
