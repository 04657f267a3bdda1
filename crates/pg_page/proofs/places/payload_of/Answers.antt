use Rattle.std.proofs.Common.{◌+◌}
use Rattle.pg_gate.proofs.Reading.{reads_then}
use Rattle.pg_page.proofs.PayloadLaws.{is_payload, none_wanting}
use Rattle.pg_page.proofs.places.payload_of.Goals as goal

pub returns-clause-payload : goal.returns-clause-payload
returns-clause-payload g c =
    is_payload c.args.file (g.D.Disk.tells c.args.disk.now) c.args.offset c.in_ok-span.span c.requires.stands c.in_ok-span.ensures.span (g.D.Disk.tells c.frame_span.new.disk) c.in_ok-span.ensures.same.0 c.in_ok-span.ensures.same.1 c.read_span.result c.read_span.ensures.bytes

pub returns-clause-same : goal.returns-clause-same
returns-clause-same g c =
    let n = c.in_ok-span.ensures.same in
    let m = c.read_span.ensures.same in
    (n.0 + m.0, reads_then (g.D.Disk.tells c.args.disk.now) (g.D.Disk.tells c.frame_span.new.disk) (g.D.Disk.tells c.read_span.new.disk) n.0 m.0 n.1 m.1)

pub returns-clause-damaged : goal.returns-clause-damaged
returns-clause-damaged g c =
    none_wanting c.args.file (g.D.Disk.tells c.args.disk.now) c.args.offset c.in_ok-span.span c.requires.stands c.in_ok-span.ensures.span (g.D.Disk.tells c.frame_span.new.disk) c.in_ok-span.ensures.same.0 c.in_ok-span.ensures.same.1
    c.read_span.result c.read_span.ensures.only c.read_span.ensures.damaged
