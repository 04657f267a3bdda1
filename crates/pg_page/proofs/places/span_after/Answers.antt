use Rattle.std.proofs.Common.{◌+◌, arith}
use Rattle.pg_gate.proofs.Reading.{as_read_before, reads_then}
use Rattle.pg_page.proofs.ReadLaws.{err_tells, later_fault, later_next, ok_tells, short_read}
use Rattle.pg_page.proofs.places.span_after.Goals as goal

pub returns-clause-next : goal.returns-clause-next
returns-clause-next g c =
    let old = g.D.Disk.tells c.args.disk.now in
    let mid = g.D.Disk.tells c.length.new.self in
    let now = g.D.Disk.tells c.span_at.new.disk in
    let n = c.in_ok-span.ensures.same.0 in
    ok_tells c.span_behind.result _ _ _
    (λ next reads in_file. later_next c.args.file old now (0 + n) c.in_ok-end.end (reads_then old mid now 0 n c.length.ensures.same c.in_ok-span.ensures.same.1) c.in_ok-end.ensures.length (omega arith) c.args.offset c.in_ok-span.span
    (as_read_before c.args.file old mid 0 _ c.length.ensures.same c.in_ok-span.ensures.span) next reads in_file)
    c.span_behind.ensures.next c.span_behind.ensures.in_file

pub returns-clause-short : goal.returns-clause-short
returns-clause-short g c = short_read c.span_behind.result c.args.file (g.D.Disk.tells c.args.disk.now) c.in_ok-end.end c.in_ok-end.ensures.length (omega arith)

pub returns-clause-same : goal.returns-clause-same
returns-clause-same g c =
    let old = g.D.Disk.tells c.args.disk.now in
    let mid = g.D.Disk.tells c.length.new.self in
    let now = g.D.Disk.tells c.span_at.new.disk in
    let n = c.in_ok-span.ensures.same.0 in
    let m = c.span_behind.ensures.same.0 in
    (0 + n + m, reads_then old now (g.D.Disk.tells c.span_behind.new.disk) (0 + n) m (reads_then old mid now 0 n c.length.ensures.same c.in_ok-span.ensures.same.1) c.span_behind.ensures.same.1)

pub returns-clause-damaged : goal.returns-clause-damaged
returns-clause-damaged g c =
    let old = g.D.Disk.tells c.args.disk.now in
    let mid = g.D.Disk.tells c.length.new.self in
    let now = g.D.Disk.tells c.span_at.new.disk in
    let n = c.in_ok-span.ensures.same.0 in
    err_tells c.span_behind.result _ _ _
    (λ e some is. later_fault c.args.file old now (0 + n) c.in_ok-end.end (reads_then old mid now 0 n c.length.ensures.same c.in_ok-span.ensures.same.1) c.in_ok-end.ensures.length (omega arith) c.args.offset c.in_ok-span.span
    (as_read_before c.args.file old mid 0 _ c.length.ensures.same c.in_ok-span.ensures.span) c.requires.stands e some is)
    c.span_behind.ensures.only c.span_behind.ensures.damaged
