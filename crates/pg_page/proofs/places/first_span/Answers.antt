use Rattle.std.proofs.Common.{arith}
use Rattle.pg_page.proofs.ReadLaws.{err_tells, first_fault, first_next, ok_tells, short_read}
use Rattle.pg_page.proofs.places.first_span.Goals as goal

pub returns-clause-next : goal.returns-clause-next
returns-clause-next g c =
    ok_tells c.span_behind.result _ _ _
    (λ next reads in_file. first_next c.args.file (g.D.Disk.tells c.args.disk.now) (g.D.Disk.tells c.length.new.self) 0 c.in_ok-end.end c.length.ensures.same c.in_ok-end.ensures.length (omega arith) next reads in_file)
    c.span_behind.ensures.next c.span_behind.ensures.in_file

pub returns-clause-short : goal.returns-clause-short
returns-clause-short g c = short_read c.span_behind.result c.args.file (g.D.Disk.tells c.args.disk.now) c.in_ok-end.end c.in_ok-end.ensures.length (omega arith)

pub returns-clause-damaged : goal.returns-clause-damaged
returns-clause-damaged g c =
    err_tells c.span_behind.result _ _ _
    (λ e some is. first_fault c.args.file (g.D.Disk.tells c.args.disk.now) (g.D.Disk.tells c.length.new.self) 0 c.in_ok-end.end c.length.ensures.same c.in_ok-end.ensures.length (omega arith) e some is)
    c.span_behind.ensures.only c.span_behind.ensures.damaged
