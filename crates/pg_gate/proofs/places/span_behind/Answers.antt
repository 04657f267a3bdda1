use Rattle.std.proofs.Common.{inl, inr, arith}
use Rattle.std.proofs.lemmas.Result.{err_from_is_err_and}
use Rattle.pg_disk.specs.Image.{Leaves}
use Rattle.pg_disk.proofs.Composing.{started}
use Rattle.pg_gate.proofs.Payloads.{cut_of, next_is, none_past}
use Rattle.pg_gate.proofs.Reading.{no_reads}
use Rattle.pg_gate.proofs.places.span_behind.Goals as goal

pub returns-then-end-le1-clause-counted : goal.returns-then-end-le1-clause-counted
returns-then-end-le1-clause-counted g c = λ honest s there batches index are here.
    let end_is = c.requires.size honest s there in
    none_past s.bytes c.args.gate batches index (omega (arith, end_is)) (elim c.then-end-le1.either [
      | inl few ↦ inl (omega (arith, few, end_is))
      | inr past ↦ inr (omega (arith, past.1, end_is))
    ]) are here

pub returns-then-end-le1-clause-same : goal.returns-then-end-le1-clause-same
returns-then-end-le1-clause-same g c = (0, no_reads (g.D.Disk.tells c.args.disk.now))

pub returns-then-end-le1-clause-any_moment : goal.returns-then-end-le1-clause-any_moment
returns-then-end-le1-clause-any_moment g c = started g.D.Disk c.args.disk.now Leaves (g.met.D.Disk.only_now c.args.disk.now)

pub returns-in_err-next-clause-damaged : goal.returns-in_err-next-clause-damaged
returns-in_err-next-clause-damaged g c =
    let is = err_from_is_err_and c.from_residual.result c.from_residual.ensures.1 in
    rw (is.1, is.2) (cut_of c.args.file c.args.gate c.args.end (g.D.Disk.tells c.args.disk.now) c.in_err-next.field-0.0 (omega arith) (omega arith) c.requires.size c.in_err-next.ensures.damaged)

pub returns-clause-counted : goal.returns-clause-counted
returns-clause-counted g c = λ honest s there batches index are here.
    let end_is = c.requires.size honest s there in
    next_is s.bytes c.args.gate c.args.end c.in_ok-next.next batches index (omega (arith, end_is)) (omega (arith, end_is)) (c.in_ok-next.ensures.next honest s there end_is) c.in_ok-next.ensures.in_file are here
