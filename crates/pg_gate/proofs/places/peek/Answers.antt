use Rattle.std.proofs.Common.{◌≡◌, ◌+◌, inl, [], length, refl, arith}
use Rattle.std.proofs.lemmas.Result.{err_from_is_err_and}
use Rattle.pg_gate.specs.Spans.{IsWalked}
use Rattle.pg_gate.proofs.Reading.{as_read_before, cut_after, failed_unspent, none_within, one_read, reads_then, run_reads, still_there, within_after}
use Rattle.pg_gate.proofs.Taking.{gates_after, none_read}
use Rattle.pg_gate.proofs.Unique.{none_fit}
use Rattle.pg_gate.proofs.Walking.{walked_spans}
use Rattle.pg_gate.proofs.places.peek.Goals as goal

pub returns-then-end-le1-clause-places : goal.returns-then-end-le1-clause-places
returns-then-end-le1-clause-places g c = λ honest s there.
    let end_is = c.in_ok-end.ensures.length honest s there in
    record { batches = []; are = inl (omega (arith, end_is), refl); fit = none_fit; places = c.new.ensures.items }

pub returns-clause-places : goal.returns-clause-places
returns-clause-places g c = λ honest s there.
    let end_is = c.in_ok-end.ensures.length honest s there in
    walked_spans s.bytes c.in_ok-spans.field-0-1 c.in_ok-spans.spans.items (omega (arith, end_is, c.in_ok-spans.ensures.in_file)) (omega (arith, c.in_ok-spans.ensures.in_file))
    (as_read_before c.args.file (g.D.Disk.tells c.args.disk.now) (g.D.Disk.tells c.length.new.self) 0 (λ bytes. c.in_ok-end.end ≡ length bytes → IsWalked bytes c.in_ok-spans.field-0-1 c.in_ok-spans.spans.items)
    c.in_ok-end.ensures.same c.in_ok-spans.ensures.walked honest s there end_is)

pub returns-clause-taken : goal.returns-clause-taken
returns-clause-taken g c =
    gates_after c.args.file (g.D.Disk.tells c.args.disk.now) (g.D.Disk.tells c.length.new.self) (g.D.Disk.tells c.walk.new.disk) c.in_ok-end.end c.in_ok-spans.spans.items c.in_ok-end.ensures.same c.in_ok-end.ensures.length c.in_ok-spans.ensures.taken

pub walk-requires-clause-there : goal.walk-requires-clause-there
walk-requires-clause-there g c = still_there c.args.file (g.D.Disk.tells c.args.disk.now) (g.D.Disk.tells c.length.new.self) 0 c.length.ensures.same c.requires

pub returns-in_err-end-clause-same : goal.returns-in_err-end-clause-same
returns-in_err-end-clause-same g c = (0, c.length.ensures.same)

pub returns-in_err-end-clause-taken_err : goal.returns-in_err-end-clause-taken_err
returns-in_err-end-clause-taken_err g c = none_within c.from_residual.result c.args.file (g.D.Disk.tells c.args.disk.now) (g.D.Disk.tells c.length.new.self) c.length.ensures.same

pub returns-in_err-end-clause-any_moment : goal.returns-in_err-end-clause-any_moment
returns-in_err-end-clause-any_moment g c = one_read g.D.Disk c.args.disk.now c.length.new.self (g.met.D.Disk.only_now c.args.disk.now) c.length.ensures.time

pub returns-in_err-end-clause-damaged : goal.returns-in_err-end-clause-damaged
returns-in_err-end-clause-damaged g c =
    let is = err_from_is_err_and c.from_residual.result c.from_residual.ensures.1 in
    rw (is.1, is.2) tt

pub returns-in_err-end-clause-only : goal.returns-in_err-end-clause-only
returns-in_err-end-clause-only g c =
    let is = err_from_is_err_and c.from_residual.result c.from_residual.ensures.1 in
    rw (is.1, is.2) failed_unspent

pub returns-in_err-end-clause-cause : goal.returns-in_err-end-clause-cause
returns-in_err-end-clause-cause g c =
    let is = err_from_is_err_and c.from_residual.result c.from_residual.ensures.1 in
    rw (is.1, is.2) c.in_err-end.ensures.cause

pub returns-then-end-le1-clause-same : goal.returns-then-end-le1-clause-same
returns-then-end-le1-clause-same g c = (0, c.length.ensures.same)

pub returns-then-end-le1-clause-taken : goal.returns-then-end-le1-clause-taken
returns-then-end-le1-clause-taken g c = none_read c.args.file (g.D.Disk.tells c.args.disk.now) (g.D.Disk.tells c.length.new.self) c.new.result.items c.new.ensures.items c.length.ensures.same

pub returns-then-end-le1-clause-any_moment : goal.returns-then-end-le1-clause-any_moment
returns-then-end-le1-clause-any_moment g c = one_read g.D.Disk c.args.disk.now c.length.new.self (g.met.D.Disk.only_now c.args.disk.now) c.length.ensures.time

pub returns-in_err-spans-clause-same : goal.returns-in_err-spans-clause-same
returns-in_err-spans-clause-same g c = (
  0 + c.walk.ensures.same.0,
  reads_then (g.D.Disk.tells c.args.disk.now) (g.D.Disk.tells c.length.new.self) (g.D.Disk.tells c.walk.new.disk) 0 c.walk.ensures.same.0 c.length.ensures.same c.walk.ensures.same.1,
)

pub returns-in_err-spans-clause-taken_err : goal.returns-in_err-spans-clause-taken_err
returns-in_err-spans-clause-taken_err g c = within_after c.args.file (g.D.Disk.tells c.args.disk.now) (g.D.Disk.tells c.length.new.self) c.in_ok-end.end c.length.ensures.same c.in_ok-end.ensures.length c.from_residual-in_err-spans.result (g.D.Disk.tells c.walk.new.disk) c.in_err-spans.ensures.taken_err

pub returns-in_err-spans-clause-any_moment : goal.returns-in_err-spans-clause-any_moment
returns-in_err-spans-clause-any_moment g c = run_reads g.D.Disk c.args.disk.now c.length.new.self c.walk.new.disk 0 c.length.ensures.same (one_read g.D.Disk c.args.disk.now c.length.new.self (g.met.D.Disk.only_now c.args.disk.now) c.length.ensures.time) c.walk.ensures.any_moment

pub returns-in_err-spans-clause-damaged : goal.returns-in_err-spans-clause-damaged
returns-in_err-spans-clause-damaged g c =
    let is = err_from_is_err_and c.from_residual-in_err-spans.result c.from_residual-in_err-spans.ensures.1 in
    rw (is.1, is.2) (cut_after c.args.file (g.D.Disk.tells c.args.disk.now) (g.D.Disk.tells c.length.new.self) c.in_ok-end.end c.length.ensures.same c.in_ok-end.ensures.length c.in_err-spans.field-0.0 c.in_err-spans.ensures.damaged)

pub returns-in_err-spans-clause-only : goal.returns-in_err-spans-clause-only
returns-in_err-spans-clause-only g c =
    let is = err_from_is_err_and c.from_residual-in_err-spans.result c.from_residual-in_err-spans.ensures.1 in
    rw (is.1, is.2) c.in_err-spans.ensures.only

pub returns-clause-same : goal.returns-clause-same
returns-clause-same g c = (
  0 + c.walk.ensures.same.0,
  reads_then (g.D.Disk.tells c.args.disk.now) (g.D.Disk.tells c.length.new.self) (g.D.Disk.tells c.walk.new.disk) 0 c.walk.ensures.same.0 c.length.ensures.same c.walk.ensures.same.1,
)

pub returns-clause-any_moment : goal.returns-clause-any_moment
returns-clause-any_moment g c = run_reads g.D.Disk c.args.disk.now c.length.new.self c.walk.new.disk 0 c.length.ensures.same (one_read g.D.Disk c.args.disk.now c.length.new.self (g.met.D.Disk.only_now c.args.disk.now) c.length.ensures.time) c.walk.ensures.any_moment
