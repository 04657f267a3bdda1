use Rattle.std.proofs.Common.{refl, arith}
use Rattle.std.proofs.lemmas.Result.{err_from_is_err_and}
use Rattle.pg_gate.proofs.Reading.{one_read}
use Rattle.pg_gate.proofs.Taking.{gate_taken}
use Rattle.pg_gate.proofs.Walking.{is_whole, is_cut}
use Rattle.pg_gate.proofs.spans.next_span.Goals as goal

pub returns-clause-next : goal.returns-clause-next
returns-clause-next g c = λ honest s there end_is.
    is_whole c.args.gate c.in_ok-count.count s.bytes _ c.read.new.buf refl (omega arith) (c.in_ok-count.ensures.bytes honest s there) c.payload_length-length.result (omega arith) c.payload_length-length.ensures.whole c.payload_length-length.ensures.cut
    (omega arith) (omega arith) (omega arith)

pub returns-then-length-saturating_sub-clause-damaged : goal.returns-then-length-saturating_sub-clause-damaged
returns-then-length-saturating_sub-clause-damaged g c = (
  refl,
  refl,
  (
    refl,
    λ honest s there end_is.
        is_cut c.args.gate c.in_ok-count.count s.bytes _ c.read.new.buf refl (omega arith) (c.in_ok-count.ensures.bytes honest s there) c.payload_length-length.result (omega arith) c.payload_length-length.ensures.whole c.payload_length-length.ensures.cut
        (omega arith) (omega arith) (omega arith),
  ),
)

pub returns-in_err-count-clause-same : goal.returns-in_err-count-clause-same
returns-in_err-count-clause-same g c = (0, c.in_err-count.ensures.same_err)

pub returns-in_err-count-clause-taken : goal.returns-in_err-count-clause-taken
returns-in_err-count-clause-taken g c = gate_taken c.args.file (g.D.Disk.tells c.args.disk.now) (g.D.Disk.tells c.read.new.self) 0 c.args.gate c.in_err-count.ensures.same_err (omega arith) (λ h s there. omega arith)

pub returns-in_err-count-clause-any_moment : goal.returns-in_err-count-clause-any_moment
returns-in_err-count-clause-any_moment g c = one_read g.D.Disk c.args.disk.now c.read.new.self (g.met.D.Disk.only_now c.args.disk.now) c.read.ensures.time

pub returns-in_err-count-clause-damaged : goal.returns-in_err-count-clause-damaged
returns-in_err-count-clause-damaged g c =
    let is = err_from_is_err_and c.from_residual.result c.from_residual.ensures.1 in
    rw (is.1, is.2) tt

pub returns-in_err-count-clause-only : goal.returns-in_err-count-clause-only
returns-in_err-count-clause-only g c =
    let is = err_from_is_err_and c.from_residual.result c.from_residual.ensures.1 in
    rw (is.1, is.2) tt

pub returns-in_err-count-clause-cause : goal.returns-in_err-count-clause-cause
returns-in_err-count-clause-cause g c =
    let is = err_from_is_err_and c.from_residual.result c.from_residual.ensures.1 in
    rw (is.1, is.2) c.in_err-count.ensures.cause

pub returns-then-not-is_open-clause-same : goal.returns-then-not-is_open-clause-same
returns-then-not-is_open-clause-same g c = (c.in_ok-count.count, c.in_ok-count.ensures.same)

pub returns-then-not-is_open-clause-taken : goal.returns-then-not-is_open-clause-taken
returns-then-not-is_open-clause-taken g c = gate_taken c.args.file (g.D.Disk.tells c.args.disk.now) (g.D.Disk.tells c.read.new.self) c.in_ok-count.count c.args.gate c.in_ok-count.ensures.same c.in_ok-count.ensures.count (λ h s there. omega (arith, (c.in_ok-count.ensures.bytes h s there).count))

pub returns-then-not-is_open-clause-any_moment : goal.returns-then-not-is_open-clause-any_moment
returns-then-not-is_open-clause-any_moment g c = one_read g.D.Disk c.args.disk.now c.read.new.self (g.met.D.Disk.only_now c.args.disk.now) c.read.ensures.time

pub returns-then-length-saturating_sub-clause-same : goal.returns-then-length-saturating_sub-clause-same
returns-then-length-saturating_sub-clause-same g c = (c.in_ok-count.count, c.in_ok-count.ensures.same)

pub returns-then-length-saturating_sub-clause-taken : goal.returns-then-length-saturating_sub-clause-taken
returns-then-length-saturating_sub-clause-taken g c = gate_taken c.args.file (g.D.Disk.tells c.args.disk.now) (g.D.Disk.tells c.read.new.self) c.in_ok-count.count c.args.gate c.in_ok-count.ensures.same c.in_ok-count.ensures.count (λ h s there. omega (arith, (c.in_ok-count.ensures.bytes h s there).count))

pub returns-then-length-saturating_sub-clause-any_moment : goal.returns-then-length-saturating_sub-clause-any_moment
returns-then-length-saturating_sub-clause-any_moment g c = one_read g.D.Disk c.args.disk.now c.read.new.self (g.met.D.Disk.only_now c.args.disk.now) c.read.ensures.time

pub returns-clause-same : goal.returns-clause-same
returns-clause-same g c = (c.in_ok-count.count, c.in_ok-count.ensures.same)

pub returns-clause-taken : goal.returns-clause-taken
returns-clause-taken g c = gate_taken c.args.file (g.D.Disk.tells c.args.disk.now) (g.D.Disk.tells c.read.new.self) c.in_ok-count.count c.args.gate c.in_ok-count.ensures.same c.in_ok-count.ensures.count (λ h s there. omega (arith, (c.in_ok-count.ensures.bytes h s there).count))

pub returns-clause-any_moment : goal.returns-clause-any_moment
returns-clause-any_moment g c = one_read g.D.Disk c.args.disk.now c.read.new.self (g.met.D.Disk.only_now c.args.disk.now) c.read.ensures.time
