use Rattle.std.proofs.Common.{◌≡◌, Some, refl, sym, arith, ◌∙◌, ap}
use Rattle.std.proofs.lemmas.Result.{err_from_is_err_and}
use Rattle.std.proofs.lemmas.Grind.{common_steps}
use Rattle.pg_disk.specs.Image.{Leaves}
use Rattle.pg_disk.proofs.Composing.{started}
use Rattle.pg_gate.specs.Payloads.{payload_at}
use Rattle.pg_gate.proofs.Payloads.{payload_there}
use Rattle.pg_gate.proofs.Reading.{failed_unspent, memory_unspent, no_reads, one_read}
use Rattle.pg_gate.proofs.places.read_span.Goals as goal

pub returns-in_err-bytes-clause-same : goal.returns-in_err-bytes-clause-same
returns-in_err-bytes-clause-same g c = (0, no_reads (g.D.Disk.tells c.args.disk.now))

pub returns-in_err-bytes-clause-any_moment : goal.returns-in_err-bytes-clause-any_moment
returns-in_err-bytes-clause-any_moment g c = started g.D.Disk c.args.disk.now Leaves (g.met.D.Disk.only_now c.args.disk.now)

pub returns-in_err-bytes-clause-damaged : goal.returns-in_err-bytes-clause-damaged
returns-in_err-bytes-clause-damaged g c =
    let is = err_from_is_err_and c.from_residual.result c.from_residual.ensures.1 in
    rw (is.1, is.2) tt

pub returns-in_err-bytes-clause-only : goal.returns-in_err-bytes-clause-only
returns-in_err-bytes-clause-only g c =
    let is = err_from_is_err_and c.from_residual.result c.from_residual.ensures.1 in
    rw (is.1, is.2) memory_unspent

pub returns-in_err-bytes-clause-cause : goal.returns-in_err-bytes-clause-cause
returns-in_err-bytes-clause-cause g c =
    let is = err_from_is_err_and c.from_residual.result c.from_residual.ensures.1 in
    rw (is.1, is.2) refl

pub returns-in_err-read-clause-same : goal.returns-in_err-read-clause-same
returns-in_err-read-clause-same g c = (0, c.in_err-read.ensures.same_err)

pub returns-in_err-read-clause-any_moment : goal.returns-in_err-read-clause-any_moment
returns-in_err-read-clause-any_moment g c = one_read g.D.Disk c.args.disk.now c.read.new.self (g.met.D.Disk.only_now c.args.disk.now) c.read.ensures.time

pub returns-in_err-read-clause-damaged : goal.returns-in_err-read-clause-damaged
returns-in_err-read-clause-damaged g c =
    let is = err_from_is_err_and c.from_residual-in_err-read.result c.from_residual-in_err-read.ensures.1 in
    rw (is.1, is.2) tt

pub returns-in_err-read-clause-only : goal.returns-in_err-read-clause-only
returns-in_err-read-clause-only g c =
    let is = err_from_is_err_and c.from_residual-in_err-read.result c.from_residual-in_err-read.ensures.1 in
    rw (is.1, is.2) failed_unspent

pub returns-in_err-read-clause-cause : goal.returns-in_err-read-clause-cause
returns-in_err-read-clause-cause g c =
    let is = err_from_is_err_and c.from_residual-in_err-read.result c.from_residual-in_err-read.ensures.1 in
    rw (is.1, is.2) c.in_err-read.ensures.cause

pub returns-then-branch-count-clause-same : goal.returns-then-branch-count-clause-same
returns-then-branch-count-clause-same g c = (c.in_ok-read.field-0, c.in_ok-read.ensures.same)

pub returns-then-branch-count-clause-any_moment : goal.returns-then-branch-count-clause-any_moment
returns-then-branch-count-clause-any_moment g c = one_read g.D.Disk c.args.disk.now c.read.new.self (g.met.D.Disk.only_now c.args.disk.now) c.read.ensures.time

pub returns-clause-same : goal.returns-clause-same
returns-clause-same g c = (c.in_ok-read.field-0, c.in_ok-read.ensures.same)

pub returns-clause-any_moment : goal.returns-clause-any_moment
returns-clause-any_moment g c = one_read g.D.Disk c.args.disk.now c.read.new.self (g.met.D.Disk.only_now c.args.disk.now) c.read.ensures.time

pub returns-clause-counted : goal.returns-clause-counted
returns-clause-counted g c = λ honest s there batches index are is.
    let bytes_are : c.from_vec.result ≡ payload_at s.bytes c.args.span = grind (arith, common_steps, (c.in_ok-read.ensures.bytes honest s there).count, (c.in_ok-read.ensures.bytes honest s there).bytes_are) in
    payload_there s.bytes batches index c.args.span are is ∙ ap Some (sym bytes_are)
