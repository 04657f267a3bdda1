use Rattle.std.proofs.Common.{◌∙◌, ◌+◌, length, ap, arith}
use Rattle.std.proofs.lemmas.List.{length-take}
use Rattle.std.proofs.lemmas.Result.{err_from_is_err_and}
use Rattle.pg_lines.specs.Lines.{longest_line}
use Rattle.pg_lines.proofs.ReadSoFar.{took_line, took_all, took_last, refilled, goes_on, no_more}
use Rattle.pg_lines.proofs.reader.LineReader.next_line.Goals as goal

pub take_pending-requires : goal.take_pending-requires
take_pending-requires g c =
    let so_far = c.loop-self.invariant.so_far in
    let kept = ap length so_far.kept in
    omega (arith, kept, length-take (longest_line + 1) so_far.part)

pub returns-then-branch-clause-line : goal.returns-then-branch-clause-line
returns-then-branch-clause-line g c = took_line _ _ _ _ _ _ _ _ c.if-branch.true c.loop-self.invariant.so_far c.in_ok-take_pending.ensures

pub returns-then-branch-clause-goes_on : goal.returns-then-branch-clause-goes_on
returns-then-branch-clause-goes_on g c = λ _. goes_on _ _ _ _ _ (took_line c.args.self.now c.loop-self.self c.take_pending.new.self _ _ _ _ _ c.if-branch.true c.loop-self.invariant.so_far c.in_ok-take_pending.ensures)

pub returns-in_err-refill-clause-stopped : goal.returns-in_err-refill-clause-stopped
returns-in_err-refill-clause-stopped g c =
    let so_far = took_all c.args.self.now c.loop-self.self c.take_pending.new.self _ _ _ _ _ c.if-branch.false c.loop-self.invariant.so_far c.in_ok-take_pending.ensures in
    let stopped = no_more c.args.self.now _ _ _ _ _ _ so_far c.in_err-refill.ensures.err in
    let is = err_from_is_err_and c.from_residual-in_err-refill.result c.from_residual-in_err-refill.ensures.1 in
    rw (is.1, is.2) stopped

pub returns-then-branch-eq0-clause-line : goal.returns-then-branch-eq0-clause-line
returns-then-branch-eq0-clause-line g c =
    let so_far = took_all c.args.self.now c.loop-self.self c.take_pending.new.self _ _ _ _ _ c.if-branch.false c.loop-self.invariant.so_far c.in_ok-take_pending.ensures in
    took_last c.args.self.now c.take_pending.new.self c.refill.new.self _ _ _ _ _ c.if-branch-eq0.true so_far c.in_ok-refill.ensures.ok

pub loop-self-preserved : goal.loop-self-preserved
loop-self-preserved g c =
    let so_far = took_all c.args.self.now c.loop-self.self c.take_pending.new.self _ _ _ _ _ c.if-branch.false c.loop-self.invariant.so_far c.in_ok-take_pending.ensures in
    record {
      so_far = refilled c.args.self.now c.take_pending.new.self c.refill.new.self _ _ _ _ _ so_far c.in_ok-refill.ensures.ok;
      faults = c.in_ok-refill.ensures.cause ∙ c.loop-self.invariant.faults;
    }
