use Rattle.std.proofs.Common.{rules, arith, ◌∙◌, ◌+◌, ◌≡◌, ◌<◌, List, [], ◌∷◌, ◌++◌, length, Option, IfSome, sym, subst, length-append}
use Rattle.std.proofs.lemmas.Result.{err_from_is_err_and}
use Rattle.pg_gate.specs.Spans.{AsRead, IsCut, IsWholeAt, IsNext, IsSoFar, Occupy}
use Rattle.pg_gate.specs.declared.spans.Span.{Span}
use Rattle.pg_gate.proofs.Reading.{reads_then, run_reads, cut_weaker, failed_or_damaged}
use Rattle.pg_disk.specs.Account.{account}
use Rattle.pg_disk.specs.Counts.{FaultCountsAs}
use Rattle.pg_gate.proofs.Taking.{ReadsSpans, occupy_more, spans_more, gates_read, gates_within}
use Rattle.pg_gate.proofs.Walking.{cut_now, more_now}
use Rattle.pg_gate.proofs.spans.walk.Goals as goal

pub returns-in_err-span-clause-same : goal.returns-in_err-span-clause-same
returns-in_err-span-clause-same g c = (
  c.gates.invariant.count + c.next_span.ensures.same.0,
  reads_then (g.D.Disk.tells c.args.disk.now) (g.D.Disk.tells c.gates.disk) (g.D.Disk.tells c.next_span.new.disk) c.gates.invariant.count c.next_span.ensures.same.0 c.gates.invariant.same c.next_span.ensures.same.1,
)

pub returns-in_err-span-clause-damaged : goal.returns-in_err-span-clause-damaged
returns-in_err-span-clause-damaged g c =
    let is = err_from_is_err_and c.from_residual.result c.from_residual.ensures.1 in
    rw (is.1, is.2) (cut_weaker c.args.file _ (λ at. AsRead c.args.file (g.D.Disk.tells c.args.disk.now) (λ bytes. c.args.end ≡ length bytes → IsCut bytes at)) c.in_err-span.field-0.0
    (cut_now c.args.file (g.D.Disk.tells c.args.disk.now) (g.D.Disk.tells c.gates.disk) c.gates.invariant.count c.gates.gate c.args.end c.gates.spans.items c.gates.invariant.same c.gates.invariant.so_far (omega arith) (omega arith)) c.in_err-span.ensures.damaged)

pub returns-in_err-map_err-clause-same : goal.returns-in_err-map_err-clause-same
returns-in_err-map_err-clause-same g c = (
  c.gates.invariant.count + c.next_span.ensures.same.0,
  reads_then (g.D.Disk.tells c.args.disk.now) (g.D.Disk.tells c.gates.disk) (g.D.Disk.tells c.next_span.new.disk) c.gates.invariant.count c.next_span.ensures.same.0 c.gates.invariant.same c.next_span.ensures.same.1,
)

pub gates-preserved : goal.gates-preserved
gates-preserved g c =
    let in_file : (c.in-Some.span.at ≡ c.gates.gate + 9) × (c.in-Some.span.at + c.in-Some.span.length < c.args.end) =
    subst (λ (o : Option Span). IfSome o (λ span. (span.at ≡ c.gates.gate + 9) × (span.at + span.length < c.args.end))) c.in-Some.is c.in_ok-span.ensures.in_file in
    let next : AsRead c.args.file (g.D.Disk.tells c.gates.disk) (λ bytes. c.args.end ≡ length bytes → IsWholeAt bytes c.gates.gate c.in-Some.span.length) =
    λ honest s there end_is. subst (λ (o : Option Span). IsNext s.bytes c.gates.gate o) c.in-Some.is (c.in_ok-span.ensures.next honest s there end_is) in
    let pushed : c.push.new.self.items ≡ c.gates.spans.items ++ c.in-Some.span ∷ [] = search rules in
    record {
      within = in_file.1;
      count = c.gates.invariant.count + c.next_span.ensures.same.0;
      same = reads_then (g.D.Disk.tells c.args.disk.now) (g.D.Disk.tells c.gates.disk) (g.D.Disk.tells c.next_span.new.disk) c.gates.invariant.count c.next_span.ensures.same.0 c.gates.invariant.same c.next_span.ensures.same.1;
      run = run_reads g.D.Disk c.args.disk.now c.gates.disk c.next_span.new.disk c.gates.invariant.count c.gates.invariant.same c.gates.invariant.run c.next_span.ensures.any_moment;
      faults = c.in_ok-span.ensures.cause ∙ c.gates.invariant.faults;
      turns = subst (λ (l : List Span). c.gates.counter + 1 ≡ length l) (sym pushed) (omega (arith, c.gates.invariant.turns, length-append c.gates.spans.items (c.in-Some.span ∷ [])));
      place = subst (λ (l : List Span). Occupy l (c.in-Some.span.at + c.in-Some.span.length + 1)) (sym pushed) (occupy_more c.gates.spans.items c.in-Some.span c.gates.gate c.gates.invariant.place in_file.0);
      taken = subst (λ (l : List Span). AsRead c.args.file (g.D.Disk.tells c.args.disk.now) (λ _. ReadsSpans l (account (g.D.Disk.tells c.args.disk.now)) (account (g.D.Disk.tells c.next_span.new.disk)))) (sym pushed)
          (spans_more c.args.file (g.D.Disk.tells c.args.disk.now) (g.D.Disk.tells c.gates.disk) (g.D.Disk.tells c.next_span.new.disk) c.gates.invariant.count c.gates.gate c.gates.spans.items c.in-Some.span c.gates.invariant.same c.gates.invariant.taken c.next_span.ensures.taken);
      so_far = λ honest s there end_is. subst (λ (l : List Span). IsSoFar s.bytes (c.in-Some.span.at + c.in-Some.span.length) l) (sym pushed)
          (more_now c.args.file (g.D.Disk.tells c.args.disk.now) (g.D.Disk.tells c.gates.disk) c.gates.invariant.count c.gates.gate c.args.end c.gates.spans.items c.gates.invariant.same c.gates.invariant.so_far c.in-Some.span in_file.0 next honest s there end_is);
    }

pub returns-in_default-clause-same : goal.returns-in_default-clause-same
returns-in_default-clause-same g c = (
  c.gates.invariant.count + c.next_span.ensures.same.0,
  reads_then (g.D.Disk.tells c.args.disk.now) (g.D.Disk.tells c.gates.disk) (g.D.Disk.tells c.next_span.new.disk) c.gates.invariant.count c.next_span.ensures.same.0 c.gates.invariant.same c.next_span.ensures.same.1,
)

pub returns-in_err-span-clause-taken_err : goal.returns-in_err-span-clause-taken_err
returns-in_err-span-clause-taken_err g c = gates_within c.from_residual.result c.args.file (g.D.Disk.tells c.args.disk.now) (g.D.Disk.tells c.next_span.new.disk) c.args.end c.gates.spans.items
    (gates_read c.args.file (g.D.Disk.tells c.args.disk.now) (g.D.Disk.tells c.gates.disk) (g.D.Disk.tells c.next_span.new.disk) c.gates.invariant.count c.gates.gate c.args.end c.gates.spans.items c.gates.invariant.same c.gates.invariant.place c.gates.invariant.within c.gates.invariant.taken c.next_span.ensures.taken)

pub returns-in_err-map_err-clause-taken_err : goal.returns-in_err-map_err-clause-taken_err
returns-in_err-map_err-clause-taken_err g c = gates_within c.from_residual-in_err-map_err.result c.args.file (g.D.Disk.tells c.args.disk.now) (g.D.Disk.tells c.next_span.new.disk) c.args.end c.gates.spans.items
    (gates_read c.args.file (g.D.Disk.tells c.args.disk.now) (g.D.Disk.tells c.gates.disk) (g.D.Disk.tells c.next_span.new.disk) c.gates.invariant.count c.gates.gate c.args.end c.gates.spans.items c.gates.invariant.same c.gates.invariant.place c.gates.invariant.within c.gates.invariant.taken c.next_span.ensures.taken)

pub returns-in_default-clause-taken : goal.returns-in_default-clause-taken
returns-in_default-clause-taken g c = gates_read c.args.file (g.D.Disk.tells c.args.disk.now) (g.D.Disk.tells c.gates.disk) (g.D.Disk.tells c.next_span.new.disk) c.gates.invariant.count c.gates.gate c.args.end c.gates.spans.items c.gates.invariant.same c.gates.invariant.place c.gates.invariant.within c.gates.invariant.taken c.next_span.ensures.taken

pub returns-in_err-span-clause-any_moment : goal.returns-in_err-span-clause-any_moment
returns-in_err-span-clause-any_moment g c = run_reads g.D.Disk c.args.disk.now c.gates.disk c.next_span.new.disk c.gates.invariant.count c.gates.invariant.same c.gates.invariant.run c.next_span.ensures.any_moment

pub returns-in_err-span-clause-only : goal.returns-in_err-span-clause-only
returns-in_err-span-clause-only g c =
    let is = err_from_is_err_and c.from_residual.result c.from_residual.ensures.1 in
    rw (is.1, is.2) (failed_or_damaged c.in_err-span.field-0.0 c.in_err-span.ensures.only)

pub returns-in_err-span-clause-cause : goal.returns-in_err-span-clause-cause
returns-in_err-span-clause-cause g c =
    let is = err_from_is_err_and c.from_residual.result c.from_residual.ensures.1 in
    rw (is.1, is.2) (subst (λ f. FaultCountsAs c.in_err-span.field-0.0 f (g.D.Disk.faults c.next_span.new.disk)) c.gates.invariant.faults c.in_err-span.ensures.cause)

pub returns-in_err-map_err-clause-any_moment : goal.returns-in_err-map_err-clause-any_moment
returns-in_err-map_err-clause-any_moment g c = run_reads g.D.Disk c.args.disk.now c.gates.disk c.next_span.new.disk c.gates.invariant.count c.gates.invariant.same c.gates.invariant.run c.next_span.ensures.any_moment

pub returns-in_default-clause-any_moment : goal.returns-in_default-clause-any_moment
returns-in_default-clause-any_moment g c = run_reads g.D.Disk c.args.disk.now c.gates.disk c.next_span.new.disk c.gates.invariant.count c.gates.invariant.same c.gates.invariant.run c.next_span.ensures.any_moment
