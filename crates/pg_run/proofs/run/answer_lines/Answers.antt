use Rattle.std.proofs.Common.{ℕ, List, [], ◌∷◌, Bool, Some, Err, refl, ap, subst, ◌∙◌}
use Rattle.pg_disk.specs.declared.fault.Fault.TheVariants.{Memory}
use Rattle.pg_disk.specs.declared.fault.SiteFault.TheVariants.{Disk}
use Rattle.pg_msg.specs.declared.command.Command.{Command}
use Rattle.pg_lines.specs.Reading.{TookLine}
use Rattle.pg_text.specs.Spelling.{ReadsAs}
use Rattle.pg_engine.specs.Executed.{MeetsLimit, state_of}
use Rattle.pg_run.specs.declared.run.Stop.TheVariants.{Site, Source}
use Rattle.pg_run.specs.Answered.{IsPartOf}
use Rattle.pg_run.specs.Ran.{Ran}
use Rattle.pg_run.specs.Served.{LeavesBetween, Serves, ServesAll}
use Rattle.pg_run.proofs.Ending.{so_far_first, one_more, no_reader, stopped_reading, broken_line, broken_last, owns_now, ended_empty, ended_served, status_err, some_line, no_line}
use Rattle.pg_run.proofs.run.answer_lines.Goals as goal

pub returns-in_err-reader-clause-ran : goal.returns-in_err-reader-clause-ran
returns-in_err-reader-clause-ran g c = subst
    (λ (n : ℕ). Ran g.S.Disk (state_of c.args.engine) (record { old = g.R.Source.rest c.args.source.now; new = g.R.Source.rest c.args.source.now; limit = c.args.limit }) c.args.site.now c.args.site.now n)
    (status_err c.from_residual.result (Site (Disk Memory)) c.from_residual.ensures.0 c.from_residual.ensures.1)
    (no_reader g.S.Disk (state_of c.args.engine) c.args.limit c.args.site.now (g.R.Source.rest c.args.source.now) (g.met.S.Disk.only_now c.args.site.now) c.args.engine
    (λ honest. record { kept = honest; stands = refl; owns = c.requires honest }))

pub lines-init : goal.lines-init
lines-init g c = record {
  so_far = so_far_first g.S.Disk (state_of c.args.engine) c.args.limit c.args.site.now (g.R.Source.rest c.args.source.now) (g.met.S.Disk.only_now c.args.site.now) c.in_ok-reader.reader c.args.engine
      c.in_ok-reader.ensures.pending c.in_ok-reader.ensures.left (λ honest. record { kept = honest; stands = refl; owns = c.requires honest });
  site_faults = refl;
  source_faults = refl;
}

pub returns-in_err-next_line-clause-ran : goal.returns-in_err-next_line-clause-ran
returns-in_err-next_line-clause-ran g c = subst
    (λ (n : ℕ). Ran g.S.Disk (state_of c.args.engine) (record { old = g.R.Source.rest c.args.source.now; new = g.R.Source.rest c.next_line.new.source; limit = c.args.limit }) c.args.site.now c.lines.site n)
    (status_err c.from_residual-in_err-next_line.result (Source c.in_err-next_line.field-0.0) c.from_residual-in_err-next_line.ensures.0 c.from_residual-in_err-next_line.ensures.1)
    (stopped_reading g.S.Disk (state_of c.args.engine) c.args.limit c.args.site.now (g.R.Source.rest c.args.source.now) c.lines.site (g.R.Source.rest c.lines.source) c.lines.reader c.lines.engine
    c.lines.invariant.so_far (g.R.Source.rest c.next_line.new.source) c.in_err-next_line.field-0.0 c.in_err-next_line.ensures.stopped)

pub answer-requires : goal.answer-requires
answer-requires g c honest = owns_now g.S.Disk (state_of c.args.engine) c.args.limit c.args.site.now (g.R.Source.rest c.args.source.now) c.lines.site (g.R.Source.rest c.lines.source) c.lines.reader c.lines.engine c.lines.invariant.so_far honest

pub returns-in_err-engine-clause-ran : goal.returns-in_err-engine-clause-ran
returns-in_err-engine-clause-ran g c = subst (λ (n : ℕ). Ran g.S.Disk (state_of c.args.engine) (record { old = g.R.Source.rest c.args.source.now; new = g.R.Source.rest c.next_line.new.source; limit = c.args.limit }) c.args.site.now c.answer.new.site n)
    (status_err c.from_residual-in_err-engine.result (Site c.in_err-engine.field-0.0) c.from_residual-in_err-engine.ensures.0 c.from_residual-in_err-engine.ensures.1)
    (broken_line g.S.Disk (state_of c.args.engine) c.args.limit c.args.site.now (g.R.Source.rest c.args.source.now) c.lines.site (g.R.Source.rest c.lines.source) c.lines.reader c.lines.engine c.lines.invariant.so_far
    c.next_line.new.self (g.R.Source.rest c.next_line.new.source) c.next_line.new.line.items (subst (λ (b : Bool). TookLine c.lines.reader c.next_line.new.self (g.R.Source.rest c.lines.source) (g.R.Source.rest c.next_line.new.source) c.next_line.new.line.items b) c.if-branch.true c.in_ok-next_line.ensures.line) c.in_err-engine.field-0.0 c.answer.new.site
    (λ honest. subst (λ (l : List ℕ). (given : Serves LeavesBetween g.S.Disk (state_of c.lines.engine) (l ∷ []) c.lines.site c.answer.new.site) × IsPartOf c.in_err-engine.field-0.0 given.told.part) c.as_slice.ensures.value (c.in_err-engine.ensures.answers honest)) (λ is. c.in_err-engine.ensures.untouched (ap Err is)) (λ is. subst (λ (l : List ℕ). (command : Command) × ReadsAs l (Some command) × MeetsLimit c.lines.engine command) c.as_slice.ensures.value (c.in_err-engine.ensures.limit (ap Err is))))

pub lines-preserved : goal.lines-preserved
lines-preserved g c = record {
  so_far = one_more g.S.Disk (state_of c.args.engine) c.args.limit c.args.site.now (g.R.Source.rest c.args.source.now) c.lines.site (g.R.Source.rest c.lines.source) c.lines.reader c.lines.engine c.lines.invariant.so_far
      c.next_line.new.self (g.R.Source.rest c.next_line.new.source) c.next_line.new.line.items (subst (λ (b : Bool). TookLine c.lines.reader c.next_line.new.self (g.R.Source.rest c.lines.source) (g.R.Source.rest c.next_line.new.source) c.next_line.new.line.items b) c.if-branch.true c.in_ok-next_line.ensures.line) c.answer.new.site c.in_ok-engine.engine c.in_ok-engine.ensures.back
      (λ honest. subst (λ (l : List ℕ). ServesAll g.S.Disk (state_of c.lines.engine) (l ∷ []) c.lines.site c.answer.new.site c.in_ok-engine.engine) c.as_slice.ensures.value (c.in_ok-engine.ensures.answers honest));
  site_faults = c.in_ok-engine.ensures.cause ∙ c.lines.invariant.site_faults;
  source_faults = c.in_ok-next_line.ensures.cause ∙ c.lines.invariant.source_faults;
}

pub answer-requires-then-not-is_empty : goal.answer-requires-then-not-is_empty
answer-requires-then-not-is_empty g c honest = owns_now g.S.Disk (state_of c.args.engine) c.args.limit c.args.site.now (g.R.Source.rest c.args.source.now) c.lines.site (g.R.Source.rest c.lines.source) c.lines.reader c.lines.engine c.lines.invariant.so_far honest

pub returns-in_err-answer-clause-ran : goal.returns-in_err-answer-clause-ran
returns-in_err-answer-clause-ran g c = subst (λ (n : ℕ). Ran g.S.Disk (state_of c.args.engine) (record { old = g.R.Source.rest c.args.source.now; new = g.R.Source.rest c.next_line.new.source; limit = c.args.limit }) c.args.site.now c.answer-then-not-is_empty.new.site n)
    (status_err c.from_residual-in_err-answer.result (Site c.in_err-answer.field-0.0) c.from_residual-in_err-answer.ensures.0 c.from_residual-in_err-answer.ensures.1)
    (broken_last g.S.Disk (state_of c.args.engine) c.args.limit c.args.site.now (g.R.Source.rest c.args.source.now) c.lines.site (g.R.Source.rest c.lines.source) c.lines.reader c.lines.engine c.lines.invariant.so_far
    c.next_line.new.self (g.R.Source.rest c.next_line.new.source) c.next_line.new.line.items (subst (λ (b : Bool). TookLine c.lines.reader c.next_line.new.self (g.R.Source.rest c.lines.source) (g.R.Source.rest c.next_line.new.source) c.next_line.new.line.items b) c.if-branch.false c.in_ok-next_line.ensures.line) (some_line c.next_line.new.line.items _ _ c.next_line.new.line.ok.0 c.is_empty.ensures c.if-not-is_empty.true) c.in_err-answer.field-0.0 c.answer-then-not-is_empty.new.site
    (λ honest. subst (λ (l : List ℕ). (given : Serves LeavesBetween g.S.Disk (state_of c.lines.engine) (l ∷ []) c.lines.site c.answer-then-not-is_empty.new.site) × IsPartOf c.in_err-answer.field-0.0 given.told.part) c.as_slice-then-not-is_empty.ensures.value (c.in_err-answer.ensures.answers honest)) (λ is. c.in_err-answer.ensures.untouched (ap Err is)) (λ is. subst (λ (l : List ℕ). (command : Command) × ReadsAs l (Some command) × MeetsLimit c.lines.engine command) c.as_slice-then-not-is_empty.ensures.value (c.in_err-answer.ensures.limit (ap Err is))))

pub returns-in_ok-answer-clause-ran : goal.returns-in_ok-answer-clause-ran
returns-in_ok-answer-clause-ran g c = ended_served g.S.Disk (state_of c.args.engine) c.args.limit c.args.site.now (g.R.Source.rest c.args.source.now) c.lines.site (g.R.Source.rest c.lines.source) c.lines.reader c.lines.engine c.lines.invariant.so_far
    c.next_line.new.self (g.R.Source.rest c.next_line.new.source) c.next_line.new.line.items (subst (λ (b : Bool). TookLine c.lines.reader c.next_line.new.self (g.R.Source.rest c.lines.source) (g.R.Source.rest c.next_line.new.source) c.next_line.new.line.items b) c.if-branch.false c.in_ok-next_line.ensures.line) (some_line c.next_line.new.line.items _ _ c.next_line.new.line.ok.0 c.is_empty.ensures c.if-not-is_empty.true) c.answer-then-not-is_empty.new.site c.in_ok-answer.field-0
    (λ honest. subst (λ (l : List ℕ). ServesAll g.S.Disk (state_of c.lines.engine) (l ∷ []) c.lines.site c.answer-then-not-is_empty.new.site c.in_ok-answer.field-0) c.as_slice-then-not-is_empty.ensures.value (c.in_ok-answer.ensures.answers honest))

pub returns-else-not-is_empty-clause-ran : goal.returns-else-not-is_empty-clause-ran
returns-else-not-is_empty-clause-ran g c = ended_empty g.S.Disk (state_of c.args.engine) c.args.limit c.args.site.now (g.R.Source.rest c.args.source.now) c.lines.site (g.R.Source.rest c.lines.source) c.lines.reader c.lines.engine c.lines.invariant.so_far
    c.next_line.new.self (g.R.Source.rest c.next_line.new.source) c.next_line.new.line.items (subst (λ (b : Bool). TookLine c.lines.reader c.next_line.new.self (g.R.Source.rest c.lines.source) (g.R.Source.rest c.next_line.new.source) c.next_line.new.line.items b) c.if-branch.false c.in_ok-next_line.ensures.line) (no_line c.next_line.new.line.items _ _ c.next_line.new.line.ok.0 c.is_empty.ensures c.if-not-is_empty.false)

pub returns-in_ok-answer-clause-back : goal.returns-in_ok-answer-clause-back
returns-in_ok-answer-clause-back g c honest = c.lines.invariant.so_far.back (c.answer-then-not-is_empty.ensures.back honest)
