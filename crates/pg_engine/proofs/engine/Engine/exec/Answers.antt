use Rattle.std.proofs.Common.{◌≡◌, ◌∙◌, ◌+◌, ◌^◌, length, Some, Result, Err, inl, inr, refl, sym, ap, subst, arith}
use Rattle.std.specs.Prelude.{IsErrOf}
use Rattle.std.proofs.lemmas.Bool.{cases_lt}
use Rattle.std.proofs.lemmas.Result.{err_from_is_err_and}
use Rattle.pg_disk.specs.declared.fault.Fault.{Fault}
use Rattle.pg_disk.specs.declared.fault.Fault.TheVariants.{Spent}
use Rattle.pg_journal.specs.Stands.{counted}
use Rattle.pg_model.specs.Steps.{asked}
use Rattle.pg_engine.specs.declared.state.Outcome.TheVariants.{Changed}
use Rattle.pg_engine.specs.Outcomes.{IsNoOutcome, IsOutcome}
use Rattle.pg_engine.proofs.Executing.{append_failed, appended, changed_steps, changed_within, changed_writes, full_meets, kept_steps, kept_within, kept_writes, recorded_by, spent_meets, unchanged}
use Rattle.pg_engine.proofs.engine.Engine.exec.Goals as goal

pub returns-in-Unchanged-clause-executes : goal.returns-in-Unchanged-clause-executes
returns-in-Unchanged-clause-executes g c honest =
    inr (unchanged g.D.Disk c.args.disk.now (g.met.D.Disk.only_now c.args.disk.now) c.args.self (c.requires.own honest) honest c.args.command c.in_ok-state.field-0 c.in-Unchanged.state c.in-Unchanged.reply c.in-Unchanged.is c.in_ok-state.ensures.outcome)

pub returns-in_err-journal-in-Changed-clause-executes : goal.returns-in_err-journal-in-Changed-clause-executes
returns-in_err-journal-in-Changed-clause-executes g c honest =
    let what : IsOutcome c.args.self.state (asked (Some c.args.command)) (Changed c.in-Changed.state c.in-Changed.batch c.in-Changed.reply) = subst (λ o. IsOutcome c.args.self.state (asked (Some c.args.command)) o) c.in-Changed.is c.in_ok-state.ensures.outcome in
    let done = recorded_by c.args.self.state c.in-Changed.state (asked (Some c.args.command)) c.in-Changed.batch what.1 in
    inr (append_failed g.D.Disk c.args.disk.now (g.met.D.Disk.only_now c.args.disk.now) c.args.self (c.requires.own honest) c.args.command c.in-Changed.batch c.in-Changed.state done.action done.records
    honest c.in-Changed.reply what.0 c.append.new.disk _ c.from_residual-in_err-journal-in-Changed.ensures.0 c.append.ensures.any_moment c.append.ensures.other_files)

pub returns-in_ok-journal-in-Changed-clause-executes : goal.returns-in_ok-journal-in-Changed-clause-executes
returns-in_ok-journal-in-Changed-clause-executes g c honest =
    let what : IsOutcome c.args.self.state (asked (Some c.args.command)) (Changed c.in-Changed.state c.in-Changed.batch c.in-Changed.reply) = subst (λ o. IsOutcome c.args.self.state (asked (Some c.args.command)) o) c.in-Changed.is c.in_ok-state.ensures.outcome in
    let done = recorded_by c.args.self.state c.in-Changed.state (asked (Some c.args.command)) c.in-Changed.batch what.1 in
    inr (appended g.D.Disk c.args.disk.now (g.met.D.Disk.only_now c.args.disk.now) c.args.self (c.requires.own honest) c.args.command c.in-Changed.batch c.in-Changed.state done.action done.records
    honest c.in-Changed.reply what.0 c.append.new.disk c.in_ok-journal-in-Changed.journal c.in_ok-journal-in-Changed.ensures.file c.append.ensures.any_moment c.append.ensures.other_files c.in_ok-journal-in-Changed.ensures.stands)

pub returns-in-Unchanged-clause-steps : goal.returns-in-Unchanged-clause-steps
returns-in-Unchanged-clause-steps g c = kept_steps c.args.self.state c.in-Unchanged.state c.args.command c.in-Unchanged.reply c.in_ok-state.field-0 c.in-Unchanged.is c.in_ok-state.ensures.outcome

pub returns-in_ok-journal-in-Changed-clause-steps : goal.returns-in_ok-journal-in-Changed-clause-steps
returns-in_ok-journal-in-Changed-clause-steps g c =
    changed_steps c.args.self.state c.in-Changed.state c.args.command c.in-Changed.batch c.in-Changed.reply c.in_ok-state.field-0 c.in-Changed.is c.in_ok-state.ensures.outcome

pub returns-in-Unchanged-clause-writes : goal.returns-in-Unchanged-clause-writes
returns-in-Unchanged-clause-writes g c =
    kept_writes c.args.self (g.D.Disk.tells c.args.disk.now) c.in-Unchanged.state c.args.command c.in-Unchanged.reply c.in_ok-state.field-0 c.in-Unchanged.is c.in_ok-state.ensures.outcome

pub returns-in_ok-journal-in-Changed-clause-writes : goal.returns-in_ok-journal-in-Changed-clause-writes
returns-in_ok-journal-in-Changed-clause-writes g c =
    changed_writes c.args.self c.in_ok-journal-in-Changed.journal (g.D.Disk.tells c.args.disk.now) (g.D.Disk.tells c.append.new.disk) c.in-Changed.state c.args.command c.in-Changed.batch c.in-Changed.reply
    c.in_ok-state.field-0 c.in-Changed.is c.in_ok-state.ensures.outcome c.append.ensures.other_files c.in_ok-journal-in-Changed.ensures.stands

pub returns-in-Unchanged-clause-limit_met : goal.returns-in-Unchanged-clause-limit_met
returns-in-Unchanged-clause-limit_met g c meets =
    absurd (kept_within c.args.self c.in-Unchanged.state c.args.command c.in-Unchanged.reply c.in_ok-state.field-0 c.in-Unchanged.is c.in_ok-state.ensures.outcome meets)

pub returns-in_ok-journal-in-Changed-clause-limit_met : goal.returns-in_ok-journal-in-Changed-clause-limit_met
returns-in_ok-journal-in-Changed-clause-limit_met g c meets =
    absurd (changed_within c.args.self c.in-Changed.state c.args.command c.in-Changed.batch c.in-Changed.reply c.in_ok-state.field-0 c.in-Changed.is c.in_ok-state.ensures.outcome
    (λ full. let spent = c.in_ok-journal-in-Changed.ensures.spent.1 full in cc) meets)

-- an error that is passed on is the one that came
same_error : {T : Type 0} (e f : Fault) → ◌≡◌ {A = Result T Fault} (Err e) (Err f) → e ≡ f
same_error e f is = cc

came : {T : Type 0} (r : Result T Fault) (e f : Fault) → r ≡ Err e → e ≡ f → IsErrOf r Spent → f ≡ Spent
came {T = T} r e f is same spent = sym same ∙ same_error {T = T} e Spent (sym is ∙ spent)

passed : {T : Type 0} (r : Result T Fault) (e f : Fault) → r ≡ Err e → e ≡ f → f ≡ Spent → IsErrOf r Spent
passed {T = T} r e f is same spent = is ∙ ap (λ (x : Fault). Err x) (same ∙ spent)

pub returns-in_err-state-clause-limit : goal.returns-in_err-state-clause-limit
returns-in_err-state-clause-limit g c spent =
    let is = err_from_is_err_and c.from_residual.result c.from_residual.ensures.1 in
    let fault = came c.from_residual.result is.0 c.in_err-state.field-0.0 is.1 is.2 spent in
    spent_meets c.args.self (asked (Some c.args.command)) c.args.command refl (subst (IsNoOutcome c.args.self.state (asked (Some c.args.command))) fault c.in_err-state.ensures.none)

pub returns-in_err-journal-in-Changed-clause-limit : goal.returns-in_err-journal-in-Changed-clause-limit
returns-in_err-journal-in-Changed-clause-limit g c spent =
    let is = err_from_is_err_and c.from_residual-in_err-journal-in-Changed.result c.from_residual-in_err-journal-in-Changed.ensures.1 in
    let fault = came c.from_residual-in_err-journal-in-Changed.result is.0 c.in_err-journal-in-Changed.field-0.0 is.1 is.2 spent in
    full_meets c.args.self c.in-Changed.state c.args.command c.in-Changed.batch c.in-Changed.reply c.in_ok-state.field-0 c.in-Changed.is c.in_ok-state.ensures.outcome
    (c.append.ensures.spent.0 (passed c.append.result c.in_err-journal-in-Changed.field-0.0 c.in_err-journal-in-Changed.field-0.0 c.in_err-journal-in-Changed.was refl fault))

pub returns-in_err-journal-in-Changed-clause-limit_met : goal.returns-in_err-journal-in-Changed-clause-limit_met
returns-in_err-journal-in-Changed-clause-limit_met g c meets =
    let is = err_from_is_err_and c.from_residual-in_err-journal-in-Changed.result c.from_residual-in_err-journal-in-Changed.ensures.1 in
    let length_then = counted c.args.self.journal + length c.in-Changed.batch + 9 in
    elim (cases_lt (2 ^ 62) length_then) [
      | inl full ↦
          let fault = came c.append.result c.in_err-journal-in-Changed.field-0.0 c.in_err-journal-in-Changed.field-0.0 c.in_err-journal-in-Changed.was refl (c.append.ensures.spent.1 full) in
          inl (passed c.from_residual-in_err-journal-in-Changed.result is.0 c.in_err-journal-in-Changed.field-0.0 is.1 is.2 fault)
      | inr room ↦
          absurd (changed_within c.args.self c.in-Changed.state c.args.command c.in-Changed.batch c.in-Changed.reply c.in_ok-state.field-0 c.in-Changed.is c.in_ok-state.ensures.outcome (λ full. omega (arith, room, full)) meets)
    ]
